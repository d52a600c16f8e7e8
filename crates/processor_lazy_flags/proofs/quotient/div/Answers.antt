-- `processor_lazy_flags::quotient::div`: by the signs.
use Rattle.std.proofs.Common.{◌≡◌, ◌+◌, ◌-◌, ◌*◌, ◌/◌, ◌%◌, ◌^◌, ◌<◌, sym, refl, ap, ◌∙◌, arith, rules}
use lib.Signed.{quot_z}
use Rattle.processor_arithmetic.specs.Flag.{bit_of}
use Rattle.processor_arithmetic.specs.Integer.{signed, outside, complement_of}
use Rattle.processor_arithmetic.specs.Quotient.{divide_of}
use Rattle.processor_arithmetic.proofs.Bits.{bit-small}
use Rattle.processor_arithmetic.proofs.Division.{complement-word}
use Rattle.processor_arithmetic.specs.declared.Pair.{Pair}
use Rattle.processor_lazy_flags.specs.inner.Packed.{packed_of}
use Rattle.processor_lazy_flags.proofs.Quotients.{divide-plain, keep-overflow}
use Rattle.processor_lazy_flags.proofs.Kept.{gives-pair}
use Rattle.processor_lazy_flags.proofs.quotient.div.Goals as goal

pub returns-then-b-lt2147483648 : goal.returns-then-b-lt2147483648
returns-then-b-lt2147483648 c =
    let a = c.args in
    λ psw. rw (← divide-plain a.a a.b (packed_of psw a.flags) (omega arith) (omega arith)) (c.divu.ensures psw)

pub returns : goal.returns
unfolding divide_of
returns c = λ psw.
    let a = c.args in
    let p = c.div-p in
    let z = quot_z (signed a.a) (signed a.b) in
    let q : p.result.reg2 ≡ complement_of (2 ^ 32) (quot_z (signed a.a) (signed a.b)) = ap (λ (x : Pair). x.reg2) p.ensures in
    let s : bit_of (outside (quot_z (signed a.a) (signed a.b))) < 2 = bit-small (outside z) in
    let o : p.result.psw / 4 % 2 ≡ bit_of (outside (quot_z (signed a.a) (signed a.b))) =
    rw p.ensures (keep-overflow _ _ _ s (complement-word z)) in
    gives-pair psw a.flags _ _ _ _ (ap (λ (x : Pair). x.r30) p.ensures)
    (rw (c.carry.ensures.0, q, o) at c.made-flags.ensures)
