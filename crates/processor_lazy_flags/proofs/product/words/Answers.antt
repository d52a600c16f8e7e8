-- `processor_lazy_flags::product::words`: CY stays.
use Rattle.std.proofs.Common.{◌≡◌, ℕ, ◌+◌, ◌-◌, ◌*◌, ◌/◌, ◌%◌, ◌^◌, ◌<◌, sym, refl, ap, ◌∙◌, div-add-mod', arith, rules}
use Rattle.processor_arithmetic.specs.Product.{words_of, overflows_of}
use Rattle.processor_lazy_flags.proofs.Kept.{gives-pair}
use Rattle.processor_lazy_flags.proofs.Products.{overflow-none}
use Rattle.processor_lazy_flags.proofs.product.words.Goals as goal

pub returns-then-w-lt2147483648 : goal.returns-then-w-lt2147483648
unfolding words_of
returns-then-w-lt2147483648 c = λ psw.
    let a = c.args in
    let o : overflows_of a.w ≡ 0 = rw (div-add-mod' a.w 4294967296) at
    (overflow-none (a.w / 2 ^ 32) (a.w % 2 ^ 32) (omega arith) (omega arith)) in
    gives-pair psw a.flags _ _ _ _ (omega arith) (rw (← o) at c.cleared-flags.ensures)

pub returns : goal.returns
unfolding words_of
returns c = λ psw.
    let a = c.args in
    gives-pair psw a.flags _ _ _ _ refl
    (rw (c.carry.ensures.0, c.overflow-ov.ensures.0, div-add-mod' a.w 4294967296) at c.made-flags.ensures)
