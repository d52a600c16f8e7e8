-- The laws of specs/Signed, proved.
use Rattle.std.proofs.Common.{◌≡◌, ◌+◌, ◌-◌, ◌%◌, ◌^◌, ◌<◌, ltb, leb, ◌+ℤ◌, ◌-ℤ◌, sym, ◌∙◌, arith}
use Rattle.word.proofs.Integers.{is-equal}
use Rattle.processor_arithmetic.specs.Sum.{sum_of, difference_of}
use Rattle.processor_arithmetic.proofs.Bias.{biased_of, outside_of}
use Rattle.processor_arithmetic.specs.Integer.{signed, outside}
use Rattle.processor_arithmetic.proofs.Reading.{signed-biased}
use Rattle.processor_arithmetic.proofs.Places.{flags-placed}
use Rattle.processor_arithmetic.proofs.Bits.{bit-small}
use Rattle.processor_arithmetic.proofs.Overflow.{sum-outside, difference-outside}
use Rattle.processor_arithmetic.proofs.Biased.{inside, sum-biased, sum-bias, difference-biased, difference-bias}
use Rattle.processor_arithmetic.specs.Signed.{SumPlaced, SumOverflow, SumCarry, SumSigned, DifferencePlaced}
use Rattle.processor_arithmetic.specs.Signed.{DifferenceOverflow, DifferenceCarry, DifferenceSigned}

pub sum-placed : SumPlaced
unfolding sum_of
sum-placed a b psw ha hb = flags-placed psw _ _ _ (bit-small (leb (2 ^ 32) (a + b))) (bit-small (outside (signed a +ℤ signed b))) (omega arith)

pub sum-overflow : SumOverflow
sum-overflow a b psw ha hb = (sum-placed a b psw ha hb).at_ov

pub sum-carry : SumCarry
sum-carry a b psw ha hb = (sum-placed a b psw ha hb).at_cy

pub sum-signed : SumSigned
unfolding sum_of
sum-signed a b psw ha hb e =
    let t = biased_of a + biased_of b in
    let ov : outside_of (biased_of a + biased_of b) ≡ 0 = sum-outside a b ha hb ∙ sym (sum-placed a b psw ha hb).at_ov ∙ e in
    let hv : (a + b) % 2 ^ 32 < 2 ^ 32 = omega arith in
    is-equal (signed-biased ((a + b) % 2 ^ 32) hv) (sum-biased a b ha hb) (sum-bias a b ha hb (inside t ov))

pub difference-placed : DifferencePlaced
unfolding difference_of
difference-placed a b psw ha hb =
    flags-placed psw _ _ _ (bit-small (ltb a b)) (bit-small (outside (signed a -ℤ signed b))) (omega arith)

pub difference-overflow : DifferenceOverflow
difference-overflow a b psw ha hb = (difference-placed a b psw ha hb).at_ov

pub difference-carry : DifferenceCarry
difference-carry a b psw ha hb = (difference-placed a b psw ha hb).at_cy

pub difference-signed : DifferenceSigned
unfolding difference_of
difference-signed a b psw ha hb e =
    let t = biased_of a + (2 ^ 32 - biased_of b) in
    let ov : outside_of (biased_of a + (2 ^ 32 - biased_of b)) ≡ 0 = difference-outside a b ha hb ∙ sym (difference-placed a b psw ha hb).at_ov ∙ e in
    let hv : (a + (2 ^ 32 - b)) % 2 ^ 32 < 2 ^ 32 = omega arith in
    is-equal (signed-biased ((a + (2 ^ 32 - b)) % 2 ^ 32) hv) (difference-biased a b ha hb) (difference-bias a b ha hb (inside t ov))
