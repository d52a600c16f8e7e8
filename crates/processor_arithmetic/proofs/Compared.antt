-- The laws of specs/Compared, proved.
use Rattle.std.proofs.Common.{◌≡◌, Bool, not, ltb, leb, sym, ap, ◌∙◌}
use mathlib.Core.Bool.{not-not}
use lib.Signed.{lt_z, le_z}
use Rattle.word.specs.Bit.{is_set}
use Rattle.processor_arithmetic.specs.Flag.{z_flag, s_flag, ov_flag, cy_flag}
use Rattle.word.proofs.Choices.{not-less, less-or-equal}
use Rattle.word.proofs.Integers.{not-lessℤ}
use Rattle.processor_arithmetic.specs.Sum.{compare_of}
use Rattle.processor_arithmetic.specs.Condition.{condition_of, ◌or◌, ◌xor◌}
use Rattle.processor_arithmetic.specs.Integer.{signed}
use Rattle.processor_arithmetic.proofs.Order.{carry-set, zero-set, less-set, less-equal-set}
use Rattle.processor_arithmetic.specs.Compared.{Compared}

pub compared : Compared
unfolding condition_of
compared a b psw ha hb =
    let p = (compare_of a b psw).psw in
    let c = carry-set a b psw ha hb in
    let z = zero-set a b psw ha hb in
    let l = less-set a b psw ha hb in
    let nh : ◌or◌ (is_set cy_flag (compare_of a b psw).psw) (is_set z_flag (compare_of a b psw).psw) ≡ leb a b =
    ap (λ (t : Bool). ◌or◌ t (is_set z_flag p)) c ∙ ap (◌or◌ (ltb a b)) z ∙ less-or-equal a b
    in
    let le : ◌or◌ (◌xor◌ (is_set ov_flag (compare_of a b psw).psw) (is_set s_flag (compare_of a b psw).psw)) (is_set z_flag
    (compare_of a b psw).psw) ≡ le_z (signed a) (signed b) =
    ap (λ (t : Bool). ◌or◌ t (is_set z_flag p)) l ∙ ap (◌or◌ (lt_z (signed a) (signed b))) z ∙ less-equal-set a b psw ha hb
    in
    record {
      lower = c;
      equal = z;
      not_higher = nh;
      less = l;
      less_equal = le;
      not_lower = ap not c ∙ not-less a b;
      not_equal = ap not z;
      higher = ap not (nh ∙ sym (not-less b a)) ∙ not-not (ltb b a);
      greater_equal = ap not l ∙ not-lessℤ (signed a) (signed b);
      greater = ap not (le ∙ sym (not-lessℤ (signed b) (signed a))) ∙ not-not (lt_z (signed b) (signed a));
    }
