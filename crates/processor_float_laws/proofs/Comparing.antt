-- CMPF.S compares the values. Assumes nothing.
use Prim.Native.Nat.{ℕ, ◌^◌}
use mathlib.Core.Path.{◌≡◌, sym, ◌∙◌, ap}
use mathlib.Core.Bool.{Bool, not, ◌||◌, not-not}
use lib.Dec.{leb, eqb}
use lib.IntN.{ℤ, nat_abs, ◌-ℤ◌, ◌+ℤ◌}
use lib.Signed.{lt_z}
use lib.Ieee.{lt, eq, level}
use Rattle.word.specs.Choose.{pick}
use Rattle.word.proofs.Choices.{or-neither, pick-false}
use Rattle.processor_float.specs.Operand.{reserved_of, units_of, value_of, float_of}
use Rattle.processor_float.specs.Comparison.{comparison_of}
use Rattle.processor_float.specs.declared.Compared.{Compared}
use Rattle.processor_float.specs.declared.Compared.TheVariants.{Lower, Equal, Higher, Reserved}
use Rattle.processor_float_laws.specs.Exact.{signed_size}
use Rattle.processor_float_laws.specs.Nearest.{Finite}
use Rattle.processor_float_laws.specs.Compared.{order_of, EachCompares}
use Rattle.processor_float_laws.proofs.Reading.{reading}
use Rattle.processor_float_laws.proofs.Signs.{signed-value, opposite}
use Rattle.processor_float_laws.proofs.Values.{lt-values, eq-values, below-is, zero-sum}
use Rattle.processor_float_laws.proofs.Answering.{not-reserved}

module _ (x y : ℕ) (hx : Finite x) (hy : Finite y) where
  abbrev s : Bool
  s = leb (2 ^ 31) x

  abbrev t : Bool
  t = leb (2 ^ 31) y

  lower : lt (float_of x) (float_of y) ≡ lt_z (value_of x) (value_of y)
  lower =
      lt-values (float_of x) (float_of y) s t (units_of x) (units_of y) (reading x hx) (reading y hy)
      ∙ sym (rw (signed-value x (units_of x), signed-value y (units_of y)) (below-is s t (units_of x) (units_of y)))

  equal : eq (float_of x) (float_of y) ≡ eqb (nat_abs (value_of x -ℤ value_of y)) 0
  equal =
      eq-values (float_of x) (float_of y) s t (units_of x) (units_of y) (reading x hx) (reading y hy)
      ∙ ap (λ (b : Bool). level s (units_of x) b (units_of y)) (sym (not-not t))
      ∙ sym (rw (signed-value x (units_of x), signed-value y (units_of y), opposite t (units_of y)) (zero-sum s (not t) (units_of x) (units_of y)))

  ordered : pick (lt (float_of x) (float_of y)) Lower (pick (eq (float_of x) (float_of y)) Equal Higher) ≡ order_of x y
  ordered =
      ap (λ (b : Bool). pick b Lower (pick (eq (float_of x) (float_of y)) Equal Higher)) lower
      ∙ ap (λ (b : Bool). pick (lt_z (value_of x) (value_of y)) Lower (pick b Equal Higher)) equal

pub each-compares : EachCompares
unfolding comparison_of
each-compares x y h =
    let both = or-neither (reserved_of x) (reserved_of y) h in
    sym (pick-false (reserved_of x || reserved_of y) Reserved (pick (lt (float_of x) (float_of y)) Lower (pick (eq (float_of x) (float_of y)) Equal Higher)) h)
    ∙ ordered x y (not-reserved x both.0) (not-reserved y both.1)
