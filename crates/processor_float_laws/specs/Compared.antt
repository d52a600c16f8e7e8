-- CMPF.S over the operands' values (request W4): reg2 is lower just where its value is, and equal just where the
-- values' difference is 0, so that -0 equals +0. The proof is `each-compares` in proofs/Comparing.
use Rattle.std.specs.Prelude.{ℕ, ◌≡◌, false, ◌||◌, eqb, nat_abs, ◌-ℤ◌}
use Rattle.std.specs.Int.Signed.{lt_z}
use Rattle.word.specs.Choose.{pick}
use Rattle.processor_float.specs.Operand.{reserved_of, value_of}
use Rattle.processor_float.specs.Comparison.{comparison_of}
use Rattle.processor_float.specs.declared.Compared.{Compared}
use Rattle.processor_float.specs.declared.Compared.TheVariants.{Lower, Equal, Higher}

-- how two values compare
abbrev pub order_of : ℕ → ℕ → Compared
order_of x y = pick (lt_z (value_of x) (value_of y)) Lower (pick (eqb (nat_abs (value_of x -ℤ value_of y)) 0) Equal Higher)

abbrev pub EachCompares : Type 0
EachCompares = (x y : ℕ) → (reserved_of x || reserved_of y) ≡ false → comparison_of x y ≡ order_of x y
