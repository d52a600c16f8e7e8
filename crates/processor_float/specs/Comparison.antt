-- CMPF.S (document 000, "Floating-Point"; request W4): reg2 against reg1 as numbers, so that -0 equals +0.
-- x is reg2's word and y is reg1's.
use Rattle.std.specs.Prelude.{ℕ, ◌||◌}
use Rattle.std.specs.Float.Ieee.{lt, eq}
use Rattle.word.specs.Choose.{pick}
use Rattle.processor_float.specs.Operand.{reserved_of, float_of}
use Rattle.processor_float.specs.declared.Compared.{Compared}
use Rattle.processor_float.specs.declared.Compared.TheVariants.{Lower, Equal, Higher, Reserved}

unfoldable pub comparison_of : ℕ → ℕ → Compared
comparison_of x y =
    pick (reserved_of x || reserved_of y) Reserved
    (pick (lt (float_of x) (float_of y)) Lower (pick (eq (float_of x) (float_of y)) Equal Higher))
