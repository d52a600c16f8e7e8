-- The sixteen conditions of Bcond and SETF (document 000, "Conditional Branch"), as the one table there.
use Rattle.std.specs.Prelude.{ℕ, ◌%◌, Bool, true, false, not, List, [], ◌∷◌, slice_index_or}
use Rattle.word.specs.Choose.{pick}
use Rattle.word.specs.Bit.{is_set}
use Rattle.processor_arithmetic.specs.Flag.{z_flag, s_flag, ov_flag, cy_flag}

abbrev pub ◌or◌ : Bool → Bool → Bool
◌or◌ a b = pick a true b

abbrev pub ◌xor◌ : Bool → Bool → Bool
◌xor◌ a b = pick a (not b) b

-- the table's column "Test", in the order of the numbers
abbrev pub conditions_of : Bool → Bool → Bool → Bool → List Bool
conditions_of cy ov s z =
    -- 0 V, OV = 1
    ov
    -- 1 C, CY = 1
    ∷ cy
    -- 2 Z, Z = 1
    ∷ z
    -- 3 NH, (CY OR Z) = 1
    ∷ ◌or◌ cy z
    -- 4 N, S = 1
    ∷ s
    -- 5 T, true
    ∷ true
    -- 6 LT, (OV XOR S) = 1
    ∷ ◌xor◌ ov s
    -- 7 LE, ((OV XOR S) OR Z) = 1
    ∷ ◌or◌ (◌xor◌ ov s) z
    -- 8 NV, OV = 0
    ∷ not ov
    -- 9 NC, CY = 0
    ∷ not cy
    -- 10 NZ, Z = 0
    ∷ not z
    -- 11 H, (CY OR Z) = 0
    ∷ not (◌or◌ cy z)
    -- 12 P, S = 0
    ∷ not s
    -- 13 F, false
    ∷ false
    -- 14 GE, (OV XOR S) = 0
    ∷ not (◌xor◌ ov s)
    -- 15 GT, ((OV XOR S) OR Z) = 0
    ∷ not (◌or◌ (◌xor◌ ov s) z)
    ∷ []

-- whether condition c holds in PSW
unfoldable pub condition_of : ℕ → ℕ → Bool
condition_of c psw =
    slice_index_or (conditions_of (is_set cy_flag psw) (is_set ov_flag psw) (is_set s_flag psw) (is_set z_flag psw)) (c % 16) false
