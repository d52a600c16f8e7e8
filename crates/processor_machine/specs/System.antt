-- The system registers by number (document 000, "System Registers", "CPU Control"; paper 01): what STSR reads and what
-- LDSR writes. Number 24 is not modelled, so it is never asked for.
use Rattle.std.specs.Prelude.{ℕ, ◌-◌, ◌%◌, List, [], ◌∷◌, eqb, nat_abs, get_or, set}
use Rattle.std.specs.Int.Bits.{bit_and}
use Rattle.word.specs.Choose.{pick}
use Rattle.processor_arithmetic.specs.Integer.{signed}
use Rattle.processor_machine.specs.State.{eipc_place, eipsw_place, fepc_place, fepsw_place, ecr_place}
use Rattle.processor_machine.specs.State.{sr25_place, sr29_place, sr31_place}

-- the bits of a PSW format, and what it keeps of a word
abbrev pub psw_mask : ℕ
psw_mask = 0x000FF3FF

unfoldable pub psw_bits_of : ℕ → ℕ
psw_bits_of v = bit_and v psw_mask

-- the entry of a number in a table of numbers, else the last argument
abbrev pub row_of : {A : Type 0} → ℕ → List (ℕ × A) → A → A
row_of n [] other = other
row_of n (r ∷ rs) other = pick (eqb n r.0) r.1 (row_of n rs other)

-- STSR: what each number reads; a reserved one reads 0
unfoldable pub system_of : List ℕ → ℕ → ℕ → ℕ
system_of sys psw id =
    row_of id
    -- EIPC, EIPSW, FEPC, FEPSW, ECR, PSW
    ((0, get_or sys eipc_place 0)
    ∷ (1, get_or sys eipsw_place 0)
    ∷ (2, get_or sys fepc_place 0)
    ∷ (3, get_or sys fepsw_place 0)
    ∷ (4, get_or sys ecr_place 0)
    ∷ (5, psw)
    -- PIR, TKCW
    ∷ (6, 0x5346)
    ∷ (7, 0xE0)
    -- ADTRE, 29, 30, 31
    ∷ (25, get_or sys sr25_place 0)
    ∷ (29, get_or sys sr29_place 0)
    ∷ (30, 4)
    ∷ (31, get_or sys sr31_place 0)
    ∷ []) 0

-- the stored system registers and PSW
pub record Status : Type 0 where
  pub sys : List ℕ
  pub psw : ℕ

abbrev pub status_of : List ℕ → ℕ → Status
status_of sys psw = record { sys = sys; psw = psw }

-- LDSR: what each number writes; ECR, PIR, TKCW, 30 and the reserved ones ignore it
unfoldable pub written_of : List ℕ → ℕ → ℕ → ℕ → Status
written_of sys psw id v =
    row_of id
    -- EIPC, EIPSW, FEPC, FEPSW, PSW
    ((0, status_of (set sys eipc_place (v - v % 2)) psw)
    ∷ (1, status_of (set sys eipsw_place (psw_bits_of v)) psw)
    ∷ (2, status_of (set sys fepc_place (v - v % 2)) psw)
    ∷ (3, status_of (set sys fepsw_place (psw_bits_of v)) psw)
    ∷ (5, status_of sys (psw_bits_of v))
    -- ADTRE, 29, and 31, which keeps the absolute value
    ∷ (25, status_of (set sys sr25_place (v - v % 2)) psw)
    ∷ (29, status_of (set sys sr29_place v) psw)
    ∷ (31, status_of (set sys sr31_place (nat_abs (signed v))) psw)
    ∷ []) (status_of sys psw)
