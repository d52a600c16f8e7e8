-- Each flag at its place (document 000, "PSW"): Z is bit 0, S bit 1, OV bit 2, CY bit 3, and a result leaves every
-- other bit as it was. To set or clear a flag changes that bit alone.
use Rattle.std.specs.Prelude.{◌≡◌, ℕ, ◌^◌, ◌<◌, ◌≤◌, ◌≢◌}
use Rattle.word.specs.Bit.{bit_at, without_bit, with_bit}
use Rattle.processor_arithmetic.specs.Flag.{sign_of, zero_of, flags_of, keep_carry_of}

-- a PSW after a result v with this CY and OV
pub record Placed (psw cy ov v after : ℕ) : Type 0 where
  pub at_z : bit_at 0 after ≡ zero_of v
  pub at_s : bit_at 1 after ≡ sign_of v
  pub at_ov : bit_at 2 after ≡ ov
  pub at_cy : bit_at 3 after ≡ cy
  pub others : (k : ℕ) → 4 ≤ k → bit_at k after ≡ bit_at k psw

-- PSW after a result with a carry
abbrev pub FlagsPlaced : Type 0
FlagsPlaced =
    (psw cy ov v : ℕ) → cy < 2 → ov < 2 → v < 2 ^ 32 → Placed psw cy ov v (flags_of psw cy ov v)

-- PSW after a result that keeps CY
abbrev pub KeepCarryPlaced : Type 0
KeepCarryPlaced =
    (psw ov v : ℕ) → ov < 2 → v < 2 ^ 32 → Placed psw (bit_at 3 psw) ov v (keep_carry_of psw ov v)

-- to clear a flag makes its bit 0 and changes no other
abbrev pub ClearFlag : Type 0
ClearFlag =
    (k psw : ℕ) → bit_at k (without_bit k psw) ≡ 0

abbrev pub ClearFlagOthers : Type 0
ClearFlagOthers =
    (j k psw : ℕ) → j ≢ k → bit_at j (without_bit k psw) ≡ bit_at j psw

-- to set a flag makes its bit 1 and changes no other
abbrev pub SetFlag : Type 0
SetFlag =
    (k psw : ℕ) → bit_at k (with_bit k psw) ≡ 1

abbrev pub SetFlagOthers : Type 0
SetFlagOthers =
    (j k psw : ℕ) → j ≢ k → bit_at j (with_bit k psw) ≡ bit_at j psw
