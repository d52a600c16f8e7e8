-- XB and XH by bytes, REV bit by bit, MPYHW over the whole numbers (document 000, "Nintendo"; request W4). The proofs
-- are in proofs/Rearranging.
use Rattle.std.specs.Prelude.{ℕ, ◌-◌, ◌/◌, ◌%◌, ◌^◌, ◌<◌, ◌≡◌, ℤ, pos, ◌+ℤ◌, ◌*ℤ◌}
use Rattle.word.specs.Bit.{bit_at}
use Rattle.word.specs.Extend.{signed_of}
use Rattle.processor_float.specs.Nintendo.{xb_of, xh_of, rev_of, mpyhw_of}

abbrev pub byte_at : ℕ → ℕ → ℕ
byte_at i w = w / 256 ^ i % 256

-- XB, "Exchange Byte": reg2 with its two low bytes exchanged
pub record BytesExchanged (w : ℕ) : Type 0 where
  pub byte0 : byte_at 0 (xb_of w) ≡ byte_at 1 w
  pub byte1 : byte_at 1 (xb_of w) ≡ byte_at 0 w
  pub byte2 : byte_at 2 (xb_of w) ≡ byte_at 2 w
  pub byte3 : byte_at 3 (xb_of w) ≡ byte_at 3 w

-- XH, "Exchange Halfword": reg2 with its halfwords exchanged
pub record HalvesExchanged (w : ℕ) : Type 0 where
  pub byte0 : byte_at 0 (xh_of w) ≡ byte_at 2 w
  pub byte1 : byte_at 1 (xh_of w) ≡ byte_at 3 w
  pub byte2 : byte_at 2 (xh_of w) ≡ byte_at 0 w
  pub byte3 : byte_at 3 (xh_of w) ≡ byte_at 1 w

-- bit i is bit 31 - i
abbrev pub Reversed : Type 0
Reversed = (w i : ℕ) → i < 32 → bit_at i (rev_of w) ≡ bit_at (31 - i) w

-- reg2 times the signed number of reg1's low 17 bits, but for a multiple of 2 ^ 32
abbrev pub Multiplied : Type 0
Multiplied = (a b : ℕ) → (k : ℤ) × (pos (mpyhw_of a b) ≡ pos a *ℤ signed_of 65536 (b % 2 ^ 17) +ℤ k *ℤ pos (2 ^ 32))
