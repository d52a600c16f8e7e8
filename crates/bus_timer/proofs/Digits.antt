-- Bits of a number with bit 1 set or cleared, and with bit 4 replaced: by its digits. Assumes nothing.
use Prim.Native.Nat.{ℕ, ◌+◌, ◌*◌, ◌/◌, ◌%◌, ◌<◌}
use mathlib.Core.Path.{◌≡◌}
use native.Mathlib.Omega.{arith}
use Rattle.word.specs.Bit.{bit_at, without_bit, with_bit}

-- a number by bit 0, bit 1 and the rest
module _ (x : ℕ) where
  clear-digits : without_bit 1 x ≡ x / 4 * 4 + x % 2
  clear-digits = omega arith

  set-digits : with_bit 1 x ≡ x / 4 * 4 + x % 2 + 2
  set-digits = omega arith

  pub set-second : bit_at 1 (with_bit 1 x) ≡ 1
  set-second = rw set-digits (omega arith)

  pub set_first : bit_at 0 (with_bit 1 x) ≡ bit_at 0 x
  set_first = rw set-digits (omega arith)

  pub set-above : with_bit 1 x / 4 ≡ x / 4
  set-above = rw set-digits (omega arith)

  pub clear_second : bit_at 1 (without_bit 1 x) ≡ 0
  clear_second = rw clear-digits (omega arith)

  pub clear_first : bit_at 0 (without_bit 1 x) ≡ bit_at 0 x
  clear_first = rw clear-digits (omega arith)

  pub clear_above : without_bit 1 x / 4 ≡ x / 4
  clear_above = rw clear-digits (omega arith)

sixteenth : (x : ℕ) → bit_at 4 x ≡ x / 4 / 4 % 2
sixteenth x = omega arith

-- bit 4 replaced by b
module _ (x b : ℕ) (less : b < 2) where
  clock-digits : without_bit 4 x + b * 16 ≡ x / 32 * 32 + b * 16 + x % 16
  clock-digits = omega arith

  pub clock-first : bit_at 0 (without_bit 4 x + b * 16) ≡ bit_at 0 x
  clock-first = rw clock-digits (omega arith)

  pub clock-eighth : bit_at 3 (without_bit 4 x + b * 16) ≡ bit_at 3 x
  clock-eighth = rw clock-digits (omega arith)

  second-same : bit_at 1 (without_bit 4 x + b * 16) ≡ bit_at 1 x
  second-same = rw clock-digits (omega arith)

  -- setting bit 1 leaves bit 4
  set-clock : bit_at 4 (with_bit 1 x) ≡ bit_at 4 x
  set-clock = rw (sixteenth (with_bit 1 x), sixteenth x, set-above x)

  pub clock-set : with_bit 1 (without_bit 4 x + b * 16) ≡ without_bit 4 (with_bit 1 x) + b * 16
  clock-set = rw (second-same, set-clock) (omega arith)
