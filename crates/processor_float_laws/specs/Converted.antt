-- The conversions over whole numbers (request W4): CVT.SW gives the whole number within a half of the operand's value,
-- the even one at a tie, TRNC.SW the value without its fraction, both invalid just outside the signed word; CVT.WS
-- gives the nearest float, and the number itself up to 16,777,216. The proofs are in proofs/Converting.
use Rattle.std.specs.Prelude.{ℕ, suc, ◌+◌, ◌*◌, ◌%◌, ◌^◌, ◌<◌, ◌≤◌, ◌≡◌, true, false, ℤ, pos, nat_abs, ◌*ℤ◌}
use Rattle.std.specs.Float.{binary32}
use Rattle.std.specs.Float.Ieee.{of_int, to_bits}
use Rattle.processor_arithmetic.specs.Integer.{signed, outside}
use Rattle.processor_float.specs.Operand.{reserved_of, units_of, signed_by, value_of}
use Rattle.processor_float.specs.Conversion.{nearest_size_of, truncated_size_of, nearest_of, truncated_of}
use Rattle.processor_float.specs.declared.FloatOutcome.{FloatOutcome}
use Rattle.processor_float.specs.declared.FloatOutcome.TheVariants.{Word, Reserved, Invalid}
use Rattle.processor_float_laws.specs.Nearest.{NearestEven}

-- n is nearest to units / 2 ^ 149: within a half of it, and even at a half
pub record Nearest (units n : ℕ) : Type 0 where
  pub above : 2 * (n * 2 ^ 149) ≤ 2 * units + 2 ^ 149
  pub under : 2 * units ≤ 2 * (n * 2 ^ 149) + 2 ^ 149
  pub tie_above : 2 * (n * 2 ^ 149) ≡ 2 * units + 2 ^ 149 → n % 2 ≡ 0
  pub tie_under : 2 * units ≡ 2 * (n * 2 ^ 149) + 2 ^ 149 → n % 2 ≡ 0

-- n is units / 2 ^ 149 without the fraction
pub record WithoutFraction (units n : ℕ) : Type 0 where
  pub least : n * 2 ^ 149 ≤ units
  pub most : units < suc n * 2 ^ 149

-- an outcome of a conversion of w to the whole number of size n
pub record Whole (w n : ℕ) (o : FloatOutcome) : Type 0 where
  pub reserved : reserved_of w ≡ true → o ≡ Reserved
  pub invalid : reserved_of w ≡ false → outside (signed_by w n) ≡ true → o ≡ Invalid
  pub word : reserved_of w ≡ false → outside (signed_by w n) ≡ false → (r : ℕ) × (o ≡ Word r) × (signed r ≡ signed_by w n)

-- CVT.SW
pub record Rounds (w : ℕ) : Type 0 where
  pub size : Nearest (units_of w) (nearest_size_of w)
  pub whole : Whole w (nearest_size_of w) (nearest_of w)

-- TRNC.SW
pub record Truncates (w : ℕ) : Type 0 where
  pub size : WithoutFraction (units_of w) (truncated_size_of w)
  pub whole : Whole w (truncated_size_of w) (truncated_of w)

-- CVT.WS
pub record Floats (w : ℕ) : Type 0 where
  pub nearest : 0 < nat_abs (signed w) → NearestEven (signed w) 1 (to_bits binary32 (of_int binary32 (signed w)))
  pub exact :
      nat_abs (signed w) ≤ 2 ^ 24 → value_of (to_bits binary32 (of_int binary32 (signed w))) ≡ signed w *ℤ pos (2 ^ 149)
