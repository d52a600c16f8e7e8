-- The conditions after CMP (document 000, "Conditional Branch"): of reg2 = a and reg1 = b, each comparison that a
-- condition is named after, of the words as they stand and of their signed readings.
use Rattle.std.specs.Prelude.{◌≡◌, ℕ, ◌^◌, ◌<◌, not, ◌==◌, int_le, int_lt, nat_le, nat_lt}
use Rattle.processor_arithmetic.specs.Sum.{compare_of}
use Rattle.processor_arithmetic.specs.Condition.{condition_of}
use Rattle.processor_arithmetic.specs.Integer.{signed}

-- what each condition says after CMP of a with b
pub record Comparison (a b psw : ℕ) : Type 0 where
  -- 1 C or L, lower: a < b
  pub lower : condition_of 1 psw ≡ nat_lt a b
  -- 2 Z or E, equal
  pub equal : condition_of 2 psw ≡ (a == b)
  -- 3 NH, not higher: a ≤ b
  pub not_higher : condition_of 3 psw ≡ nat_le a b
  -- 6 LT, less than: a < b, read signed
  pub less : condition_of 6 psw ≡ int_lt (signed a) (signed b)
  -- 7 LE, less than or equal: a ≤ b, read signed
  pub less_equal : condition_of 7 psw ≡ int_le (signed a) (signed b)
  -- 9 NC or NL, not lower: b ≤ a
  pub not_lower : condition_of 9 psw ≡ nat_le b a
  -- 10 NZ or NE, not equal
  pub not_equal : condition_of 10 psw ≡ not (a == b)
  -- 11 H, higher: b < a
  pub higher : condition_of 11 psw ≡ nat_lt b a
  -- 14 GE, greater than or equal: b ≤ a, read signed
  pub greater_equal : condition_of 14 psw ≡ int_le (signed b) (signed a)
  -- 15 GT, greater than: b < a, read signed
  pub greater : condition_of 15 psw ≡ int_lt (signed b) (signed a)

-- after CMP the conditions compare the two words, as they stand and read signed
abbrev pub Compared : Type 0
Compared =
    (a b psw : ℕ) → a < 2 ^ 32 → b < 2 ^ 32 → Comparison a b (compare_of a b psw).psw
