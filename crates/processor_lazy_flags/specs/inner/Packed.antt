-- Lazy flags: PSW's four low flags as what they are made of (document 000, "PSW"). S and Z are those of `value`, CY and
-- OV those of an addition whose wrapped sum and one part are the two words of `addition`. A result with flags is given
-- where its value and its PSW are.
use Rattle.std.specs.Prelude.{◌≡◌, ℕ, ◌+◌, ◌-◌, ◌*◌, ◌/◌, ◌%◌, ◌^◌, Bool, ◌+ℤ◌, nat_lt}
use Rattle.processor_arithmetic.specs.Flag.{bit_of, flags_of}
use Rattle.processor_arithmetic.specs.Integer.{signed, outside}
use Rattle.processor_arithmetic.specs.declared.Outcome.{Outcome}
use Rattle.processor_arithmetic.specs.declared.Pair as arithmetic
use Rattle.processor_lazy_flags.specs.declared.Flags.{Flags}
use Rattle.processor_lazy_flags.specs.declared.Pair.{Pair}

-- the value that S and Z are of
abbrev pub packed_value_of : Flags → ℕ
packed_value_of g = g.value % 2 ^ 32

-- the addition: one part, the wrapped sum, and the other part, which is their difference
abbrev pub part_in : Flags → ℕ
part_in g = g.addition % 2 ^ 32

abbrev pub sum_in : Flags → ℕ
sum_in g = g.addition / 2 ^ 32

abbrev pub other_in : Flags → ℕ
other_in g = (sum_in g + (2 ^ 32 - part_in g)) % 2 ^ 32

-- CY: the sum wrapped around. OV: the sum of the signed readings is not a signed word
abbrev pub carry_of : Flags → ℕ
carry_of g = bit_of (nat_lt (sum_in g) (part_in g))

abbrev pub overflow_of : Flags → ℕ
overflow_of g = bit_of (outside (signed (part_in g) +ℤ signed (other_in g)))

-- PSW with these flags: the bits above CY stay
unfoldable pub packed_of : ℕ → Flags → ℕ
packed_of psw g = flags_of psw (carry_of g) (overflow_of g) (packed_value_of g)

-- a value with this CY and OV
pub record Holds (r : Flags) (v cy ov : ℕ) : Type 0 where
  pub value : packed_value_of r ≡ v
  pub carry : carry_of r ≡ cy
  pub overflow : overflow_of r ≡ ov

-- r is the outcome o, whose flags are in this PSW
pub record Gives (psw : ℕ) (r : Flags) (o : Outcome) : Type 0 where
  pub value : packed_value_of r ≡ o.value
  pub flags : packed_of psw r ≡ o.psw

-- the same of two results
pub record GivesPair (psw : ℕ) (r : Pair) (p : arithmetic.Pair) : Type 0 where
  pub r30 : r.r30 ≡ p.r30
  pub reg2 : packed_value_of r.flags ≡ p.reg2
  pub flags : packed_of psw r.flags ≡ p.psw

-- PSW after a comparison of floats: S and CY alike, OV clear
abbrev pub ordered_of : ℕ → Bool → Bool → ℕ
ordered_of psw zero negative = psw / 16 * 16 + bit_of negative * 10 + bit_of zero
