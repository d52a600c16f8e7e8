-- Sums and differences with their flags (document 000, "Arithmetic"). CY: "unsigned wrap-around"; OV: "signed
-- wrap-around", so that the sum or difference of the signed readings is not a signed word.
use Rattle.std.specs.Prelude.{ℕ, ◌+◌, ◌-◌, ◌%◌, ◌^◌, ◌+ℤ◌, ◌-ℤ◌, nat_le, nat_lt}
use Rattle.processor_arithmetic.specs.Flag.{bit_of, flags_of}
use Rattle.processor_arithmetic.specs.Integer.{signed, outside}
use Rattle.processor_arithmetic.specs.declared.Outcome.{Outcome}

-- ADD: reg2 + reg1, wrapped to 32 bits
unfoldable pub sum_of : ℕ → ℕ → ℕ → Outcome
sum_of a b psw =
    let v = (a + b) % 2 ^ 32 in
    record { value = v; psw = flags_of psw (bit_of (nat_le (2 ^ 32) (a + b))) (bit_of (outside (signed a +ℤ signed b))) v }

-- SUB: reg2 - reg1, wrapped
unfoldable pub difference_of : ℕ → ℕ → ℕ → Outcome
difference_of a b psw =
    let v = (a + (2 ^ 32 - b)) % 2 ^ 32 in
    record { value = v; psw = flags_of psw (bit_of (nat_lt a b)) (bit_of (outside (signed a -ℤ signed b))) v }

-- CMP: the flags of the difference, whose value is discarded: reg2 keeps its own
unfoldable pub compare_of : ℕ → ℕ → ℕ → Outcome
compare_of a b psw = record { value = a; psw = (difference_of a b psw).psw }
