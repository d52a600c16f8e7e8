-- PSW from the flags that are kept: what a result's flags put over them, and the conditions that they meet.
use Rattle.std.proofs.Common.{◌≡◌, ℕ, ◌+◌, ◌*◌, ◌/◌, ◌%◌, ◌^◌, ◌<◌, eqb, ltb, ◌+ℤ◌, sym, refl, ap, ◌∙◌, arith}
use Rattle.processor_arithmetic.specs.Flag.{bit_of, zero_of, flags_of, keep_carry_of}
use Rattle.processor_arithmetic.specs.Integer.{signed, outside}
use Rattle.processor_arithmetic.proofs.Bits.{bit-small}
use Rattle.processor_lazy_flags.specs.inner.Packed.{packed_value_of, part_in, sum_in, other_in, carry_of, overflow_of, packed_of, Holds, Gives, GivesPair}
use Rattle.processor_lazy_flags.specs.declared.Flags.{Flags}
use Rattle.processor_lazy_flags.specs.declared.Pair.{Pair}

module _ (psw : ℕ) (g : Flags) where
  z : bit_of (eqb (packed_value_of g) 0) < 2
  z = bit-small (eqb (packed_value_of g) 0)

  c : carry_of g < 2
  c = bit-small (ltb (sum_in g) (part_in g))

  o : overflow_of g < 2
  o = bit-small (outside (signed (part_in g) +ℤ signed (other_in g)))

  -- PSW above its flags
  pub packed-high : packed_of psw g / 16 ≡ psw / 16
  unfolding packed_of flags_of
  packed-high = omega (arith, z, c, o)

  -- PSW above OV
  packed-carry : packed_of psw g / 8 * 8 ≡ psw / 16 * 16 + carry_of g * 8
  unfolding packed_of flags_of
  packed-carry = omega (arith, z, c, o)

  -- all four flags of a result
  pub flags-over : (cy ov v : ℕ) → flags_of (packed_of psw g) cy ov v ≡ flags_of psw cy ov v
  unfolding flags_of
  flags-over cy ov v = rw packed-high

  -- a result that keeps CY
  pub keep-over : (ov v : ℕ) → keep_carry_of (packed_of psw g) ov v ≡ flags_of psw (carry_of g) ov v
  unfolding flags_of keep_carry_of
  keep-over ov v = rw packed-carry

  -- a result with all four flags
  pub gives_flags : (r : Flags) (cy ov v : ℕ) → Holds r v cy ov → Gives psw r (record { value = v; psw = flags_of (packed_of psw g) cy ov v })
  unfolding packed_of
  gives_flags r cy ov v h = record { value = h.value; flags = rw (h.value, h.carry, h.overflow) (sym (flags-over cy ov v)) }

  -- a result that keeps CY
  pub gives-kept : (r : Flags) (ov v : ℕ) → Holds r v (carry_of g) ov → Gives psw r (record { value = v; psw = keep_carry_of (packed_of psw g) ov v })
  unfolding packed_of
  gives-kept r ov v h = record { value = h.value; flags = rw (h.value, h.carry, h.overflow) (sym (keep-over ov v)) }

  -- two results that keep CY
  pub gives-pair : (r : Pair) (high ov v : ℕ) → r.r30 ≡ high → Holds r.flags v (carry_of g) ov
      → GivesPair psw r (record { r30 = high; reg2 = v; psw = keep_carry_of (packed_of psw g) ov v })
  unfolding packed_of
  gives-pair r high ov v e h = record { r30 = e; reg2 = h.value; flags = rw (h.value, h.carry, h.overflow) (sym (keep-over ov v)) }
