-- A PSW stays within the bits of 0x000FF3FF: after results' flags, with a floating flag, ID, EP, NP and AE set or cleared,
-- and with I replaced.
use Prim.Native.Nat.{ℕ, ◌+◌, ◌-◌, ◌*◌, ◌/◌, ◌%◌, ◌^◌, ◌≤◌, ◌<◌}
use mathlib.Core.Path.{◌≡◌, subst, ◌∙◌}
use mathlib.Core.Bool.{Bool, true, false}
use native.Mathlib.Omega.{arith}
use lib.Dec.{ltb, eqb}
use Rattle.word.specs.Bit.{with_bit, without_bit}
use Rattle.processor_arithmetic.specs.Flag.{bit_of, sign_of, zero_of, flags_of, keep_carry_of, set_id_of, clear_id_of}
use Rattle.processor_arithmetic.specs.Flag.{regular_of, duplexed_of, ae_flag, ep_flag, np_flag}
use Rattle.processor_arithmetic.specs.FloatFlag.{fud_flag}
use Rattle.processor_arithmetic.proofs.Bits.{bit-small}
use Rattle.processor_float.specs.Operand.{is_zero}
use Rattle.processor_float.specs.Flag.{order_flags_of, underflow_of, number_flags_of, conversion_flags_of}
use Rattle.processor_machine.specs.System.{psw_bits_of}
use Rattle.processor_machine.proofs.PswMask.{psw-bits-kept}
use Rattle.processor_interrupt.specs.Interrupt.{with_level_of}
use Rattle.processor_laws.proofs.Invariant.{Format}

pub kept-format : (v : ℕ) → Format (psw_bits_of v)
kept-format v = psw-bits-kept (psw_bits_of v) ∙ omega (arith, psw-bits-kept v)

-- a PSW format is ten low bits, and eight from bit 12 on
joined : (v high low : ℕ) → v ≡ high * 4096 + low → high < 256 → low < 1024 → Format v
joined v high low e hh hl =
    let a : v % 1024 ≡ low = omega arith in
    let b : v / 4096 ≡ high = omega arith in
    let d : high % 256 ≡ high = omega arith in
    let f : v / 4096 % 256 ≡ high = rw b d in
    omega (arith, psw-bits-kept v)

parted : (v : ℕ) → Format v → v ≡ v / 4096 * 4096 + v % 1024
parted v h = omega (arith, psw-bits-kept v)

high_small : (v : ℕ) → Format v → v / 4096 < 256
high_small v h = omega (arith, psw-bits-kept v)

-- the four low bits, and the three
low-four : (psw r : ℕ) → Format psw → r < 16 → Format (psw / 16 * 16 + r)
low-four psw r h hr =
    let p = parted psw h in
    let q = high_small psw h in
    let l : psw % 1024 < 1024 = omega arith in
    let e : psw / 16 ≡ psw / 4096 * 256 + psw % 1024 / 16 = omega arith in
    joined (psw / 16 * 16 + r) (psw / 4096) (psw % 1024 / 16 * 16 + r) (omega arith) q (omega arith)

low-three : (psw r : ℕ) → Format psw → r < 8 → Format (psw / 8 * 8 + r)
low-three psw r h hr =
    let p = parted psw h in
    let q = high_small psw h in
    let l : psw % 1024 < 1024 = omega arith in
    let e : psw / 8 ≡ psw / 4096 * 512 + psw % 1024 / 8 = omega arith in
    joined (psw / 8 * 8 + r) (psw / 4096) (psw % 1024 / 8 * 8 + r) (omega arith) q (omega arith)

-- only the ten low bits change
pub low-format : (psw v low : ℕ) → Format psw → v ≡ psw - psw % 1024 + low → low < 1024 → Format v
low-format psw v low h e l =
    let p = parted psw h in
    joined v (psw / 4096) low (omega arith) (high_small psw h) l

pub order-format : (psw : ℕ) (zero negative : Bool) → Format psw → Format (order_flags_of psw zero negative)
unfolding order_flags_of
order-format psw zero negative h =
    let hz : bit_of zero < 2 = bit-small zero in
    let hn : bit_of negative < 2 = bit-small negative in
    let e : psw / 16 * 16 + (bit_of negative * 10 + bit_of zero) ≡ psw / 16 * 16 + bit_of negative * 10 + bit_of zero = omega arith in
    subst Format e (low-four psw (bit_of negative * 10 + bit_of zero) h (omega arith))

underflow-format : (psw : ℕ) (underflowed : Bool) → Format psw → Format (underflow_of psw underflowed)
unfolding underflow_of
underflow-format psw true h = low-format psw (with_bit fud_flag psw) (psw % 1024 - psw / 32 % 2 * 32 + 32) h (omega arith) (omega arith)
underflow-format psw false h = h

pub number-format : (psw w : ℕ) (underflowed : Bool) → Format psw → Format (number_flags_of psw w underflowed)
unfolding number_flags_of
number-format psw w underflowed h = order-format (underflow_of psw underflowed) (is_zero w) (ltb (2 ^ 31) w) (underflow-format psw underflowed h)

pub flags-format : (psw cy ov v : ℕ) → Format psw → cy < 2 → ov < 2 → v < 2 ^ 32 → Format (flags_of psw cy ov v)
unfolding flags_of
flags-format psw cy ov v h hc ho hv =
    let hz : zero_of v < 2 = bit-small (eqb v 0) in
    let e : psw / 16 * 16 + (cy * 8 + ov * 4 + sign_of v * 2 + zero_of v) ≡ psw / 16 * 16 + cy * 8 + ov * 4 + sign_of v * 2 + zero_of v = omega arith in
    subst Format e (low-four psw (cy * 8 + ov * 4 + sign_of v * 2 + zero_of v) h (omega arith))

pub keep-carry-format : (psw ov v : ℕ) → Format psw → ov < 2 → v < 2 ^ 32 → Format (keep_carry_of psw ov v)
unfolding keep_carry_of
keep-carry-format psw ov v h ho hv =
    let hz : zero_of v < 2 = bit-small (eqb v 0) in
    let e : psw / 8 * 8 + (ov * 4 + sign_of v * 2 + zero_of v) ≡ psw / 8 * 8 + ov * 4 + sign_of v * 2 + zero_of v = omega arith in
    subst Format e (low-three psw (ov * 4 + sign_of v * 2 + zero_of v) h (omega arith))

pub conversion-format : (psw w : ℕ) → Format psw → w < 2 ^ 32 → Format (conversion_flags_of psw w)
unfolding conversion_flags_of
conversion-format psw w h hw = keep-carry-format psw 0 w h (omega arith) hw

-- bits from 12 on are cleared, then others set
changed : (psw u v : ℕ) → Format psw → u ≤ psw / 4096 → psw / 4096 - u + v < 256 → Format (psw - u * 4096 + v * 4096)
changed psw u v h b d =
    let p = parted psw h in
    joined (psw - u * 4096 + v * 4096) (psw / 4096 - u + v) (psw % 1024) (omega arith) d (omega arith)

pub set-id-format : (psw : ℕ) → Format psw → Format (set_id_of psw)
unfolding set_id_of
set-id-format psw h =
    let u = psw / 4096 % 2 * 1 in
    let e : psw - u * 4096 + 1 * 4096 ≡ psw - psw / 4096 % 2 * 4096 + 4096 = omega arith in
    subst Format e (changed psw u 1 h (omega arith) (omega (arith, high_small psw h)))

pub clear-id-format : (psw : ℕ) → Format psw → Format (clear_id_of psw)
unfolding clear_id_of
clear-id-format psw h =
    let u = psw / 4096 % 2 * 1 in
    let e : psw - u * 4096 + 0 * 4096 ≡ psw - psw / 4096 % 2 * 4096 = omega arith in
    subst Format e (changed psw u 0 h (omega arith) (omega (arith, high_small psw h)))

set-ep-format : (psw : ℕ) → Format psw → Format (with_bit ep_flag psw)
set-ep-format psw h =
    let u = psw / 16384 % 2 * 4 in
    let e : psw - u * 4096 + 4 * 4096 ≡ psw - psw / 16384 % 2 * 16384 + 16384 = omega arith in
    subst Format e (changed psw u 4 h (omega arith) (omega (arith, high_small psw h)))

set-np-format : (psw : ℕ) → Format psw → Format (with_bit np_flag psw)
set-np-format psw h =
    let u = psw / 32768 % 2 * 8 in
    let e : psw - u * 4096 + 8 * 4096 ≡ psw - psw / 32768 % 2 * 32768 + 32768 = omega arith in
    subst Format e (changed psw u 8 h (omega arith) (omega (arith, high_small psw h)))

clear-ae-format : (psw : ℕ) → Format psw → Format (without_bit ae_flag psw)
clear-ae-format psw h =
    let u = psw / 8192 % 2 * 2 in
    let e : psw - u * 4096 + 0 * 4096 ≡ psw - psw / 8192 % 2 * 8192 = omega arith in
    subst Format e (changed psw u 0 h (omega arith) (omega (arith, high_small psw h)))

pub regular-format : (psw : ℕ) → Format psw → Format (regular_of psw)
unfolding regular_of set_id_of
regular-format psw h = clear-ae-format _ (set-id-format _ (set-ep-format psw h))

pub duplexed-format : (psw : ℕ) → Format psw → Format (duplexed_of psw)
unfolding duplexed_of set_id_of
duplexed-format psw h = clear-ae-format _ (set-id-format _ (set-np-format psw h))

-- I replaced
pub level-format : (level psw : ℕ) → level < 16 → Format psw → Format (with_level_of level psw)
unfolding with_level_of
level-format level psw hl h =
    let p = parted psw h in
    let q = high_small psw h in
    let l : psw % 1024 < 1024 = omega arith in
    let none : psw / 1048576 ≡ 0 = omega arith in
    let low : psw % 65536 ≡ psw / 4096 % 16 * 4096 + psw % 1024 = omega arith in
    joined (psw / 1048576 * 1048576 + level * 65536 + psw % 65536) (level * 16 + psw / 4096 % 16) (psw % 1024) (omega arith)
    (omega arith) l
