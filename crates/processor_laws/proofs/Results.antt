-- Every result is a word, and the PSW that comes with it a PSW format.
use Prim.Native.Nat.{ℕ, ◌+◌, ◌-◌, ◌*◌, ◌/◌, ◌%◌, ◌^◌, ◌<◌}
use native.Mathlib.Nat.{div-le_self, mod-le}
use native.Mathlib.Omega.{arith}
use lib.Bits.{bit_and, bit_or, bit_xor, and_lt, or_lt, xor_lt}
use lib.Dec.{ltb, leb}
use lib.IntN.{◌+ℤ◌, ◌-ℤ◌}
use lib.Signed.{quot_z, rem_z}
use Rattle.processor_arithmetic.specs.declared.Outcome.{Outcome}
use Rattle.processor_arithmetic.specs.declared.Pair.{Pair}
use Rattle.processor_arithmetic.proofs.Bits.{bit-small}
use Rattle.processor_arithmetic.specs.Sum.{sum_of, difference_of, compare_of}
use Rattle.processor_arithmetic.specs.Integer.{signed, outside, complement_of}
use Rattle.processor_arithmetic.specs.Shift.{left_out_of, right_out_of, shift_left_of, shift_right_of, shift_arithmetic_of}
use Rattle.processor_arithmetic.proofs.Floor.{left-bit, right-bit, sar-word}
use Rattle.processor_arithmetic.specs.Bitwise.{and_of, or_of, xor_of, not_of}
use Rattle.processor_arithmetic.specs.Product.{product_of, overflows_of, words_of, multiply_of, multiply_unsigned_of}
use Rattle.processor_arithmetic.proofs.Product64.{product-word, unsigned-word, overflow-small}
use Rattle.processor_arithmetic.specs.Quotient.{divide_of, divide_unsigned_of}
use Rattle.processor_arithmetic.proofs.Division.{complement-word}
use Rattle.processor_decode.specs.declared.RegisterOperation.{RegisterOperation}
use Rattle.processor_decode.specs.declared.ImmediateOperation.{ImmediateOperation}
use Rattle.processor_decode.specs.declared.LongOperation.{LongOperation}
use Rattle.processor_execute.specs.Operation.{register_of, immediate_of, long_of}
use Rattle.processor_laws.proofs.Invariant.{Format}
use Rattle.processor_laws.proofs.Psw.{flags-format, keep-carry-format}

pub record Result (o : Outcome) : Type 0 where
  pub word : o.value < 2 ^ 32
  pub format : Format o.psw

pub record Results (p : Pair) : Type 0 where
  pub high : p.r30 < 2 ^ 32
  pub low : p.reg2 < 2 ^ 32
  pub format : Format p.psw

module _ (a b psw : ℕ) (ha : a < 2 ^ 32) (hb : b < 2 ^ 32) (h : Format psw) where
  sum-result : Result (sum_of a b psw)
  unfolding sum_of
  sum-result =
      record {
        word = omega arith;
        format = flags-format psw _ _ ((a + b) % 2 ^ 32) h (bit-small (leb (2 ^ 32) (a + b))) (bit-small (outside (signed a +ℤ signed b))) (omega arith);
      }

  difference-result : Result (difference_of a b psw)
  unfolding difference_of
  difference-result =
      record {
        word = omega arith;
        format = flags-format psw _ _ ((a + (2 ^ 32 - b)) % 2 ^ 32) h (bit-small (ltb a b)) (bit-small (outside (signed a -ℤ signed b))) (omega arith);
      }

  compare-result : Result (compare_of a b psw)
  unfolding compare_of
  compare-result = record { word = ha; format = difference-result.format }

  and-result : Result (and_of a b psw)
  unfolding and_of
  and-result =
      let w : bit_and a b < 2 ^ 32 = and_lt 32 a b ha hb in
      record { word = w; format = keep-carry-format psw 0 (bit_and a b) h (omega arith) w }

  or-result : Result (or_of a b psw)
  unfolding or_of
  or-result =
      let w : bit_or a b < 2 ^ 32 = or_lt 32 a b ha hb in
      record { word = w; format = keep-carry-format psw 0 (bit_or a b) h (omega arith) w }

  xor-result : Result (xor_of a b psw)
  unfolding xor_of
  xor-result =
      let w : bit_xor a b < 2 ^ 32 = xor_lt 32 a b ha hb in
      record { word = w; format = keep-carry-format psw 0 (bit_xor a b) h (omega arith) w }

  not-result : Result (not_of b psw)
  unfolding not_of
  not-result =
      let w : 2 ^ 32 - 1 - b < 2 ^ 32 = omega arith in
      record { word = w; format = keep-carry-format psw 0 (2 ^ 32 - 1 - b) h (omega arith) w }

  left-result : Result (shift_left_of a b psw)
  unfolding shift_left_of
  left-result =
      let w : a * 2 ^ (b % 32) % 2 ^ 32 < 2 ^ 32 = omega arith in
      record { word = w; format = flags-format psw (left_out_of a (b % 32)) 0 (a * 2 ^ (b % 32) % 2 ^ 32) h (left-bit a (b % 32)) (omega arith) w }

  right-result : Result (shift_right_of a b psw)
  unfolding shift_right_of
  right-result =
      let w : a / 2 ^ (b % 32) < 2 ^ 32 = omega (arith, div-le_self a (2 ^ (b % 32))) in
      record { word = w; format = flags-format psw (right_out_of a (b % 32)) 0 (a / 2 ^ (b % 32)) h (right-bit a (b % 32)) (omega arith) w }

  arithmetic-result : Result (shift_arithmetic_of a b psw)
  unfolding shift_arithmetic_of
  arithmetic-result =
      let w = sar-word a (b % 32) ha in
      record { word = w; format = flags-format psw (right_out_of a (b % 32)) 0 _ h (right-bit a (b % 32)) (omega arith) w }

  words-results : (w : ℕ) → w < 2 ^ 64 → Results (words_of w psw)
  unfolding words_of
  words-results w hw =
      record {
        high = omega arith;
        low = omega arith;
        format = keep-carry-format psw (overflows_of w) (w % 2 ^ 32) h (overflow-small w hw) (omega arith);
      }

  pub multiply-results : Results (multiply_of a b psw)
  unfolding multiply_of
  multiply-results = words-results (product_of a b) (product-word a b)

  pub multiply-unsigned-results : Results (multiply_unsigned_of a b psw)
  unfolding multiply_unsigned_of
  multiply-unsigned-results = words-results (a * b) (unsigned-word a b ha hb)

  pub divide-results : Results (divide_of a b psw)
  unfolding divide_of
  divide-results =
      let q = quot_z (signed a) (signed b) in
      record {
        high = complement-word (rem_z (signed a) (signed b));
        low = complement-word q;
        format = keep-carry-format psw _ (complement_of (2 ^ 32) q) h (bit-small (outside q)) (complement-word q);
      }

  pub divide-unsigned-results : Results (divide_unsigned_of a b psw)
  unfolding divide_unsigned_of
  divide-unsigned-results =
      let q : a / b < 2 ^ 32 = omega (arith, div-le_self a b) in
      let r : a % b < 2 ^ 32 = omega (arith, mod-le a b) in
      record { high = r; low = q; format = keep-carry-format psw 0 (a / b) h (omega arith) q }

  -- the instructions of Formats I, II and V
  pub register-result : (op : RegisterOperation) → Result (register_of op a b psw)
  register-result RegisterOperation.Mov = record { word = hb; format = h }
  register-result RegisterOperation.Add = sum-result
  register-result RegisterOperation.Sub = difference-result
  register-result RegisterOperation.Cmp = compare-result
  register-result RegisterOperation.Shl = left-result
  register-result RegisterOperation.Shr = right-result
  register-result RegisterOperation.Sar = arithmetic-result
  register-result RegisterOperation.Or = or-result
  register-result RegisterOperation.And = and-result
  register-result RegisterOperation.Xor = xor-result
  register-result RegisterOperation.Not = not-result

  pub immediate-result : (op : ImmediateOperation) → Result (immediate_of op a b psw)
  immediate-result ImmediateOperation.Mov = record { word = hb; format = h }
  immediate-result ImmediateOperation.Add = sum-result
  immediate-result ImmediateOperation.Cmp = compare-result
  immediate-result ImmediateOperation.Shl = left-result
  immediate-result ImmediateOperation.Shr = right-result
  immediate-result ImmediateOperation.Sar = arithmetic-result

  pub long-result : (op : LongOperation) → Result (long_of op a b psw)
  long-result LongOperation.Movea = record { word = omega arith; format = h }
  long-result LongOperation.Addi = sum-result
  long-result LongOperation.Ori = or-result
  long-result LongOperation.Andi = and-result
  long-result LongOperation.Xori = xor-result
  long-result LongOperation.Movhi = record { word = omega arith; format = h }
