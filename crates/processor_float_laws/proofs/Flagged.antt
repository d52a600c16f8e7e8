-- The laws of specs/Flagged, proved.
use Prim.Native.Nat.{◌^◌}
use mathlib.Core.Path.{◌∙◌}
use mathlib.Core.Bool.{true, false}
use native.Mathlib.Omega.{arith}
use lib.Dec.{ltb}
use Rattle.word.specs.Bit.{with_bit}
use Rattle.processor_arithmetic.specs.FloatFlag.{fud_flag}
use Rattle.processor_arithmetic.proofs.Bits.{same_above}
use Rattle.processor_arithmetic.proofs.Places.{keep-carry-placed, set-flag, set-flag-others}
use Rattle.processor_float.specs.Operand.{is_zero}
use Rattle.processor_float.specs.Flag.{order_flags_of, underflow_of, number_flags_of, conversion_flags_of}
use Rattle.processor_float_laws.specs.Flagged.{OrderPlaced, NumberPlaced, ConversionPlaced}

pub order-placed : OrderPlaced
unfolding order_flags_of
order-placed psw true true =
    record {
      at_z = omega arith;
      at_s = omega arith;
      at_ov = omega arith;
      at_cy = omega arith;
      others = λ k h. same_above _ psw 4 k (omega arith) h;
    }
order-placed psw true false =
    record {
      at_z = omega arith;
      at_s = omega arith;
      at_ov = omega arith;
      at_cy = omega arith;
      others = λ k h. same_above _ psw 4 k (omega arith) h;
    }
order-placed psw false true =
    record {
      at_z = omega arith;
      at_s = omega arith;
      at_ov = omega arith;
      at_cy = omega arith;
      others = λ k h. same_above _ psw 4 k (omega arith) h;
    }
order-placed psw false false =
    record {
      at_z = omega arith;
      at_s = omega arith;
      at_ov = omega arith;
      at_cy = omega arith;
      others = λ k h. same_above _ psw 4 k (omega arith) h;
    }

pub number-placed : NumberPlaced
unfolding number_flags_of underflow_of
number-placed psw w true =
    let o = order-placed (with_bit fud_flag psw) (is_zero w) (ltb (2 ^ 31) w) in
    record {
      order = o;
      at_fud = o.others 5 (omega arith) ∙ set-flag 5 psw;
      others = λ k h n. o.others k h ∙ set-flag-others k 5 psw n;
    }
number-placed psw w false =
    let o = order-placed psw (is_zero w) (ltb (2 ^ 31) w) in
    record { order = o; at_fud = o.others 5 (omega arith); others = λ k h n. o.others k h }

pub conversion-placed : ConversionPlaced
unfolding conversion_flags_of
conversion-placed psw w h = keep-carry-placed psw 0 w (omega arith) h
