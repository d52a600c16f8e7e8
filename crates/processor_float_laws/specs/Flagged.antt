-- Each flag of the floating instructions at its place, and every other bit kept (document 000, "PSW"; request W4): Z is
-- bit 0, S bit 1, OV bit 2, CY bit 3, FUD bit 5.
use Rattle.std.specs.Prelude.{ℕ, ◌^◌, ◌<◌, ◌≤◌, ◌≡◌, ◌≢◌, Bool, ltb}
use Rattle.word.specs.Bit.{bit_at}
use Rattle.word.specs.Choose.{pick}
use Rattle.processor_arithmetic.specs.Flag.{bit_of}
use Rattle.processor_arithmetic.specs.Places.{Placed}
use Rattle.processor_float.specs.Operand.{is_zero}
use Rattle.processor_float.specs.Flag.{order_flags_of, underflow_of, number_flags_of, conversion_flags_of}

-- a PSW after a comparison, or after a result compared with zero
pub record Ordered (psw : ℕ) (zero negative : Bool) (after : ℕ) : Type 0 where
  pub at_z : bit_at 0 after ≡ bit_of zero
  pub at_s : bit_at 1 after ≡ bit_of negative
  pub at_ov : bit_at 2 after ≡ 0
  pub at_cy : bit_at 3 after ≡ bit_of negative
  pub others : (k : ℕ) → 4 ≤ k → bit_at k after ≡ bit_at k psw

-- CMPF.S, with `zero` for equal and `negative` for lower
abbrev pub OrderPlaced : Type 0
OrderPlaced =
    (psw : ℕ) (zero negative : Bool) → Ordered psw zero negative (order_flags_of psw zero negative)

-- ADDF.S, SUBF.S, MULF.S, DIVF.S and CVT.WS: FUD is set where the result underflowed, else kept; so are all above CY
pub record Numbered (psw w : ℕ) (underflowed : Bool) (after : ℕ) : Type 0 where
  pub order : Ordered (underflow_of psw underflowed) (is_zero w) (ltb (2 ^ 31) w) after
  pub at_fud : bit_at 5 after ≡ pick underflowed 1 (bit_at 5 psw)
  pub others : (k : ℕ) → 4 ≤ k → k ≢ 5 → bit_at k after ≡ bit_at k psw

abbrev pub NumberPlaced : Type 0
NumberPlaced =
    (psw w : ℕ) (underflowed : Bool) → Numbered psw w underflowed (number_flags_of psw w underflowed)

-- CVT.SW and TRNC.SW: OV cleared, CY kept (ruling W4.4)
abbrev pub ConversionPlaced : Type 0
ConversionPlaced =
    (psw w : ℕ) → w < 2 ^ 32 → Placed psw (bit_at 3 psw) 0 w (conversion_flags_of psw w)
