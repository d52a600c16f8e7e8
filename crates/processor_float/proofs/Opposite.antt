-- Rounding is the same for a number and its opposite. Assumes nothing.
use Rattle.std.proofs.Common.{◌≡◌, ℕ, zero, suc, ◌+◌, ◌-◌, ◌*◌, ◌/◌, ◌%◌, ◌^◌, ◌<◌, ◌≤◌, Bool, true, false, cond, ltb, ℤ, pos, negsuc, neg_ℤ, sym, refl, ap, ◌∙◌, subst, arith}
use Prim.Native.Nat.{compare}
use lib.Count.{count_trailing_zeros}
use lib.Ieee.{Float, inf, Format, binary32, neg, prec, emax, low, size, nearest, odd, units, round, of_int}
use lib.Ieee.Fits.{round_is}
use Rattle.word.specs.Extend.{signed_of}
use Rattle.processor_arithmetic.specs.Integer.{signed}
use Rattle.processor_arithmetic.proofs.Reading.{plain-reading, negative-reading}

opposite-odd : (d q k l : ℕ) → neg (odd d false q k l) ≡ odd d true q k l
unfolding odd neg
opposite-odd d zero k l = refl
opposite-odd d (suc q) k l = refl

opposite-units : (f : Format) (q k : ℕ) → neg (units f false q k) ≡ units f true q k
unfolding units
opposite-units f q k = go (ltb (q * 2 ^ k) (2 ^ (low f + suc (emax f))))
  where
    go : (b : Bool) → neg (cond b (odd (suc (prec f)) false q k (low f)) (inf false)) ≡ cond b (odd (suc (prec f)) true q k (low f)) (inf true)
    go true = opposite-odd (suc (prec f)) q k (low f)
    go false = unfold neg in refl

pub opposite-round : (f : Format) (a c : ℕ) → neg (round f false a c) ≡ round f true a c
opposite-round f a c =
    let n = a * 2 ^ low f in
    let k = size (n / c) - prec f in
    ap neg (round_is f false a c)
    ∙ opposite-units f (nearest (n / (c * 2 ^ k)) (compare (n % (c * 2 ^ k) * 2) (c * 2 ^ k))) k
    ∙ sym (round_is f true a c)

opposite-whole : (n : ℕ) → 0 < n → neg (of_int binary32 (pos n)) ≡ of_int binary32 (neg_ℤ (pos n))
unfolding of_int
opposite-whole zero h = absurd (omega arith)
opposite-whole (suc n) h = opposite-round binary32 (suc n) 1

-- CVT.WS of a word below 2 ^ 31, and of another
pub float-low : (w : ℕ) → w < 2 ^ 31 → of_int binary32 (pos w) ≡ of_int binary32 (signed w)
float-low w h = ap (of_int binary32) (sym (plain-reading (2 ^ 31) w h))

pub float-high : (w n : ℕ) → w < 2 ^ 32 → 2 ^ 31 ≤ w → n ≡ 2 ^ 32 - w → neg (of_int binary32 (pos n)) ≡ of_int binary32 (signed w)
float-high w n h l e =
    let same : 2 * 2 ^ 31 - n ≡ w = omega arith in
    opposite-whole n (omega arith)
    ∙ ap (of_int binary32) (sym (negative-reading (2 ^ 31) n (omega arith) (omega arith)) ∙ ap (signed_of (2 ^ 31)) same)
