-- What the code's test of an operand says: a word which is not reserved is not a NaN. And the word of a NaN. Assumes
-- nothing.
use Rattle.std.proofs.Common.{◌≡◌, ℕ, ◌%◌, ◌^◌, Bool, true, false, not, T, ltb, leb, refl, sym, ◌∙◌, subst, arith, le-ltb, leb-false}
use lib.Ieee.{Float, nan, inf, fin, binary32, is_nan, nan_bits, to_bits}
use lib.Ieee.Bits.{nan_bits_above}
use Rattle.word.proofs.Choices.{or-neither}
use Rattle.processor_float.specs.Operand.{reserved_of}

pub no_nan : (w : ℕ) → reserved_of w ≡ false → T (not (nan_bits binary32 w))
no_nan w e =
    let size = (or-neither (leb 0x7F800000 (w % 2 ^ 31)) _ e).0 in
    let below = leb-false 0x7F800000 (w % 2 ^ 31) size in
    let t : ltb 0x7F800000 (w % 2 ^ 31) ≡ false = le-ltb 0x7F800000 (w % 2 ^ 31) (omega arith) in
    subst (λ (b : Bool). T (not b)) (sym (nan_bits_above binary32 w ∙ t)) tt

pub nan-word : (v : Float) → is_nan v ≡ true → 0x7FC00000 ≡ to_bits binary32 v
unfolding is_nan to_bits
nan-word nan e = refl
nan-word (inf s) e = absurd (subst T (sym e) tt)
nan-word (fin s m d) e = absurd (subst T (sym e) tt)
