-- The ranges of signed immediates, whose widths document 000 gives, over the integers: -16 to 15, -256 to 254 and so on
-- are at least -half and below half. The proof of the same name is in proofs/.
use Rattle.std.specs.Prelude.{ℕ, suc, ◌≤◌, ◌<◌, ◌^◌, Bool, false, ◌≡◌, ℤ, pos, negsuc}
use Rattle.std.specs.Int.Signed.{lt_z, le_z}
use Rattle.word.specs.Choose.{pick}
use Rattle.word.specs.Extend.{signed_of}
use Rattle.processor_encode.specs.Range.{signed_in}

-- whether a whole number is at least - (h + 1) and below h + 1
abbrev pub between : ℕ → ℤ → Bool
between h z = pick (le_z (negsuc h) z) (lt_z z (pos (suc h))) false

-- a word is in the range exactly where its signed reading is
abbrev pub SignedRange : Type 0
SignedRange =
    (h x : ℕ) → suc h ≤ 2 ^ 31 → x < 2 ^ 32 → signed_in (suc h) x ≡ between h (signed_of (2 ^ 31) x)
