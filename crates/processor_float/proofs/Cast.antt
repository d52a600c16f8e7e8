-- A word cast to the signed type is its signed reading. Assumes nothing.
use Rattle.std.proofs.Common.{◌≡◌, ℕ, ◌^◌, ◌<◌, ◌≤◌, arith, le-ltb, lt-ltb}
use Rattle.std.proofs.lemmas.Int.{ints}
use Rattle.std.specs.Int.{w32, cast_signed}
use native.Mathlib.Decide.{dec_lt}
use Rattle.word.specs.Extend.{signed_of}
use Rattle.processor_arithmetic.specs.Integer.{signed}

pub cast-signed : (a : ℕ) → a < 2 ^ 32 → cast_signed w32 a ≡ signed a
unfolding signed_of
cast-signed a h =
    elim (dec_lt a (2 ^ 31)) [
      | yes l ↦ simp (lt-ltb a (2 ^ 31) l)
      | no l ↦
          let g : 2 ^ 31 ≤ a = omega arith in
          simp (le-ltb a (2 ^ 31) g) (omega (arith, ints))
    ]
