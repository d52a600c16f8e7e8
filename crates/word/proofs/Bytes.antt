-- Bytes put into a list: by the sizes that the code tells apart, the list's length, and the other bytes. Assumes nothing.
use Prim.Native.Nat.{ℕ, zero, suc, ◌+◌, ◌/◌, ◌%◌, ◌<◌, ◌≤◌}
use mathlib.Core.List.{List}
use mathlib.Core.Path.{◌≡◌, refl, ◌∙◌}
use native.Mathlib.Omega.{arith}
use lib.ListN.{length, get_or, set, length-set}
use lib.Seq.{get_or-set_other}
use Rattle.word.specs.LittleEndian.{put_bytes, put_half, put_word}

module _ (xs : List ℕ) (i v : ℕ) where
  pub put-byte : put_bytes 1 xs i v ≡ set xs i (v % 256)
  unfolding put_bytes
  put-byte = refl

  pub put-half : put_bytes 2 xs i v ≡ put_half xs i v
  unfolding put_bytes
  put-half = refl

  pub put-word : put_bytes 4 xs i v ≡ put_word xs i v
  unfolding put_bytes
  put-word =
      let e : i + 1 + 1 ≡ i + 2 = omega arith in
      let f : v / 256 / 256 ≡ v / 65536 = omega arith in
      rw (e, f)

-- a halfword, then the bytes after it
pub put-after : (n : ℕ) (xs : List ℕ) (i v : ℕ) → put_bytes n (put_half xs i v) (i + 2) (v / 65536) ≡ put_bytes (suc (suc n)) xs i v
unfolding put_bytes
put-after n xs i v =
    let e : i + 1 + 1 ≡ i + 2 = omega arith in
    let f : v / 256 / 256 ≡ v / 65536 = omega arith in
    rw (e, f)

pub put-length : (n : ℕ) (xs : List ℕ) (i v : ℕ) → length (put_bytes n xs i v) ≡ length xs
unfolding put_bytes
put-length zero xs i v = refl
put-length (suc n) xs i v = put-length n (set xs i (v % 256)) (i + 1) (v / 256) ∙ simp length-set

-- a byte that is not among them
pub put_other : (n : ℕ) (xs : List ℕ) (i v a : ℕ) → (i ≤ a → a < i + n → ⊥) → get_or (put_bytes n xs i v) a 0 ≡ get_or xs a 0
unfolding put_bytes
put_other zero xs i v a h = refl
put_other (suc n) xs i v a h =
    put_other n (set xs i (v % 256)) (i + 1) (v / 256) a (λ l r. h (omega arith) (omega arith))
    ∙ get_or-set_other xs i a (v % 256) 0 (λ e. h (omega arith) (omega arith))
