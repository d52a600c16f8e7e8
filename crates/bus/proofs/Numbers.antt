-- Numbers of 1, 2 or 4 bytes in a list, by the sizes that the code tells apart. Assumes nothing.
use Prim.Native.Nat.{ℕ, zero, suc, ◌+◌, ◌*◌, ◌/◌, ◌%◌, ◌^◌, ◌<◌, ◌≤◌}
use mathlib.Core.List.{List}
use mathlib.Core.Path.{◌≡◌, ◌∙◌}
use native.Mathlib.Nat.{pow-suc, one-le-pow}
use native.Mathlib.Omega.{arith}
use lib.Arith.{mod-mul}
use lib.ListN.{length, get_or, set, length-set}
use lib.Seq.{get_or-set_same}
use Rattle.word.specs.LittleEndian.{half_at, word_at, put_bytes}
use Rattle.word.proofs.Bytes.{put-byte, put-half, put-word, put_other}
use Rattle.bus.specs.inner.Numbers.{number_at}

pub byte_power : (n : ℕ) → 0 < 256 ^ n
byte_power n = one-le-pow n 256 (omega arith)

-- a byte fits into n bytes
pub byte_fits : (n r : ℕ) → 0 < n → r < 256 → r < 256 ^ n
byte_fits zero r some h = absurd (omega arith)
byte_fits (suc n) r some h = rw (pow-suc 256 n) (omega (arith, byte_power n))

module _ (xs : List ℕ) (i : ℕ) where
  pub number-byte : number_at xs 1 i ≡ get_or xs i 0
  unfolding number_at
  number-byte = omega arith

  pub number-half : number_at xs 2 i ≡ half_at xs i
  unfolding number_at
  number-half = omega arith

  pub number_word : number_at xs 4 i ≡ word_at xs i
  unfolding number_at
  number_word =
      let e : i + 1 + 1 ≡ i + 2 = omega arith in
      rw e (omega arith)

-- a number that was put is read back
pub number_put : (n : ℕ) (xs : List ℕ) (i v : ℕ) → i + n ≤ length xs → number_at (put_bytes n xs i v) n i ≡ v % 256 ^ n
unfolding number_at put_bytes
number_put zero xs i v h = omega arith
number_put (suc n) xs i v h =
    let ys = set xs i (v % 256) in
    let first : get_or (put_bytes n (set xs i (v % 256)) (i + 1) (v / 256)) i 0 ≡ v % 256 =
    put_other n ys (i + 1) (v / 256) i (λ l r. omega arith) ∙ get_or-set_same xs i (v % 256) 0 (omega arith) in
    let room : i + 1 + n ≤ length (set xs i (v % 256)) = simp length-set (omega arith) in
    let digits : v % (256 ^ n * 256) ≡ v / 256 % 256 ^ n * 256 + v % 256 = mod-mul v {m = 256 ^ n} {c = 256} (byte_power n) (omega arith) in
    rw (first, number_put n ys (i + 1) (v / 256) room, pow-suc 256 n) (omega (arith, digits))

-- for the code's match on a width
pub ruleset numbers = (number-byte, number-half, number_word, put-byte, put-half, put-word)
