-- Halfwords and words as bytes and back: lengths, elements, and that one undoes the other. Assumes nothing.
use Prim.Native.Nat.{ℕ, zero, suc, ◌+◌, ◌*◌, ◌/◌, ◌%◌, ◌<◌}
use native.Mathlib.Omega.{arith}
use mathlib.Core.Path.{◌≡◌, refl, ap, ◌∙◌}
use mathlib.Core.List.{List, [], ◌∷◌, ◌++◌}
use lib.ListN.{length, get_or}
use Rattle.word.specs.LittleEndian.{half_at, word_at}
use Rattle.saved_bytes.specs.Numbers.{bytes_of, halves_of, halves_from, words_from}

pub length-bytes : (hs : List ℕ) → length (bytes_of hs) ≡ 2 * length hs
unfolding bytes_of
length-bytes [] = refl
length-bytes (h ∷ hs) = let e = length-bytes hs in omega (arith, e)

pub length-halves : (ws : List ℕ) → length (halves_of ws) ≡ 2 * length ws
unfolding halves_of
length-halves [] = refl
length-halves (w ∷ ws) = let e = length-halves ws in omega (arith, e)

-- the two bytes of halfword k
pub byte_low : (hs : List ℕ) (k : ℕ) → k < length hs → get_or (bytes_of hs) (2 * k) 0 ≡ get_or hs k 0 % 256
unfolding bytes_of
byte_low [] k l = absurd (omega arith)
byte_low (h ∷ hs) zero l = refl
byte_low (h ∷ hs) (suc k) l =
    let e : 2 * suc k ≡ suc (suc (2 * k)) = omega arith in
    rw e (byte_low hs k (omega arith))

pub byte_high : (hs : List ℕ) (k : ℕ) → k < length hs → get_or (bytes_of hs) (2 * k + 1) 0 ≡ get_or hs k 0 / 256 % 256
unfolding bytes_of
byte_high [] k l = absurd (omega arith)
byte_high (h ∷ hs) zero l = refl
byte_high (h ∷ hs) (suc k) l =
    let e : 2 * suc k + 1 ≡ suc (suc (2 * k + 1)) = omega arith in
    rw e (byte_high hs k (omega arith))

-- the two halfwords of word k
pub half-low : (ws : List ℕ) (k : ℕ) → k < length ws → get_or (halves_of ws) (2 * k) 0 ≡ get_or ws k 0 % 65536
unfolding halves_of
half-low [] k l = absurd (omega arith)
half-low (w ∷ ws) zero l = refl
half-low (w ∷ ws) (suc k) l =
    let e : 2 * suc k ≡ suc (suc (2 * k)) = omega arith in
    rw e (half-low ws k (omega arith))

pub half_high : (ws : List ℕ) (k : ℕ) → k < length ws → get_or (halves_of ws) (2 * k + 1) 0 ≡ get_or ws k 0 / 65536
unfolding halves_of
half_high [] k l = absurd (omega arith)
half_high (w ∷ ws) zero l = refl
half_high (w ∷ ws) (suc k) l =
    let e : 2 * suc k + 1 ≡ suc (suc (2 * k + 1)) = omega arith in
    rw e (half_high ws k (omega arith))

-- the halfwords and words from a byte on
pub length-halves-from : (xs : List ℕ) (a n : ℕ) → length (halves_from xs a n) ≡ n
unfolding halves_from
length-halves-from xs a zero = refl
length-halves-from xs a (suc n) = ap suc (length-halves-from xs (a + 2) n)

pub get_or-halves-from : (xs : List ℕ) (a n k : ℕ) → k < n → get_or (halves_from xs a n) k 0 ≡ half_at xs (a + 2 * k)
unfolding halves_from
get_or-halves-from xs a zero k l = absurd (omega arith)
get_or-halves-from xs a (suc n) zero l = let e : a + 2 * 0 ≡ a = omega arith in rw e
get_or-halves-from xs a (suc n) (suc k) l =
    let e : a + 2 * suc k ≡ a + 2 + 2 * k = omega arith in
    rw e (get_or-halves-from xs (a + 2) n k (omega arith))

pub get_or-halves-first : (xs : List ℕ) (n k : ℕ) → k < n → get_or (halves_from xs 0 n) k 0 ≡ half_at xs (2 * k)
get_or-halves-first xs n k l =
    let e : 0 + 2 * k ≡ 2 * k = omega arith in
    get_or-halves-from xs 0 n k l ∙ ap (half_at xs) e

pub length-words-from : (xs : List ℕ) (a n : ℕ) → length (words_from xs a n) ≡ n
unfolding words_from
length-words-from xs a zero = refl
length-words-from xs a (suc n) = ap suc (length-words-from xs (a + 4) n)

pub get_or-words-from : (xs : List ℕ) (a n k : ℕ) → k < n → get_or (words_from xs a n) k 0 ≡ word_at xs (a + 4 * k)
unfolding words_from
get_or-words-from xs a zero k l = absurd (omega arith)
get_or-words-from xs a (suc n) zero l = let e : a + 4 * 0 ≡ a = omega arith in rw e
get_or-words-from xs a (suc n) (suc k) l =
    let e : a + 4 * suc k ≡ a + 4 + 4 * k = omega arith in
    rw e (get_or-words-from xs (a + 4) n k (omega arith))

-- words from a byte on, in two parts
pub words-from-append : (xs : List ℕ) (a m n : ℕ) → words_from xs a (m + n) ≡ words_from xs a m ++ words_from xs (a + 4 * m) n
unfolding words_from
words-from-append xs a zero n =
    let e : 0 + n ≡ n = omega arith in
    let f : a + 4 * 0 ≡ a = omega arith in
    rw (e, f)
words-from-append xs a (suc m) n =
    let e : suc m + n ≡ suc (m + n) = omega arith in
    let f : a + 4 * suc m ≡ a + 4 + 4 * m = omega arith in
    rw (e, f) (ap (λ (ys : List ℕ). word_at xs a ∷ ys) (words-from-append xs (a + 4) m n))
