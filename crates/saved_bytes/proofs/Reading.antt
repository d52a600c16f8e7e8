-- Halfwords and words read back from the bytes they were written as, and bytes written again as they were read. Assumes nothing.
use Prim.Native.Nat.{ℕ, zero, suc, ◌+◌, ◌*◌, ◌/◌, ◌%◌, ◌^◌, ◌<◌, ◌≤◌}
use native.Mathlib.Omega.{arith}
use mathlib.Core.Bool.{Bool, true, false}
use mathlib.Core.Path.{◌≡◌, refl, ◌∙◌}
use mathlib.Core.List.{List, [], ◌∷◌, ◌++◌}
use borrow.Author.Tests.{eqb-true, eq-eqb}
use lib.Dec.{eqb}
use lib.ListN.{length, get_or, take, drop}
use lib.Seq.{get_or-append-add, drop-cons}
use Rattle.word.specs.LittleEndian.{half_at, word_at}
use Rattle.saved_bytes.specs.Numbers.{bytes_of, halves_of, halves_from, words_from}
use Rattle.saved_bytes.specs.Numbers.{same_of}

-- each number of a list is below n: one after the other, and by its index
abbrev pub Under : ℕ → List ℕ → Type 0
Under n [] = Unit
Under n (x ∷ xs) = (x < n) × Under n xs

pub under : (n : ℕ) (xs : List ℕ) → ((k : ℕ) → get_or xs k 0 < n) → Under n xs
under n [] h = tt
under n (x ∷ xs) h = (h 0, under n xs (λ k. h (suc k)))

-- what is read behind a list does not see it
half-shift : (pre ys : List ℕ) (a : ℕ) → half_at (pre ++ ys) (length pre + a) ≡ half_at ys a
half-shift pre ys a =
    let e : length pre + a + 1 ≡ length pre + (a + 1) = omega arith in
    rw (e, get_or-append-add pre ys a 0, get_or-append-add pre ys (a + 1) 0)

halves-shift : (pre ys : List ℕ) (a n : ℕ) → halves_from (pre ++ ys) (length pre + a) n ≡ halves_from ys a n
unfolding halves_from
halves-shift pre ys a zero = refl
halves-shift pre ys a (suc n) =
    let e : length pre + a + 2 ≡ length pre + (a + 2) = omega arith in
    rw (half-shift pre ys a, e, halves-shift pre ys (a + 2) n)

words-shift : (pre ys : List ℕ) (a n : ℕ) → words_from (pre ++ ys) (length pre + a) n ≡ words_from ys a n
unfolding words_from
words-shift pre ys a zero = refl
words-shift pre ys a (suc n) =
    let e : length pre + a + 4 ≡ length pre + (a + 4) = omega arith in
    let f : length pre + a + 2 ≡ length pre + (a + 2) = omega arith in
    rw (half-shift pre ys a, f, half-shift pre ys (a + 2), e, words-shift pre ys (a + 4) n)

-- halfwords are read back
half-joined : (h : ℕ) → h < 65536 → h % 256 + 256 * (h / 256 % 256) ≡ h
half-joined h l = omega arith

halves-first : (hs post : List ℕ) → Under 65536 hs → halves_from (bytes_of hs ++ post) 0 (length hs) ≡ hs
unfolding bytes_of halves_from
halves-first [] post u = refl
halves-first (h ∷ hs) post u =
    rw (
      half-joined h u.0,
      halves-shift (h % 256 ∷ h / 256 % 256 ∷ []) (bytes_of hs ++ post) 0 (length hs),
      halves-first hs post u.1,
    )

pub halves-back : (n : ℕ) (pre hs post : List ℕ) → length pre ≡ n → Under 65536 hs → halves_from (pre ++ (bytes_of hs ++ post)) n (length hs) ≡ hs
halves-back n pre hs post e u =
    let f : n ≡ length pre + 0 = omega arith in
    rw f (halves-shift pre (bytes_of hs ++ post) 0 (length hs) ∙ halves-first hs post u)

-- and so are words
pub word-joined : (w : ℕ) → w < 2 ^ 32
    → w % 65536 % 256 + 256 * (w % 65536 / 256 % 256) + 65536 * (w / 65536 % 256 + 256 * (w / 65536 / 256 % 256)) ≡ w
word-joined w l =
    let a : w % 65536 < 65536 = omega arith in
    let b : w / 65536 < 65536 = omega arith in
    rw (half-joined (w % 65536) a, half-joined (w / 65536) b) (omega arith)

words-first : (ws post : List ℕ) → Under (2 ^ 32) ws → words_from (bytes_of (halves_of ws) ++ post) 0 (length ws) ≡ ws
unfolding bytes_of halves_of words_from
words-first [] post u = refl
words-first (w ∷ ws) post u =
    rw (
      word-joined w u.0,
      words-shift (w % 65536 % 256 ∷ w % 65536 / 256 % 256 ∷ w / 65536 % 256 ∷ w / 65536 / 256 % 256 ∷ []) (bytes_of (halves_of ws) ++ post) 0 (length ws),
      words-first ws post u.1,
    )

pub words_back : (n : ℕ) (pre ws post : List ℕ) → length pre ≡ n → Under (2 ^ 32) ws → words_from (pre ++ (bytes_of (halves_of ws) ++ post)) n (length ws) ≡ ws
words_back n pre ws post e u =
    let f : n ≡ length pre + 0 = omega arith in
    rw f (words-shift pre (bytes_of (halves_of ws) ++ post) 0 (length ws) ∙ words-first ws post u)

-- a list is the same as itself, and two that are the same are equal
pub same_self : (xs : List ℕ) → same_of xs xs ≡ true
same_self [] = refl
same_self (x ∷ xs) = simp (eq-eqb x x refl) (same_self xs)

pub same-equal : (xs ys : List ℕ) → same_of xs ys ≡ true → xs ≡ ys
same-equal [] [] e = refl
same-equal [] (y ∷ ys) e = let z : ◌≡◌ {A = ℕ} 0 1 = cc in absurd (omega arith)
same-equal (x ∷ xs) [] e = let z : ◌≡◌ {A = ℕ} 0 1 = cc in absurd (omega arith)
same-equal (x ∷ xs) (y ∷ ys) e = step (same-equal xs ys) (eqb x y) refl
  where
    step : (same_of xs ys ≡ true → xs ≡ ys) → (t : Bool) → eqb x y ≡ t → x ∷ xs ≡ y ∷ ys
    step tail true p =
        let f : same_of xs ys ≡ true = rw p at e in
        let a = eqb-true x y p in
        let b = tail f in
        cc
    step tail false p =
        let f : false ≡ true = rw p at e in
        let z : ◌≡◌ {A = ℕ} 0 1 = cc in
        absurd (omega arith)

-- bytes that were read are written again
module _ (xs : List ℕ) (bytes : (k : ℕ) → get_or xs k 0 < 256) where
  half-split : (a : ℕ) → (half_at xs a % 256 ≡ get_or xs a 0) × (half_at xs a / 256 % 256 ≡ get_or xs (a + 1) 0)
  half-split a = (omega (arith, bytes a, bytes (a + 1)), omega (arith, bytes a, bytes (a + 1)))

  pub halves-again : (n a : ℕ) → a + 2 * n ≤ length xs → bytes_of (halves_from xs a n) ≡ take (2 * n) (drop a xs)
  unfolding bytes_of halves_from
  halves-again zero a h = refl
  halves-again (suc n) a h =
      let e : 2 * suc n ≡ suc (suc (2 * n)) = omega arith in
      let i : a + 1 ≡ suc a = omega arith in
      let j : a + 2 ≡ suc (suc a) = omega arith in
      rw (e, (half-split a).0, (half-split a).1, halves-again n (a + 2) (omega arith), i, j, drop-cons xs a 0 (omega arith), drop-cons xs (suc a) 0 (omega arith))

  half-small : (a : ℕ) → half_at xs a < 65536
  half-small a = omega (arith, bytes a, bytes (a + 1))

  word_split : (a : ℕ) → (word_at xs a % 65536 ≡ half_at xs a) × (word_at xs a / 65536 ≡ half_at xs (a + 2))
  word_split a = (omega (arith, half-small a), omega (arith, half-small a))

  pub words-again : (n a : ℕ) → halves_of (words_from xs a n) ≡ halves_from xs a (2 * n)
  unfolding halves_of words_from halves_from
  words-again zero a = refl
  words-again (suc n) a =
      let e : 2 * suc n ≡ suc (suc (2 * n)) = omega arith in
      let f : a + 4 ≡ a + 2 + 2 = omega arith in
      rw (e, (word_split a).0, (word_split a).1, words-again n (a + 4), f)
