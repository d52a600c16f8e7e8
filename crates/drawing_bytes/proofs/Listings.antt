-- Addresses written into the output buffer one list after the other, and what is left of a whole list while it is written.
-- Assumes nothing.
use Prim.Native.Nat.{ℕ, suc, ◌+◌}
use native.Mathlib.Nat.{add-zero, add-suc, suc-add}
use native.Mathlib.Omega.{arith}
use mathlib.Core.List.{List, [], ◌∷◌, ◌++◌}
use mathlib.Core.Path.{◌≡◌, refl, sym, ap, ◌∙◌}
use lib.ListN.{length, take, drop, set, length-append}
use lib.Seq.{sets, drop-nil, length-sets}
use Rattle.drawing_bytes.specs.inner.Output.{Listing}

-- one list after the other
sets-append : (xs ys l : List ℕ) (i : ℕ) → sets (sets l i xs) (i + length xs) ys ≡ sets l i (xs ++ ys)
sets-append [] ys l i = ap (λ (k : ℕ). sets l k ys) (add-zero i)
sets-append (a ∷ xs) ys l i =
    ap (λ (k : ℕ). sets (sets (set l i a) (suc i) xs) k ys) (add-suc i (length xs) ∙ sym (suc-add i (length xs)))
    ∙ sets-append xs ys (set l i a) (suc i)

pub listing_none : (n : ℕ) (a : List ℕ) → Listing n [] n a a
listing_none n a = record { count = sym (add-zero n); words = refl }

pub listing-more : (n r s : ℕ) (xs ys a b c : List ℕ) → Listing n xs r a b → Listing r ys s b c → Listing n (xs ++ ys) s a c
listing-more n r s xs ys a b c p q =
    record {
      count = omega (arith, p.count, q.count, length-append xs ys);
      words = q.words ∙ (ap (λ (k : ℕ). sets b k ys) p.count ∙ (ap (λ (l : List ℕ). sets l (n + length xs) ys) p.words ∙ sets-append xs ys a n));
    }

pub listing-as : (n r : ℕ) (xs ys a b : List ℕ) → xs ≡ ys → Listing n xs r a b → Listing n ys r a b
listing-as n r xs ys a b e p = rw (← e) p

-- a list from the buffer's first word on
sets-cons : (x : ℕ) (l : List ℕ) (i : ℕ) (vs : List ℕ) → sets (x ∷ l) (suc i) vs ≡ x ∷ sets l i vs
sets-cons x l i [] = refl
sets-cons x l i (v ∷ vs) = sets-cons x (set l i v) (suc i) vs

sets-nil : (i : ℕ) (vs : List ℕ) → sets [] i vs ≡ []
sets-nil i [] = refl
sets-nil i (v ∷ vs) = sets-nil (suc i) vs

pub sets-filled : (l vs : List ℕ) → sets l 0 vs ≡ take (length l) vs ++ drop (length vs) l
sets-filled [] vs = sets-nil 0 vs ∙ sym (drop-nil (length vs))
sets-filled (x ∷ l) [] = refl
sets-filled (x ∷ l) (v ∷ vs) = sets-cons v l 0 vs ∙ ap (λ (k : List ℕ). v ∷ k) (sets-filled l vs)

-- what is left of a list, written into the buffer now, is the whole list written into the buffer at first
pub record Left (start : ℕ) (whole : List ℕ) (n : ℕ) (rest before after : List ℕ) : Type 0 where
  pub count : n + length rest ≡ start + length whole
  pub words : sets after n rest ≡ sets before start whole

pub left-begun : (start : ℕ) (whole a : List ℕ) → Left start whole start whole a a
left-begun start whole a = record { count = refl; words = refl }

pub left-more : (start n r : ℕ) (whole xs rest all a b c : List ℕ) → all ≡ xs ++ rest → Left start whole n all a b → Listing n xs r b c
    → Left start whole r rest a c
left-more start n r whole xs rest all a b c e p q =
    let l = rw e at p.count in
    record {
      count = omega (arith, l, q.count, length-append xs rest);
      words = ap (λ (k : List ℕ). sets k r rest) q.words ∙ (ap (λ (k : ℕ). sets (sets b n xs) k rest) q.count ∙
          (sets-append xs rest b n ∙ (rw e at p.words)));
    }

pub left-done : (start n : ℕ) (whole rest a b : List ℕ) → rest ≡ [] → Left start whole n rest a b → Listing start whole n a b
left-done start n whole rest a b e p =
    let q = rw e at p.count in
    record { count = omega (arith, q); words = rw e at p.words }

-- the buffer keeps its length
pub listing-size : (n r : ℕ) (xs a b : List ℕ) → Listing n xs r a b → length b ≡ length a
listing-size n r xs a b p = ap length p.words ∙ length-sets a n xs

pub left-size : (start n : ℕ) (whole rest a b : List ℕ) → Left start whole n rest a b → length b ≡ length a
left-size start n whole rest a b p = sym (length-sets b n rest) ∙ (ap length p.words ∙ length-sets a start whole)
