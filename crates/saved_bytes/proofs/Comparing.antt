-- The loops that compare, of bytes and of halfwords: what is left to compare decides. Assumes nothing.
use Prim.Native.Nat.{ℕ, suc, ◌+◌, ◌<◌}
use native.Mathlib.Omega.{arith}
use mathlib.Core.Bool.{true, false}
use mathlib.Core.List.{List, ◌∷◌}
use mathlib.Core.Path.{◌≡◌, sym, ap, ◌∙◌}
use borrow.Author.Tests.{eq-eqb, ne_eqb}
use lib.ListN.{length, get_or, drop}
use lib.Seq.{drop-cons, drop-length}
use Rattle.saved_bytes.specs.Numbers.{same_of}

abbrev pub Left : List ℕ → List ℕ → ℕ → Type 0
Left a b k = same_of a b ≡ same_of (drop k a) (drop k b)

module _ (a b : List ℕ) (k : ℕ) (few : k < length a) (alike : length a ≡ length b) where
  step : same_of (drop k a) (drop k b) ≡ same_of (get_or a k 0 ∷ drop (suc k) a) (get_or b k 0 ∷ drop (suc k) b)
  step = rw (drop-cons a k 0 few, drop-cons b k 0 (omega arith))

  pub left-more : Left a b k → get_or a k 0 ≡ get_or b k 0 → Left a b (k + 1)
  left-more l e =
      let m : k + 1 ≡ suc k = omega arith in
      l ∙ (step ∙ simp (eq-eqb _ _ e) (rw m))

  pub left-differs : Left a b k → (get_or a k 0 ≡ get_or b k 0 → ⊥) → false ≡ same_of a b
  left-differs l n = sym (l ∙ (step ∙ simp (ne_eqb _ _ n)))

pub left-none : (a b : List ℕ) → length a ≡ length b → Left a b (length a) → true ≡ same_of a b
left-none a b e l = sym (l ∙ (ap (λ (n : ℕ). same_of (drop (length a) a) (drop n b)) e ∙ simp (drop-length a, drop-length b)))
