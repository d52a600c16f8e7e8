-- Whether a form holds four halfwords, by the first that is not 0. Assumes nothing.
use Prim.Native.Nat.{ℕ}
use native.Mathlib.Omega.{arith}
use mathlib.Core.Bool.{true, false}
use mathlib.Core.List.{List, [], ◌∷◌}
use mathlib.Core.Path.{◌≡◌, refl, sym}
use borrow.Author.Tests.{eq-eqb, ne_eqb}
use lib.Dec.{eqb}
use lib.ListN.{length, get_or}
use Rattle.word.proofs.Choices.{pick-self}
use Rattle.saved_layout.specs.declared.Form.TheVariants.{One, Two}
use Rattle.saved.specs.Calls.{form_holds}

pub holds-any : (xs : List ℕ) → true ≡ form_holds Two xs
unfolding form_holds
holds-any xs = refl

pub holds-0 : (xs : List ℕ) → (get_or xs 0 0 ≡ 0 → ⊥) → false ≡ form_holds One xs
unfolding form_holds
holds-0 [] n = refl
holds-0 (a ∷ xs) n = simp (ne_eqb a 0 n)

pub holds-1 : (xs : List ℕ) → get_or xs 0 0 ≡ 0 → (get_or xs 1 0 ≡ 0 → ⊥) → false ≡ form_holds One xs
unfolding form_holds
holds-1 [] e n = refl
holds-1 (a ∷ []) e n = simp (eq-eqb a 0 e)
holds-1 (a ∷ b ∷ xs) e n = simp (eq-eqb a 0 e, ne_eqb b 0 n)

pub holds-2 : (xs : List ℕ) → get_or xs 0 0 ≡ 0 → get_or xs 1 0 ≡ 0 → (get_or xs 2 0 ≡ 0 → ⊥) → false ≡ form_holds One xs
unfolding form_holds
holds-2 [] e f n = refl
holds-2 (a ∷ []) e f n = simp (eq-eqb a 0 e)
holds-2 (a ∷ b ∷ []) e f n = simp (eq-eqb a 0 e, eq-eqb b 0 f)
holds-2 (a ∷ b ∷ c ∷ xs) e f n = simp (eq-eqb a 0 e, eq-eqb b 0 f, ne_eqb c 0 n)

pub holds-3 : (xs : List ℕ) → length xs ≡ 4 → get_or xs 0 0 ≡ 0 → get_or xs 1 0 ≡ 0 → get_or xs 2 0 ≡ 0 → eqb (get_or xs 3 0) 0 ≡ form_holds One xs
unfolding form_holds
holds-3 [] l e f g = absurd (omega arith)
holds-3 (a ∷ []) l e f g = absurd (omega arith)
holds-3 (a ∷ b ∷ []) l e f g = absurd (omega arith)
holds-3 (a ∷ b ∷ c ∷ []) l e f g = absurd (omega arith)
holds-3 (a ∷ b ∷ c ∷ d ∷ []) l e f g = simp (eq-eqb a 0 e, eq-eqb b 0 f, eq-eqb c 0 g) (sym (pick-self (eqb d 0)))
holds-3 (a ∷ b ∷ c ∷ d ∷ x ∷ xs) l e f g = absurd (omega arith)
