-- A fraction to the nearest whole number, by what its remainder is. Assumes nothing.
use Rattle.std.proofs.Common.{◌≡◌, ℕ, suc, ◌+◌, ◌*◌, ◌/◌, ◌%◌, ◌<◌, ◌≤◌, not, T, eqb, sym, refl, ap, ◌∙◌, subst, mod-eq_of_lt, arith, eqb→eq, leb→le}
use Prim.Native.Nat.{compare, Ordering}
use native.Mathlib.Nat.{div-eq_of_lt}
use lib.Arith.{lt_of_le-ne}
use lib.Dec.{is_le, compare_is_eq, nleb→lt, eqb_refl}
use lib.Ieee.{nearest}
use lib.Ieee.Nearest.{closest}

-- what `compare` says
abbrev Cmp : Ordering → ℕ → ℕ → Type 0
Cmp Ordering.lt a b = a < b
Cmp Ordering.eq a b = a ≡ b
Cmp Ordering.gt a b = b < a

cmp : (a b : ℕ) → Cmp (compare a b) a b
cmp a b = go (compare a b) (leb→le a b) (nleb→lt a b) (eqb→eq a b) (λ (e : a ≡ b). subst (λ (x : ℕ). T (eqb a x)) e (eqb_refl a))
  where
    go : (o : Ordering) → (T (is_le o) → a ≤ b) → (T (not (is_le o)) → b < a) → (T (compare_is_eq o) → a ≡ b) → (a ≡ b → T (compare_is_eq o)) → Cmp o a b
    go Ordering.lt h k e n = lt_of_le-ne (h tt) n
    go Ordering.eq h k e n = e tt
    go Ordering.gt h k e n = k tt

by_less : (q r b : ℕ) (o : Ordering) → Cmp o r b → r < b → nearest q o ≡ q
by_less q r b Ordering.lt c h = refl
by_less q r b Ordering.eq c h = absurd (omega arith)
by_less q r b Ordering.gt c h = absurd (omega arith)

by_equal : (q r b : ℕ) (o : Ordering) → Cmp o r b → r ≡ b → nearest q o ≡ q + q % 2
by_equal q r b Ordering.lt c h = absurd (omega arith)
by_equal q r b Ordering.eq c h = refl
by_equal q r b Ordering.gt c h = absurd (omega arith)

by-more : (q r b : ℕ) (o : Ordering) → Cmp o r b → b < r → nearest q o ≡ suc q
by-more q r b Ordering.lt c h = absurd (omega arith)
by-more q r b Ordering.eq c h = absurd (omega arith)
by-more q r b Ordering.gt c h = refl

module _ (a b : ℕ) where
  pub closest-less : a % b * 2 < b → closest a b ≡ a / b
  closest-less h = by_less (a / b) (a % b * 2) b (compare (a % b * 2) b) (cmp (a % b * 2) b) h

  pub closest-tie : a % b * 2 ≡ b → closest a b ≡ a / b + a / b % 2
  closest-tie h = by_equal (a / b) (a % b * 2) b (compare (a % b * 2) b) (cmp (a % b * 2) b) h

  pub closest-more : b < a % b * 2 → closest a b ≡ suc (a / b)
  closest-more h = by-more (a / b) (a % b * 2) b (compare (a % b * 2) b) (cmp (a % b * 2) b) h

  pub closest-none : a * 2 < b → closest a b ≡ 0
  closest-none h =
      let l : a < b = omega arith in
      let r : a % b ≡ a = mod-eq_of_lt l in
      closest-less (subst (λ (x : ℕ). x * 2 < b) (sym r) h) ∙ div-eq_of_lt l
