-- The probe's ranges by comparisons. Assumes nothing.
use Prim.Native.Nat.{ℕ, ◌/◌, ◌<◌, ◌≤◌}
use mathlib.Core.Bool.{Bool, true, false, ◌&&◌, ◌||◌, false≢true}
use mathlib.Core.Logic.{◌⊎◌, inl, inr, ⊎_elim}
use mathlib.Core.Path.{◌≡◌, refl}
use lib.Dec.{leb, ltb}
use native.Mathlib.Omega.{arith}
use borrow.Author.Tests.{lt-ltb, le-ltb, le-leb, lt-leb, leb-true, ltb-true}
use Rattle.bus_probe.specs.Probe.{in_ranges_of}

module _ (i : ℕ) where
  pub before-characters : i < 0x1E000 → in_ranges_of i ≡ false
  unfolding in_ranges_of
  before-characters h =
      let g : i < 0x38000 = omega arith in
      simp (lt-leb 0x1E000 i h, lt-leb 0x38000 i g)

  pub in-characters : 0x1E000 ≤ i → i < 0x20000 → in_ranges_of i ≡ true
  unfolding in_ranges_of
  in-characters l h = simp (le-leb 0x1E000 i l, lt-ltb i 0x20000 h)

  pub before-maps : 0x20000 ≤ i → i < 0x38000 → in_ranges_of i ≡ false
  unfolding in_ranges_of
  before-maps l h =
      let g : 0x1E000 ≤ i = omega arith in
      simp (le-leb 0x1E000 i g, le-ltb i 0x20000 l, lt-leb 0x38000 i h)

  pub from-maps : 0x38000 ≤ i → in_ranges_of i ≡ ltb i 0x3C000
  unfolding in_ranges_of
  from-maps l =
      let g : 0x1E000 ≤ i = omega arith in
      let k : 0x20000 ≤ i = omega arith in
      simp (le-leb 0x1E000 i g, le-ltb i 0x20000 k, le-leb 0x38000 i l)

  pub past-maps : 0x3C000 ≤ i → in_ranges_of i ≡ false
  past-maps l = rw (from-maps (omega arith)) (le-ltb i 0x3C000 l)

  -- what it means to be in one of them
  pub in-ranges : in_ranges_of i ≡ true
      → ((0x1E000 ≤ i) × (i < 0x20000)) ⊎ ((0x38000 ≤ i) × (i < 0x3C000))
  unfolding in_ranges_of
  in-ranges e = go (leb 0x1E000 i) (ltb i 0x20000) (leb 0x38000 i) (ltb i 0x3C000) refl refl refl refl e
    where
      go : (p q r s : Bool) → leb 0x1E000 i ≡ p → ltb i 0x20000 ≡ q → leb 0x38000 i ≡ r → ltb i 0x3C000 ≡ s
          → ((p && q) || (r && s)) ≡ true
          → ((0x1E000 ≤ i) × (i < 0x20000)) ⊎ ((0x38000 ≤ i) × (i < 0x3C000))
      go true true r s a b c d e = inl (leb-true 0x1E000 i a, ltb-true i 0x20000 b)
      go true false true true a b c d e = inr (leb-true 0x38000 i c, ltb-true i 0x3C000 d)
      go false q true true a b c d e = inr (leb-true 0x38000 i c, ltb-true i 0x3C000 d)
      go true false false s a b c d e = absurd (false≢true e)
      go true false true false a b c d e = absurd (false≢true e)
      go false q false s a b c d e = absurd (false≢true e)
      go false q true false a b c d e = absurd (false≢true e)

-- the ranges hold whole words
pub same_word : (i b : ℕ) → b / 4 ≡ i / 4 → in_ranges_of i ≡ true → in_ranges_of b ≡ true
same_word i b w e =
    ⊎_elim (λ c. in-characters b (omega arith) (omega arith))
    (λ c. rw (from-maps b (omega arith)) (lt-ltb b 0x3C000 (omega arith))) (in-ranges i e)
