-- What the test of the ranges says of each field, and when it holds. Assumes nothing.
use Prim.Native.Nat.{ℕ, ◌%◌, ◌<◌}
use mathlib.Core.Bool.{Bool, true, false, false≢true}
use mathlib.Core.Path.{◌≡◌}
use native.Mathlib.Decide.{ℕ_discrete}
use borrow.Author.Tests.{lt-ltb, ltb-true, eqb-true, eq-eqb, ne_eqb}
use lib.Dec.{ltb, eqb}
use Rattle.word.specs.Choose.{pick}
use Rattle.word.proofs.Choices.{pick-both}
use Rattle.processor_encode.specs.Range.{within, signed_in, even_in, system_fits}
use Rattle.processor_encode.specs.declared.Fields.{Fields}

-- each field is in its range
pub record Within (x : Fields) (reg1 reg2 condition : ℕ) (immediate : Bool) : Type 0 where
  pub first : x.reg1 < reg1
  pub second : x.reg2 < reg2
  pub third : x.condition < condition
  pub last : immediate ≡ true

both_true : (n limit : ℕ) (later : Bool) → pick (ltb n limit) later false ≡ true → (n < limit) × (later ≡ true)
both_true n limit later h =
    let b = pick-both (ltb n limit) later h in
    (ltb-true n limit b.0, b.1)

pub within-facts : (x : Fields) (reg1 reg2 condition : ℕ)
    (immediate : Bool) → within x reg1 reg2 condition immediate ≡ true → Within x reg1 reg2 condition immediate
unfolding within
within-facts x reg1 reg2 condition immediate h =
    let a = both_true x.reg1 reg1 _ h in
    let b = both_true x.reg2 reg2 _ a.1 in
    let c = both_true x.condition condition _ b.1 in
    record { first = a.0; second = b.0; third = c.0; last = c.1 }

pub within-true : (x : Fields) (reg1 reg2 condition : ℕ)
    (immediate : Bool) → Within x reg1 reg2 condition immediate → within x reg1 reg2 condition immediate ≡ true
unfolding within
within-true x reg1 reg2 condition immediate w =
    simp (lt-ltb x.reg1 reg1 w.first, lt-ltb x.reg2 reg2 w.second, lt-ltb x.condition condition w.third) w.last

pub even-facts : (half x : ℕ) → even_in half x ≡ true → (x % 2 ≡ 0) × (signed_in half x ≡ true)
unfolding even_in
even-facts half x h =
    let b = pick-both (eqb (x % 2) 0) (signed_in half x) h in
    (eqb-true (x % 2) 0 b.0, b.1)

pub even-true : (half x : ℕ) → x % 2 ≡ 0 → signed_in half x ≡ true → even_in half x ≡ true
unfolding even_in
even-true half x e h = simp (eq-eqb (x % 2) 0 e) h

pub system-facts : (x : ℕ) → system_fits x ≡ true → (x < 32) × (x ≡ 24 → ⊥)
unfolding system_fits
system-facts x h =
    elim (ℕ_discrete x 24) [
      | yes e ↦ absurd (false≢true (simp (eq-eqb x 24 e) at h))
      | no ne ↦ (ltb-true x 32 (simp (ne_eqb x 24 ne) at h), ne)
    ]

pub system-true : (x : ℕ) → x < 32 → (x ≡ 24 → ⊥) → system_fits x ≡ true
unfolding system_fits
system-true x h ne = simp (ne_eqb x 24 ne) (lt-ltb x 32 h)
