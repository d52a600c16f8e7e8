-- What a rounded result comes to, by its size in units of 2 ^ -149: 2 ^ 277 of them are 2 ^ 128, and 2 ^ 23 are 2 ^ -126.
-- Assumes nothing.
use Prim.Native.Nat.{ℕ, zero, suc, ◌+◌, ◌-◌, ◌*◌, ◌/◌, ◌%◌, ◌^◌, ◌<◌, ◌≤◌}
use mathlib.Core.Path.{◌≡◌, refl, sym, subst, ◌∙◌, ap}
use mathlib.Core.Bool.{Bool, true, false, not, cond}
use native.Mathlib.Nat.{mul_assoc, mul_comm}
use native.Mathlib.Decide.{dec_lt}
use native.Mathlib.Omega.{arith}
use borrow.Author.Tests.{lt-ltb, le-ltb}
use lib.Dec.{ltb}
use lib.IntN.{ℤ, pos}
use lib.Pow.{pow_pos}
use lib.Ieee.{Float, nan, inf, fin, binary32, up, down, odd, units, round}
use lib.Ieee.Exact.{HasValue, units_val}
use lib.Ieee.Fits.{round_is, down_pos}
use Rattle.word.specs.Choose.{pick}
use Rattle.processor_float.specs.Arithmetic.{is_tiny, settled_of}
use Rattle.processor_float.specs.declared.FloatOutcome.{FloatOutcome}
use Rattle.processor_float.specs.declared.FloatOutcome.TheVariants.{Number, Overflow}
use Rattle.processor_float_laws.specs.Rounded.{dropped_of, significand_of, rounded_of}
use Rattle.processor_float_laws.proofs.Rounds.{ltb-scaled}

module _ (s : Bool) (num den : ℕ) where
  pub round_number : rounded_of num den < 2 ^ 277 → HasValue (round binary32 s num den) s (rounded_of num den) (2 ^ 149)
  round_number h =
      subst (λ (v : Float). HasValue v s (rounded_of num den) (2 ^ 149)) (sym (round_is binary32 s num den))
      (units_val binary32 s (significand_of num den) (dropped_of num den) h)

  pub round-infinite : 2 ^ 277 ≤ rounded_of num den → round binary32 s num den ≡ inf s
  unfolding units
  round-infinite h =
      round_is binary32 s num den
      ∙ ap (λ (b : Bool). cond b (odd 25 s (significand_of num den) (dropped_of num den) 149) (inf s)) (le-ltb (rounded_of num den) (2 ^ 277) h)

not-below : (a b : ℕ) → (a < b → ⊥) → b ≤ a
not-below a b h = omega arith

tiny-value : (m r : ℕ) (e : ℤ) → m * up e * 2 ^ 149 ≡ r * down e → is_tiny m e ≡ ltb r (2 ^ 23)
tiny-value m r e h =
    sym (ltb-scaled (m * up e * 2 ^ 126) (down e) (2 ^ 23) (pow_pos 23))
    ∙ ap (λ (n : ℕ). ltb n (down e * 2 ^ 23)) (mul_assoc (m * up e) (2 ^ 126) (2 ^ 23) ∙ h)
    ∙ ap (λ (n : ℕ). ltb (r * down e) n) (mul_comm (down e) (2 ^ 23))
    ∙ ltb-scaled r (2 ^ 23) (down e) (down_pos e)

module _ (exact : Bool) where
  settled-value : (v : Float) (s : Bool) (r : ℕ) → HasValue v s r (2 ^ 149)
      → settled_of exact v ≡ pick (ltb r (2 ^ 23)) (Number (fin s 0 (pos 0)) (not exact)) (Number v false)
  unfolding settled_of
  settled-value nan s r h = absurd h
  settled-value (inf t) s r h = absurd h
  settled-value (fin t m e) s r h =
      ap (λ (b : Bool). pick b (Number (fin t 0 (pos 0)) (not exact)) (Number (fin t m e) false)) (tiny-value m r e h.1)
      ∙ ap (λ (u : Bool). pick (ltb r (2 ^ 23)) (Number (fin u 0 (pos 0)) (not exact)) (Number (fin t m e) false)) h.0

  module _ (s : Bool) (num den : ℕ) where
    overflow : 2 ^ 277 ≤ rounded_of num den → settled_of exact (round binary32 s num den) ≡ Overflow
    unfolding settled_of
    overflow h = ap (settled_of exact) (round-infinite s num den h)

    -- by the rounded size alone
    pub settled-round : settled_of exact (round binary32 s num den)
        ≡ pick (ltb (rounded_of num den) (2 ^ 277))
        (pick (ltb (rounded_of num den) (2 ^ 23)) (Number (fin s 0 (pos 0)) (not exact)) (Number (round binary32 s num den) false))
        Overflow
    settled-round =
        elim (dec_lt (rounded_of num den) (2 ^ 277)) [
          | yes h ↦ settled-value (round binary32 s num den) s (rounded_of num den) (round_number s num den h) ∙ sym
              (simp (lt-ltb (rounded_of num den) (2 ^ 277) h))
          | no h ↦
              let g : 2 ^ 277 ≤ rounded_of num den = not-below (rounded_of num den) (2 ^ 277) h in
              overflow g ∙ sym (simp (le-ltb (rounded_of num den) (2 ^ 277) g))
        ]
