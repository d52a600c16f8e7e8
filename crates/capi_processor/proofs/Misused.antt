-- The test that every call with a processor's record begins with: a definition that goes by the mode goes by `misuse_at`
-- as well, whatever it answers.
use Rattle.std.specs.Prelude.{Ok, Err}
use Rattle.refusal.specs.Number.{Verdict}
use Prim.Native.Nat.{ℕ}
use mathlib.Core.Bool.{Bool, true, false}
use mathlib.Core.Path.{◌≡◌, refl}
use native.Mathlib.Omega.{arith}
use borrow.Author.Tests.{eq-eqb, ne_eqb}
use lib.Dec.{eqb, ltb}
use Rattle.word.specs.Choose.{pick}
use Rattle.refusal.proofs.Numbers.{verdicts-apart}
use Rattle.bus.specs.Memory.{Memory}
use Rattle.processor.specs.Acceptance.{acceptance_in}
use Rattle.capi_bus.specs.Misuse.{misuse_number}
use Rattle.capi_processor.specs.inner.Misuse.{misuse_at}
use Rattle.capi_processor.specs.Record.{processor_in, unless_misused}
use Rattle.capi_processor.specs.declared.record.VbProcessor.{VbProcessor}

misuse-positive : (v : Verdict) → misuse_number v ≡ 0 → ⊥
misuse-positive (Ok tt) e = omega arith
misuse-positive (Err n) e =
    let f = verdicts-apart (Err n) (Ok tt) e in
    let z : ◌≡◌ {A = ℕ} 0 1 = cc in
    omega arith

by-test : {A : Type 0} (b : Bool) (v : Verdict) (f : ℕ → A) (d : A)
    → pick b (f (misuse_number v)) d ≡ pick (eqb (pick b (misuse_number v) 0) 0) d (f (pick b (misuse_number v) 0))
by-test true v f d = simp (ne_eqb (misuse_number v) 0 (misuse-positive v))
by-test false v f d = refl

module _ (p : VbProcessor) (m : Memory) where
  -- f makes the answer of the number, d is the answer for a mode up to 2
  by-misuse : {A : Type 0} (f : ℕ → A) (d : A)
      → unless_misused p m f d ≡ pick (eqb (misuse_at p m) 0) d (f (misuse_at p m))
  unfolding misuse_at
  by-misuse f d = by-test (ltb 2 p.mode) (acceptance_in (processor_in p) m) f d

  module _ {A : Type 0} (f : ℕ → A) (d : A) (n : ℕ) (e : n ≡ misuse_at p m) where
    pub mode-above : (n ≡ 0 → ⊥) → f n ≡ unless_misused p m f d
    mode-above h = rw (by-misuse f d, ← e) (simp (ne_eqb n 0 h))

    pub mode-within : n ≡ 0 → d ≡ unless_misused p m f d
    mode-within h = rw (by-misuse f d, ← e) (simp (eq-eqb n 0 h))
