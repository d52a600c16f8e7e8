-- The turns of a run: each law is what follows a stretch of common instructions, or one step.
use Rattle.std.specs.Prelude.{Ok, None, Some}
use Rattle.refusal.specs.Number.{Verdict}
use Prim.Native.Nat.{ℕ, suc, ◌+◌, ◌-◌, ◌≤◌, ◌<◌}
use mathlib.Core.Path.{◌≡◌, sym, ap, ◌∙◌}
use native.Mathlib.Nat.{zero-add}
use native.Mathlib.Omega.{arith}
use Rattle.bus.specs.Memory.{Memory}
use Rattle.processor_machine.specs.State.{State, Stepped}
use Rattle.processor_step.specs.Step.{step_of}
use Rattle.processor.specs.Run.{Run, run_with, after_of, after_step, one_more, run_of}
use Rattle.processor.specs.inner.Follows.{later, Follows}

later-none : (r : Run) → r ≡ later 0 r
later-none r = rw zero-add

later_more : (n : ℕ) (r : Run) → later n (one_more r) ≡ later (n + 1) r
later_more n r =
    let e : n + suc r.count ≡ n + 1 + r.count = omega arith in
    rw e

later-later : (n k : ℕ) (r : Run) → later n (later k r) ≡ later (n + k) r
later-later n k r =
    let e : n + (k + r.count) ≡ n + k + r.count = omega arith in
    rw e

pub follows-start : (budget : ℕ) (s : State) (m : Memory) → Follows budget s m 0 s m
follows-start budget s m = record { within = omega arith; rest = λ k e. let f : k ≡ budget = omega arith in rw f (later-none (run_of budget s m)) }

module _ (budget : ℕ) (s₀ : State) (m₀ : Memory) (n : ℕ) (s : State) (m : Memory) (before : Follows budget s₀ m₀ n s m) where
  -- the definition's next step
  turn : n < budget → (t : Stepped) → t ≡ step_of s m → (k : ℕ) → suc k + n ≡ budget → run_of budget s₀ m₀ ≡ later n
      (after_step (after_of t.answer) t (run_of k t.state t.memory))
  unfolding run_of
  turn h t e k f = rw e (before.rest (suc k) f)

  pub follows-counted : n < budget → (t : Stepped) → t ≡ step_of s m → after_of t.answer ≡ None → Follows budget s₀ m₀ (n + 1) t.state t.memory
  follows-counted h t e a =
      record {
        within = omega arith;
        rest =
            λ k f.
            let g : suc k + n ≡ budget = omega arith in
            (rw a at (turn h t e k g)) ∙ later_more n (run_of k t.state t.memory);
      }

  -- what follows a run of the rest of the budget follows the whole
  pub follows_on : (left k : ℕ) (t : State) (w : Memory) → left + n ≡ budget → Follows left s m k t w → Follows budget s₀ m₀ (n + k) t w
  follows_on left k t w e after =
      let i = after.within in
      record {
        within = omega arith;
        rest =
            λ j f.
            let g : j + k ≡ left = omega arith in
            before.rest left e ∙ ap (λ (r : Run). later n r) (after.rest j g) ∙ later-later n k (run_of j t w);
      }

  pub follows-stopped : n < budget → (t : Stepped) (v : Verdict) → t ≡ step_of s m → after_of
      t.answer ≡ Some v → run_with v n t.state t.memory ≡ run_of budget s₀ m₀
  follows-stopped h t v e a =
      let g : suc (budget - suc n) + n ≡ budget = omega arith in
      let z : n + 0 ≡ n = omega arith in
      sym (rw z at (rw a at (turn h t e (budget - suc n) g)))

  pub follows-finished : budget ≤ n → run_with (Ok tt) n s m ≡ run_of budget s₀ m₀
  unfolding run_of
  follows-finished h =
      let i = before.within in
      let g : 0 + n ≡ budget = omega arith in
      let z : n + 0 ≡ n = omega arith in
      sym (rw z at (before.rest 0 g))
