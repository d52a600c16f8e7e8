-- A stretch of common instructions is a run of as many steps: none of these accepts an interrupt where the first does not.
use Prim.Native.Nat.{ℕ, zero, suc, ◌≤◌}
use mathlib.Core.Bool.{false}
use mathlib.Core.Path.{◌≡◌, refl, ◌∙◌}
use native.Mathlib.Numerals.{add-one}
use native.Mathlib.Omega.{arith}
use Rattle.bus.specs.Memory.{Memory}
use Rattle.processor_machine.specs.State.{State, stepped_of}
use Rattle.processor_machine.specs.declared.Answer.TheVariants.{Ended}
use Rattle.processor_step.specs.Interrupted.{accepts_in}
use Rattle.processor_step.specs.Step.{running_step_of, instruction_step_of, step_of}
use Rattle.processor_fast.specs.inner.Leads.{Stays, Leads, none, more}
use Rattle.processor.specs.inner.Follows.{Follows}
use Rattle.processor.proofs.Follows.{follows-start, follows-counted}

module _ (s₀ : State) (m₀ : Memory) (unaccepted : accepts_in s₀ m₀ ≡ false) where
  plain : (s : State) (m : Memory) → Stays s₀ m₀ s m → running_step_of s m ≡ step_of s m
  unfolding step_of instruction_step_of
  plain s m stays = rw (stays.unaccepted unaccepted, stays.mode)

  pub follows-leads : (budget n : ℕ) (s : State) (m : Memory) → n ≤ budget → Leads s₀ m₀ n s m → Follows budget s₀ m₀ n s m
  follows-leads budget zero s m h none = follows-start budget s₀ m₀
  follows-leads budget (suc n) t w h (more {s = s} {m = m} before stays e) =
      let f = follows-leads budget n s m (omega arith) before in
      rw (← add-one n) (follows-counted budget s₀ m₀ n s m f (omega arith) (stepped_of Ended t w) (e ∙ plain s m stays) refl)
