-- A stretch of instructions (paper 01, "Instructions"): steps of running mode, each of which ended. The mode stays, and
-- where no interrupt is accepted at its start none is accepted on the way.
use Rattle.std.specs.Prelude.{◌≡◌, ℕ, suc, ◌-◌, ◌≤◌, false, List}
use Rattle.bus.specs.Memory.{Memory}
use Rattle.processor_machine.specs.State.{State, state_of, stepped_of}
use Rattle.processor_machine.specs.declared.Answer.TheVariants.{Ended}
use Rattle.processor_machine.specs.declared.Mode.TheVariants.{Running}
use Rattle.processor_step.specs.Interrupted.{accepts_in}
use Rattle.processor_step.specs.Step.{running_step_of}
use Rattle.processor_fast.specs.declared.Rest.{Rest}

-- what stays
pub record Stays (s₀ : State) (m₀ : Memory) (s : State) (m : Memory) : Type 0 where
  pub mode : s.mode ≡ Running
  pub unaccepted : accepts_in s₀ m₀ ≡ false → accepts_in s m ≡ false

-- n instructions lead from the first machine to the last
pub data Leads (s₀ : State) (m₀ : Memory) : ℕ → State → Memory → Type 0 where
  none : Leads s₀ m₀ 0 s₀ m₀
  more :
      {n : ℕ} {s t : State} {m w : Memory} → Leads s₀ m₀ n s m → Stays s₀ m₀ s m
      → stepped_of Ended t w ≡ running_step_of s m → Leads s₀ m₀ (suc n) t w

-- what a stretch of a budget leaves
pub record Stretched (budget : ℕ) (s₀ : State) (m₀ : Memory) (n : ℕ) (s : State) (m : Memory) : Type 0 where
  pub within : n ≤ budget
  pub leads : Leads s₀ m₀ n s m
  pub stays : Stays s₀ m₀ s m

-- the same for the borrowed registers and memories and what the code returns: what is left of the budget, PC and PSW
pub record StretchedBy (budget : ℕ) (s₀ : State) (m₀ : Memory) (regs sys : List ℕ) (r : Rest) (m : Memory)
    : Type 0 where
  pub within : r.left ≤ budget
  pub stretched : Stretched budget s₀ m₀ (budget - r.left) (state_of regs sys r.pc r.psw Running) m
