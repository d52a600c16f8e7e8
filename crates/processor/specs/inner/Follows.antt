-- A run in the middle: what is left of the budget, run from here, is what the whole budget gives from the start, with
-- the count so far added.
use Rattle.std.specs.Prelude.{ℕ, ◌+◌, ◌≤◌, ◌≡◌}
use Rattle.bus.specs.Memory.{Memory}
use Rattle.processor_machine.specs.State.{State}
use Rattle.processor.specs.Run.{Run, run_with, run_of}

-- a run with n instructions before it
abbrev pub later : ℕ → Run → Run
later n r = run_with r.verdict (n + r.count) r.state r.memory

pub record Follows (budget : ℕ) (s₀ : State) (m₀ : Memory) (n : ℕ) (s : State) (m : Memory) : Type 0 where
  pub within : n ≤ budget
  pub rest : (k : ℕ) → k + n ≡ budget → run_of budget s₀ m₀ ≡ later n (run_of k s m)
