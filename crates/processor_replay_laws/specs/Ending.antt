-- What a replay comes to in steps, and against a run (paper 02, W10: "all agreed; the first record that differs and its
-- first wrong word, both counted from 0; or that the model refused, took no step because halted or fatal, or turned
-- fatal there"): the statements. Their proofs are `replay-ends`, `replay-steps` and `agreed-run` in proofs/Ended, Left
-- and Counted.
use Rattle.std.specs.Prelude.{ℕ, suc, ◌≤◌, ◌<◌, List, ◌⊎◌, ◌≡◌, eqb, Ok, None, Some}
use Rattle.word.specs.Choose.{pick}
use Rattle.bus.specs.Memory.{Memory}
use Rattle.processor_machine.specs.State.{State, Stepped, state_of}
use Rattle.processor_machine.specs.declared.Mode.TheVariants as mode
use Rattle.processor_step.specs.Step.{step_of}
use Rattle.processor.specs.Run.{run_of, run_with}
use Rattle.processor_laws.specs.Steps.{steps_of}
use Rattle.processor_replay.specs.Replay.{Record, record_at, record_of, progress_of, Replay, replay_of, Progress}
use Rattle.processor_replay.specs.declared.End.{End}
use Rattle.processor_replay.specs.declared.End.TheVariants.{Refused, Agreed, Differed, WasHalted, WasFatal}
use Rattle.processor_replay.specs.declared.End.TheVariants.{TurnedFatal}

-- step number i of the definition, the first being 0, and its record
abbrev pub nth_step : ℕ → State → Memory → Stepped
nth_step i s m = step_of (steps_of i s m).0 (steps_of i s m).1

abbrev pub progress_at : ℕ → State → Memory → Progress
progress_at i s m = progress_of (nth_step i s m).answer

abbrev pub step_record_at : ℕ → State → Memory → Record
step_record_at i s m = record_of (steps_of i s m).0 (nth_step i s m)

-- word w of a record, 0 to 3
abbrev pub word_of : ℕ → Record → ℕ
word_of w r = pick (eqb w 0) r.before (pick (eqb w 1) r.after (pick (eqb w 2) r.psw r.sum))

-- two records agree in the words before one, and differ in it
pub record Differs (word : ℕ) (a b : Record) : Type 0 where
  pub which : word < 4
  pub equal : (w : ℕ) → w < word → word_of w a ≡ word_of w b
  pub different : word_of word a ≡ word_of word b → ⊥

-- the step after the agreed records completes, and its record differs first in the reported word
pub record Parts (trace : List ℕ) (s : State) (m : Memory) (r : Replay) : Type 0 where
  pub word : ℕ
  pub reported : r.end ≡ Differed word
  pub completed : progress_at r.agreed s m ≡ None
  pub differs : Differs word (record_at trace r.agreed) (step_record_at r.agreed s m)

-- a replay of n records: each one before the prefix's end is that of a completed step; below n the next step answers as
-- reported, or its record differs
pub record EndsSo (n : ℕ) (trace : List ℕ) (s : State) (m : Memory) (r : Replay) : Type 0 where
  pub within : r.agreed ≤ n
  pub completed : (i : ℕ) → i < r.agreed → progress_at i s m ≡ None
  pub equal : (i : ℕ) → i < r.agreed → record_at trace i ≡ step_record_at i s m
  pub all : r.agreed ≡ n → r.end ≡ Agreed
  pub next : r.agreed < n → (progress_at r.agreed s m ≡ Some r.end) ⊎ Parts trace s m r

abbrev pub ReplayEnds : Type 0
ReplayEnds = (n : ℕ) (trace : List ℕ) (s : State) (m : Memory) → EndsSo n trace s m (replay_of n 0 trace s m)

-- state and memory after k agreed records, by how the replay ended: a differing step stays made, a turn to fatal
-- changes the mode alone
abbrev pub left_of : End → ℕ → State → Memory → State × Memory
left_of (Refused n) k s m = steps_of k s m
left_of Agreed k s m = steps_of k s m
left_of (Differed word) k s m = steps_of (suc k) s m
left_of WasHalted k s m = steps_of k s m
left_of WasFatal k s m = steps_of k s m
left_of TurnedFatal k s m =
    let u = (steps_of k s m).0 in
    (state_of u.regs u.sys u.pc u.psw mode.Fatal, (steps_of k s m).1)

abbrev pub ReplaySteps : Type 0
ReplaySteps =
    (n : ℕ) (trace : List ℕ) (s : State) (m : Memory) → let r = replay_of n 0 trace s m in
    (r.state, r.memory) ≡ left_of r.end r.agreed s m

-- an agreed replay of n records leaves what a run of budget n leaves, and that run counts n
abbrev pub AgreedRun : Type 0
AgreedRun =
    (n : ℕ) (trace : List ℕ) (s : State) (m : Memory) → let r = replay_of n 0 trace s m in
    r.end ≡ Agreed → run_of n s m ≡ run_with (Ok tt) n r.state r.memory
