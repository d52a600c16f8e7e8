-- `agreed-run`: the statement of specs/Ending, by induction over the records left. Assumes nothing.
use Rattle.std.specs.Prelude.{Ok}
use Prim.Native.Nat.{ℕ, zero, suc, ◌+◌}
use mathlib.Core.Bool.{Bool, true, false}
use mathlib.Core.List.{List}
use mathlib.Core.Path.{◌≡◌, refl}
use native.Mathlib.Omega.{arith}
use lib.Dec.{ltb}
use Rattle.word.specs.Choose.{pick}
use Rattle.bus.specs.Memory.{Memory}
use Rattle.processor_machine.specs.State.{State, Stepped}
use Rattle.processor_machine.specs.declared.Answer.{Answer}
use Rattle.processor_machine.specs.declared.Answer.TheVariants as answer
use Rattle.processor_step.specs.Step.{step_of}
use Rattle.processor.specs.Run.{Run, run_with, run_of, after_of, after_step}
use Rattle.processor_replay.specs.Replay.{record_at, record_of, first_difference_of, progress_of, Replay, replay_with, one_record_more, after_record, replay_of}
use Rattle.processor_replay.specs.declared.End.TheVariants.{Agreed, Differed}
use Rattle.processor_replay_laws.specs.Ending.{AgreedRun}

module _ (n : ℕ) (t : Stepped) (run : Run) (rest : Replay) (later : rest.end ≡ Agreed → run ≡ run_with (Ok tt) n rest.state rest.memory) where
  by_word : (b : Bool) (word : ℕ) → let r = pick b (replay_with (Differed word) 0 t.state t.memory) (one_record_more rest) in
      r.end ≡ Agreed → run_with run.verdict (suc run.count) run.state run.memory ≡ run_with (Ok tt) (suc n) r.state r.memory
  by_word true word e =
      let z : ◌≡◌ {A = ℕ} 0 1 = cc in
      absurd (omega arith)
  by_word false word e = rw (later e)

  by_answer : (a : Answer) (word : ℕ) → let r = after_record (progress_of a) word t rest in
      r.end ≡ Agreed → after_step (after_of a) t run ≡ run_with (Ok tt) (suc n) r.state r.memory
  by_answer answer.Ended word e = by_word (ltb word 4) word e
  by_answer (answer.Trapped cause) word e = by_word (ltb word 4) word e
  by_answer (answer.Interrupted level) word e = by_word (ltb word 4) word e
  by_answer (answer.TurnedFatal cause) word e =
      let z : ◌≡◌ {A = ℕ} 0 1 = cc in
      absurd (omega arith)
  by_answer answer.WasHalted word e =
      let z : ◌≡◌ {A = ℕ} 0 1 = cc in
      absurd (omega arith)
  by_answer answer.WasFatal word e =
      let z : ◌≡◌ {A = ℕ} 0 1 = cc in
      absurd (omega arith)
  by_answer (answer.Refused n) word e =
      let z : ◌≡◌ {A = ℕ} 0 1 = cc in
      absurd (omega arith)

run-from : (n k : ℕ) (trace : List ℕ) (s : State) (m : Memory) → let r = replay_of n k trace s m in
    r.end ≡ Agreed → run_of n s m ≡ run_with (Ok tt) n r.state r.memory
unfolding replay_of run_of
run-from zero k trace s m e = refl
run-from (suc n) k trace s m e =
    let t = step_of s m in
    by_answer n t (run_of n t.state t.memory) (replay_of n (k + 1) trace t.state t.memory) (run-from n
    (k + 1) trace t.state t.memory) t.answer
    (first_difference_of (record_at trace k) (record_of s t)) e

pub agreed-run : AgreedRun
agreed-run n trace s m e = run-from n 0 trace s m e
