-- `replay-steps`: the statement of specs/Ending, by induction over the records left. Assumes nothing.
use Prim.Native.Nat.{ℕ, zero, suc, ◌+◌}
use mathlib.Core.Bool.{Bool, true, false}
use mathlib.Core.List.{List}
use mathlib.Core.Path.{◌≡◌, refl, ◌∙◌}
use lib.Dec.{ltb}
use Rattle.word.specs.Choose.{pick}
use Rattle.bus.specs.Memory.{Memory}
use Rattle.processor_machine.specs.State.{State}
use Rattle.processor_machine.specs.declared.Answer.{Answer}
use Rattle.processor_machine.specs.declared.Answer.TheVariants as answer
use Rattle.processor_step.specs.Step.{step_of}
use Rattle.processor_laws.specs.Steps.{steps_of}
use Rattle.processor_laws.proofs.Runs.{Leaves, step-leaves}
use Rattle.processor_replay.specs.Replay.{record_at, record_of, first_difference_of, progress_of, Replay, replay_with, one_record_more, after_record, replay_of}
use Rattle.processor_replay.specs.declared.End.{End}
use Rattle.processor_replay.specs.declared.End.TheVariants.{Refused, Agreed, Differed, WasHalted, WasFatal, TurnedFatal}
use Rattle.processor_replay_laws.specs.Ending.{left_of, ReplaySteps}

module _ (s : State) (m : Memory) where
  -- one step before the others
  left-more : (e : End) (k : ℕ) → left_of e k (step_of s m).state (step_of s m).memory ≡ left_of e (suc k) s m
  unfolding steps_of
  left-more (Refused n) k = refl
  left-more Agreed k = refl
  left-more (Differed word) k = refl
  left-more WasHalted k = refl
  left-more WasFatal k = refl
  left-more TurnedFatal k = refl

  module _ (rest : Replay) (later : (rest.state, rest.memory) ≡ left_of rest.end rest.agreed (step_of s m).state (step_of s m).memory) where
    by_word : (b : Bool) (word : ℕ) → let r = pick b (replay_with (Differed word) 0 (step_of s m).state (step_of s m).memory) (one_record_more rest) in
        (r.state, r.memory) ≡ left_of r.end r.agreed s m
    unfolding steps_of
    by_word true word = refl
    by_word false word = later ∙ left-more rest.end rest.agreed

    by_answer : (a : Answer) (word : ℕ) → Leaves a (step_of s m) s m → let r = after_record (progress_of a) word (step_of s m) rest in
        (r.state, r.memory) ≡ left_of r.end r.agreed s m
    unfolding steps_of
    by_answer answer.Ended word h = by_word (ltb word 4) word
    by_answer (answer.Trapped cause) word h = by_word (ltb word 4) word
    by_answer (answer.Interrupted level) word h = by_word (ltb word 4) word
    by_answer (answer.TurnedFatal cause) word h = rw (h.0, h.1)
    by_answer answer.WasHalted word h = rw (h.0, h.1)
    by_answer answer.WasFatal word h = rw (h.0, h.1)
    by_answer (answer.Refused n) word h = rw (h.0, h.1)

left-from : (n k : ℕ) (trace : List ℕ) (s : State) (m : Memory) → let r = replay_of n k trace s m in
    (r.state, r.memory) ≡ left_of r.end r.agreed s m
unfolding replay_of steps_of
left-from zero k trace s m = refl
left-from (suc n) k trace s m =
    let t = step_of s m in
    by_answer s m (replay_of n (k + 1) trace t.state t.memory) (left-from n (k + 1) trace t.state t.memory) t.answer
    (first_difference_of (record_at trace k) (record_of s t)) (step-leaves s m)

pub replay-steps : ReplaySteps
replay-steps n trace s m = left-from n 0 trace s m
