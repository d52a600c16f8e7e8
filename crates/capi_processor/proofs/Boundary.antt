-- The boundary's definitions of a step, a run and a replay, by the number of `misuse`: misused, or what the call below
-- gives.
use Prim.Native.Nat.{ℕ}
use mathlib.Core.List.{List}
use mathlib.Core.Path.{◌≡◌, ap, ◌∙◌}
use Rattle.bus.specs.Memory.{Memory}
use Rattle.processor_undefined.specs.Reads.{none_of}
use Rattle.processor.specs.Calls.{Done, Ran, checked_step_of, checked_run_of}
use Rattle.processor.specs.declared.Processor.{Processor}
use Rattle.processor_replay.specs.Calls.{Replayed, checked_replay_of}
use Rattle.capi_processor.specs.Execution.{step_gives, step_done, step_at, run_gives, run_done, run_at}
use Rattle.capi_processor.specs.Undefined.{undefined_out}
use Rattle.capi_processor.specs.inner.Misuse.{misuse_at}
use Rattle.capi_processor.specs.Record.{processor_in}
use Rattle.capi_processor.specs.Replays.{replay_gives, replay_done, replay_at}
use Rattle.capi_processor.specs.declared.record.VbProcessor.{VbProcessor}
use Rattle.capi_processor.proofs.Misused.{mode-above, mode-within}

module _ (p : VbProcessor) (m : Memory) (n : ℕ) (e : n ≡ misuse_at p m) where
  pub step-misused : (n ≡ 0 → ⊥) → step_gives n 0 0 (undefined_out none_of) p m ≡ step_at p m
  unfolding step_at
  step-misused h = mode-above p m (λ (k : ℕ). step_gives k 0 0 (undefined_out none_of) p m) _ n e h

  pub run-misused : (budget : ℕ) → (n ≡ 0 → ⊥) → run_gives n 0 p m ≡ run_at budget p m
  unfolding run_at
  run-misused budget h = mode-above p m (λ (k : ℕ). run_gives k 0 p m) _ n e h

  pub replay-misused : (trace : List ℕ) → (n ≡ 0 → ⊥) → replay_gives n 0 0 0 p m ≡ replay_at p m trace
  unfolding replay_at
  replay-misused trace h = mode-above p m (λ (k : ℕ). replay_gives k 0 0 0 p m) _ n e h

  module _ (q : Processor) (given : q ≡ processor_in p) (h : n ≡ 0) where
    pub step-done : (d : Done) → d ≡ checked_step_of q m → step_done d ≡ step_at p m
    unfolding step_at
    step-done d f =
        ap step_done (rw given at f) ∙ mode-within p m (λ (k : ℕ). step_gives k 0 0 (undefined_out none_of) p m) _ n e h

    pub run-done : (budget : ℕ) (r : Ran) → r ≡ checked_run_of budget q m → run_done r ≡ run_at budget p m
    unfolding run_at
    run-done budget r f = ap run_done (rw given at f) ∙ mode-within p m (λ (k : ℕ). run_gives k 0 p m) _ n e h

    pub replay-done : (trace : List ℕ) (r : Replayed) → r ≡ checked_replay_of q m trace → replay_done r ≡ replay_at p m trace
    unfolding replay_at
    replay-done trace r f = ap replay_done (rw given at f) ∙ mode-within p m (λ (k : ℕ). replay_gives k 0 0 0 p m) _ n e h
