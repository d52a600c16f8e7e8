-- The boundary's definitions of a saved state, by the number of `misuse`: misused, or what the call below gives.
use Prim.Native.Nat.{ℕ}
use mathlib.Core.List.{List}
use mathlib.Core.Path.{◌≡◌, ap, ◌∙◌}
use Rattle.refusal.specs.Number.{verdict_number, Verdict}
use Rattle.bus.specs.Memory.{Memory}
use Rattle.processor.specs.declared.Processor.{Processor}
use Rattle.saved_layout.specs.declared.Form.{Form}
use Rattle.saved.specs.Calls.{write_verdict_of, written_output_of, Restored, read_back_of}
use Rattle.capi_processor.specs.inner.Misuse.{misuse_at}
use Rattle.capi_processor.specs.Record.{processor_in}
use Rattle.capi_processor.specs.declared.record.VbProcessor.{VbProcessor}
use Rattle.capi_processor.proofs.Misused.{mode-above, mode-within}
use Rattle.capi_saved.specs.States.{write_number_at, written_at, restored_gives, restored_done, read_at}

module _ (p : VbProcessor) (m : Memory) (n : ℕ) (e : n ≡ misuse_at p m) (file : List ℕ) where
  pub write-misused : (form : Form) → (n ≡ 0 → ⊥) → (n ≡ write_number_at form p m file) × (file ≡ written_at form p m file)
  unfolding write_number_at written_at
  write-misused form h = (mode-above p m (λ (k : ℕ). k) _ n e h, mode-above p m (λ (k : ℕ). file) _ n e h)

  pub read-misused : (n ≡ 0 → ⊥) → restored_gives n p m ≡ read_at p m file
  unfolding read_at
  read-misused h = mode-above p m (λ (k : ℕ). restored_gives k p m) _ n e h

  module _ (q : Processor) (given : q ≡ processor_in p) (h : n ≡ 0) where
    pub write_done : (form : Form) (v : Verdict) (after : List ℕ) → v ≡ write_verdict_of form q m file
        → after ≡ written_output_of form q m file
        → (verdict_number v ≡ write_number_at form p m file) × (after ≡ written_at form p m file)
    unfolding write_number_at written_at
    write_done form v after f g = (
      ap verdict_number (rw given at f) ∙ mode-within p m (λ (k : ℕ). k) _ n e h,
      (rw given at g) ∙ mode-within p m (λ (k : ℕ). file) _ n e h,
    )

    pub read_done : (r : Restored) → r ≡ read_back_of q m file → restored_done r ≡ read_at p m file
    unfolding read_at
    read_done r f = ap restored_done (rw given at f) ∙ mode-within p m (λ (k : ℕ). restored_gives k p m) _ n e h
