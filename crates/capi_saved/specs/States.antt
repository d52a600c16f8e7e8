-- What the C boundary gives for a saved state (include/vb.h): the papers' refusal number or VB_MISUSE, which comes
-- after 1 to 5 and before 9, 10 and 16, the output buffer or the records and memories afterwards; and for a move and a
-- salvage, which take a file and an output buffer (paper 02: "room").
use Rattle.std.specs.Prelude.{ℕ, List}
use Rattle.word.specs.Choose.{pick}
use Rattle.refusal.specs.Number.{verdict_number}
use Rattle.bus.specs.Memory.{Memory}
use Rattle.saved_layout.specs.declared.Form.{Form}
use Rattle.saved.specs.Calls.{write_verdict_of, written_output_of, Restored, read_back_of}
use Rattle.capi_processor.specs.Record.{processor_in, processor_out, unless_misused}
use Rattle.saved_salvage.specs.declared.Salvaged.{Salvaged}
use Rattle.capi_saved.specs.declared.states.VbSalvaged.{VbSalvaged}
use Rattle.capi_processor.specs.declared.record.VbProcessor.{VbProcessor}

-- what vb_write_state (form 1) and vb_write_state_2 (form 2) answer, and the output buffer afterwards
unfoldable pub write_number_at : Form → VbProcessor → Memory → List ℕ → ℕ
write_number_at form p m output =
    unless_misused p m (λ (n : ℕ). n) (verdict_number (write_verdict_of form (processor_in p) m output))

unfoldable pub written_at : Form → VbProcessor → Memory → List ℕ → List ℕ
written_at form p m output = unless_misused p m (λ (n : ℕ). output) (written_output_of form (processor_in p) m output)

-- what vb_read_state gives
pub record RestoredAtBoundary : Type 0 where
  pub refusal : ℕ
  pub processor : VbProcessor
  pub memory : Memory

abbrev pub restored_gives : ℕ → VbProcessor → Memory → RestoredAtBoundary
restored_gives refusal p m = record { refusal = refusal; processor = p; memory = m }

abbrev pub restored_done : Restored → RestoredAtBoundary
restored_done r = restored_gives (verdict_number r.verdict) (processor_out r.processor) r.memory

unfoldable pub read_at : VbProcessor → Memory → List ℕ → RestoredAtBoundary
read_at p m file =
    unless_misused p m (λ (n : ℕ). restored_gives n p m) (restored_done (read_back_of (processor_in p) m file))

-- what vb_salvage_state gives: the number, the kinds replaced, and 1 where the contents differ
unfoldable pub salvaged_at : Salvaged → VbSalvaged
salvaged_at s =
    record {
      refusal = verdict_number s.verdict;
      replaced = s.list.count;
      kinds = s.list.kinds;
      contents_differ = pick s.differ 1 0;
    }
