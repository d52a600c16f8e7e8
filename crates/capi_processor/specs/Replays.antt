-- What the C boundary gives for a replay (include/vb.h): the refusal's number or VB_MISUSE, which comes after 1
-- to 5 and before 14, how it ended as a number, and the first wrong word where it differed.
use Rattle.std.specs.Prelude.{ℕ, List}
use Rattle.refusal.specs.Number.{number_of}
use Rattle.bus.specs.Memory.{Memory}
use Rattle.processor_replay.specs.declared.End.{End}
use Rattle.processor_replay.specs.declared.End.TheVariants.{Refused, Agreed, Differed, WasHalted, WasFatal}
use Rattle.processor_replay.specs.declared.End.TheVariants.{TurnedFatal}
use Rattle.processor_replay.specs.Calls.{Replayed, checked_replay_of}
use Rattle.capi_processor.specs.Record.{processor_in, processor_out, unless_misused}
use Rattle.capi_processor.specs.declared.record.VbProcessor.{VbProcessor}

-- the refusal: of the call, or 6, met at a record
abbrev pub end_refusal : End → ℕ
end_refusal (Refused n) = number_of n
end_refusal Agreed = 0
end_refusal (Differed word) = 0
end_refusal WasHalted = 0
end_refusal WasFatal = 0
end_refusal TurnedFatal = 0

-- VB_REPLAY_REFUSED to VB_REPLAY_TURNED_FATAL
abbrev pub end_number : End → ℕ
end_number (Refused n) = 0
end_number Agreed = 1
end_number (Differed word) = 2
end_number WasHalted = 3
end_number WasFatal = 4
end_number TurnedFatal = 5

-- the first wrong word
abbrev pub end_word : End → ℕ
end_word (Refused n) = 0
end_word Agreed = 0
end_word (Differed word) = word
end_word WasHalted = 0
end_word WasFatal = 0
end_word TurnedFatal = 0

-- what vb_replay gives
pub record ReplayAtBoundary : Type 0 where
  pub refusal : ℕ
  pub answer : ℕ
  pub agreed : ℕ
  pub word : ℕ
  pub processor : VbProcessor
  pub memory : Memory

abbrev pub replay_gives : (refusal answer agreed word : ℕ) (p : VbProcessor) (m : Memory) → ReplayAtBoundary
replay_gives refusal answer agreed word p m =
    record { refusal = refusal; answer = answer; agreed = agreed; word = word; processor = p; memory = m }

abbrev pub replay_done : Replayed → ReplayAtBoundary
replay_done r =
    replay_gives (end_refusal r.end) (end_number r.end) r.agreed (end_word r.end)
    (processor_out r.processor) r.memory

unfoldable pub replay_at : VbProcessor → Memory → List ℕ → ReplayAtBoundary
replay_at p m trace =
    unless_misused p m (λ (n : ℕ). replay_gives n 0 0 0 p m)
    (replay_done (checked_replay_of (processor_in p) m trace))
