-- What a replay's call answers, for every input (paper 02, W10): refusals 1 to 5, then 14, which change nothing and
-- come before any step; then the replay, whose own refusal is 6, met at a record.
use Rattle.std.specs.Prelude.{ℕ, ◌%◌, Bool, List, length, ◌==◌, Ok, Err}
use Rattle.refusal.specs.Number.{unless, then_of, Verdict}
use Rattle.refusal.specs.declared.Refusal.TheVariants.{TraceLength}
use Rattle.bus.specs.Memory.{Memory}
use Rattle.processor.specs.Record.{state_in, processor_of}
use Rattle.processor.specs.Lines.{bus_of, lent_of}
use Rattle.processor.specs.Acceptance.{acceptance_in}
use Rattle.processor.specs.declared.Processor.{Processor}
use Rattle.processor_replay.specs.declared.End.{End}
use Rattle.processor_replay.specs.declared.End.TheVariants.{Refused}
use Rattle.processor_replay.specs.Replay.{records_of, replay_of}

-- 14: not "the trace length isn't a multiple of 16"
abbrev pub trace_ok : List ℕ → Bool
trace_ok trace = length trace % 16 == 0

unfoldable pub replay_verdict_of : Processor → Memory → List ℕ → Verdict
replay_verdict_of p m trace =
    then_of (acceptance_in p m) (unless (trace_ok trace) TraceLength (Ok tt))

-- what the call gives
pub record Replayed : Type 0 where
  pub end : End
  pub agreed : ℕ
  pub processor : Processor
  pub memory : Memory

abbrev pub replayed_of : End → ℕ → Processor → Memory → Replayed
replayed_of e n p m = record { end = e; agreed = n; processor = p; memory = m }

-- a replay of every record from the first on, unless refused
abbrev pub replay_when : Verdict → Processor → Memory → List ℕ → Replayed
replay_when (Ok tt) p m trace =
    let r = replay_of (records_of trace) 0 trace (state_in p) (bus_of p m) in
    replayed_of r.end r.agreed (processor_of r.state r.memory.regs) (lent_of r.memory)
replay_when (Err n) p m trace = replayed_of (Refused n) 0 p m

unfoldable pub checked_replay_of : Processor → Memory → List ℕ → Replayed
checked_replay_of p m trace = replay_when (replay_verdict_of p m trace) p m trace
