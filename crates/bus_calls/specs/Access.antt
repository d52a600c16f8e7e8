-- What the bus's public calls answer, for every input: the refusal, or the access done. A refusal changes nothing.
use Rattle.refusal.specs.Number.{Verdict}
use Rattle.refusal.specs.declared.Refusal.{Refusal}
use Rattle.std.specs.Prelude.{ℕ, Result, Ok, Err}
use Rattle.bus.specs.Memory.{Memory, verdict_of, load_of}
use Rattle.bus.specs.declared.Drawing.{Drawing}
use Rattle.bus_timer.specs.declared.TimerLines.{TimerLines}
use Rattle.bus_defined.specs.Defined.{undefined_of}
use Rattle.bus_calls.specs.declared.Reading.{Reading}
use Rattle.bus_calls.specs.declared.Stored.{Stored}

-- a load's answer: the value and the mask of its undefined bytes, unless refused
abbrev pub answer_when : Verdict → ℕ → ℕ → Result Reading Refusal
answer_when (Ok tt) v u = Ok (record { value = v; undefined = u })
answer_when (Err n) v u = Err n

-- the memory afterwards: the second unless refused
abbrev pub memory_when : Verdict → Memory → Memory → Memory
memory_when (Ok tt) before after = after
memory_when (Err n) before after = before

-- the answer of a checked load of `size` bytes
unfoldable pub checked_load_of : Memory → ℕ → ℕ → Result Reading Refusal
checked_load_of m size a = answer_when (verdict_of m) (load_of m size a) (undefined_of m size a)

-- the memory after a checked store that leaves `after` where it is accepted
unfoldable pub checked_store_of : Memory → Memory → Memory
checked_store_of m after = memory_when (verdict_of m) m after

-- the verdict of a store's answer, and the records that the caller has afterwards: those that it gave where it is refused
abbrev pub verdict_in : Result Stored Refusal → Verdict
verdict_in (Ok s) = Ok tt
verdict_in (Err n) = Err n

abbrev pub left_by : Drawing → TimerLines → Result Stored Refusal → Stored
left_by drawing hardware (Ok s) = s
left_by drawing hardware (Err n) = record { drawing = drawing; hardware = hardware }
