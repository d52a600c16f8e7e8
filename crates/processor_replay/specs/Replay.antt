-- Replay of a recorded trace (paper 02, W10: "four little-endian words per completed step: PC before, PC after, PSW
-- after, and the sum of the 32 registers after, mod 2^32"), 16 bytes per record. Each record is compared with a step.
-- At each record the model's own refusal, missing step or turn to fatal is reported first, and then the first word that
-- differs.
use Rattle.std.specs.Prelude.{ℕ, zero, suc, ◌+◌, ◌*◌, ◌/◌, ◌%◌, ◌^◌, List, length, ◌==◌, nat_lt, slice_index, None, Some, Option}
use Rattle.word.specs.Choose.{pick}
use Rattle.word.specs.LittleEndian.{word_at}
use Rattle.bus.specs.Memory.{Memory}
use Rattle.processor_machine.specs.State.{State, Stepped, state_of}
use Rattle.processor_machine.specs.declared.Answer.{Answer}
use Rattle.processor_machine.specs.declared.Answer.TheVariants as answer
use Rattle.processor_step.specs.Step.{step_of}
use Rattle.processor_replay.specs.declared.End.{End}
use Rattle.processor_replay.specs.declared.End.TheVariants as end
use Rattle.processor_replay.specs.declared.FinishedReplay.{FinishedReplay}

-- a record of a trace
pub record Record : Type 0 where
  pub before : ℕ
  pub after : ℕ
  pub psw : ℕ
  pub sum : ℕ

abbrev pub record_with : ℕ → ℕ → ℕ → ℕ → Record
record_with before after psw sum = record { before = before; after = after; psw = psw; sum = sum }

-- how many records a trace has, and record k, counted from 0
unfoldable pub records_of : List ℕ → ℕ
records_of trace = length trace / 16

unfoldable pub record_at : List ℕ → ℕ → Record
record_at trace k =
    record_with (word_at trace (16 * k)) (word_at trace (16 * k + 4)) (word_at trace (16 * k + 8))
    (word_at trace (16 * k + 12))

-- the sum of n registers from register i on, and "the sum of the 32 registers .., mod 2^32"
abbrev pub sum_from : List ℕ → ℕ → ℕ → ℕ
sum_from regs i zero = 0
sum_from regs i (suc n) = slice_index regs i + sum_from regs (i + 1) n

unfoldable pub register_sum_of : List ℕ → ℕ
register_sum_of regs = sum_from regs 0 32 % 2 ^ 32

-- the record of a completed step, from the state before it and what it leaves
unfoldable pub record_of : State → Stepped → Record
record_of s t = record_with s.pc t.state.pc t.state.psw (register_sum_of t.state.regs)

-- the first word in which two records differ, counted from 0; 4 where none does
unfoldable pub first_difference_of : Record → Record → ℕ
first_difference_of a b =
    pick (a.before == b.before)
    (pick (a.after == b.after) (pick (a.psw == b.psw) (pick (a.sum == b.sum) 4 3) 2) 1) 0

-- what a step's answer means to a replay: what counts in a run, an accepted interrupt among it, is a completed step,
-- which has a record; "the model refused, took no step because halted or fatal, or turned fatal there" ends it
abbrev pub Progress : Type 0
Progress = Option End

abbrev pub progress_of : Answer → Progress
progress_of answer.Ended = None
progress_of (answer.Trapped cause) = None
progress_of (answer.Interrupted level) = None
progress_of (answer.TurnedFatal cause) = Some end.TurnedFatal
progress_of answer.WasHalted = Some end.WasHalted
progress_of answer.WasFatal = Some end.WasFatal
progress_of (answer.Refused n) = Some (end.Refused n)

-- what a replay gives: how it ended, the length of the longest agreeing prefix, and the machine afterwards
pub record Replay : Type 0 where
  pub end : End
  pub agreed : ℕ
  pub state : State
  pub memory : Memory

abbrev pub replay_with : End → ℕ → State → Memory → Replay
replay_with e n s m = record { end = e; agreed = n; state = s; memory = m }

-- one agreeing record more than a replay
abbrev pub one_record_more : Replay → Replay
one_record_more r = replay_with r.end (suc r.agreed) r.state r.memory

-- after a step, whose record differs first in `word`: the replay ends, the step being made; or it goes on with the rest
abbrev pub after_record : Progress → ℕ → Stepped → Replay → Replay
after_record None word t rest =
    pick (nat_lt word 4) (replay_with (end.Differed word) 0 t.state t.memory) (one_record_more rest)
after_record (Some e) word t rest = replay_with e 0 t.state t.memory

-- a replay of n records, from record k on
unfoldable pub replay_of : (n k : ℕ) (trace : List ℕ) → State → Memory → Replay
replay_of zero k trace s m = replay_with end.Agreed 0 s m
replay_of (suc n) k trace s m =
    let t = step_of s m in
    after_record (progress_of t.answer) (first_difference_of (record_at trace k) (record_of s t)) t
    (replay_of n (k + 1) trace t.state t.memory)

-- the same put together from the caller's registers and memories and what the code returns
abbrev pub replayed_by : List ℕ → List ℕ → FinishedReplay → Memory → Replay
replayed_by regs sys r m = replay_with r.end r.agreed (state_of regs sys r.pc r.psw r.mode) m
