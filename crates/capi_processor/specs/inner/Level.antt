-- The level of a step's answer: the code of an interrupt is computed from it without overflow.
use Rattle.std.specs.Prelude.{ℕ}
use Rattle.processor_machine.specs.declared.Answer.{Answer}
use Rattle.processor_machine.specs.declared.Answer.TheVariants.{Ended, Trapped, Interrupted, TurnedFatal, WasHalted}
use Rattle.processor_machine.specs.declared.Answer.TheVariants.{WasFatal, Refused}

-- 0 where no interrupt was accepted
abbrev pub answer_level : Answer → ℕ
answer_level Ended = 0
answer_level (Trapped cause) = 0
answer_level (Interrupted level) = level
answer_level (TurnedFatal cause) = 0
answer_level WasHalted = 0
answer_level WasFatal = 0
answer_level (Refused n) = 0
