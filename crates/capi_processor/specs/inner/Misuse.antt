-- The number that the calls which take a processor's record answer for a mode above 2.
use Rattle.std.specs.Prelude.{ℕ}
use Rattle.bus.specs.Memory.{Memory}
use Rattle.capi_processor.specs.Record.{unless_misused}
use Rattle.capi_processor.specs.declared.record.VbProcessor.{VbProcessor}

-- VB_MISUSE or one of 1 to 5, and 0 for a mode up to 2
unfoldable pub misuse_at : VbProcessor → Memory → ℕ
misuse_at p m = unless_misused p m (λ (n : ℕ). n) 0
