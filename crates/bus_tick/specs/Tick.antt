-- What a tick's call answers, for every record: refusal 5, which changes nothing, or the tick done.
use Rattle.std.specs.Prelude.{Result, Ok, Err}
use Rattle.refusal.specs.Number.{Verdict}
use Rattle.word.specs.Choose.{pick}
use Rattle.refusal.specs.declared.Refusal as refusal
use Rattle.bus_timer.specs.Timer.{tick_of}
use Rattle.bus_timer.specs.Ports.{hardware_ok}
use Rattle.bus_timer.specs.declared.TimerLines.{TimerLines}

-- the verdict, and the record that the caller has afterwards
pub record Ticked : Type 0 where
  pub verdict : Verdict
  pub hardware : TimerLines

abbrev pub ticked_of : Verdict → TimerLines → Ticked
ticked_of verdict h = record { verdict = verdict; hardware = h }

-- the same of a call's answer: a refused caller has the record that it gave
abbrev pub ticked_from : TimerLines → Result TimerLines refusal.Refusal → Ticked
ticked_from h (Ok after) = ticked_of (Ok tt) after
ticked_from h (Err n) = ticked_of (Err n) h

unfoldable pub checked_tick_of : TimerLines → Ticked
checked_tick_of h =
    pick (hardware_ok h) (ticked_of (Ok tt) (tick_of h)) (ticked_of (Err refusal.TheVariants.State) h)
