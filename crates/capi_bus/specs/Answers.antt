-- What the C boundary gives for a call's answer: paper 01's number, 0 for none, and 0 for a value that was refused.
use Rattle.std.specs.Prelude.{Result, Ok, Err}
use Rattle.refusal.specs.Number.{number_of, verdict_number}
use Rattle.refusal.specs.declared.Refusal.{Refusal}
use Rattle.bus.specs.declared.Drawing.{Drawing}
use Rattle.bus_calls.specs.declared.Reading.{Reading}
use Rattle.bus_calls.specs.declared.Stored.{Stored}
use Rattle.bus_tick.specs.Tick.{Ticked}
use Rattle.capi_bus.specs.TimerLines.{hardware_out}
use Rattle.capi_bus.specs.declared.hardware.VbHardware.{VbHardware}
use Rattle.capi_bus.specs.declared.accesses.VbDrawing.{VbDrawing}
use Rattle.capi_bus.specs.declared.accesses.VbLoaded.{VbLoaded}
use Rattle.capi_bus.specs.declared.accesses.VbStored.{VbStored}
use Rattle.capi_bus.specs.declared.ticks.VbTicked.{VbTicked}

-- the record that a boundary record stands for, and back
abbrev pub drawing_given : VbDrawing → Drawing
drawing_given d = record { regs = d.regs }

abbrev pub drawing_out : Drawing → VbDrawing
drawing_out d = record { regs = d.regs }

-- a load's answer: its refusal, its value and the mask of its undefined bytes
abbrev pub load_out : Result Reading Refusal → VbLoaded
load_out (Ok l) = record { refusal = 0; value = l.value; undefined = l.undefined }
load_out (Err n) = record { refusal = number_of n; value = 0; undefined = 0 }

-- a store's answer: its refusal and both records, which are those given where it was refused
abbrev pub store_out : VbDrawing → VbHardware → Result Stored Refusal → VbStored
store_out drawing hardware (Ok s) = record { refusal = 0; drawing = drawing_out s.drawing; hardware = hardware_out s.hardware }
store_out drawing hardware (Err n) = record { refusal = number_of n; drawing = drawing; hardware = hardware }

-- a tick's answer: its refusal, and the request lines and the timer
abbrev pub tick_out : Ticked → VbTicked
tick_out t = record { refusal = verdict_number t.verdict; hardware = hardware_out t.hardware }
