-- The request lines and the timer at the C boundary (include/vb.h, `vb_hardware`): the same halfwords.
use Rattle.bus_timer.specs.declared.TimerLines.{TimerLines}
use Rattle.capi_bus.specs.declared.hardware.VbHardware.{VbHardware}

-- the record that a boundary record stands for, and back
abbrev pub hardware_given : VbHardware → TimerLines
hardware_given h = record { lines = h.lines; count = h.count; reload = h.reload; control = h.control }

abbrev pub hardware_out : TimerLines → VbHardware
hardware_out h = record { lines = h.lines; count = h.count; reload = h.reload; control = h.control }
