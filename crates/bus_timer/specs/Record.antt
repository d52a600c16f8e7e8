-- The record of the request lines and the timer (paper 02, W6): made, at reset, and with one field changed. A record
-- has no update syntax, so these definitions are the ones that name every field; the others name what they change.
use Rattle.std.specs.Prelude.{ℕ}
use Rattle.bus_timer.specs.declared.TimerLines.{TimerLines}

-- the record of the lines, the count, what it is reloaded with and the control bits
abbrev pub hardware_of : ℕ → ℕ → ℕ → ℕ → TimerLines
hardware_of lines count reload control =
    record { lines = lines; count = count; reload = reload; control = control }

-- "Lines and timer reset to 0"
abbrev pub reset_hardware : TimerLines
reset_hardware = hardware_of 0 0 0 0

-- with one field changed
abbrev pub with_lines : TimerLines → ℕ → TimerLines
with_lines h lines = record { lines = lines; count = h.count; reload = h.reload; control = h.control }

abbrev pub with_count : TimerLines → ℕ → TimerLines
with_count h count = record { lines = h.lines; count = count; reload = h.reload; control = h.control }

abbrev pub with_reload : TimerLines → ℕ → TimerLines
with_reload h reload = record { lines = h.lines; count = h.count; reload = reload; control = h.control }

abbrev pub with_control : TimerLines → ℕ → TimerLines
with_control h control = record { lines = h.lines; count = h.count; reload = h.reload; control = control }
