-- The timer and the request lines (paper 02, W6). This copy of document 000 has no Timer section, so what a tick and a
-- write do is the project's own (docs/DECISIONS.md, T1 to T13), each choice in one definition of this crate. From the
-- papers: the timer's line is that of level 1, raised when the "timer counter reached zero" (000, "List of
-- Exceptions"); the timer advances "only when the bench tells of a tick" (02).
use Rattle.std.specs.Prelude.{ℕ, ◌-◌, eqb}
use Rattle.word.specs.Bit.{is_set, with_bit}
use Rattle.word.specs.Choose.{pick}
use Rattle.bus_timer.specs.Record.{with_lines, with_count, with_control}
use Rattle.bus_timer.specs.declared.TimerLines.{TimerLines}

-- the place of the timer's line among the lines, and those of TCR's bits
abbrev pub timer_line : ℕ
timer_line = 1

abbrev pub t_enb : ℕ
t_enb = 0

abbrev pub z_stat : ℕ
z_stat = 1

abbrev pub z_stat_clr : ℕ
z_stat_clr = 2

abbrev pub tim_z_int : ℕ
tim_z_int = 3

abbrev pub t_clk_sel : ℕ
t_clk_sel = 4

-- T9: what a tick counts down from: a count of 0 first becomes reload
unfoldable pub start_of : TimerLines → ℕ
start_of h = pick (eqb h.count 0) h.reload h.count

-- T9, T10: the count is 0: Z-Stat is set whether or not Tim-Z-Int is, and the line is raised if it is
unfoldable pub reached_zero_of : TimerLines → TimerLines
reached_zero_of h =
    with_lines (with_count (with_control h (with_bit z_stat h.control)) 0)
    (pick (is_set tim_z_int h.control) (with_bit timer_line h.lines) h.lines)

-- T9: the count after a tick: one that is not 0 becomes one less, and 0 - 1 is 0
unfoldable pub ticked_count_of : TimerLines → ℕ
ticked_count_of h = start_of h - 1

-- T9: a tick of an enabled timer
unfoldable pub counted_of : TimerLines → TimerLines
counted_of h = pick (eqb (ticked_count_of h) 0) (reached_zero_of h) (with_count h (ticked_count_of h))

-- T9: a tick; with T-Enb clear it does nothing
unfoldable pub tick_of : TimerLines → TimerLines
tick_of h = pick (is_set t_enb h.control) (counted_of h) h
