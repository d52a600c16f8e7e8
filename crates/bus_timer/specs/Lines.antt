-- What ticks and writes do to the request lines (paper 02, W6: a line is "changed only by the bench and, line 1, by the
-- Timer section's rules"; docs/DECISIONS.md, T13): the statements. Their proofs are `tick-lines`, `tick-keeps-line`,
-- `write-lines` and `write-keeps-down` in proofs/LinesLeft.
use Rattle.std.specs.Prelude.{ℕ, ◌≤◌, ◌≡◌}
use Rattle.word.specs.Bit.{bit_at}
use Rattle.bus_timer.specs.Timer.{tick_of}
use Rattle.bus_timer.specs.Ports.{port_written_of}
use Rattle.bus_timer.specs.declared.TimerLines.{TimerLines}

-- the line of level n
abbrev pub hardware_line_of : ℕ → TimerLines → ℕ
hardware_line_of n h = bit_at n h.lines

-- a tick leaves every line but the timer's, and never lowers that
abbrev pub TickLines : Type 0
TickLines = (n : ℕ) (h : TimerLines) → (n ≡ 1 → ⊥) → hardware_line_of n (tick_of h) ≡ hardware_line_of n h

abbrev pub TickKeepsLine : Type 0
TickKeepsLine = (h : TimerLines) → hardware_line_of 1 h ≤ hardware_line_of 1 (tick_of h)

-- a write leaves every line but the timer's, and never raises that
abbrev pub WriteLines : Type 0
WriteLines =
    (n : ℕ) (h : TimerLines) (o v : ℕ) → (n ≡ 1 → ⊥) → hardware_line_of n (port_written_of h o v) ≡ hardware_line_of n h

abbrev pub WriteKeepsDown : Type 0
WriteKeepsDown = (h : TimerLines) (o v : ℕ) → hardware_line_of 1 (port_written_of h o v) ≤ hardware_line_of 1 h
