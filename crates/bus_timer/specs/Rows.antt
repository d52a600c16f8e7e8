-- The timer's worked rows (docs/DECISIONS.md, T1 to T10): lines, count, reload and control before and after.
use Rattle.std.specs.Prelude.{ℕ, List, [], ◌∷◌, map, ◌≡◌, refl}
use Rattle.bus_timer.specs.Record.{hardware_of, reset_hardware}
use Rattle.bus_timer.specs.Timer.{start_of, reached_zero_of, ticked_count_of, counted_of, tick_of}
use Rattle.bus_timer.specs.Ports.{tlr, tcr, control_bits_of, port_byte_of, control_written_of, line_after_control}
use Rattle.bus_timer.specs.Ports.{tcr_written_of, port_written_of}
use Rattle.bus_timer.specs.declared.TimerLines.{TimerLines}

-- a row: the record before, the byte written, the record after
pub record Row : Type 0 where
  pub before : TimerLines
  pub byte : ℕ
  pub after : TimerLines

abbrev row : TimerLines → ℕ → TimerLines → Row
row before byte after = record { before = before; byte = byte; after = after }

abbrev record_after : Row → TimerLines
record_after r = r.after

abbrev pub tick_rows : List Row
tick_rows =
    row (hardware_of 0x00 2 5 0x09) 0 (hardware_of 0x00 1 5 0x09)
    ∷ row (hardware_of 0x00 1 5 0x09) 0 (hardware_of 0x02 0 5 0x0B)
    ∷ row (hardware_of 0x02 0 5 0x0B) 0 (hardware_of 0x02 4 5 0x0B)
    ∷ row (hardware_of 0x00 1 5 0x11) 0 (hardware_of 0x00 0 5 0x13)
    ∷ row (hardware_of 0x00 0 0 0x01) 0 (hardware_of 0x00 0 0 0x03)
    ∷ row (hardware_of 0x00 0 1 0x01) 0 (hardware_of 0x00 0 1 0x03)
    ∷ row (hardware_of 0x1F 1 5 0x08) 0 (hardware_of 0x1F 1 5 0x08)
    ∷ []

pub tick-rows : map (λ (r : Row). tick_of r.before) tick_rows ≡ map record_after tick_rows
unfolding tick_of counted_of ticked_count_of reached_zero_of start_of
tick-rows = refl

-- the byte written to TCR
abbrev pub control_rows : List Row
control_rows =
    row (hardware_of 0x1F 0 5 0x0B) 0x0D (hardware_of 0x1D 0 5 0x09)
    ∷ row (hardware_of 0x02 3 5 0x0B) 0x01 (hardware_of 0x00 3 5 0x03)
    ∷ row (hardware_of 0x00 3 5 0x03) 0x09 (hardware_of 0x00 3 5 0x0B)
    ∷ row (hardware_of 0x02 3 5 0x0B) 0x0B (hardware_of 0x02 3 5 0x0B)
    ∷ row (hardware_of 0x02 3 5 0x02) 0xFF (hardware_of 0x00 3 5 0x19)
    ∷ []

pub control-rows : map (λ (r : Row). port_written_of r.before tcr r.byte) control_rows ≡ map record_after control_rows
unfolding port_written_of tcr_written_of control_written_of line_after_control
control-rows = refl

pub reload-row : port_written_of (hardware_of 0x00 7 0x1200 0x01) tlr 0x34 ≡ hardware_of 0x00 0x1234 0x1234 0x01
unfolding port_written_of
reload-row = refl

pub control-read-row : port_byte_of reset_hardware tcr ≡ 0xE4
unfolding port_byte_of control_bits_of
control-read-row = refl
