-- The timer's registers among the addresses of region 2 (paper 02, W6): TLR, THR and TCR are bytes, and every other
-- byte there reads 0 and ignores writes. What a write leaves is the project's own, as in Timer.
use Rattle.std.specs.Prelude.{ℕ, ◌+◌, ◌*◌, ◌/◌, ◌%◌, ◌^◌, Bool, false, eqb, ltb}
use Rattle.std.specs.Int.Bits.{bit_and}
use Rattle.word.specs.Bit.{bit_at, is_set, without_bit}
use Rattle.word.specs.Choose.{pick}
use Rattle.bus_timer.specs.Record.{with_lines, with_count, with_reload, with_control}
use Rattle.bus_timer.specs.Timer.{timer_line, t_enb, z_stat, z_stat_clr}
use Rattle.bus_timer.specs.Timer.{tim_z_int, t_clk_sel}
use Rattle.bus_timer.specs.declared.TimerLines.{TimerLines}

-- T1: where the registers stand in region 2
abbrev pub tlr : ℕ
tlr = 0x18

abbrev pub thr : ℕ
thr = 0x1C

abbrev pub tcr : ℕ
tcr = 0x20

-- W6.1: where an address stands in region 2; document 000 gives the registers no mirror there
unfoldable pub hardware_offset_of : ℕ → ℕ
hardware_offset_of a = a % 2 ^ 24

-- the control bits that are stored: T-Enb, Z-Stat, Tim-Z-Int and T-Clk-Sel
abbrev pub control_mask : ℕ
control_mask = 0x1B

unfoldable pub control_bits_of : ℕ → ℕ
control_bits_of c = bit_and c control_mask

-- T2, T3: what the byte at an offset reads; bits 7 to 5 and bit 2 of TCR read 1
unfoldable pub port_byte_of : TimerLines → ℕ → ℕ
port_byte_of h o =
    pick (eqb o tlr) (h.count % 256)
    (pick (eqb o thr) (h.count / 256 % 256) (pick (eqb o tcr) (0xE4 + control_bits_of h.control) 0))

-- T4: reload with a byte written to TLR, and to THR; count becomes the whole new reload at once
abbrev pub reload_written_of : ℕ → TimerLines → TimerLines
reload_written_of reload h = with_count (with_reload h reload) reload

abbrev pub low_written_of : ℕ → ℕ → ℕ
low_written_of reload v = reload / 256 * 256 + v

abbrev pub high_written_of : ℕ → ℕ → ℕ
high_written_of reload v = reload % 256 + 256 * v

-- T5, T6: the control bits after a byte written to TCR: T-Clk-Sel, Tim-Z-Int and T-Enb are its own, Z-Stat stays unless
-- Z-Stat-Clr is set, which is never stored
unfoldable pub control_written_of : ℕ → ℕ → ℕ
control_written_of control v =
    bit_at t_enb v + bit_at tim_z_int v * 2 ^ tim_z_int + bit_at t_clk_sel v * 2 ^ t_clk_sel
    + pick (is_set z_stat_clr v) 0 (bit_at z_stat control * 2 ^ z_stat)

-- T7, T8: the lines after a byte written to TCR: the timer's is lowered if Z-Stat-Clr is set or Tim-Z-Int is clear
unfoldable pub line_after_control : ℕ → ℕ → ℕ
line_after_control lines v =
    pick (is_set z_stat_clr v) (without_bit timer_line lines) (pick (is_set tim_z_int v) lines (without_bit timer_line lines))

-- TCR with the byte v written to it; count and reload stay
unfoldable pub tcr_written_of : TimerLines → ℕ → TimerLines
tcr_written_of h v =
    with_control (with_lines h (line_after_control h.lines v)) (control_written_of h.control v)

-- the byte v written at an offset
unfoldable pub port_written_of : TimerLines → ℕ → ℕ → TimerLines
port_written_of h o v =
    pick (eqb o tlr) (reload_written_of (low_written_of h.reload v) h)
    (pick (eqb o thr) (reload_written_of (high_written_of h.reload v) h) (pick (eqb o tcr) (tcr_written_of h v) h))

-- 5, of the lines and the timer: five lines, and no control bit outside the mask
unfoldable pub hardware_ok : TimerLines → Bool
hardware_ok h = pick (ltb h.lines 32) (eqb (control_bits_of h.control) h.control) false
