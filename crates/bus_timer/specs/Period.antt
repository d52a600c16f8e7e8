-- How the timer counts (docs/DECISIONS.md, T9 to T11): the statements. Their proofs are `period` and `clock-selection`
-- in proofs/Periods.
use Rattle.std.specs.Prelude.{ℕ, zero, suc, ◌+◌, ◌*◌, ◌^◌, ◌<◌, ◌≡◌}
use Rattle.word.specs.Bit.{bit_at, without_bit}
use Rattle.bus_timer.specs.Record.{with_control}
use Rattle.bus_timer.specs.Timer.{timer_line, t_enb, z_stat, tim_z_int, t_clk_sel}
use Rattle.bus_timer.specs.Timer.{start_of, tick_of}
use Rattle.bus_timer.specs.declared.TimerLines.{TimerLines}

-- n ticks
unfoldable pub ticks_of : ℕ → TimerLines → TimerLines
ticks_of zero h = h
ticks_of (suc n) h = ticks_of n (tick_of h)

-- Z-Stat is set first at the n-th tick, and the line is raised then where Tim-Z-Int is set; the timer stays enabled,
-- and the next tick counts down from reload again
pub record FirstZero (n : ℕ) (h : TimerLines) : Type 0 where
  pub clear_before : (k : ℕ) → k < n → bit_at z_stat (ticks_of k h).control ≡ 0
  pub lines_before : (k : ℕ) → k < n → (ticks_of k h).lines ≡ h.lines
  pub set : bit_at z_stat (ticks_of n h).control ≡ 1
  pub raised : bit_at tim_z_int h.control ≡ 1 → bit_at timer_line (ticks_of n h).lines ≡ 1
  pub enabled : bit_at t_enb (ticks_of n h).control ≡ 1
  pub again : start_of (ticks_of n h) ≡ h.reload

-- T9: reload n has period n: `start_of h` is n where count and reload are n, and where count is 0 and reload n
abbrev pub Period : Type 0
Period =
    (n : ℕ) (h : TimerLines) → 0 < n → start_of h ≡ n → bit_at t_enb h.control ≡ 1 → bit_at z_stat h.control ≡ 0
    → FirstZero n h

-- the record with another T-Clk-Sel
abbrev pub with_clock : ℕ → TimerLines → TimerLines
with_clock b h = with_control h (without_bit t_clk_sel h.control + b * 2 ^ t_clk_sel)

-- T11: T-Clk-Sel is stored and has no other effect: a tick does with either value what it does with the other
abbrev pub ClockSelection : Type 0
ClockSelection = (b : ℕ) (h : TimerLines) → b < 2 → tick_of (with_clock b h) ≡ with_clock b (tick_of h)
