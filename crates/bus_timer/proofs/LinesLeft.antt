-- `tick-lines`, `tick-keeps-line`, `write-lines` and `write-keeps-down`: the statements of specs/Lines. A tick and a write
-- leave the lines, set bit 1 or clear it. Assumes nothing.
use Prim.Native.Nat.{ℕ, zero, suc, ◌+◌, ◌/◌, ◌^◌, ◌≤◌}
use mathlib.Core.Path.{◌≡◌, refl}
use native.Mathlib.Nat.{div-div-eq-div-mul}
use native.Mathlib.Omega.{arith}
use lib.Dec.{eqb}
use lib.Pow.{pow-add}
use Rattle.word.specs.Bit.{bit_at, is_set, without_bit, with_bit}
use Rattle.bus_timer.specs.Record.{with_count}
use Rattle.bus_timer.specs.Timer.{timer_line, t_enb, tim_z_int, z_stat_clr, ticked_count_of, reached_zero_of, counted_of, tick_of}
use Rattle.bus_timer.specs.Ports.{tlr, thr, tcr, reload_written_of, low_written_of, high_written_of, line_after_control, tcr_written_of, port_written_of}
use Rattle.bus_timer.specs.Lines.{TickLines, TickKeepsLine, WriteLines, WriteKeepsDown}
use Rattle.bus_timer.specs.declared.TimerLines.{TimerLines}
use Rattle.word.proofs.Choices.{pick-each}
use Rattle.bus_timer.proofs.Digits.{set-second, set_first, set-above, clear_second, clear_first, clear_above}

-- numbers that agree but for bit 1
record Beside (y x : ℕ) : Type 0 where
  first : bit_at 0 y ≡ bit_at 0 x
  above : y / 4 ≡ x / 4

beside_same : (x : ℕ) → Beside x x
beside_same x = record { first = refl; above = refl }

beside-set : (x : ℕ) → Beside (with_bit 1 x) x
beside-set x = record { first = set_first x; above = set-above x }

beside-clear : (x : ℕ) → Beside (without_bit 1 x) x
beside-clear x = record { first = clear_first x; above = clear_above x }

-- a bit above 1 is one of the rest
rest-bit : (n x : ℕ) → bit_at (suc (suc n)) x ≡ bit_at n (x / 4)
rest-bit n x =
    let two : suc (suc n) ≡ 2 + n = omega arith in
    rw (two, pow-add 2 2 n, div-div-eq-div-mul x 4 (2 ^ n))

beside-bit : (n y x : ℕ) → (n ≡ 1 → ⊥) → Beside y x → bit_at n y ≡ bit_at n x
beside-bit zero y x other b = b.first
beside-bit (suc zero) y x other b = absurd (other refl)
beside-bit (suc (suc n)) y x other b = rw (rest-bit n y, rest-bit n x, b.above)

-- what holds of the lines as they were and with the timer's raised holds after a tick
module _ (P : ℕ → Type 0) (h : TimerLines) (same : P h.lines) where
  abbrev pub Lined : TimerLines → Type 0
  Lined t = P t.lines

  zero-each : P (with_bit timer_line h.lines) → Lined (reached_zero_of h)
  unfolding reached_zero_of
  zero-each raised = pick-each P (is_set tim_z_int h.control) _ _ raised same

  pub tick-each : P (with_bit timer_line h.lines) → Lined (tick_of h)
  unfolding tick_of counted_of
  tick-each raised =
      pick-each Lined (is_set t_enb h.control) (counted_of h) h
      (pick-each Lined (eqb (ticked_count_of h) 0) (reached_zero_of h)
      (with_count h (ticked_count_of h)) (zero-each raised) same)
      same

  -- and with the timer's lowered, after a write
  control-each : (v : ℕ) → P (without_bit timer_line h.lines) → P (line_after_control h.lines v)
  unfolding line_after_control
  control-each v lowered =
      pick-each P (is_set z_stat_clr v) _ _ lowered (pick-each P (is_set tim_z_int v) _ _ same lowered)

  pub write-each : (o v : ℕ) → P (without_bit timer_line h.lines) → Lined (port_written_of h o v)
  unfolding port_written_of tcr_written_of
  write-each o v lowered =
      pick-each Lined (eqb o tlr) (reload_written_of (low_written_of h.reload v) h) _ same
      (pick-each Lined (eqb o thr) (reload_written_of (high_written_of h.reload v) h) _ same
      (pick-each Lined (eqb o tcr) (tcr_written_of h v) h (control-each v lowered) same))

pub tick-lines : TickLines
tick-lines n h other =
    beside-bit n _ _ other (tick-each (λ l. Beside l h.lines) h (beside_same h.lines) (beside-set h.lines))

pub tick-keeps-line : TickKeepsLine
tick-keeps-line h =
    tick-each (λ l. bit_at 1 h.lines ≤ bit_at 1 l) h (omega arith) (omega (arith, set-second h.lines))

pub write-lines : WriteLines
write-lines n h o v other =
    beside-bit n _ _ other
    (write-each (λ l. Beside l h.lines) h (beside_same h.lines) o v (beside-clear h.lines))

pub write-keeps-down : WriteKeepsDown
write-keeps-down h o v =
    write-each (λ l. bit_at 1 l ≤ bit_at 1 h.lines) h (omega arith) o v (omega (arith, clear_second h.lines))
