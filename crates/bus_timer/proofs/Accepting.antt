-- The statements of specs/Accepted: lines below 32 and control bits within 0x1B stay so when bit 1 is set or cleared, and
-- what TCR keeps of a byte has no other bit. Assumes nothing.
use Prim.Native.Nat.{ℕ, ◌+◌, ◌-◌, ◌*◌, ◌/◌, ◌%◌, ◌^◌, ◌<◌}
use mathlib.Core.Bool.{true}
use mathlib.Core.Path.{◌≡◌, refl, sym, ◌∙◌}
use native.Mathlib.Omega.{arith}
use borrow.Author.Tests.{lt-ltb, ltb-true, eq-eqb, eqb-true}
use lib.Arith.{mod-mul}
use lib.Dec.{eqb, ltb}
use Rattle.word.specs.Bit.{bit_at, is_set, without_bit, with_bit}
use Rattle.bus_timer.specs.Record.{with_count}
use Rattle.bus_timer.specs.Timer.{t_enb, tim_z_int, t_clk_sel, z_stat, z_stat_clr, start_of, ticked_count_of, reached_zero_of, counted_of, tick_of}
use Rattle.bus_timer.specs.Ports.{tlr, thr, tcr, control_bits_of, reload_written_of, low_written_of, high_written_of}
use Rattle.bus_timer.specs.Ports.{control_written_of, tcr_written_of, port_written_of, hardware_ok}
use Rattle.bus_timer.specs.Accepted.{TickAccepted, WriteAccepted, AcceptedMeans, MeansAccepted, TickHalfwords, WriteHalfwords}
use Rattle.bus_timer.specs.declared.TimerLines.{TimerLines}
use Rattle.word.proofs.Choices.{pick-each, pick-both}
use Rattle.bus_timer.proofs.Mask.{control-sum}
use Rattle.bus_timer.proofs.LinesLeft.{tick-each, write-each}

-- what refusal 5 asks, as facts on numbers
pub record Fits (h : TimerLines) : Type 0 where
  pub lines : h.lines < 32
  pub control : control_bits_of h.control ≡ h.control

pub ok-fits : (h : TimerLines) → hardware_ok h ≡ true → Fits h
unfolding hardware_ok
ok-fits h e =
    let t = pick-both (ltb h.lines 32) (eqb (control_bits_of h.control) h.control) e in
    record { lines = ltb-true _ _ t.0; control = eqb-true _ _ t.1 }

pub fits-ok : (h : TimerLines) → Fits h → hardware_ok h ≡ true
unfolding hardware_ok
fits-ok h f = simp (lt-ltb _ _ f.lines, eq-eqb _ _ f.control)

-- four bits at their places
kept : (e z i t : ℕ) → e < 2 → z < 2 → i < 2 → t < 2 → control_bits_of (e + i * 8 + t * 16 + z * 2) ≡ e + i * 8 + t * 16 + z * 2
kept e z i t he hz hi ht = control-sum _ ∙ omega arith

two-bits : (x : ℕ) → x % 4 ≡ x % 2 + x / 2 % 2 * 2
two-bits x =
    let some : 0 < 2 = omega arith in
    omega (arith, mod-mul x {m = 2} {c = 2} some some)

sum : (c : ℕ) → c % 4 + c / 8 % 4 * 8 ≡ c → c % 4 ≡ c % 2 + c / 2 % 2 * 2 → c / 8 % 4 ≡ c / 8 % 2 + c / 8 / 2 % 2 * 2
    → c ≡ c % 2 + c / 2 % 2 * 2 + c / 8 % 2 * 8 + c / 8 / 2 % 2 * 16
sum c e low high = omega arith

set-digits : (c e z i t : ℕ) → c ≡ e + z * 2 + i * 8 + t * 16 → c / 2 % 2 ≡ z → with_bit 1 c ≡ e + i * 8 + t * 16 + 1 * 2
set-digits c e z i t sum second = omega arith

-- bit 1 of the control bits may be set
set-control : (c : ℕ) → control_bits_of c ≡ c → control_bits_of (with_bit 1 c) ≡ with_bit 1 c
set-control c e =
    let digits : with_bit 1 c ≡ c % 2 + c / 8 % 2 * 8 + c / 8 / 2 % 2 * 16 + 1 * 2 = set-digits c (c % 2) (c / 2 % 2)
    (c / 8 % 2) (c / 8 / 2 % 2) (sum c (sym (control-sum c) ∙ e) (two-bits c) (two-bits (c / 8))) refl in
    rw digits (kept (c % 2) 1 (c / 8 % 2) (c / 8 / 2 % 2) (omega arith) (omega arith) (omega arith) (omega arith))

written-control : (c v : ℕ) → control_bits_of (control_written_of c v) ≡ control_written_of c v
unfolding control_written_of
written-control c v =
    pick-each (λ z. control_bits_of (bit_at t_enb v + bit_at tim_z_int v * 2 ^ tim_z_int + bit_at t_clk_sel v * 2 ^ t_clk_sel + z) ≡
    bit_at t_enb v + bit_at tim_z_int v * 2 ^ tim_z_int + bit_at t_clk_sel v * 2 ^ t_clk_sel + z) (is_set z_stat_clr v) 0
    (bit_at z_stat c * 2 ^ z_stat)
    (kept (bit_at t_enb v) 0 (bit_at tim_z_int v) (bit_at t_clk_sel v) (omega arith) (omega arith) (omega arith) (omega arith))
    (kept (bit_at t_enb v) (bit_at z_stat c) (bit_at tim_z_int v) (bit_at t_clk_sel v) (omega arith) (omega arith) (omega arith) (omega arith))

-- what holds of the control bits as they were and with Z-Stat set holds after a tick
tick-control-each : (P : ℕ → Type 0) (h : TimerLines) → P h.control → P (with_bit z_stat h.control) → P (tick_of h).control
unfolding tick_of counted_of reached_zero_of
tick-control-each P h same set =
    pick-each (λ t. P t.control) (is_set t_enb h.control) (counted_of h) h
    (pick-each (λ t. P t.control) (eqb (ticked_count_of h) 0) (reached_zero_of h)
    (with_count h (ticked_count_of h)) set same)
    same

-- what holds of every record that a write can leave
write-record-each : (P : TimerLines → Type 0) (h : TimerLines) (o v : ℕ) → P (reload_written_of (low_written_of h.reload v) h)
    → P (reload_written_of (high_written_of h.reload v) h)
    → P (tcr_written_of h v)
    → P h
    → P (port_written_of h o v)
unfolding port_written_of
write-record-each P h o v low high control same =
    pick-each P (eqb o tlr) _ _ low (pick-each P (eqb o thr) _ _ high (pick-each P (eqb o tcr) _ _ control same))

pub tick-accepted : TickAccepted
tick-accepted h ok =
    let f = ok-fits h ok in
    let l : with_bit 1 h.lines < 32 = omega (arith, f.lines) in
    fits-ok (tick_of h)
    (record {
      lines = tick-each (λ x. x < 32) h f.lines l;
      control = tick-control-each (λ c. control_bits_of c ≡ c) h f.control (set-control h.control f.control);
    })

pub write-accepted : WriteAccepted
unfolding tcr_written_of
write-accepted h o v ok =
    let f = ok-fits h ok in
    let l : without_bit 1 h.lines < 32 = omega (arith, f.lines) in
    fits-ok (port_written_of h o v)
    (record {
      lines = write-each (λ x. x < 32) h f.lines o v l;
      control =
          write-record-each (λ t. control_bits_of t.control ≡ t.control) h o v f.control f.control
          (written-control h.control v) f.control;
    })

-- control bits are below 32
bits_small : (c : ℕ) → control_bits_of c < 2 ^ 16
bits_small c = omega (arith, control-sum c)

written_small : (c v : ℕ) → control_written_of c v < 2 ^ 16
written_small c v = rw (← written-control c v) (bits_small (control_written_of c v))

pub accepted-means : AcceptedMeans
unfolding control_bits_of
accepted-means h ok =
    let f = ok-fits h ok in
    record { five_lines = f.lines; control_bits = f.control }

pub means-accepted : MeansAccepted
unfolding control_bits_of
means-accepted h m =
    fits-ok h (record { lines = m.five_lines; control = m.control_bits })

less_one : (n x : ℕ) → x < n → x - 1 < n
less_one n x less = omega arith

-- the count after a tick is below any bound that count and reload are below
tick-count : (n : ℕ) (h : TimerLines) → 0 < n → h.count < n → h.reload < n → (tick_of h).count < n
unfolding tick_of counted_of reached_zero_of ticked_count_of start_of
tick-count n h some count reload =
    let start : start_of h < n = pick-each (λ x. x < n) (eqb h.count 0) h.reload h.count reload count in
    pick-each (λ t. t.count < n) (is_set t_enb h.control) (counted_of h) h
    (pick-each (λ t. t.count < n) (eqb (ticked_count_of h) 0) (reached_zero_of h)
    (with_count h (ticked_count_of h)) some (less_one n (start_of h) start))
    count

tick-reload : (h : TimerLines) → (tick_of h).reload ≡ h.reload
unfolding tick_of counted_of reached_zero_of
tick-reload h =
    pick-each (λ t. t.reload ≡ h.reload) (is_set t_enb h.control) (counted_of h) h
    (pick-each (λ t. t.reload ≡ h.reload) (eqb (ticked_count_of h) 0) (reached_zero_of h)
    (with_count h (ticked_count_of h)) refl refl)
    refl

pub tick-halfwords : TickHalfwords
tick-halfwords h w =
    let l : with_bit 1 h.lines < 2 ^ 16 = omega (arith, w.lines) in
    let c : with_bit 1 h.control < 2 ^ 16 = omega (arith, w.control) in
    record {
      lines = tick-each (λ x. x < 2 ^ 16) h w.lines l;
      count = tick-count (2 ^ 16) h (omega arith) w.count w.reload;
      reload = rw (tick-reload h) w.reload;
      control = tick-control-each (λ x. x < 2 ^ 16) h w.control c;
    }

pub write-halfwords : WriteHalfwords
unfolding tcr_written_of
write-halfwords h o v byte w =
    let l : without_bit 1 h.lines < 2 ^ 16 = omega (arith, w.lines) in
    let low : low_written_of h.reload v < 2 ^ 16 = omega (arith, w.reload) in
    let high : high_written_of h.reload v < 2 ^ 16 = omega (arith, w.reload) in
    record {
      lines = write-each (λ x. x < 2 ^ 16) h w.lines o v l;
      count = write-record-each (λ t. t.count < 2 ^ 16) h o v low high w.count w.count;
      reload = write-record-each (λ t. t.reload < 2 ^ 16) h o v low high w.reload w.reload;
      control = write-record-each (λ t. t.control < 2 ^ 16) h o v w.control w.control (written_small h.control v) w.control;
    }
