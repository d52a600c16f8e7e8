-- What stores do in region 2 and to the request lines (paper 02, W6; docs/DECISIONS.md, T4 to T8, T13, W6.1 to W6.3):
-- the statements. Their proofs are `tlr-stores`, `thr-stores`, `tcr-stores`, `rest-stores`, `half-stores`,
-- `word-stores` and `timed-hardware` in proofs/Writings, `lines-kept` and `line-never-rises` in proofs/LinesKept,
-- `stored-elsewhere` in proofs/Elsewhere. A memory's registers are the bus's list of device registers.
use Rattle.std.specs.Prelude.{ℕ, ◌%◌, ◌^◌, ◌<◌, ◌≤◌, ◌≡◌, length}
use Rattle.bus_timer.specs.Ports.{tlr, thr, tcr, low_written_of, high_written_of, reload_written_of, tcr_written_of}
use Rattle.bus_timer.specs.Lines.{hardware_line_of}
use Rattle.bus_timer.specs.declared.TimerLines.{TimerLines}
use Rattle.bus.specs.Place.{region_of}
use Rattle.bus.specs.TimerLines.{device_length, hardware_in, with_hardware}
use Rattle.bus.specs.Memory.{Memory, with_regs, aligned_of, store_of}
use Rattle.bus_timer_laws.specs.Reading.{At}

-- the lines and the timer of a memory
abbrev pub timer_in : Memory → TimerLines
timer_in m = hardware_in m.regs

-- the memory with other lines and another timer
abbrev pub timed : Memory → TimerLines → Memory
timed m h = with_regs m (with_hardware m.regs h)

-- the low 8 bits of the source go to the low or the high byte of reload, and the count becomes reload; to TCR; or
-- nowhere
abbrev pub TlrStores : Type 0
TlrStores =
    (m : Memory) (a v : ℕ) → At tlr a
    → store_of m 1 a v ≡ timed m (reload_written_of (low_written_of (timer_in m).reload (v % 256)) (timer_in m))

abbrev pub ThrStores : Type 0
ThrStores =
    (m : Memory) (a v : ℕ) → At thr a
    → store_of m 1 a v ≡ timed m (reload_written_of (high_written_of (timer_in m).reload (v % 256)) (timer_in m))

abbrev pub TcrStores : Type 0
TcrStores = (m : Memory) (a v : ℕ) → At tcr a → store_of m 1 a v ≡ timed m (tcr_written_of (timer_in m) (v % 256))

abbrev pub RestStores : Type 0
RestStores =
    (m : Memory) (a v : ℕ) → region_of a ≡ 2 → (At tlr a → ⊥) → (At thr a → ⊥) → (At tcr a → ⊥) → store_of m 1 a v ≡ m

-- a halfword and a word store the byte that they begin with
abbrev pub HalfStores : Type 0
HalfStores = (m : Memory) (a v : ℕ) → region_of a ≡ 2 → store_of m 2 a v ≡ store_of m 1 (aligned_of 2 a) v

abbrev pub WordStores : Type 0
WordStores = (m : Memory) (a v : ℕ) → region_of a ≡ 2 → store_of m 4 a v ≡ store_of m 1 (aligned_of 4 a) v

-- what a memory with other lines and another timer holds
abbrev pub TimedHardware : Type 0
TimedHardware = (m : Memory) (h : TimerLines) → length m.regs ≡ device_length → timer_in (timed m h) ≡ h

-- no store, of any size and at any address, changes a line but the timer's, and none raises that
abbrev pub LinesKept : Type 0
LinesKept =
    (m : Memory) (size a v n : ℕ) → length m.regs ≡ device_length → (n ≡ 1 → ⊥)
    → hardware_line_of n (timer_in (store_of m size a v)) ≡ hardware_line_of n (timer_in m)

abbrev pub LineNeverRises : Type 0
LineNeverRises =
    (m : Memory) (size a v : ℕ) → length m.regs ≡ device_length
    → hardware_line_of 1 (timer_in (store_of m size a v)) ≤ hardware_line_of 1 (timer_in m)

-- a store outside region 2, of 1, 2 or 4 bytes, changes neither the lines nor the timer
abbrev pub StoredElsewhere : Type 0
StoredElsewhere =
    (m : Memory) (k a v : ℕ) → k < 3 → (region_of a ≡ 2 → ⊥) → timer_in (store_of m (2 ^ k) a v) ≡ timer_in m
