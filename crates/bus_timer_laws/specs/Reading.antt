-- What region 2 reads (paper 02, W6; docs/DECISIONS.md, T1 to T3, W6.1 and W6.2): the statements. Their proofs are
-- `tlr-reads`, `thr-reads`, `tcr-reads`, `rest-reads`, `half-reads` and `word-reads` in proofs/Readings.
use Rattle.std.specs.Prelude.{ℕ, ◌+◌, ◌/◌, ◌%◌, true, ◌≡◌}
use Rattle.bus_timer.specs.Ports.{tlr, thr, tcr, hardware_offset_of}
use Rattle.bus.specs.Place.{region_of}
use Rattle.bus.specs.TimerLines.{hardware_in, registers_ok}
use Rattle.bus.specs.Memory.{Memory, byte_of, aligned_of, load_of}

-- address a is the register at offset o of region 2, one of its 27-bit mirrors among them
abbrev pub At : ℕ → ℕ → Type 0
At o a = (region_of a ≡ 2) × (hardware_offset_of a ≡ o)

-- the low and the high byte of the count
abbrev pub TlrReads : Type 0
TlrReads = (m : Memory) (a : ℕ) → At tlr a → byte_of m a ≡ (hardware_in m.regs).count % 256

abbrev pub ThrReads : Type 0
ThrReads = (m : Memory) (a : ℕ) → At thr a → byte_of m a ≡ (hardware_in m.regs).count / 256 % 256

-- the control bits, with bits 7 to 5 and bit 2 set
abbrev pub TcrReads : Type 0
TcrReads =
    (m : Memory) (a : ℕ) → At tcr a → registers_ok m.regs ≡ true → byte_of m a ≡ 0xE4 + (hardware_in m.regs).control

-- every other byte of region 2 reads 0
abbrev pub RestReads : Type 0
RestReads =
    (m : Memory) (a : ℕ) → region_of a ≡ 2 → (At tlr a → ⊥) → (At thr a → ⊥) → (At tcr a → ⊥) → byte_of m a ≡ 0

-- a halfword and a word read the byte that they begin with and zeros, so they meet one register at most
abbrev pub HalfReads : Type 0
HalfReads = (m : Memory) (a : ℕ) → region_of a ≡ 2 → load_of m 2 a ≡ byte_of m (aligned_of 2 a)

abbrev pub WordReads : Type 0
WordReads = (m : Memory) (a : ℕ) → region_of a ≡ 2 → load_of m 4 a ≡ byte_of m (aligned_of 4 a)
