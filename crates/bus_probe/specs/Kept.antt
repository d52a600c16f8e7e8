-- What a write of the probe means, and what writes leave alone (paper 02, W9): the statements. Their proofs are
-- `probe-is-store`, `probe-kept` and `probe-length` in proofs/.
use Rattle.std.specs.Prelude.{ℕ, false, List, [], ◌∷◌, ◌≡◌, length, get_or, Ok}
use Rattle.word.specs.Width.{bytes_of}
use Rattle.word.specs.declared.width.Width.{Width}
use Rattle.bus.specs.Memory.{Memory, with_vram, store_of}
use Rattle.bus_probe.specs.Probe.{in_ranges_of, probe_verdict_of, probed_of}

-- an accepted write leaves in VRAM what the bus's store leaves there, and the store changes nothing else
abbrev pub ProbeIsStore : Type 0
ProbeIsStore =
    (m : Memory) (width : Width) (a v : ℕ)
    → probe_verdict_of (bytes_of width) m.rom m.wram m.vram m.pak a ≡ (Ok tt)
    → store_of m (bytes_of width) a v
    ≡ with_vram m (probed_of (bytes_of width) m.rom m.wram m.vram m.pak a v)

-- a call of the probe: what it borrows besides VRAM, and what it is to write where
pub record Write : Type 0 where
  pub rom : List ℕ
  pub wram : List ℕ
  pub pak : List ℕ
  pub width : Width
  pub address : ℕ
  pub value : ℕ

-- VRAM after a call, refused or not
abbrev pub probe_written_of : List ℕ → Write → List ℕ
probe_written_of vram w = probed_of (bytes_of w.width) w.rom w.wram vram w.pak w.address w.value

-- VRAM after a list of calls
unfoldable pub all_written_of : List ℕ → List Write → List ℕ
all_written_of vram [] = vram
all_written_of vram (w ∷ rest) = all_written_of (probe_written_of vram w) rest

-- every byte of VRAM outside the ranges keeps its value over any list of calls
abbrev pub ProbeKept : Type 0
ProbeKept =
    (vram : List ℕ) (writes : List Write) (a : ℕ) → in_ranges_of a ≡ false
    → get_or (all_written_of vram writes) a 0 ≡ get_or vram a 0

-- and VRAM its length
abbrev pub ProbeLength : Type 0
ProbeLength = (vram : List ℕ) (writes : List Write) → length (all_written_of vram writes) ≡ length vram
