-- The probe (paper 02, W9): where it may write, its refusals, and VRAM after a write of 1, 2 or 4 bytes. An address is
-- one of the bus, aligned and led to its place as the bus does, so that every mirror counts. A refused write changes
-- nothing.
use Rattle.std.specs.Prelude.{ℕ, Bool, ◌&&◌, ◌||◌, List, length, leb, ltb, Ok}
use Rattle.word.specs.LittleEndian.{put_bytes}
use Rattle.refusal.specs.Number.{unless, when_accepted, Verdict}
use Rattle.bus.specs.Refusal.{rom_ok, wram_ok, vram_ok, pak_ok}
use Rattle.bus.specs.Place.{place_of, vram_index_of}
use Rattle.bus.specs.Memory.{aligned_of}
use Rattle.refusal.specs.declared.Refusal.TheVariants.{RomLength, WramLength, VramLength, PakLength, ProbeTarget}

-- whether byte i of VRAM is the probe's to write: characters 1,536 to 2,047, or background maps 12 and 13
unfoldable pub in_ranges_of : ℕ → Bool
in_ranges_of i = (leb 0x1E000 i && ltb i 0x20000) || (leb 0x38000 i && ltb i 0x3C000)

-- where a write of `size` bytes at an address begins in VRAM, with ROM and pak RAM of the lengths given
unfoldable pub target_of : ℕ → ℕ → ℕ → ℕ → ℕ
target_of romLength pakLength size a = vram_index_of (place_of romLength pakLength (aligned_of size a))

-- the verdict by the memories' lengths and the target: 1 to 4, then 13
unfoldable pub probe_verdict_at : ℕ → ℕ → ℕ → ℕ → ℕ → Verdict
probe_verdict_at rom wram vram pak target =
    unless (rom_ok rom) RomLength
    (unless (wram_ok wram) WramLength
    (unless (vram_ok vram) VramLength (unless (pak_ok pak) PakLength (unless (in_ranges_of target) ProbeTarget (Ok tt)))))

-- the verdict of a write of `size` bytes: ROM, WRAM, VRAM and pak RAM as given, and the address
unfoldable pub probe_verdict_of : ℕ → List ℕ → List ℕ → List ℕ → List ℕ → ℕ → Verdict
probe_verdict_of size rom wram vram pak a =
    probe_verdict_at (length rom) (length wram) (length vram) (length pak) (target_of (length rom) (length pak) size a)

-- VRAM after it
unfoldable pub probed_of : ℕ → List ℕ → List ℕ → List ℕ → List ℕ → ℕ → ℕ → List ℕ
probed_of size rom wram vram pak a v =
    when_accepted (probe_verdict_of size rom wram vram pak a) vram
    (put_bytes size vram (target_of (length rom) (length pak) size a) v)
