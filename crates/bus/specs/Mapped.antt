-- Which byte of which memory an address of WRAM, ROM, pak RAM or VRAM reads (paper 01, "Addresses"), the character mirror
-- among them: the statements. Their proofs are `each-mapped` and `character-mirror` in proofs/Mapped.
use Rattle.std.specs.Prelude.{ℕ, ◌+◌, ◌-◌, ◌*◌, ◌/◌, ◌%◌, ◌<◌, ◌≤◌, true, ◌≡◌, length, get_or}
use Rattle.bus.specs.Refusal.{rom_ok, pak_ok}
use Rattle.bus.specs.Place.{vram_at, mirror_of, region_of, place_of}
use Rattle.bus.specs.Memory.{Memory, byte_of}

pub record Mapped (m : Memory) (a : ℕ) : Type 0 where
  pub wram : region_of a ≡ 5 → byte_of m a ≡ get_or m.wram (a % 65536) 0
  pub rom : region_of a ≡ 7 → rom_ok (length m.rom) ≡ true → byte_of m a ≡ get_or m.rom (a % length m.rom) 0
  pub pak :
      region_of a ≡ 6 → pak_ok (length m.pak) ≡ true → 0 < length m.pak
      → byte_of m a ≡ get_or m.pak (a % length m.pak) 0
  pub pak_empty : region_of a ≡ 6 → length m.pak ≡ 0 → byte_of m a ≡ 0
  pub vram : region_of a ≡ 0 → a % 0x80000 < 0x40000 → byte_of m a ≡ get_or m.vram (a % 0x80000) 0
  pub mirror :
      region_of a ≡ 0 → 0x78000 ≤ a % 0x80000 → byte_of m a ≡ get_or m.vram (mirror_of (a % 0x80000 - 0x78000)) 0

abbrev pub EachMapped : Type 0
EachMapped = (m : Memory) (a : ℕ) → Mapped m a

-- byte i of character c, at 0x78000 + 16c + i, lies in VRAM at 0x6000 + (c / 512) * 0x8000 + 16(c mod 512) + i
abbrev pub CharacterMirror : Type 0
CharacterMirror =
    (romLength pakLength c i : ℕ) → c < 2048 → i < 16
    → place_of romLength pakLength (0x78000 + 16 * c + i) ≡ vram_at (0x6000 + c / 512 * 0x8000 + 16 * (c % 512) + i)
