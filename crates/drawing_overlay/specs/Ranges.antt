-- The probe's ranges (paper 02, W9) by characters and by background maps: the statements. Their proofs are
-- `characters-in`, `maps-in`, `ranges-only` and `ranges-each` in proofs/Ranges.
use Rattle.std.specs.Prelude.{ℕ, ◌+◌, ◌*◌, ◌≤◌, ◌<◌, leb, true, ◌⊎◌, ◌≡◌}
use Rattle.drawing_pixel.specs.Character.{character_address_of}
use Rattle.bus_probe.specs.Probe.{in_ranges_of}

-- byte k of the 16 bytes of a character is the probe's exactly where the character is one of 1,536 to 2,047
abbrev pub CharactersIn : Type 0
CharactersIn = (c k : ℕ) → c < 2048 → k < 16 → in_ranges_of (character_address_of c + k) ≡ leb 1536 c

-- byte k of the 8,192 bytes of background map m, of 14, is the probe's exactly where the map is 12 or 13
abbrev pub MapsIn : Type 0
MapsIn = (m k : ℕ) → m < 14 → k < 8192 → in_ranges_of (0x20000 + 8192 * m + k) ≡ leb 12 m

-- address i is of one of the 16 bytes of a character from 1,536 to 2,047
pub record CharacterByte (i : ℕ) : Type 0 where
  pub character : ℕ
  pub byte : ℕ
  pub first : 1536 ≤ character
  pub last : character < 2048
  pub inside : byte < 16
  pub is : i ≡ character_address_of character + byte

-- address i is of one of the 8,192 bytes of background map 12 or 13
pub record MapByte (i : ℕ) : Type 0 where
  pub map : ℕ
  pub byte : ℕ
  pub first : 12 ≤ map
  pub last : map < 14
  pub inside : byte < 8192
  pub is : i ≡ 0x20000 + 8192 * map + byte

-- the probe's bytes are those and no others: not one of the frame buffers, of other characters and maps, or from
-- 0x3C000 on
abbrev pub RangesOnly : Type 0
RangesOnly = (i : ℕ) → in_ranges_of i ≡ true → CharacterByte i ⊎ MapByte i

-- and each of those is the probe's
abbrev pub RangesEach : Type 0
RangesEach = (i : ℕ) → CharacterByte i ⊎ MapByte i → in_ranges_of i ≡ true
