-- Worked values of the mask of a load, each a size, an address and the mask: both sides of each border, the five
-- aligned words with both kinds of bytes, mirrors, and regions that read 0 and are defined. `worked` is the one
-- statement about the list; it holds whatever the memories are.
use Rattle.std.specs.Prelude.{ℕ, List, [], ◌∷◌, map, ◌≡◌, refl}
use Rattle.bus.specs.Place.{region_of, register_place, vip_place, mirror_of, place_of}
use Rattle.bus.specs.Memory.{Memory}
use Rattle.bus_defined.specs.Defined.{defined_of, undefined_of}

pub record MaskRow : Type 0 where
  pub size : ℕ
  pub address : ℕ
  pub mask : ℕ

abbrev mask_row : ℕ → ℕ → ℕ → MaskRow
mask_row size address mask = record { size = size; address = address; mask = mask }

abbrev pub mask_rows : List MaskRow
mask_rows =
    mask_row 1 0x0003FFFF 0
    ∷ mask_row 1 0x00040000 1
    ∷ mask_row 1 0x0005DFFF 1
    ∷ mask_row 1 0x0005F7FF 1
    ∷ mask_row 2 0x0005F801 0
    ∷ mask_row 2 0x0005F847 3
    ∷ mask_row 1 0x0005F805 0
    ∷ mask_row 1 0x00077FFF 1
    ∷ mask_row 1 0x00078000 0
    ∷ mask_row 4 0x0005F804 0xC
    ∷ mask_row 4 0x0005F82D 3
    ∷ mask_row 4 0x0005F830 0xC
    ∷ mask_row 4 0x0005F847 0xC
    ∷ mask_row 4 0x0005F870 0xC
    ∷ mask_row 4 0x0005F874 0xF
    ∷ mask_row 4 0x000DF82C 3
    ∷ mask_row 4 0xF805F82C 3
    ∷ mask_row 4 0x01000000 0
    ∷ mask_row 4 0x02000018 0
    ∷ mask_row 4 0x03000000 0
    ∷ mask_row 4 0x04000000 0
    ∷ mask_row 4 0x06000000 0
    ∷ []

pub worked :
    (m : Memory) → map (λ (r : MaskRow). undefined_of m r.size r.address) mask_rows
    ≡ map (λ (r : MaskRow). r.mask) mask_rows
unfolding undefined_of defined_of place_of vip_place register_place mirror_of region_of
worked m = refl
