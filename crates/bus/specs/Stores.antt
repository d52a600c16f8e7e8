-- What a store keeps, and what a load after it gives: the statements. Their proofs are `store-shape` in proofs/Kept;
-- `store-elsewhere`, `store-byte-same`, `store-wram-same` and `store-vram-same` in proofs/LoadStore.
use Rattle.std.specs.Prelude.{ℕ, ◌+◌, ◌%◌, ◌^◌, ◌<◌, ◌≤◌, true, ◌≢◌, ◌≡◌, length}
use Rattle.bus.specs.TimerLines.{registers_ok}
use Rattle.bus.specs.Place.{Place, vram_at, wram_at, pak_at, rom_at, drawing_at, version_at, silent, unmapped, hardware_at}
use Rattle.bus.specs.Memory.{Memory, byte_of, load_of, place_in, aligned_of, store_of}

-- what a store may not change: ROM, every length, and that every register is within its width
pub record Shape (m n : Memory) : Type 0 where
  pub same_rom : n.rom ≡ m.rom
  pub same_wram : length n.wram ≡ length m.wram
  pub same_vram : length n.vram ≡ length m.vram
  pub same_pak : length n.pak ≡ length m.pak
  pub same_regs : length n.regs ≡ length m.regs
  pub still_within : registers_ok m.regs ≡ true → registers_ok n.regs ≡ true

abbrev pub StoreShape : Type 0
StoreShape = (m : Memory) (size a v : ℕ) → Shape m (store_of m size a v)

-- what a store to a place may change: its byte, its whole register, or the whole timer
abbrev pub cell_of : Place → Place
cell_of (vram_at i) = vram_at i
cell_of (wram_at i) = wram_at i
cell_of (pak_at i) = pak_at i
cell_of (rom_at i) = rom_at i
cell_of (drawing_at k x) = drawing_at k 0
cell_of (version_at x) = version_at x
cell_of (hardware_at o) = hardware_at 0
cell_of silent = silent
cell_of unmapped = unmapped

-- whether a store may change a place; a register of region 2 that ignores writes counts too
abbrev pub Taking : Place → Type 0
Taking (vram_at i) = Unit {0}
Taking (wram_at i) = Unit {0}
Taking (pak_at i) = Unit {0}
Taking (rom_at i) = ⊥
Taking (drawing_at k x) = Unit {0}
Taking (version_at x) = ⊥
Taking (hardware_at o) = Unit {0}
Taking silent = ⊥
Taking unmapped = ⊥

-- a store to p changes nothing at q
abbrev pub Beside : Place → Place → Type 0
Beside q p = Taking p → cell_of q ≢ cell_of p

-- a store to address a changes nothing at address b
abbrev pub Apart : Memory → ℕ → ℕ → Type 0
Apart m b a = Beside (place_in m b) (place_in m a)

-- a store of any size leaves every byte that is apart from those it names
abbrev pub StoreElsewhere : Type 0
StoreElsewhere =
    (m : Memory) (b size a v : ℕ) → ((j : ℕ) → j < size → Apart m b (aligned_of size a + j))
    → byte_of (store_of m size a v) b ≡ byte_of m b

-- a place of memory that a store changes: one within its memory
abbrev pub Held : Memory → Place → Type 0
Held m (vram_at i) = i < length m.vram
Held m (wram_at i) = i < length m.wram
Held m (pak_at i) = i < length m.pak
Held m (rom_at i) = ⊥
Held m (drawing_at k x) = ⊥
Held m (version_at x) = ⊥
Held m (hardware_at o) = ⊥
Held m silent = ⊥
Held m unmapped = ⊥

-- a byte stored in VRAM, WRAM or pak RAM is read back
abbrev pub StoreByteSame : Type 0
StoreByteSame = (m : Memory) (a v : ℕ) → Held m (place_in m a) → load_of (store_of m 1 a v) 1 a ≡ v % 256

-- the n addresses from s on lead to the bytes from i on of the memory that `at` names
abbrev pub Span : Memory → ℕ → (ℕ → Place) → ℕ → ℕ → Type 0
Span m s at i n = (j : ℕ) → j < n → place_in m (s + j) ≡ at (i + j)

-- a number of any size stored in WRAM or VRAM is read back
abbrev pub StoreWramSame : Type 0
StoreWramSame =
    (m : Memory) (size a i v : ℕ) → Span m (aligned_of size a) wram_at i size → i + size ≤ length m.wram
    → load_of (store_of m size a v) size a ≡ v % 256 ^ size

abbrev pub StoreVramSame : Type 0
StoreVramSame =
    (m : Memory) (size a i v : ℕ) → Span m (aligned_of size a) vram_at i size → i + size ≤ length m.vram
    → load_of (store_of m size a v) size a ≡ v % 256 ^ size
