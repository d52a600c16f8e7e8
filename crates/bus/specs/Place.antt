-- Where the byte at an address leads: paper 01, "Addresses"; paper 02, W6 (region 2). Two places read 0 and ignore
-- writes; they differ in that a byte of the one is defined and a byte of the other is not (paper 02, W2).
use Rattle.std.specs.Prelude.{ℕ, ◌+◌, ◌-◌, ◌*◌, ◌/◌, ◌%◌, ◌^◌, [], ◌∷◌, get_or, ltb, eqb}
use Rattle.word.specs.Choose.{pick, member, index_of}
use Rattle.bus_timer.specs.Ports.{hardware_offset_of}
use Rattle.bus.specs.Registers.{drawing_addresses, silent_addresses, version_address}

pub data Place : Type 0 where
  -- byte i of a memory
  vram_at : ℕ → Place
  wram_at : ℕ → Place
  pak_at : ℕ → Place
  rom_at : ℕ → Place
  -- byte b (0 low, 1 high) of drawing register k
  drawing_at : ℕ → ℕ → Place
  -- byte b of VER
  version_at : ℕ → Place
  -- the byte at an offset of region 2: a register of the timer, or one with nothing behind it
  hardware_at : ℕ → Place
  -- a register of 000 that reads 0 and ignores writes; regions 1, 3 and 4
  silent : Place
  -- a register address where 000 lists no register; the VIP's other ranges
  unmapped : Place

-- the register that holds byte v of the VIP, 0x5E000 to 0x5FFFF: registers are halfwords
unfoldable pub register_place : ℕ → Place
register_place v =
    let h = v - v % 2 in
    let k = index_of h drawing_addresses in
    pick (ltb k 13) (drawing_at k (v % 2))
    (pick (eqb h version_address) (version_at (v % 2)) (pick (member h silent_addresses) silent unmapped))

-- the character mirror: where 0x78000 + k leads in VRAM
unfoldable pub mirror_of : ℕ → ℕ
mirror_of k = 0x6000 + k / 0x2000 * 0x8000 + k % 0x2000

-- region 0, by the 19 bits that the VIP keeps
unfoldable pub vip_place : ℕ → Place
vip_place v =
    pick (ltb v 0x40000) (vram_at v)
    (pick (ltb v 0x5E000) unmapped
    (pick (ltb v 0x60000) (register_place v) (pick (ltb v 0x78000) unmapped (vram_at (mirror_of (v - 0x78000))))))

-- bits 24 to 26
unfoldable pub region_of : ℕ → ℕ
region_of a = a % 2 ^ 27 / 2 ^ 24

-- the place of address a, with ROM and pak RAM of the lengths given
unfoldable pub place_of : ℕ → ℕ → ℕ → Place
place_of romLength pakLength a =
    let b = a % 2 ^ 27 in
    get_or (vip_place (b % 2 ^ 19)
    ∷ silent
    ∷ hardware_at (hardware_offset_of a)
    ∷ silent
    ∷ silent
    ∷ wram_at (b % 65536)
    ∷ pak_at (b % pakLength)
    ∷ rom_at (b % romLength)
    ∷ []) (region_of a) silent

-- where a place lies in VRAM; 0x40000, past its end, for a place elsewhere
abbrev pub vram_index_of : Place → ℕ
vram_index_of (vram_at i) = i
vram_index_of (wram_at i) = 0x40000
vram_index_of (pak_at i) = 0x40000
vram_index_of (rom_at i) = 0x40000
vram_index_of (drawing_at k b) = 0x40000
vram_index_of (version_at b) = 0x40000
vram_index_of (hardware_at o) = 0x40000
vram_index_of silent = 0x40000
vram_index_of unmapped = 0x40000
