-- Which bytes of a bus read are defined (paper 02, W2): "Undefined are the VIP's unmapped ranges and its register
-- addresses where 000 lists no register; nothing else." It goes by the place that an address leads to, byte for byte.
use Rattle.std.specs.Prelude.{ℕ, zero, suc, ◌+◌, ◌^◌, Bool, true, false, List, ◌++◌}
use Rattle.word.specs.Choose.{pick}
use Rattle.bus.specs.Registers.{halfwords_from}
use Rattle.bus.specs.Place.{Place, vram_at, wram_at, pak_at, rom_at, drawing_at, version_at, silent, unmapped}
use Rattle.bus.specs.Place.{hardware_at}
use Rattle.bus.specs.Memory.{Memory, place_in, aligned_of}

-- whether a byte of a place is defined
abbrev pub defined_place : Place → Bool
defined_place unmapped = false
defined_place (vram_at i) = true
defined_place (wram_at i) = true
defined_place (pak_at i) = true
defined_place (rom_at i) = true
defined_place (drawing_at k b) = true
defined_place (version_at b) = true
defined_place (hardware_at o) = true
defined_place silent = true

-- whether the byte at an address is defined
unfoldable pub defined_of : Memory → ℕ → Bool
defined_of m a = defined_place (place_in m a)

-- the sum of 2^j over the undefined ones of n bytes from an address on, the first of which is byte k, the next k + 1
abbrev pub mask_from : Memory → ℕ → ℕ → ℕ → ℕ
mask_from m a k zero = 0
mask_from m a k (suc n) = pick (defined_of m a) 0 (2 ^ k) + mask_from m (a + 1) (k + 1) n

-- the mask of a load of `size` bytes (1, 2 or 4): 2^k for each undefined byte k, counted from the aligned address
unfoldable pub undefined_of : Memory → ℕ → ℕ → ℕ
undefined_of m size a = mask_from m (aligned_of size a) 0 size

-- the VIP's registers by their even addresses, as 000 lists them: INTPND, INTENB, INTCLR; DPSTTS, DPCTRL, BRTA, BRTB,
-- BRTC, REST; FRMCYC, CTA; XPSTTS, XPCTRL, VER; SPT0 to SPT3; GPLT0 to GPLT3, JPLT0 to JPLT3, BKCOL
abbrev pub register_addresses : List ℕ
register_addresses =
    halfwords_from 0x5F800 3
    ++ (halfwords_from 0x5F820 6
    ++ (halfwords_from 0x5F82E 2
    ++ (halfwords_from 0x5F840 3 ++ (halfwords_from 0x5F848 4 ++ halfwords_from 0x5F860 9))))
