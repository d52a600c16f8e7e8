-- The caller's memories with the device registers, and what loads and stores mean: paper 01, "Addresses".
-- A load is the little-endian number of its bytes, at every size. A store is a composition of steps
-- that are total: put a byte (nothing at a VIP register), put a VIP register (nothing elsewhere).
use Rattle.std.specs.Prelude.{ℕ, zero, suc, ◌+◌, ◌-◌, ◌/◌, ◌%◌, ◌^◌, ◌<◌, Bool, true, List, [], ◌∷◌, ◌≡◌, get_or, set, length, Ok}
use Rattle.word.specs.Choose.{member}
use Rattle.word.specs.LittleEndian.{little_endian}
use Rattle.bus_timer.specs.Ports.{port_byte_of, port_written_of}
use Rattle.bus.specs.Registers.{version, kept_of}
use Rattle.bus.specs.TimerLines.{hardware_in, with_hardware, registers_ok}
use Rattle.bus.specs.Place.{Place, vram_at, wram_at, pak_at, rom_at, drawing_at, version_at, silent, unmapped}
use Rattle.bus.specs.Place.{hardware_at, place_of}
use Rattle.bus.specs.Refusal.{wram_bytes, vram_bytes, rom_ok, wram_ok, vram_ok, pak_ok}
use Rattle.refusal.specs.Number.{unless, Verdict}
use Rattle.refusal.specs.declared.Refusal.TheVariants.{RomLength, WramLength, VramLength, PakLength, State}

-- the caller's memories, each a list of bytes, and the device registers
pub record Memory : Type 0 where
  pub rom : List ℕ
  pub wram : List ℕ
  pub vram : List ℕ
  pub pak : List ℕ
  pub regs : List ℕ

abbrev pub memory_of : List ℕ → List ℕ → List ℕ → List ℕ → List ℕ → Memory
memory_of rom wram vram pak regs =
    record { rom = rom; wram = wram; vram = vram; pak = pak; regs = regs }

abbrev pub with_wram : Memory → List ℕ → Memory
with_wram m xs = memory_of m.rom xs m.vram m.pak m.regs

abbrev pub with_vram : Memory → List ℕ → Memory
with_vram m xs = memory_of m.rom m.wram xs m.pak m.regs

abbrev pub with_pak : Memory → List ℕ → Memory
with_pak m xs = memory_of m.rom m.wram m.vram xs m.regs

abbrev pub with_regs : Memory → List ℕ → Memory
with_regs m xs = memory_of m.rom m.wram m.vram m.pak xs

-- refusals 1 to 5, by the lengths of the memories and whether the state is valid (refusal 5)
abbrev pub verdict_when : ℕ → ℕ → ℕ → ℕ → Bool → Verdict
verdict_when rom wram vram pak state_ok =
    unless (rom_ok rom) RomLength
    (unless (wram_ok wram) WramLength
    (unless (vram_ok vram) VramLength (unless (pak_ok pak) PakLength (unless state_ok State (Ok tt)))))

-- refusals 1 to 5, as far as the lengths of the memories and the device registers are their subject
unfoldable pub verdict_at : ℕ → ℕ → ℕ → ℕ → List ℕ → Verdict
verdict_at rom wram vram pak regs = verdict_when rom wram vram pak (registers_ok regs)

abbrev pub verdict_of : Memory → Verdict
verdict_of m = verdict_at (length m.rom) (length m.wram) (length m.vram) (length m.pak) m.regs

-- the lengths that refusals 1 to 4 accept
pub record Lengths (rom wram vram pak : ℕ) : Type 0 where
  pub rom-ok : rom_ok rom ≡ true
  pub wram-ok : wram ≡ wram_bytes
  pub vram-ok : vram ≡ vram_bytes
  pub pak-ok : pak_ok pak ≡ true

-- the place of an address in a memory
abbrev pub place_in : Memory → ℕ → Place
place_in m a = place_of (length m.rom) (length m.pak) a

-- what a byte of a place reads: empty pak RAM and the two places without memory or register read 0
abbrev pub read_place : Memory → Place → ℕ
read_place m (vram_at i) = get_or m.vram i 0
read_place m (wram_at i) = get_or m.wram i 0
read_place m (pak_at i) = get_or m.pak i 0
read_place m (rom_at i) = get_or m.rom i 0
read_place m (drawing_at k b) = get_or m.regs k 0 / 256 ^ b % 256
read_place m (version_at b) = version / 256 ^ b % 256
read_place m (hardware_at o) = port_byte_of (hardware_in m.regs) o
read_place m silent = 0
read_place m unmapped = 0

-- the byte at an address
unfoldable pub byte_of : Memory → ℕ → ℕ
byte_of m a = read_place m (place_in m a)

-- the n bytes from an address on, lowest first
abbrev pub bytes_from : Memory → ℕ → ℕ → List ℕ
bytes_from m a zero = []
bytes_from m a (suc n) = byte_of m a ∷ bytes_from m (a + 1) n

-- an access has 1, 2 or 4 bytes
abbrev pub size_ok : ℕ → Bool
size_ok size = member size (1 ∷ 2 ∷ 4 ∷ [])

-- it drops the address bits below its size
abbrev pub aligned_of : ℕ → ℕ → ℕ
aligned_of size a = a - a % size

-- what a load of `size` bytes gives
unfoldable pub load_of : Memory → ℕ → ℕ → ℕ
load_of m size a = little_endian (bytes_from m (aligned_of size a) size)

-- what a load's value is: the definition's, and within its size
pub record Reads (m : Memory) (size a value : ℕ) : Type 0 where
  pub means : value ≡ load_of m size a
  pub fits : value < 256 ^ size

-- a byte put at a place of VRAM, WRAM or pak RAM, or written to a register of the timer; nothing elsewhere
abbrev pub put_place : Memory → Place → ℕ → Memory
put_place m (vram_at i) b = with_vram m (set m.vram i b)
put_place m (wram_at i) b = with_wram m (set m.wram i b)
put_place m (pak_at i) b = with_pak m (set m.pak i b)
put_place m (rom_at i) b = m
put_place m (drawing_at k x) b = m
put_place m (version_at x) b = m
put_place m (hardware_at o) b = with_regs m (with_hardware m.regs (port_written_of (hardware_in m.regs) o b))
put_place m silent b = m
put_place m unmapped b = m

-- a value written to the drawing register of a place, which keeps its width; nothing elsewhere
abbrev pub put_drawing : Memory → Place → ℕ → Memory
put_drawing m (vram_at i) v = m
put_drawing m (wram_at i) v = m
put_drawing m (pak_at i) v = m
put_drawing m (rom_at i) v = m
put_drawing m (drawing_at k x) v = with_regs m (set m.regs k (kept_of k v))
put_drawing m (version_at x) v = m
put_drawing m (hardware_at o) v = m
put_drawing m silent v = m
put_drawing m unmapped v = m

-- the low 8 bits of v stored at one address, where there is memory or a register of the timer
unfoldable pub put_byte : Memory → ℕ → ℕ → Memory
put_byte m a v = put_place m (place_in m a) (v % 256)

-- the low 16 bits of v written to the drawing register that holds an address, where there is one
unfoldable pub put_register : Memory → ℕ → ℕ → Memory
put_register m a v = put_drawing m (place_in m a) (v % 65536)

-- a halfword stored from an even address on, lowest byte first
unfoldable pub put_halfword : Memory → ℕ → ℕ → Memory
put_halfword m a v = put_register (put_byte (put_byte m a v) (a + 1) (v / 256)) a v

-- the n low bytes of v stored from an address on, by halfwords, the low one first; of a byte alone memory and the timer
-- take the low 8 bits of the source, a VIP register its low 16 bits
abbrev pub put_from : Memory → ℕ → ℕ → ℕ → Memory
put_from m a zero v = m
put_from m a (suc zero) v = put_register (put_byte m a v) a v
put_from m a (suc (suc n)) v = put_from (put_halfword m a v) (a + 2) n (v / 65536)

-- what a store of `size` bytes leaves; v is the whole source register
unfoldable pub store_of : Memory → ℕ → ℕ → ℕ → Memory
store_of m size a v = put_from m (aligned_of size a) size v
