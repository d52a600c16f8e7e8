-- Memories of bytes: a store leaves bytes, and what is loaded fits its size. Assumes nothing.
use Prim.Native.Nat.{ℕ, zero, suc, ◌+◌, ◌/◌, ◌%◌, ◌^◌, ◌<◌}
use mathlib.Core.List.{List}
use native.Mathlib.Decide.{ℕ_discrete, dec_lt}
use native.Mathlib.Nat.{pow-suc}
use native.Mathlib.Omega.{arith}
use lib.Dec.{eqb}
use lib.ListN.{length, get_or, set}
use lib.Seq.{get_or-set_same, get_or-set_other, set_out}
use Rattle.word.specs.LittleEndian.{little_endian}
use Rattle.word.proofs.Choices.{pick-each}
use Rattle.bus_timer.specs.Ports.{tlr, thr, tcr, control_bits_of, port_byte_of}
use Rattle.bus_timer.specs.declared.TimerLines.{TimerLines}
use Rattle.bus_timer.proofs.Mask.{control-sum}
use Rattle.bus.specs.TimerLines.{hardware_in}
use Rattle.bus.specs.Place.{Place, vram_at, wram_at, pak_at, rom_at, drawing_at, version_at, silent, unmapped, hardware_at}
use Rattle.bus.specs.Memory.{Memory, read_place, byte_of, bytes_from, aligned_of, load_of, put_place, put_drawing, place_in, store_of}
use Rattle.bus.proofs.DrawingPlaces.{Proper}
use Rattle.bus.proofs.Steps.{store-steps}

-- what holds of each number of a list still does after one is set
pub set-each : (P : ℕ → ℕ → Type 0) (l : List ℕ) (k v : ℕ) → ((j : ℕ) → P j (get_or l j 0)) → P k v → (j : ℕ) → P j (get_or (set l k v) j 0)
set-each P l k v all new j =
    elim (ℕ_discrete j k) [
      | no ne ↦ rw (get_or-set_other l k j v 0 ne) (all j)
      | yes e ↦ elim (dec_lt k (length l)) [
        | yes inside ↦ rw (e, get_or-set_same l k v 0 inside) new
        | no outside ↦ rw (set_out l k v (omega arith)) (all j)
      ]
    ]

abbrev AreBytes : List ℕ → Type 0
AreBytes xs = (i : ℕ) → get_or xs i 0 < 256

pub record Bytes (m : Memory) : Type 0 where
  pub rom : AreBytes m.rom
  pub wram : AreBytes m.wram
  pub vram : AreBytes m.vram
  pub pak : AreBytes m.pak

set-bytes : (l : List ℕ) (k v : ℕ) → AreBytes l → v < 256 → AreBytes (set l k v)
set-bytes l k v h hv = set-each (λ (j x : ℕ). x < 256) l k v h hv

put-bytes : (m : Memory) (p : Place) (b : ℕ) → b < 256 → Bytes m → Bytes (put_place m p b)
put-bytes m (vram_at i) b hb h =
    record { rom = h.rom; wram = h.wram; vram = set-bytes m.vram i b h.vram hb; pak = h.pak }
put-bytes m (wram_at i) b hb h =
    record { rom = h.rom; wram = set-bytes m.wram i b h.wram hb; vram = h.vram; pak = h.pak }
put-bytes m (pak_at i) b hb h =
    record { rom = h.rom; wram = h.wram; vram = h.vram; pak = set-bytes m.pak i b h.pak hb }
put-bytes m (rom_at i) b hb h = h
put-bytes m (drawing_at k x) b hb h = h
put-bytes m (version_at x) b hb h = h
put-bytes m (hardware_at o) b hb h = record { rom = h.rom; wram = h.wram; vram = h.vram; pak = h.pak }
put-bytes m silent b hb h = h
put-bytes m unmapped b hb h = h

write_bytes : (m : Memory) (p : Place) (v : ℕ) → Proper p → Bytes m → Bytes (put_drawing m p v)
write_bytes m (vram_at i) v q h = h
write_bytes m (wram_at i) v q h = h
write_bytes m (pak_at i) v q h = h
write_bytes m (rom_at i) v q h = h
write_bytes m (drawing_at k x) v q h = record { rom = h.rom; wram = h.wram; vram = h.vram; pak = h.pak }
write_bytes m (version_at x) v q h = h
write_bytes m (hardware_at o) v q h = h
write_bytes m silent v q h = h
write_bytes m unmapped v q h = h

pub store_bytes : (m : Memory) (size a v : ℕ) → Bytes m → Bytes (store_of m size a v)
store_bytes = store-steps (λ m n. Bytes m → Bytes n) (λ m h. h) (λ m n o p q h. q (p h)) put-bytes write_bytes

port-small : (h : TimerLines) (o : ℕ) → port_byte_of h o < 256
unfolding port_byte_of
port-small h o =
    let Small : ℕ → Type 0 = λ x. x < 256 in
    pick-each Small (eqb o tlr) (h.count % 256) _ (omega arith)
    (pick-each Small (eqb o thr) (h.count / 256 % 256) _ (omega arith)
    (pick-each Small (eqb o tcr) (0xE4 + control_bits_of h.control) 0 (omega (arith, control-sum h.control)) (omega arith)))

read_byte : (m : Memory) (p : Place) → Bytes m → read_place m p < 256
read_byte m (vram_at i) h = h.vram i
read_byte m (wram_at i) h = h.wram i
read_byte m (pak_at i) h = h.pak i
read_byte m (rom_at i) h = h.rom i
read_byte m (drawing_at k b) h = omega arith
read_byte m (version_at b) h = omega arith
read_byte m (hardware_at o) h = port-small (hardware_in m.regs) o
read_byte m silent h = omega arith
read_byte m unmapped h = omega arith

module _ (m : Memory) (h : Bytes m) where
  byte_small : (a : ℕ) → byte_of m a < 256
  unfolding byte_of
  byte_small a = read_byte m (place_in m a) h

  from-fits : (a n : ℕ) → little_endian (bytes_from m a n) < 256 ^ n
  from-fits a zero = omega arith
  from-fits a (suc n) = rw (pow-suc 256 n) (omega (arith, byte_small a, from-fits (a + 1) n))

  pub load_fits : (size a : ℕ) → load_of m size a < 256 ^ size
  unfolding load_of
  load_fits size a = from-fits (aligned_of size a) size
