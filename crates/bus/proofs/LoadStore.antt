-- A load after a store: at another place nothing changed, at the same place the stored value is read. Assumes nothing.
use Prim.Native.Nat.{ℕ, ◌+◌, ◌/◌, ◌%◌, ◌^◌, ◌<◌}
use mathlib.Core.Logic.{◌≢◌}
use mathlib.Core.Path.{◌≡◌, refl, ap, ◌∙◌}
use lib.ListN.{length}
use lib.Seq.{get_or-set_same, get_or-set_other}
use Rattle.word.specs.LittleEndian.{put_bytes}
use Rattle.bus_timer.specs.Ports.{port_byte_of, port_written_of}
use Rattle.bus_timer.specs.declared.TimerLines.{TimerLines}
use Rattle.bus.specs.Registers.{kept_of}
use Rattle.bus.specs.TimerLines.{hardware_in}
use Rattle.bus.specs.Place.{Place, vram_at, wram_at, pak_at, rom_at, drawing_at, version_at, silent}
use Rattle.bus.specs.Place.{unmapped, hardware_at}
use Rattle.bus.specs.Memory.{Memory, byte_of, read_place, place_in, put_place, put_drawing, put_byte}
use Rattle.bus.specs.Memory.{put_register, aligned_of, store_of, with_wram, with_vram}
use Rattle.bus.specs.Stores.{Shape, cell_of, Beside, Apart, Held}
use Rattle.bus.specs.Stores.{StoreElsewhere, StoreByteSame, StoreWramSame, StoreVramSame}
use Rattle.bus.proofs.Devices.{set-hardware, with-register}
use Rattle.bus.proofs.DrawingPlaces.{Proper, place-proper}
use Rattle.bus.proofs.Kept.{same, both, byte-shape, register-shape}
use Rattle.bus.proofs.Steps.{store-steps-at}
use Rattle.bus.proofs.Halfwords.{byte-load, byte-store}
use Rattle.bus.proofs.Numbers.{number_put}
use Rattle.bus.proofs.Spans.{wram-number, vram-number, wram-stored, vram-stored}

read-other-vram : (m : Memory) (i b : ℕ) (q : Place) → cell_of q ≢ vram_at i → read_place (put_place m (vram_at i) b) q ≡ read_place m q
read-other-vram m i b (vram_at j) ne = get_or-set_other m.vram i j b 0 (λ e. ne (ap vram_at e))
read-other-vram m i b (wram_at j) ne = refl
read-other-vram m i b (pak_at j) ne = refl
read-other-vram m i b (rom_at j) ne = refl
read-other-vram m i b (drawing_at k x) ne = refl
read-other-vram m i b (version_at x) ne = refl
read-other-vram m i b (hardware_at o) ne = refl
read-other-vram m i b silent ne = refl
read-other-vram m i b unmapped ne = refl

read-other-wram : (m : Memory) (i b : ℕ) (q : Place) → cell_of q ≢ wram_at i → read_place (put_place m (wram_at i) b) q ≡ read_place m q
read-other-wram m i b (vram_at j) ne = refl
read-other-wram m i b (wram_at j) ne = get_or-set_other m.wram i j b 0 (λ e. ne (ap wram_at e))
read-other-wram m i b (pak_at j) ne = refl
read-other-wram m i b (rom_at j) ne = refl
read-other-wram m i b (drawing_at k x) ne = refl
read-other-wram m i b (version_at x) ne = refl
read-other-wram m i b (hardware_at o) ne = refl
read-other-wram m i b silent ne = refl
read-other-wram m i b unmapped ne = refl

read-other-pak : (m : Memory) (i b : ℕ) (q : Place) → cell_of q ≢ pak_at i → read_place (put_place m (pak_at i) b) q ≡ read_place m q
read-other-pak m i b (vram_at j) ne = refl
read-other-pak m i b (wram_at j) ne = refl
read-other-pak m i b (pak_at j) ne = get_or-set_other m.pak i j b 0 (λ e. ne (ap pak_at e))
read-other-pak m i b (rom_at j) ne = refl
read-other-pak m i b (drawing_at k x) ne = refl
read-other-pak m i b (version_at x) ne = refl
read-other-pak m i b (hardware_at o) ne = refl
read-other-pak m i b silent ne = refl
read-other-pak m i b unmapped ne = refl

-- a byte written to the timer leaves what is not the timer's
read-other-hardware : (m : Memory) (o b : ℕ) (q : Place) → cell_of q ≢ hardware_at 0 → Proper q
    → read_place (put_place m (hardware_at o) b) q ≡ read_place m q
read-other-hardware m o b (vram_at j) ne less = refl
read-other-hardware m o b (wram_at j) ne less = refl
read-other-hardware m o b (pak_at j) ne less = refl
read-other-hardware m o b (rom_at j) ne less = refl
read-other-hardware m o b (drawing_at k x) ne less =
    ap (λ (n : ℕ). n / 256 ^ x % 256) (with-register m.regs (port_written_of (hardware_in m.regs) o b) k less)
read-other-hardware m o b (version_at x) ne less = refl
read-other-hardware m o b (hardware_at p) ne less = absurd (ne refl)
read-other-hardware m o b silent ne less = refl
read-other-hardware m o b unmapped ne less = refl

-- a byte put elsewhere
read-other : (m : Memory) (p q : Place) (b : ℕ) → Proper q → Beside q p → read_place (put_place m p b) q ≡ read_place m q
read-other m (vram_at i) q b less ne = read-other-vram m i b q (ne tt)
read-other m (wram_at i) q b less ne = read-other-wram m i b q (ne tt)
read-other m (pak_at i) q b less ne = read-other-pak m i b q (ne tt)
read-other m (rom_at i) q b less ne = refl
read-other m (drawing_at k x) q b less ne = refl
read-other m (version_at x) q b less ne = refl
read-other m (hardware_at o) q b less ne = read-other-hardware m o b q (ne tt) less
read-other m silent q b less ne = refl
read-other m unmapped q b less ne = refl

read-other-register : (m : Memory) (k v : ℕ) (q : Place) → k < 13 → cell_of q ≢ drawing_at k 0 → read_place (put_drawing m (drawing_at k 0) v) q ≡ read_place m q
read-other-register m k v (vram_at j) less ne = refl
read-other-register m k v (wram_at j) less ne = refl
read-other-register m k v (pak_at j) less ne = refl
read-other-register m k v (rom_at j) less ne = refl
read-other-register m k v (drawing_at j x) less ne = rw (get_or-set_other m.regs k j (kept_of k v) 0 (λ e. ne (ap (λ (n : ℕ). drawing_at n 0) e)))
read-other-register m k v (version_at x) less ne = refl
read-other-register m k v (hardware_at o) less ne = ap (λ (h : TimerLines). port_byte_of h o) (set-hardware m.regs k (kept_of k v) less)
read-other-register m k v silent less ne = refl
read-other-register m k v unmapped less ne = refl

-- a register written elsewhere
drawing-other : (m : Memory) (p q : Place) (v : ℕ) → Proper p → Beside q p → read_place (put_drawing m p v) q ≡ read_place m q
drawing-other m (vram_at i) q v less ne = refl
drawing-other m (wram_at i) q v less ne = refl
drawing-other m (pak_at i) q v less ne = refl
drawing-other m (rom_at i) q v less ne = refl
drawing-other m (drawing_at k x) q v less ne = read-other-register m k v q less (ne tt)
drawing-other m (version_at x) q v less ne = refl
drawing-other m (hardware_at o) q v less ne = refl
drawing-other m silent q v less ne = refl
drawing-other m unmapped q v less ne = refl

-- a byte put there
read_same : (m : Memory) (p : Place) (b : ℕ) → Held m p → read_place (put_place m p b) p ≡ b
read_same m (vram_at i) b h = get_or-set_same m.vram i b 0 h
read_same m (wram_at i) b h = get_or-set_same m.wram i b 0 h
read_same m (pak_at i) b h = get_or-set_same m.pak i b 0 h
read_same m (rom_at i) b h = absurd h
read_same m (drawing_at k x) b h = absurd h
read_same m (version_at x) b h = absurd h
read_same m (hardware_at o) b h = absurd h
read_same m silent b h = absurd h
read_same m unmapped b h = absurd h

-- a store moves no address to another place
shape-place : (m n : Memory) → Shape m n → (a : ℕ) → place_in n a ≡ place_in m a
shape-place m n p a = rw (p.same_rom, p.same_pak)

put-elsewhere : (m : Memory) (a b v : ℕ) → Apart m b a → byte_of (put_byte m a v) b ≡ byte_of m b
unfolding byte_of put_byte
put-elsewhere m a b v ne =
    rw (shape-place m (put_byte m a v) (byte-shape m a v) b) (read-other m (place_in m a) (place_in m b) (v % 256)
    (place-proper (length m.rom) (length m.pak) b) ne)

write-elsewhere : (m : Memory) (a b v : ℕ) → Apart m b a → byte_of (put_register m a v) b ≡ byte_of m b
unfolding byte_of put_register
write-elsewhere m a b v ne =
    rw (shape-place m (put_register m a v) (register-shape m a v) b) (drawing-other m (place_in m a) (place_in m b)
    (v % 65536) (place-proper (length m.rom) (length m.pak) a) ne)

-- a store of any size leaves every byte that is apart from those it names
module _ (first : Memory) (b : ℕ) where
  -- a step's places are those of the store's start
  record Leaves (m n : Memory) : Type 0 where
    shape : Shape m n
    byte : Shape first m → byte_of n b ≡ byte_of m b

  moved : (m : Memory) (a : ℕ) → Shape first m → Apart first b a → Apart m b a
  moved m a p ne = rw (shape-place first m p b, shape-place first m p a) ne

  elsewhere : (size a v : ℕ) → ((j : ℕ) → j < size → Apart first b (aligned_of size a + j))
      → byte_of (store_of first size a v) b ≡ byte_of first b
  elsewhere size a v ne =
      (store-steps-at Leaves (λ m. record { shape = same m; byte = λ p. refl })
      (λ m n o p q. record { shape = both m n o p.shape q.shape; byte = λ s. q.byte (both first m n s p.shape) ∙ p.byte s })
      (Apart first b)
      (λ m a v q. record { shape = byte-shape m a v; byte = λ p. put-elsewhere m a b v (moved m a p q) })
      (λ m a v q. record { shape = register-shape m a v; byte = λ p. write-elsewhere m a b v (moved m a p q) })
      first size a v ne).byte (same first)

pub store-elsewhere : StoreElsewhere
store-elsewhere m b = elsewhere m b

-- a place of memory is not a register
held_plain : (m n : Memory) (p : Place) (v : ℕ) → Held m p → put_drawing n p v ≡ n
held_plain m n (vram_at i) v h = refl
held_plain m n (wram_at i) v h = refl
held_plain m n (pak_at i) v h = refl
held_plain m n (rom_at i) v h = refl
held_plain m n (drawing_at k x) v h = absurd h
held_plain m n (version_at x) v h = refl
held_plain m n (hardware_at o) v h = refl
held_plain m n silent v h = refl
held_plain m n unmapped v h = refl

-- a byte store is read back where memory holds it
pub store-byte-same : StoreByteSame
unfolding byte_of put_register put_byte
store-byte-same m a v h =
    let e = shape-place m (put_byte m a v) (byte-shape m a v) a in
    byte-load (store_of m 1 a v) a
    ∙ rw (byte-store m a v, e, held_plain m (put_byte m a v) (place_in m a) (v % 65536) h, e) (read_same m (place_in m a) (v % 256) h)

-- a store of any size is read back from WRAM and VRAM
pub store-wram-same : StoreWramSame
store-wram-same m size a i v p h =
    rw (wram-stored m size a i v p) (wram-number (with_wram m (put_bytes size m.wram i v)) size a i p ∙ number_put size m.wram i v h)

pub store-vram-same : StoreVramSame
store-vram-same m size a i v p h =
    rw (vram-stored m size a i v p) (vram-number (with_vram m (put_bytes size m.vram i v)) size a i p ∙ number_put size m.vram i v h)
