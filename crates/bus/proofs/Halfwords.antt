-- A load or store of any size in terms of its bytes and halfwords.
-- Assumes nothing.
use Prim.Native.Nat.{ℕ, ◌+◌, ◌-◌, ◌*◌, ◌/◌, ◌%◌, ◌<◌}
use mathlib.Core.Path.{◌≡◌, sym, ◌∙◌}
use native.Mathlib.Omega.{arith}
use Rattle.bus.specs.Memory.{Memory, Reads, byte_of, load_of, put_byte, put_register, store_of}

-- a byte load is the byte
pub byte-load : (m : Memory) (a : ℕ) → load_of m 1 a ≡ byte_of m a
unfolding load_of
byte-load m a =
    let e : a - a % 1 ≡ a = omega arith in
    rw e (omega arith)

-- a halfword load is two bytes
pub half-load : (m : Memory) (a : ℕ) → load_of m 2 a ≡ byte_of m (a - a % 2) + 256 * byte_of m (a - a % 2 + 1)
unfolding load_of
half-load m a = omega arith

pub half-load-even : (m : Memory) (a : ℕ) → a % 2 ≡ 0 → load_of m 2 a ≡ byte_of m a + 256 * byte_of m (a + 1)
half-load-even m a h =
    let e : a - a % 2 ≡ a = omega arith in
    half-load m a ∙ rw e

-- a halfword access drops bit 0
pub half-load-start : (m : Memory) (a : ℕ) → load_of m 2 (a - a % 2) ≡ load_of m 2 a
unfolding load_of
half-load-start m a =
    let e : a - a % 2 - (a - a % 2) % 2 ≡ a - a % 2 = omega arith in
    rw e

-- a word load is two halfword loads
pub word-load : (m : Memory) (a : ℕ) → load_of m 4 a ≡ load_of m 2 (a - a % 4) + 65536 * load_of m 2 (a - a % 4 + 2)
unfolding load_of
word-load m a =
    let e : a - a % 4 - (a - a % 4) % 2 ≡ a - a % 4 = omega arith in
    let f : a - a % 4 + 2 - (a - a % 4 + 2) % 2 ≡ a - a % 4 + 2 = omega arith in
    let g : a - a % 4 + 1 + 1 ≡ a - a % 4 + 2 = omega arith in
    rw (g, e, f) (omega arith)

-- a byte store puts the byte, and writes the register
pub byte-store : (m : Memory) (a v : ℕ) → store_of m 1 a v ≡ put_register (put_byte m a v) a v
unfolding store_of
byte-store m a v =
    let e : a - a % 1 ≡ a = omega arith in
    rw e

-- a word store is two halfword stores
pub word-store : (m : Memory) (a v : ℕ) → store_of m 4 a v ≡ store_of (store_of m 2 (a - a % 4) v) 2 (a - a % 4 + 2) (v / 65536)
unfolding store_of
word-store m a v =
    let e : a - a % 4 - (a - a % 4) % 2 ≡ a - a % 4 = omega arith in
    let f : a - a % 4 + 2 - (a - a % 4 + 2) % 2 ≡ a - a % 4 + 2 = omega arith in
    rw (e, f)

-- values read at two addresses that follow each other, put together
pub reads-half : (m : Memory) (a x y : ℕ) → Reads m 1 (a - a % 2) x → Reads m 1 (a - a % 2 + 1) y → Reads m 2 a (x + 256 * y)
reads-half m a x y p q =
    record {
      means = sym (half-load m a ∙ rw (← byte-load m (a - a % 2), ← byte-load m (a - a % 2 + 1), ← p.means, ← q.means));
      fits = omega (arith, p.fits, q.fits);
    }

pub reads_word : (m : Memory) (a x y : ℕ) → Reads m 2 (a - a % 4) x → Reads m 2 (a - a % 4 + 2) y → Reads m 4 a (x + 65536 * y)
reads_word m a x y p q =
    record {
      means = sym (word-load m a ∙ rw (← p.means, ← q.means));
      fits = omega (arith, p.fits, q.fits);
    }

-- a word at an aligned address, of a size that is known to be 4
module _ (m : Memory) (size a : ℕ) (e : size ≡ 4) (z : a % size ≡ 0) where
  fourth : a % 4 ≡ 0
  fourth = rw e at z

  pub room-above : a % 4 + 2 < 4
  room-above = omega (arith, fourth)

  pub aligned-word-reads : (x y : ℕ) → Reads m 2 a x → Reads m 2 (a + 2) y → Reads m size a (x + 65536 * y)
  aligned-word-reads x y p q =
      let f = fourth in
      let g : a ≡ a - a % 4 = omega (arith, f) in
      let k : a + 2 ≡ a - a % 4 + 2 = omega (arith, f) in
      rw e (reads_word m a x y (rw g at p) (rw k at q))

  pub aligned-word-store : (v : ℕ) → store_of (store_of m 2 a v) 2 (a + 2) (v / 65536) ≡ store_of m size a v
  aligned-word-store v =
      let f = fourth in
      let g : a - a % 4 ≡ a = omega (arith, f) in
      rw e (sym (word-store m a v ∙ rw g))
