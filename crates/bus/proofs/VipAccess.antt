-- What the VIP's own functions need, by the address v of a register among the VIP's: its bytes and its halfword read,
-- and what a store of any size writes. Assumes nothing.
use Prim.Native.Nat.{ℕ, ◌+◌, ◌-◌, ◌*◌, ◌/◌, ◌%◌, ◌<◌, ◌≤◌}
use mathlib.Core.Bool.{true}
use mathlib.Core.Logic.{◌⊎◌, inl, inr}
use mathlib.Core.Path.{◌≡◌, sym, ap, ◌∙◌}
use native.Mathlib.Omega.{arith}
use Rattle.bus.specs.Memory.{Memory, Reads, byte_of, put_register, size_ok, store_of}
use Rattle.bus.specs.inner.LeadsTo.{Between}
use Rattle.bus.proofs.Sizes.{aligned-itself, size-even, size-near, short-left, long-left}
use Rattle.bus.proofs.VipPlaces.{register-fits}
use Rattle.bus.proofs.Accesses.{put_registers, between-puts}
use Rattle.bus.proofs.Halfwords.{byte-load, half-load, half-load-start, reads_word}

-- the halfword that holds an address there, and the upper one of its word
pub between_start : (v : ℕ) → Between v → Between (v - v % 2)
between_start v b = record { low = omega (arith, b.low); high = omega (arith, b.high) }

pub between-high : (v : ℕ) → Between v → Between (v - v % 4 + 2) × ((v - v % 4 + 2) % 2 ≡ 0)
between-high v b = (record { low = omega (arith, b.low); high = omega (arith, b.high) }, omega arith)

-- and the register after it, where an access reaches it
pub between-second : (v : ℕ) → Between v → (size : ℕ) → size_ok size ≡ true → v % size ≡ 0 → 4 ≤ size → Between (v + 2)
between-second v b size ok z h =
    let n = size-near size v ok z in
    record { low = omega (arith, b.low); high = omega (arith, b.high, n) }

-- reads, by the size and the halfword that holds the address
module _ (v : ℕ) (b : Between v) (m : Memory) (size r : ℕ) (p : Reads m 2 (v - v % 2) r) where
  both : r ≡ byte_of m (v - v % 2) + 256 * byte_of m (v - v % 2 + 1)
  both = p.means ∙ half-load-start m v ∙ half-load m v

  first_fits : byte_of m (v - v % 2) < 256
  first_fits = register-fits m (v - v % 2) (between_start v b)

  pub read_low : size ≡ 1 → v % 2 ≡ 0 → Reads m size v (r % 256)
  read_low e even =
      let f : v - v % 2 ≡ v = omega arith in
      rw e
      (record {
        means = sym (byte-load m v ∙ rw (sym (ap (byte_of m) f)) (omega (arith, both, first_fits)));
        fits = omega arith;
      })

  pub read-high : size ≡ 1 → (v % 2 ≡ 0 → ⊥) → Reads m size v (r / 256)
  read-high e odd =
      let f : v - v % 2 + 1 ≡ v = omega arith in
      rw e
      (record {
        means = sym (byte-load m v ∙ rw (sym (ap (byte_of m) f)) (omega (arith, both, first_fits)));
        fits = omega (arith, p.fits);
      })

  pub read-half : size ≡ 2 → Reads m size v r
  read-half e = rw e (record { means = p.means ∙ half-load-start m v; fits = p.fits })

  pub read_word : size ≡ 4 → v % size ≡ 0 → (y : ℕ) → Reads m 2 (v - v % 4 + 2) y → Reads m size v (r + 65536 * y)
  read_word e z y q =
      let f : v % 4 ≡ 0 = rw e at z in
      let g : v - v % 2 ≡ v - v % 4 = omega arith in
      rw e (reads_word m v r y (rw g at p) q)

-- writes: one register, or the two of a word
module _ (v : ℕ) (b : Between v) (m : Memory) (size x : ℕ) (ok : size_ok size ≡ true) (z : v % size ≡ 0) where
  registers-written : put_registers m v size x ≡ store_of m size v x
  unfolding store_of
  registers-written =
      rw (aligned-itself size v z) (sym (between-puts m v size x (size-even size v ok z) (size-near size v ok z) b))

  one-case : (size ≡ 1) ⊎ (size ≡ 2) → put_register m v x ≡ put_registers m v size x
  one-case (inl e) = rw e
  one-case (inr e) = rw e

  pub one_written : size < 4 → put_register m v x ≡ store_of m size v x
  one_written h = one-case (short-left size ok h) ∙ registers-written

  pub two-written : 4 ≤ size → put_register (put_register m v x) (v + 2) (x / 65536) ≡ store_of m size v x
  two-written h =
      let e = long-left size ok h in
      let f : put_register (put_register m v x) (v + 2) (x / 65536) ≡ put_registers m v size x = rw e in
      f ∙ registers-written
