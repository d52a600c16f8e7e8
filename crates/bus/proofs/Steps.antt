-- A store is made of steps, bytes put and registers written: what each step does to memory, and what steps in turn do,
-- the store does. Assumes nothing.
use Prim.Native.Nat.{ℕ, zero, suc, ◌+◌, ◌/◌, ◌%◌, ◌<◌}
use mathlib.Core.Path.{◌≡◌}
use native.Mathlib.Omega.{arith}
use lib.ListN.{length}
use Rattle.bus.specs.Place.{Place}
use Rattle.bus.specs.Memory.{Memory, place_in, put_place, put_drawing, put_byte, put_register, put_halfword, put_from, aligned_of, store_of}
use Rattle.bus.proofs.DrawingPlaces.{Proper, place-proper}

-- P of the memory before and after, for steps at addresses with Q
module _ (P : Memory → Memory → Type 0) (same : (m : Memory) → P m m) (both : (m n o : Memory) → P m n → P n o → P m o)
    (Q : ℕ → Type 0)
    (put : (m : Memory) (a v : ℕ) → Q a → P m (put_byte m a v))
    (write : (m : Memory) (a v : ℕ) → Q a → P m (put_register m a v)) where
  halfword-steps : (m : Memory) (a v : ℕ) → Q a → Q (a + 1) → P m (put_halfword m a v)
  unfolding put_halfword
  halfword-steps m a v first second =
      let n = put_byte m a v in
      let o = put_byte n (a + 1) (v / 256) in
      both m o (put_register o a v) (both m n o (put m a v first) (put n (a + 1) (v / 256) second)) (write o a v first)

  pub from-steps : (m : Memory) (a n v : ℕ) → ((j : ℕ) → j < n → Q (a + j)) → P m (put_from m a n v)
  from-steps m a zero v q = same m
  from-steps m a (suc zero) v q =
      let e : a + 0 ≡ a = omega arith in
      let first : Q a = rw e at (q 0 (omega arith)) in
      both m (put_byte m a v) (put_register (put_byte m a v) a v) (put m a v first) (write (put_byte m a v) a v first)
  from-steps m a (suc (suc n)) v q =
      let e : a + 0 ≡ a = omega arith in
      let h = put_halfword m a v in
      let next : (j : ℕ) → j < n → Q (a + 2 + j) =
      λ j less.
      let f : a + (2 + j) ≡ a + 2 + j = omega arith in
      rw f at (q (2 + j) (omega arith)) in
      both m h (put_from h (a + 2) n (v / 65536)) (halfword-steps m a v (rw e at (q 0 (omega arith))) (q 1 (omega arith)))
      (from-steps h (a + 2) n (v / 65536) next)

  pub store-steps-at : (m : Memory) (size a v : ℕ) → ((j : ℕ) → j < size → Q (aligned_of size a + j)) → P m (store_of m size a v)
  unfolding store_of
  store-steps-at m size a v q = from-steps m (aligned_of size a) size v q

-- the same by the places of the steps, at any address
module _ (P : Memory → Memory → Type 0) (same : (m : Memory) → P m m) (both : (m n o : Memory) → P m n → P n o → P m o)
    (put : (m : Memory) (p : Place) (b : ℕ) → b < 256 → P m (put_place m p b))
    (write : (m : Memory) (p : Place) (v : ℕ) → Proper p → P m (put_drawing m p v)) where
  pub byte_step : (m : Memory) (a v : ℕ) → P m (put_byte m a v)
  unfolding put_byte
  byte_step m a v = put m (place_in m a) (v % 256) (omega arith)

  pub register-step : (m : Memory) (a v : ℕ) → P m (put_register m a v)
  unfolding put_register
  register-step m a v = write m (place_in m a) (v % 65536) (place-proper (length m.rom) (length m.pak) a)

  pub store-steps : (m : Memory) (size a v : ℕ) → P m (store_of m size a v)
  store-steps m size a v =
      store-steps-at P same both (λ a. Unit {0}) (λ m a v q. byte_step m a v) (λ m a v q. register-step m a v) m size a v (λ j h. tt)
