-- What accesses of each size do in each region, as far as no one memory says it: bytes of WRAM and ROM, the regions
-- with nothing behind them, and the range between VRAM and the mirror. Assumes nothing.
use Prim.Native.Nat.{ℕ, zero, suc, ◌+◌, ◌/◌, ◌%◌, ◌<◌, ◌≤◌, ◌^◌}
use mathlib.Core.Path.{◌≡◌, refl, sym, ◌∙◌}
use native.Mathlib.Omega.{arith}
use Rattle.word.specs.LittleEndian.{little_endian}
use Rattle.bus.specs.Place.{region_of}
use Rattle.bus.specs.Memory.{Memory, byte_of, load_of, put_byte, put_register, put_halfword, aligned_of, bytes_from, put_from, store_of}
use Rattle.bus.specs.inner.LeadsTo.{Between}
use Rattle.bus.proofs.Places.{region-code}
use Rattle.bus.proofs.Places.{byte-nothing, register-elsewhere, put-nothing}
use Rattle.bus.proofs.Steps.{from-steps}
use Rattle.bus.proofs.VipPlaces.{register-byte, between_next}

-- the region that the code's test found
pub found : (a r : ℕ) → a / 2 ^ 24 % 8 ≡ r → region_of a ≡ r
found a r e = sym (region-code a) ∙ e

pub missed : (a r : ℕ) → (a / 2 ^ 24 % 8 ≡ r → ⊥) → region_of a ≡ r → ⊥
missed a r n e = n (region-code a ∙ e)

-- neither the VIP, pak RAM nor the timer, by the code's tests
abbrev pub Passed : ℕ → Type 0
Passed r = (r ≡ 0 → ⊥) × ((r ≡ 6 → ⊥) × (r ≡ 2 → ⊥))

-- a region with nothing to read
abbrev pub Quiet : ℕ → Type 0
Quiet r = (r ≡ 5 → ⊥) × ((r ≡ 7 → ⊥) × Passed r)

-- bytes that all read 0
pub zero-bytes : (m : Memory) (s n : ℕ) → ((j : ℕ) → j < n → byte_of m (s + j) ≡ 0) → little_endian (bytes_from m s n) ≡ 0
zero-bytes m s zero q = refl
zero-bytes m s (suc n) q =
    let e : s + 0 ≡ s = omega arith in
    let first : byte_of m s ≡ 0 = rw e at (q 0 (omega arith)) in
    let next : (j : ℕ) → j < n → byte_of m (s + 1 + j) ≡ 0 =
    λ j less.
    let f : s + (1 + j) ≡ s + 1 + j = omega arith in
    rw f at (q (1 + j) (omega arith)) in
    rw (first, zero-bytes m (s + 1) n next)

pub nothing_read : (m : Memory) (size a : ℕ) → ((j : ℕ) → j < size → Quiet (region_of (aligned_of size a + j))) → load_of m size a ≡ 0
unfolding load_of
nothing_read m size a q =
    zero-bytes m (aligned_of size a) size
    (λ j h. let p = q j h in byte-nothing m (aligned_of size a + j) p.0 p.1.0 p.1.1.0 p.1.1.1.0 p.1.1.1.1)

-- an address that takes neither a byte nor a register
abbrev pub Idle : ℕ → Type 0
Idle s = (m : Memory) (v : ℕ) → (put_byte m s v ≡ m) × (put_register m s v ≡ m)

-- bytes that all take nothing
pub idle-puts : (m : Memory) (s n v : ℕ) → ((j : ℕ) → j < n → Idle (s + j)) → put_from m s n v ≡ m
idle-puts =
    from-steps (λ before after. after ≡ before) (λ m. refl) (λ m n o p q. q ∙ p) Idle (λ m a v q. (q m v).0) (λ m a v q. (q m v).1)

-- a region that takes nothing
abbrev pub Inert : ℕ → Type 0
Inert r = (r ≡ 5 → ⊥) × Passed r

pub nothing_stored : (m : Memory) (size a v : ℕ) → ((j : ℕ) → j < size → Inert (region_of (aligned_of size a + j))) → store_of m size a v ≡ m
unfolding store_of
nothing_stored m size a v q =
    idle-puts m (aligned_of size a) size v
    (λ j h n x.
    let p = q j h in
    let s = aligned_of size a + j in
    (put-nothing n s x p.0 p.1.0 p.1.1.0 p.1.1.1, register-elsewhere n s x p.1.0))

-- the registers that a store of n bytes from s on writes: that of each halfword
abbrev pub put_registers : Memory → ℕ → ℕ → ℕ → Memory
put_registers m s zero v = m
put_registers m s (suc zero) v = put_register m s v
put_registers m s (suc (suc n)) v = put_registers (put_register m s v) (s + 2) n (v / 65536)

between_put : (m : Memory) (s v : ℕ) → s % 2 ≡ 0 → Between s → put_halfword m s v ≡ put_register m s v
unfolding put_halfword
between_put m s v even b =
    rw (register-byte m s b v, register-byte m (s + 1) (between_next s b even) (v / 256))

-- between VRAM and the mirror a store does nothing else
pub between-puts : (m : Memory) (s n v : ℕ) → (1 < n → s % 2 ≡ 0) → s % 4 + n ≤ 4 → Between s → put_from m s n v ≡ put_registers m s n v
between-puts m s zero v even near b = refl
between-puts m s (suc zero) v even near b = rw (register-byte m s b v)
between-puts m s (suc (suc zero)) v even near b = between_put m s v (even (omega arith)) b
between-puts m s (suc (suc (suc n))) v even near b =
    let two : s % 2 ≡ 0 = even (omega arith) in
    let next : Between (s + 2) = record { low = omega (arith, b.low); high = omega (arith, b.high, near) } in
    rw (between_put m s v two b) (between-puts (put_register m s v) (s + 2) (suc n) (v / 65536) (λ h. omega (arith, two)) (omega (arith, near)) next)
