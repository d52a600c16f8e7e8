-- The masks of a halfword, a byte and a word. Assumes nothing.
use Prim.Native.Nat.{ℕ, ◌+◌, ◌-◌, ◌*◌, ◌%◌}
use mathlib.Core.Bool.{Bool, true, false}
use mathlib.Core.Logic.{◌⊎◌, inl, inr}
use mathlib.Core.Path.{◌≡◌, refl, ◌∙◌}
use native.Mathlib.Omega.{arith}
use Rattle.word.specs.Choose.{pick}
use Rattle.bus.specs.Memory.{Memory}
use Rattle.bus_defined.specs.Defined.{defined_of, undefined_of}
use Rattle.bus_defined.specs.Addresses.{HalfMask}
use Rattle.bus_defined.proofs.Addresses.{defined_at, defined-address, half-kind}

both_bits : (t : Bool) → ◌≡◌ {A = ℕ} (pick t 0 1 + (pick t 0 2 + 0)) (pick t 0 3)
both_bits true = refl
both_bits false = refl

-- a halfword
pub half-undefined : (m : Memory) (a : ℕ) → undefined_of m 2 a ≡ pick (defined_at a) 0 3
unfolding undefined_of
half-undefined m a =
    let e : a - a % 2 + 0 ≡ a - a % 2 = omega arith in
    let low : defined_of m (a - a % 2) ≡ defined_at a = defined-address m (a - a % 2) ∙ (rw e at (half-kind a 0 (omega arith))) in
    let high : defined_of m (a - a % 2 + 1) ≡ defined_at a = defined-address m (a - a % 2 + 1) ∙ half-kind a 1 (omega arith) in
    rw (low, high) (both_bits (defined_at a))

pub half-defined : (m : Memory) (a : ℕ) → defined_at a ≡ true → undefined_of m 2 a ≡ 0
half-defined m a h = half-undefined m a ∙ rw h

pub half-not-defined : (m : Memory) (a : ℕ) → defined_at a ≡ false → undefined_of m 2 a ≡ 3
half-not-defined m a h = half-undefined m a ∙ rw h

zero-or-three : (t : Bool) → (◌≡◌ {A = ℕ} (pick t 0 3) 0) ⊎ (◌≡◌ {A = ℕ} (pick t 0 3) 3)
zero-or-three true = inl refl
zero-or-three false = inr refl

pub half-mask : HalfMask
half-mask m a = rw (half-undefined m a) (zero-or-three (defined_at a))

-- a byte
low_bit : (t : Bool) → ◌≡◌ {A = ℕ} (pick t 0 3 % 2) (pick t 0 1 + 0)
low_bit true = refl
low_bit false = refl

pub byte-undefined : (m : Memory) (a : ℕ) → undefined_of m 2 a % 2 ≡ undefined_of m 1 a
unfolding undefined_of
byte-undefined m a =
    let e : a - a % 1 ≡ a = omega arith in
    rw (half-undefined m a) (low_bit (defined_at a) ∙ rw (e, defined-address m a))

-- a word
third-bit : (t : Bool) → ◌≡◌ {A = ℕ} (pick t 0 4) (4 * pick t 0 1)
third-bit true = refl
third-bit false = refl

fourth-bit : (t : Bool) → ◌≡◌ {A = ℕ} (pick t 0 8) (4 * pick t 0 2)
fourth-bit true = refl
fourth-bit false = refl

four-bits : (a b c d : Bool) → ◌≡◌ {A = ℕ} (pick a 0 1 + (pick b 0 2 + 0) + 4 * (pick c 0 1 + (pick d 0 2 + 0)))
    (pick a 0 1 + (pick b 0 2 + (pick c 0 4 + (pick d 0 8 + 0))))
four-bits a b c d = omega (arith, third-bit c, fourth-bit d)

pub word-undefined : (m : Memory) (a : ℕ) → undefined_of m 2 (a - a % 4) + 4 * undefined_of m 2 (a - a % 4 + 2) ≡ undefined_of m 4 a
unfolding undefined_of
word-undefined m a =
    let e : a - a % 4 - (a - a % 4) % 2 ≡ a - a % 4 = omega arith in
    let f : a - a % 4 + 2 - (a - a % 4 + 2) % 2 ≡ a - a % 4 + 2 = omega arith in
    let g : a - a % 4 + 1 + 1 ≡ a - a % 4 + 2 = omega arith in
    rw (e, f, g) (four-bits (defined_of m (a - a % 4)) (defined_of m (a - a % 4 + 1)) (defined_of m (a - a % 4 + 2)) (defined_of m (a - a % 4 + 2 + 1)))
