-- Where an address leads, by its region, and what a byte there reads or takes. Assumes nothing.
use Prim.Native.Nat.{ℕ, ◌+◌, ◌-◌, ◌/◌, ◌%◌, ◌^◌, ◌<◌}
use mathlib.Core.Bool.{true}
use mathlib.Core.Logic.{◌⊎◌, inl, inr}
use mathlib.Core.Path.{◌≡◌, ap}
use native.Mathlib.Decide.{ℕ_discrete}
use native.Mathlib.Omega.{arith}
use Rattle.bus.specs.Refusal.{rom_ok}
use Rattle.bus_timer.specs.Ports.{hardware_offset_of}
use Rattle.bus.specs.Place.{wram_at, pak_at, rom_at, hardware_at, vip_place, region_of, place_of}
use Rattle.bus.specs.Memory.{Memory, byte_of, put_byte, put_register}
use Rattle.bus.proofs.Power.{rom-power, power-low}

-- the region as the code works it out
pub region-code : (a : ℕ) → a / 2 ^ 24 % 8 ≡ region_of a
unfolding region_of
region-code a = omega arith

-- an access does not leave its region
pub region-word : (a j : ℕ) → j < 4 → region_of (a - a % 4 + j) ≡ region_of a
unfolding region_of
region-word a j h = omega arith

pub region-half : (a j : ℕ) → j < 2 → region_of (a - a % 2 + j) ≡ region_of a
region-half a j h =
    let e : a - a % 2 + j ≡ a - a % 4 + (a % 4 - a % 2 + j) = omega arith in
    let f : a % 4 - a % 2 + j < 4 = omega arith in
    rw e (region-word a (a % 4 - a % 2 + j) f)

pub region-step : (s j : ℕ) → s % 4 + j < 4 → region_of (s + j) ≡ region_of s
region-step s j h =
    let e : s - s % 4 + (s % 4 + j) ≡ s + j = omega arith in
    rw e at (region-word s (s % 4 + j) h)

pub region-half-start : (a : ℕ) → region_of (a - a % 2) ≡ region_of a
region-half-start a =
    let e : a - a % 2 + 0 ≡ a - a % 2 = omega arith in
    rw e at (region-half a 0 (omega arith))

pub region-word-start : (a : ℕ) → region_of (a - a % 4) ≡ region_of a
region-word-start a =
    let e : a - a % 4 + 0 ≡ a - a % 4 = omega arith in
    rw e at (region-word a 0 (omega arith))

pub region-bound : (a : ℕ) → region_of a < 8
unfolding region_of
region-bound a = omega arith

module _ (romLength pakLength a : ℕ) where
  pub place-wram : region_of a ≡ 5 → place_of romLength pakLength a ≡ wram_at (a % 65536)
  unfolding place_of
  place-wram e = rw e (ap wram_at (omega arith))

  pub place-vip : region_of a ≡ 0 → place_of romLength pakLength a ≡ vip_place (a % 524288)
  unfolding place_of
  place-vip e = rw e (ap vip_place (omega arith))

  pub place-hardware : region_of a ≡ 2 → place_of romLength pakLength a ≡ hardware_at (hardware_offset_of a)
  unfolding place_of
  place-hardware e = rw e

  pub place-pak : region_of a ≡ 6 → place_of romLength pakLength a ≡ pak_at (a % 2 ^ 27 % pakLength)
  unfolding place_of
  place-pak e = rw e

  pub place-rom : region_of a ≡ 7 → rom_ok romLength ≡ true → place_of romLength pakLength a ≡ rom_at (a % romLength)
  unfolding place_of
  place-rom e ok = rw e (ap rom_at (power-low 2 romLength (rom-power romLength ok) a))

-- the regions that the code does not test for: reads
abbrev Three : ℕ → Type 0
Three r = (r ≡ 1) ⊎ ((r ≡ 3) ⊎ (r ≡ 4))

below : (r k : ℕ) → r < k + 1 → (r ≡ k → ⊥) → r < k
below r k h n = omega arith

three-below : (r : ℕ) → r < 5 → (r ≡ 0 → ⊥) → (r ≡ 2 → ⊥) → Three r
three-below r h n0 n2 =
    elim (ℕ_discrete r 1) [
      | yes e ↦ inl e
      | no n1 ↦ elim (ℕ_discrete r 3) [
        | yes e ↦ inr (inl e)
        | no n3 ↦ inr (inr (omega arith))
      ]
    ]

three : (r : ℕ) → r < 8 → (r ≡ 5 → ⊥) → (r ≡ 7 → ⊥) → (r ≡ 0 → ⊥) → (r ≡ 6 → ⊥) → (r ≡ 2 → ⊥) → Three r
three r h n5 n7 n0 n6 n2 = three-below r (below r 5 (below r 6 (below r 7 h n7) n6) n5) n0 n2

read-three : (m : Memory) (a : ℕ) → Three (region_of a) → byte_of m a ≡ 0
unfolding byte_of place_of
read-three m a (inl e) = rw e
read-three m a (inr (inl e)) = rw e
read-three m a (inr (inr e)) = rw e

-- regions 1, 3 and 4 read 0
pub byte-nothing : (m : Memory) (a : ℕ) → (region_of a ≡ 5 → ⊥) → (region_of a ≡ 7 → ⊥) → (region_of a ≡ 0 → ⊥) → (region_of a ≡ 6 → ⊥)
    → (region_of a ≡ 2 → ⊥)
    → byte_of m a ≡ 0
byte-nothing m a n5 n7 n0 n6 n2 = read-three m a (three (region_of a) (region-bound a) n5 n7 n0 n6 n2)

abbrev Seven : ℕ → Type 0
Seven r = (r ≡ 5) ⊎ ((r ≡ 6) ⊎ ((r ≡ 7) ⊎ ((r ≡ 2) ⊎ Three r)))

seven : (r : ℕ) → r < 8 → (r ≡ 0 → ⊥) → Seven r
seven r h n0 =
    elim (ℕ_discrete r 5) [
      | yes e ↦ inl e
      | no n5 ↦ elim (ℕ_discrete r 6) [
        | yes e ↦ inr (inl e)
        | no n6 ↦ elim (ℕ_discrete r 7) [
          | yes e ↦ inr (inr (inl e))
          | no n7 ↦ elim (ℕ_discrete r 2) [
            | yes e ↦ inr (inr (inr (inl e)))
            | no n2 ↦ inr (inr (inr (inr (three r h n5 n7 n0 n6 n2))))
          ]
        ]
      ]
    ]

register-seven : (m : Memory) (a v : ℕ) → Seven (region_of a) → put_register m a v ≡ m
unfolding put_register place_of
register-seven m a v (inl e) = rw e
register-seven m a v (inr (inl e)) = rw e
register-seven m a v (inr (inr (inl e))) = rw e
register-seven m a v (inr (inr (inr (inl e)))) = rw e
register-seven m a v (inr (inr (inr (inr (inl e))))) = rw e
register-seven m a v (inr (inr (inr (inr (inr (inl e)))))) = rw e
register-seven m a v (inr (inr (inr (inr (inr (inr e)))))) = rw e

-- drawing registers stand in region 0 alone
pub register-elsewhere : (m : Memory) (a v : ℕ) → (region_of a ≡ 0 → ⊥) → put_register m a v ≡ m
register-elsewhere m a v n0 = register-seven m a v (seven (region_of a) (region-bound a) n0)

put-seven : (m : Memory) (a v : ℕ) → (region_of a ≡ 5 → ⊥) → (region_of a ≡ 6 → ⊥) → (region_of a ≡ 2 → ⊥) → Seven (region_of a)
    → put_byte m a v ≡ m
unfolding put_byte place_of
put-seven m a v n5 n6 n2 (inl e) = absurd (n5 e)
put-seven m a v n5 n6 n2 (inr (inl e)) = absurd (n6 e)
put-seven m a v n5 n6 n2 (inr (inr (inl e))) = rw e
put-seven m a v n5 n6 n2 (inr (inr (inr (inl e)))) = absurd (n2 e)
put-seven m a v n5 n6 n2 (inr (inr (inr (inr (inl e))))) = rw e
put-seven m a v n5 n6 n2 (inr (inr (inr (inr (inr (inl e)))))) = rw e
put-seven m a v n5 n6 n2 (inr (inr (inr (inr (inr (inr e)))))) = rw e

-- regions 1, 3 and 4 and ROM take no byte
pub put-nothing : (m : Memory) (a v : ℕ) → (region_of a ≡ 5 → ⊥) → (region_of a ≡ 0 → ⊥) → (region_of a ≡ 6 → ⊥) → (region_of a ≡ 2 → ⊥)
    → put_byte m a v ≡ m
put-nothing m a v n5 n0 n6 n2 = put-seven m a v n5 n6 n2 (seven (region_of a) (region-bound a) n0)
