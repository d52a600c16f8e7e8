-- Which addresses are undefined, by arithmetic alone; and the statements of specs/Addresses. Assumes nothing.
use Prim.Native.Nat.{ℕ, zero, suc, ◌+◌, ◌-◌, ◌/◌, ◌%◌, ◌^◌, ◌<◌, ◌≤◌}
use mathlib.Core.Bool.{Bool, true, false, true≢false}
use mathlib.Core.List.{List, [], ◌∷◌, ◌++◌}
use mathlib.Core.Logic.{◌⊎◌, inl, inr}
use mathlib.Core.Path.{◌≡◌, refl, sym, ap, ◌∙◌}
use native.Mathlib.Decide.{ℕ_discrete, dec_lt}
use native.Mathlib.Omega.{arith}
use borrow.Author.Tests.{lt-ltb, le-ltb, le-leb, lt-leb, ne_eqb, eq-eqb}
use lib.Dec.{T, ltb, leb, eqb}
use lib.ListN.{length, get_or}
use Rattle.word.specs.Choose.{pick, member, index_of}
use Rattle.bus.specs.Registers.{drawing_addresses, silent_addresses, version_address}
use Rattle.bus_timer.specs.Ports.{hardware_offset_of}
use Rattle.bus.specs.Place.{Place, vram_at, wram_at, pak_at, rom_at, drawing_at, version_at, silent, unmapped}
use Rattle.bus.specs.Place.{hardware_at, register_place, vip_place, region_of}
use Rattle.bus.specs.Place.{place_of}
use Rattle.bus.specs.Memory.{Memory, byte_of, read_place, place_in}
use Rattle.bus.specs.declared.Place.{Place as Found}
use Rattle.bus.specs.declared.Place.TheVariants.{Wram, Vram, Rom, Pak, Register, Port, Nothing}
use Rattle.bus.specs.inner.LeadsTo.{LeadsTo, InVram}
use Rattle.bus.proofs.Led.{NoRegister}
use Rattle.bus.proofs.Places.{region-code, region-half, place-vip}
use Rattle.bus_defined.specs.Defined.{defined_place, defined_of, register_addresses}
use Rattle.bus_defined.specs.Addresses.{Unmapped, Unlisted, UndefinedExactly, UndefinedReadsZero}
use Rattle.word.proofs.Choices.{pick-head, pick-tail}
use Rattle.word.proofs.Listed.{member_apart, member-same, member-append, index-member}

-- an address without its bit 0, among the VIP's
abbrev pub even_of : ℕ → ℕ
even_of a = a % 524288 - a % 524288 % 2

-- whether the halfword at an even address of the VIP is defined, and the byte at an address
abbrev pub defined_even : ℕ → Bool
defined_even h = pick (ltb h 0x40000) true (pick (ltb h 0x78000) (member h register_addresses) true)

unfoldable pub defined_at : ℕ → Bool
defined_at a = pick (eqb (region_of a) 0) (defined_even (even_of a)) true

-- the three lists of registers that the bus goes by are the 27 that 000 lists
listed_same : (h : ℕ) → pick (ltb (index_of h drawing_addresses) 13) true (pick (eqb h version_address) true
    (member h silent_addresses)) ≡ member h register_addresses
listed_same h =
    rw (index-member h drawing_addresses)
    (sym (member-append h drawing_addresses (version_address ∷ silent_addresses))
    ∙ member-same h (drawing_addresses ++ (version_address ∷ silent_addresses)) register_addresses tt tt)

register-kinds : (k y z : ℕ) (b₁ b₂ b₃ : Bool) → defined_place (pick b₁ (drawing_at k y) (pick b₂ (version_at z)
    (pick b₃ silent unmapped))) ≡ pick b₁ true (pick b₂ true b₃)
register-kinds k y z true b₂ b₃ = refl
register-kinds k y z false true b₃ = refl
register-kinds k y z false false true = refl
register-kinds k y z false false false = refl

register-defined : (v : ℕ) → defined_place (register_place v) ≡ member (v - v % 2) register_addresses
unfolding register_place
register-defined v =
    let h = v - v % 2 in
    let k = index_of h drawing_addresses in
    register-kinds k (v % 2) (v % 2) (ltb k 13) (eqb h version_address) (member h silent_addresses)
    ∙ listed_same h

-- no register is listed outside 0x5E000 to 0x5FFFF
abbrev in_range : ℕ → Bool
in_range x = pick (leb 0x5E000 x) (ltb x 0x60000) false

below-range : (v : ℕ) → v < 0x5E000 → member (v - v % 2) register_addresses ≡ false
below-range v h =
    let g : v - v % 2 < 0x5E000 = omega arith in
    member_apart in_range (v - v % 2) register_addresses tt (simp (lt-leb 0x5E000 (v - v % 2) g))

above-range : (v : ℕ) → 0x60000 ≤ v → member (v - v % 2) register_addresses ≡ false
above-range v h =
    let f : 0x5E000 ≤ v - v % 2 = omega arith in
    let g : 0x60000 ≤ v - v % 2 = omega arith in
    member_apart in_range (v - v % 2) register_addresses tt (simp (le-leb 0x5E000 (v - v % 2) f, le-ltb (v - v % 2) 0x60000 g))

vip-defined : (v : ℕ) → defined_place (vip_place v) ≡ defined_even (v - v % 2)
unfolding vip_place
vip-defined v =
    elim (dec_lt v 0x40000) [
      | yes a ↦
          let a' : v - v % 2 < 0x40000 = omega arith in
          simp (lt-ltb v 0x40000 a, lt-ltb (v - v % 2) 0x40000 a')
      | no a ↦
          let low : 0x40000 ≤ v = omega arith in
          let low' : 0x40000 ≤ v - v % 2 = omega arith in
          elim (dec_lt v 0x5E000) [
            | yes b ↦
                let b' : v - v % 2 < 0x78000 = omega arith in
                simp (le-ltb v 0x40000 low, lt-ltb v 0x5E000 b, le-ltb (v - v % 2) 0x40000 low', lt-ltb (v - v % 2) 0x78000 b') (sym (below-range v b))
            | no b ↦
                let from : 0x5E000 ≤ v = omega arith in
                elim (dec_lt v 0x60000) [
                  | yes d ↦
                      let d' : v - v % 2 < 0x78000 = omega arith in
                      simp (
                        le-ltb v 0x40000 low,
                        le-ltb v 0x5E000 from,
                        lt-ltb v 0x60000 d,
                        le-ltb
                            (v - v % 2) 0x40000 low',
                        lt-ltb (v - v % 2) 0x78000 d',
                      ) (register-defined v)
                  | no d ↦
                      let past : 0x60000 ≤ v = omega arith in
                      elim (dec_lt v 0x78000) [
                        | yes e ↦
                            let e' : v - v % 2 < 0x78000 = omega arith in
                            simp (
                              le-ltb v 0x40000 low,
                              le-ltb v 0x5E000 from,
                              le-ltb v 0x60000 past,
                              lt-ltb v 0x78000
                                  e,
                              le-ltb (v - v % 2) 0x40000 low',
                              lt-ltb (v - v % 2) 0x78000 e',
                            ) (sym
                            (above-range v past))
                        | no e ↦
                            let high : 0x78000 ≤ v = omega arith in
                            let high' : 0x78000 ≤ v - v % 2 = omega arith in
                            simp (
                              le-ltb v 0x40000 low,
                              le-ltb v 0x5E000 from,
                              le-ltb v 0x60000 past,
                              le-ltb v 0x78000
                                  high,
                              le-ltb (v - v % 2) 0x40000 low',
                              le-ltb (v - v % 2) 0x78000 high',
                            )
                      ]
                ]
          ]
    ]

-- the other regions have no undefined byte
abbrev all_defined : List Place → Bool
all_defined [] = true
all_defined (p ∷ ps) = pick (defined_place p) (all_defined ps) false

get_or-defined : (ps : List Place) (k : ℕ) → T (all_defined ps) → defined_place (get_or ps k silent) ≡ true
get_or-defined [] k all = refl
get_or-defined (p ∷ ps) zero all = pick-head (defined_place p) (all_defined ps) all
get_or-defined (p ∷ ps) (suc k) all = get_or-defined ps k (pick-tail (defined_place p) (all_defined ps) all)

rest-defined : (p : Place) (ps : List Place) (k : ℕ) → T (all_defined ps) → (k ≡ 0 → ⊥) → defined_place (get_or (p ∷ ps) k silent) ≡ true
rest-defined p ps zero all n = absurd (n refl)
rest-defined p ps (suc k) all n = get_or-defined ps k all

-- the places of regions 1 to 7
abbrev elsewhere : Memory → ℕ → List Place
elsewhere m a =
    silent
    ∷ hardware_at (hardware_offset_of a)
    ∷ silent
    ∷ silent
    ∷ wram_at (a % 2 ^ 27 % 65536)
    ∷ pak_at (a % 2 ^ 27 % length m.pak)
    ∷ rom_at (a % 2 ^ 27 % length m.rom)
    ∷ []

pub defined-address : (m : Memory) (a : ℕ) → defined_of m a ≡ defined_at a
unfolding defined_of defined_at place_of
defined-address m a =
    elim (ℕ_discrete (region_of a) 0) [
      | yes e ↦
          rw (place-vip (length m.rom) (length m.pak) a e)
          (simp (eq-eqb (region_of a) 0 e) (vip-defined (a % 524288)))
      | no n ↦
          simp (ne_eqb (region_of a) 0 n) (rest-defined (vip_place (a % 2 ^ 27 % 2 ^ 19)) (elsewhere m a) (region_of a) tt n)
    ]

even-low : (v j : ℕ) → j < 2 → v - v % 2 + j - (v - v % 2 + j) % 2 ≡ v - v % 2
even-low v j h = omega arith

low-even : (a j : ℕ) → j < 2 → (a - a % 2 + j) % 524288 ≡ a % 524288 - a % 524288 % 2 + j
low-even a j h =
    let p : a % 2 ≡ a % 524288 % 2 = omega arith in
    rw p (omega arith)

-- the bytes of a halfword are of one kind
pub half-kind : (a j : ℕ) → j < 2 → defined_at (a - a % 2 + j) ≡ defined_at a
unfolding defined_at
half-kind a j h =
    rw (region-half a j h, low-even a j h, even-low (a % 524288) j h)

defined-region : (a : ℕ) → (region_of a ≡ 0 → ⊥) → defined_at a ≡ true
unfolding defined_at
defined-region a n = simp (ne_eqb (region_of a) 0 n)

in-vram : (a i : ℕ) → region_of a ≡ 0 → InVram (a % 524288) i → defined_at a ≡ true
unfolding defined_at
in-vram a i here e =
    let z : a % 524288 + 0 ≡ a % 524288 = omega arith in
    let first : vip_place (a % 524288) ≡ vram_at (i + 0) = rw z at (e.each 0 (omega arith)) in
    simp (eq-eqb (region_of a) 0 here) (sym (vip-defined (a % 524288)) ∙ ap defined_place first)

-- by region and the 19 bits that the VIP keeps
module _ (a : ℕ) where
  pub defined-outside : 0 < a / 2 ^ 24 % 8 → defined_at a ≡ true
  unfolding defined_at
  defined-outside h =
      let n : region_of a ≡ 0 → ⊥ = λ e. omega (arith, region-code a, e, h) in
      simp (ne_eqb (region_of a) 0 n)

  module _ (here : a / 2 ^ 24 % 8 ≤ 0) where
    region : region_of a ≡ 0
    region = omega (arith, region-code a, here)

    pub defined-low : a % 524288 < 0x40000 → defined_at a ≡ true
    unfolding defined_at
    defined-low h =
        let g : even_of a < 0x40000 = omega arith in
        simp (eq-eqb (region_of a) 0 region, lt-ltb (even_of a) 0x40000 g)

    pub defined-mirror : 0x78000 ≤ a % 524288 → defined_at a ≡ true
    unfolding defined_at
    defined-mirror h =
        let f : 0x40000 ≤ even_of a = omega arith in
        let g : 0x78000 ≤ even_of a = omega arith in
        simp (eq-eqb (region_of a) 0 region, le-ltb (even_of a) 0x40000 f, le-ltb (even_of a) 0x78000 g)

    pub defined-between : 0x40000 ≤ a % 524288 → a % 524288 < 0x78000 → defined_at a ≡ member (even_of a) register_addresses
    unfolding defined_at
    defined-between low high =
        let f : 0x40000 ≤ even_of a = omega arith in
        let g : even_of a < 0x78000 = omega arith in
        simp (eq-eqb (region_of a) 0 region, le-ltb (even_of a) 0x40000 f, lt-ltb (even_of a) 0x78000 g)

-- by the place that the code finds
pub led-register : (a v : ℕ) → LeadsTo a (Register v) → defined_at a ≡ member (v - v % 2) register_addresses
led-register a v (here, (e, b)) = rw e (defined-between a (omega (arith, region-code a, here)) b.low b.high)

pub led-defined : (a : ℕ) (p : Found) → NoRegister p → LeadsTo a p → defined_at a ≡ true
led-defined a (Register v) n e = absurd n
led-defined a (Vram i) n (here, e) = in-vram a i here e
led-defined a (Wram i) n (here, e) = defined-region a (λ z. omega arith)
led-defined a (Rom x) n (here, e) = defined-region a (λ z. omega arith)
led-defined a (Pak x) n (here, e) = defined-region a (λ z. omega arith)
led-defined a (Port o) n (here, e) = defined-region a (λ z. omega arith)
led-defined a Nothing n e = defined-region a e.no_vip

-- undefined addresses
between : (a : ℕ) → defined_at a ≡ false → (a / 2 ^ 24 % 8 ≤ 0) × ((0x40000 ≤ a % 524288) × (a % 524288 < 0x78000))
between a h =
    elim (dec_lt 0 (a / 2 ^ 24 % 8)) [
      | yes e ↦ absurd (true≢false (sym (defined-outside a e) ∙ h))
      | no e ↦
          let here : a / 2 ^ 24 % 8 ≤ 0 = omega arith in
          elim (dec_lt (a % 524288) 0x40000) [
            | yes f ↦ absurd (true≢false (sym (defined-low a here f) ∙ h))
            | no f ↦ elim (dec_lt (a % 524288) 0x78000) [
              | yes g ↦ (here, (omega arith, g))
              | no g ↦ absurd (true≢false (sym (defined-mirror a here (omega arith)) ∙ h))
            ]
          ]
    ]

ranges : (v : ℕ) → 0x40000 ≤ v → v < 0x78000 → member (v - v % 2) register_addresses ≡ false → Unmapped v ⊎ Unlisted v
ranges v low high none =
    elim (dec_lt v 0x5E000) [
      | yes a ↦ inl (inl (low, omega arith))
      | no a ↦ elim (dec_lt v 0x60000) [
        | yes b ↦ inr (omega arith, omega arith, none)
        | no b ↦ inl (inr (omega arith, omega arith))
      ]
    ]

unlisted-range : (v : ℕ) → Unmapped v ⊎ Unlisted v → (0x40000 ≤ v) × ((v < 0x78000) × (member (v - v % 2) register_addresses ≡ false))
unlisted-range v (inl (inl p)) = (p.0, (omega arith, below-range v (omega arith)))
unlisted-range v (inl (inr p)) = (omega arith, (omega arith, above-range v p.0))
unlisted-range v (inr p) = (omega arith, (omega arith, p.2))

pub undefined-exactly : UndefinedExactly
undefined-exactly m a = (
  λ h.
      let none : defined_at a ≡ false = sym (defined-address m a) ∙ h in
      let b = between a none in
      (omega (arith, b.0), ranges (a % 524288) b.1.0 b.1.1 (sym (defined-between a b.0 b.1.0 b.1.1) ∙ none)),
  λ u.
      let here : a / 2 ^ 24 % 8 ≤ 0 = omega (arith, u.0) in
      let r = unlisted-range (a % 524288) u.1 in
      defined-address m a ∙ (defined-between a here r.0 r.1.0 ∙ r.1.1),
)

-- an undefined place reads 0
place-reads-zero : (m : Memory) (p : Place) → defined_place p ≡ false → read_place m p ≡ 0
place-reads-zero m unmapped h = refl
place-reads-zero m (vram_at i) h = absurd (true≢false h)
place-reads-zero m (wram_at i) h = absurd (true≢false h)
place-reads-zero m (pak_at i) h = absurd (true≢false h)
place-reads-zero m (rom_at i) h = absurd (true≢false h)
place-reads-zero m (drawing_at k b) h = absurd (true≢false h)
place-reads-zero m (version_at b) h = absurd (true≢false h)
place-reads-zero m (hardware_at o) h = absurd (true≢false h)
place-reads-zero m silent h = refl

pub undefined-reads-zero : UndefinedReadsZero
unfolding defined_of byte_of
undefined-reads-zero m a h = place-reads-zero m (place_in m a) h
