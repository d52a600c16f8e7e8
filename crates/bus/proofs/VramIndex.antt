-- Where an address leads in VRAM (`vram_index_of`), by its region and the 19 bits that the VIP keeps. Assumes nothing.
use Prim.Native.Nat.{ℕ, zero, suc, ◌+◌, ◌-◌, ◌/◌, ◌%◌, ◌<◌, ◌≤◌, ◌^◌}
use mathlib.Core.List.{[], ◌∷◌}
use mathlib.Core.Path.{◌≡◌, refl, sym, ap, ◌∙◌}
use native.Mathlib.Decide.{ℕ_discrete, dec_lt}
use native.Mathlib.Omega.{arith}
use lib.ListN.{get_or}
use lib.Dec.{ltb, eqb}
use borrow.Author.Tests.{lt-ltb, le-ltb}
use Rattle.word.specs.Choose.{member, index_of}
use Rattle.bus.specs.Registers.{drawing_addresses, silent_addresses, version_address}
use Rattle.bus.specs.Place.{Place, vram_at, wram_at, pak_at, rom_at, drawing_at, version_at, silent, unmapped}
use Rattle.bus.specs.Place.{hardware_at, register_place, mirror_of, vip_place, region_of}
use Rattle.bus.specs.Place.{place_of, vram_index_of}
use Rattle.bus.specs.declared.Place.{Place as Found}
use Rattle.bus.specs.declared.Place.TheVariants.{Wram, Vram, Rom, Pak, Register, Port, Nothing}
use Rattle.bus.specs.inner.LeadsTo.{LeadsTo}
use Rattle.word.proofs.Choices.{pick-each}
use Rattle.bus.proofs.Led.{NoVram}
use Rattle.bus.proofs.VipPlaces.{mirror-step}
use Rattle.bus.proofs.Places.{region-code, place-vip}

-- regions 1 to 7 do not lead to VRAM
no_vram : (p : Place) (o i j k r : ℕ) → (r ≡ 0 → ⊥)
    → vram_index_of (get_or (p ∷ silent ∷ hardware_at o ∷ silent ∷ silent ∷ wram_at i ∷ pak_at j ∷ rom_at k ∷ []) r silent)
    ≡ 0x40000
no_vram p o i j k zero n = absurd (n refl)
no_vram p o i j k (suc zero) n = refl
no_vram p o i j k (suc (suc zero)) n = refl
no_vram p o i j k (suc (suc (suc zero))) n = refl
no_vram p o i j k (suc (suc (suc (suc zero)))) n = refl
no_vram p o i j k (suc (suc (suc (suc (suc zero))))) n = refl
no_vram p o i j k (suc (suc (suc (suc (suc (suc zero)))))) n = refl
no_vram p o i j k (suc (suc (suc (suc (suc (suc (suc zero))))))) n = refl
no_vram p o i j k (suc (suc (suc (suc (suc (suc (suc (suc r)))))))) n = refl

register-elsewhere : (v : ℕ) → vram_index_of (register_place v) ≡ 0x40000
unfolding register_place
register-elsewhere v =
    let h = v - v % 2 in
    let k = index_of h drawing_addresses in
    let Other : Place → Type 0 = λ p. vram_index_of p ≡ 0x40000 in
    pick-each Other (ltb k 13) (drawing_at k (v % 2)) _ refl
    (pick-each Other (eqb h version_address) (version_at (v % 2)) _ refl (pick-each Other (member h silent_addresses) silent unmapped refl refl))

module _ (rom pak a : ℕ) where
  pub elsewhere : (a / 2 ^ 24 % 8 ≡ 0 → ⊥) → vram_index_of (place_of rom pak a) ≡ 0x40000
  unfolding place_of
  elsewhere n = no_vram _ _ _ _ _ (region_of a) (λ e. n (region-code a ∙ e))

  pub low : a / 2 ^ 24 % 8 ≡ 0 → a % 524288 < 0x40000 → vram_index_of (place_of rom pak a) ≡ a % 524288
  unfolding vip_place
  low e h = rw (place-vip rom pak a (sym (region-code a) ∙ e)) (simp (lt-ltb (a % 524288) 0x40000 h))

  pub between : a / 2 ^ 24 % 8 ≡ 0 → 0x40000 ≤ a % 524288 → a % 524288 < 0x78000
      → vram_index_of (place_of rom pak a) ≡ 0x40000
  unfolding vip_place
  between e l h =
      rw (place-vip rom pak a (sym (region-code a) ∙ e))
      (simp (le-ltb (a % 524288) 0x40000 l, lt-ltb (a % 524288) 0x78000 h)
      (pick-each (λ (p : Place). vram_index_of p ≡ 0x40000) (ltb (a % 524288) 0x5E000) unmapped _ refl
      (pick-each (λ (p : Place). vram_index_of p ≡ 0x40000) (ltb (a % 524288) 0x60000) (register_place (a % 524288)) unmapped
      (register-elsewhere (a % 524288)) refl)))

  pub mirrored : a / 2 ^ 24 % 8 ≡ 0 → 0x78000 ≤ a % 524288
      → vram_index_of (place_of rom pak a) ≡ mirror_of (a % 524288 - 0x78000)
  unfolding vip_place
  mirrored e l =
      let p : 0x40000 ≤ a % 524288 = omega arith in
      let q : 0x5E000 ≤ a % 524288 = omega arith in
      let r : 0x60000 ≤ a % 524288 = omega arith in
      rw (place-vip rom pak a (sym (region-code a) ∙ e))
      (simp (le-ltb (a % 524288) 0x40000 p, le-ltb (a % 524288) 0x5E000 q, le-ltb (a % 524288) 0x60000 r, le-ltb (a % 524288) 0x78000 l))

-- by the place that the code finds
module _ (rom pak a : ℕ) where
  pub led-vram : (i : ℕ) → LeadsTo a (Vram i) → i ≡ vram_index_of (place_of rom pak a)
  led-vram i (here, e) =
      let z : a % 524288 + 0 ≡ a % 524288 = omega arith in
      let f : i + 0 ≡ i = omega arith in
      let first : vip_place (a % 524288) ≡ vram_at i = rw (z, f) at (e.each 0 (omega arith)) in
      sym (rw (place-vip rom pak a here, first))

  outside : (region_of a ≡ 0 → ⊥) → 0x40000 ≡ vram_index_of (place_of rom pak a)
  outside n = sym (elsewhere rom pak a (λ e. n (sym (region-code a) ∙ e)))

  pub led-elsewhere : (p : Found) → NoVram p → LeadsTo a p → 0x40000 ≡ vram_index_of (place_of rom pak a)
  led-elsewhere (Vram i) n e = absurd n
  led-elsewhere (Register v) n (here, (e, b)) = sym (between rom pak a (region-code a ∙ here) b.low b.high)
  led-elsewhere (Wram i) n (here, e) = outside (λ z. omega arith)
  led-elsewhere (Rom x) n (here, e) = outside (λ z. omega arith)
  led-elsewhere (Pak x) n (here, e) = outside (λ z. omega arith)
  led-elsewhere (Port o) n (here, e) = outside (λ z. omega arith)
  led-elsewhere Nothing n e = outside e.no_vip

-- a place that has an index in VRAM is that byte of VRAM
pub index-place : (p : Place) → vram_index_of p < 0x40000 → p ≡ vram_at (vram_index_of p)
index-place (vram_at i) h = refl
index-place (wram_at i) h = absurd (omega arith)
index-place (pak_at i) h = absurd (omega arith)
index-place (rom_at i) h = absurd (omega arith)
index-place (drawing_at k b) h = absurd (omega arith)
index-place (version_at b) h = absurd (omega arith)
index-place (hardware_at o) h = absurd (omega arith)
index-place silent h = absurd (omega arith)
index-place unmapped h = absurd (omega arith)

mirror-word : (k : ℕ) → mirror_of k % 4 ≡ k % 4
unfolding mirror_of
mirror-word k = omega arith

-- the bytes of a word follow each other in VRAM, and keep their places in the word
pub record Follows (rom pak s j : ℕ) : Type 0 where
  pub next : vram_index_of (place_of rom pak (s + j)) ≡ vram_index_of (place_of rom pak s) + j
  pub in_word : vram_index_of (place_of rom pak s) % 4 ≡ s % 4

pub follows : (rom pak s j : ℕ) → s % 4 + j < 4 → vram_index_of (place_of rom pak s) < 0x40000 → Follows rom pak s j
follows rom pak s j h i =
    elim (ℕ_discrete (s / 2 ^ 24 % 8) 0) [
      | no n ↦ absurd (omega (arith, elsewhere rom pak s n))
      | yes e ↦ elim (dec_lt (s % 524288) 0x40000) [
        | yes l ↦ below e l
        | no l ↦ elim (dec_lt (s % 524288) 0x78000) [
          | yes m ↦ absurd (omega (arith, between rom pak s e (omega arith) m))
          | no m ↦ above e (omega arith)
        ]
      ]
    ]
  where
    next-index : (s + j) % 524288 ≡ s % 524288 + j
    next-index = omega arith

    next-region : s / 2 ^ 24 % 8 ≡ 0 → (s + j) / 2 ^ 24 % 8 ≡ 0
    next-region e = omega arith

    below : s / 2 ^ 24 % 8 ≡ 0 → s % 524288 < 0x40000 → Follows rom pak s j
    below e l =
        record {
          next =
              low rom pak (s + j) (next-region e) (rw next-index (omega arith))
              ∙ next-index
              ∙ ap (λ n. n + j) (sym (low rom pak s e l));
          in_word = rw (low rom pak s e l) (omega arith);
        }

    above : s / 2 ^ 24 % 8 ≡ 0 → 0x78000 ≤ s % 524288 → Follows rom pak s j
    above e l =
        let k : s % 524288 + j - 0x78000 ≡ s % 524288 - 0x78000 + j = omega arith in
        record {
          next =
              mirrored rom pak (s + j) (next-region e) (rw next-index (omega arith))
              ∙ rw (next-index, k) (mirror-step (s % 524288 - 0x78000) j (omega arith))
              ∙ ap (λ n. n + j) (sym (mirrored rom pak s e l));
          in_word = rw (mirrored rom pak s e l, mirror-word (s % 524288 - 0x78000)) (omega arith);
        }
