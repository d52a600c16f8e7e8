-- Addresses that follow each other and lead to bytes of one memory that follow each other, and what an access of any
-- size there reads and leaves. Assumes nothing.
use Prim.Native.Nat.{ℕ, zero, suc, ◌+◌, ◌/◌, ◌%◌, ◌<◌, ◌≤◌}
use mathlib.Core.Bool.{true}
use mathlib.Core.List.{List}
use mathlib.Core.Path.{◌≡◌, refl, ap, ◌∙◌}
use native.Mathlib.Omega.{arith}
use lib.ListN.{length, get_or}
use Rattle.word.proofs.Bytes.{put-after}
use Rattle.word.specs.LittleEndian.{little_endian, put_half, put_bytes}
use Rattle.bus.specs.Refusal.{rom_ok}
use Rattle.bus.specs.Place.{Place, vram_at, wram_at, rom_at, vip_place, region_of}
use Rattle.bus.specs.Memory.{Memory, byte_of, load_of, read_place, place_in, put_byte, put_register, put_halfword, store_of, with_wram, with_vram}
use Rattle.bus.specs.Memory.{aligned_of, bytes_from, put_from}
use Rattle.bus.specs.Stores.{Span}
use Rattle.bus.specs.inner.Numbers.{bytes_at, number_at}
use Rattle.bus.proofs.Power.{rom-power, power-step}
use Rattle.bus.proofs.Places.{place-wram, place-rom, place-vip, region-step}

module _ (m : Memory) (s : ℕ) (at : ℕ → Place) (i : ℕ) where
  span-first : (n : ℕ) → 0 < n → Span m s at i n → place_in m s ≡ at i
  span-first n h p =
      let e : s + 0 ≡ s = omega arith in
      let f : i + 0 ≡ i = omega arith in
      rw (e, f) at (p 0 h)

-- a span without its first k bytes
span-after : (m : Memory) (at : ℕ → Place) (s i k n all : ℕ) → all ≡ k + n → Span m s at i all → Span m (s + k) at (i + k) n
span-after m at s i k n all c p j h =
    let e : s + (k + j) ≡ s + k + j = omega arith in
    let f : i + (k + j) ≡ i + k + j = omega arith in
    rw (e, f) at (p (k + j) (omega arith))

-- what a number of n bytes reads where its addresses lead to one memory, whose bytes `xs` are

span-bytes : (m : Memory) (xs : List ℕ) (at : ℕ → Place) → ((k : ℕ) → read_place m (at k) ≡ get_or xs k 0) → (s i n : ℕ) → Span m s at i n
    → bytes_from m s n ≡ bytes_at xs i n
unfolding byte_of
span-bytes m xs at r s i zero p = refl
span-bytes m xs at r s i (suc n) p =
    rw (span-first m s at i (suc n) (omega arith) p, r i, span-bytes m xs at r (s + 1) (i + 1) n (span-after m at s i 1 n (suc n) (omega arith) p))

module _ (m : Memory) (size a i : ℕ) where
  pub wram-number : Span m (aligned_of size a) wram_at i size → load_of m size a ≡ number_at m.wram size i
  unfolding load_of number_at
  wram-number p = ap little_endian (span-bytes m m.wram wram_at (λ k. refl) (aligned_of size a) i size p)

  pub vram-number : Span m (aligned_of size a) vram_at i size → load_of m size a ≡ number_at m.vram size i
  unfolding load_of number_at
  vram-number p = ap little_endian (span-bytes m m.vram vram_at (λ k. refl) (aligned_of size a) i size p)

  pub rom-number : Span m (aligned_of size a) rom_at i size → load_of m size a ≡ number_at m.rom size i
  unfolding load_of number_at
  rom-number p = ap little_endian (span-bytes m m.rom rom_at (λ k. refl) (aligned_of size a) i size p)

-- what a store of n bytes leaves
module _ (m : Memory) (s i v : ℕ) where
  put-half-wram : Span m s wram_at i 2 → put_halfword m s v ≡ with_wram m (put_half m.wram i v)
  unfolding put_halfword put_byte put_register
  put-half-wram p =
      let e = span-first m s wram_at i 2 (omega arith) p in
      rw (e, p 1 (omega arith), e)

  put-half-vram : Span m s vram_at i 2 → put_halfword m s v ≡ with_vram m (put_half m.vram i v)
  unfolding put_halfword put_byte put_register
  put-half-vram p =
      let e = span-first m s vram_at i 2 (omega arith) p in
      rw (e, p 1 (omega arith), e)

put-wram : (m : Memory) (s i n v : ℕ) → Span m s wram_at i n → put_from m s n v ≡ with_wram m (put_bytes n m.wram i v)
unfolding put_byte put_register put_bytes
put-wram m s i zero v p = refl
put-wram m s i (suc zero) v p =
    let e = span-first m s wram_at i 1 (omega arith) p in
    rw (e, e)
put-wram m s i (suc (suc n)) v p =
    rw (put-half-wram m s i v (λ j h. p j (omega arith)))
    (put-wram (with_wram m (put_half m.wram i v)) (s + 2) (i + 2) n (v / 65536) (span-after m wram_at s i 2 n (suc (suc n)) (omega arith) p)
    ∙ ap (with_wram m) (put-after n m.wram i v))

put-vram : (m : Memory) (s i n v : ℕ) → Span m s vram_at i n → put_from m s n v ≡ with_vram m (put_bytes n m.vram i v)
unfolding put_byte put_register put_bytes
put-vram m s i zero v p = refl
put-vram m s i (suc zero) v p =
    let e = span-first m s vram_at i 1 (omega arith) p in
    rw (e, e)
put-vram m s i (suc (suc n)) v p =
    rw (put-half-vram m s i v (λ j h. p j (omega arith)))
    (put-vram (with_vram m (put_half m.vram i v)) (s + 2) (i + 2) n (v / 65536) (span-after m vram_at s i 2 n (suc (suc n)) (omega arith) p)
    ∙ ap (with_vram m) (put-after n m.vram i v))

module _ (m : Memory) (size a i v : ℕ) where
  pub wram-stored : Span m (aligned_of size a) wram_at i size → store_of m size a v ≡ with_wram m (put_bytes size m.wram i v)
  unfolding store_of
  wram-stored p = put-wram m (aligned_of size a) i size v p

  pub vram-stored : Span m (aligned_of size a) vram_at i size → store_of m size a v ≡ with_vram m (put_bytes size m.vram i v)
  unfolding store_of
  vram-stored p = put-vram m (aligned_of size a) i size v p

-- where such spans are: from an address on to the end of its word
module _ (m : Memory) (s n : ℕ) (near : s % 4 + n ≤ 4) where
  pub wram-span : region_of s ≡ 5 → Span m s wram_at (s % 65536) n
  wram-span here j h =
      place-wram (length m.rom) (length m.pak) (s + j) (region-step s j (omega arith) ∙ here) ∙ ap wram_at (omega arith)

  pub rom-span : region_of s ≡ 7 → rom_ok (length m.rom) ≡ true → Span m s rom_at (s % length m.rom) n
  rom-span here ok j h =
      place-rom (length m.rom) (length m.pak) (s + j) (region-step s j (omega arith) ∙ here) ok
      ∙ ap rom_at (power-step (length m.rom) (rom-power (length m.rom) ok) s j (omega arith))

  pub vram-span : (i : ℕ) → region_of s ≡ 0 → ((j : ℕ) → s % 524288 % 4 + j < 4 → vip_place (s % 524288 + j) ≡ vram_at (i + j))
      → Span m s vram_at i n
  vram-span i here p j h =
      let e : (s + j) % 524288 ≡ s % 524288 + j = omega arith in
      place-vip (length m.rom) (length m.pak) (s + j) (region-step s j (omega arith) ∙ here) ∙ rw e (p j (omega arith))
