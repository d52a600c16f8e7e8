-- Accesses at an aligned address, and at addresses that lead to the same places. Assumes nothing.
use Prim.Native.Nat.{ℕ, zero, suc, ◌+◌, ◌-◌, ◌/◌, ◌%◌, ◌<◌, ◌≤◌}
use mathlib.Core.Bool.{true}
use mathlib.Core.Logic.{◌⊎◌, inl, inr}
use mathlib.Core.Path.{◌≡◌, refl, sym, ap, ◌∙◌}
use native.Mathlib.Nat.{mod-le, mod-lt}
use native.Mathlib.Omega.{arith}
use lib.ListN.{length}
use Rattle.word.specs.LittleEndian.{little_endian}
use Rattle.bus.specs.Place.{place_of, region_of}
use Rattle.bus.specs.Memory.{Memory, Reads, byte_of, load_of, bytes_from, put_byte, put_register, put_halfword, put_from, store_of, aligned_of, size_ok}
use Rattle.bus.proofs.Places.{place-vip, region-step}
use Rattle.bus.proofs.Sizes.{size-cases, size-range, in_word}

twice-case : (size a : ℕ) → (size ≡ 1) ⊎ ((size ≡ 2) ⊎ (size ≡ 4)) → aligned_of size (aligned_of size a) ≡ aligned_of size a
twice-case size a (inl e) = rw e (omega arith)
twice-case size a (inr (inl e)) = rw e (omega arith)
twice-case size a (inr (inr e)) = rw e (omega arith)

multiple-case : (size a : ℕ) → (size ≡ 1) ⊎ ((size ≡ 2) ⊎ (size ≡ 4)) → aligned_of size a % size ≡ 0
multiple-case size a (inl e) = rw e (omega arith)
multiple-case size a (inr (inl e)) = rw e (omega arith)
multiple-case size a (inr (inr e)) = rw e (omega arith)

module _ (size a : ℕ) (ok : size_ok size ≡ true) where
  twice : aligned_of size (aligned_of size a) ≡ aligned_of size a
  twice = twice-case size a (size-cases size ok)

  pub multiple : aligned_of size a % size ≡ 0
  multiple = multiple-case size a (size-cases size ok)

  -- an access at the aligned address is that at the address
  pub aligned-reads : (m : Memory) (r : ℕ) → Reads m size (aligned_of size a) r → Reads m size a r
  unfolding load_of
  aligned-reads m r p = record { means = rw twice at p.means; fits = p.fits }

  pub aligned_store : (m : Memory) (v : ℕ) → store_of m size (aligned_of size a) v ≡ store_of m size a v
  unfolding store_of
  aligned_store m v = rw twice

-- the aligned address is in the region of the address
pub region-aligned : (size a : ℕ) → size_ok size ≡ true → region_of (aligned_of size a) ≡ region_of a
region-aligned size a ok =
    let near = in_word size a ok in
    let some = (size-range size ok).0 in
    let e : a - a % size + a % size ≡ a = omega (arith, mod-le a size) in
    sym (rw e at (region-step (aligned_of size a) (a % size) (omega (arith, near, mod-lt a some))))

-- each byte of an access stands in the region of its aligned address
pub region-within : (size a : ℕ) → size_ok size ≡ true → (j : ℕ) → j < size → region_of (aligned_of size a + j) ≡ region_of (aligned_of size a)
region-within size a ok j h =
    let n = in_word size a ok in
    region-step (aligned_of size a) j (omega (arith, n))

low-case : (size s : ℕ) → s % size ≡ 0 → (size ≡ 1) ⊎ ((size ≡ 2) ⊎ (size ≡ 4)) → s % 524288 % size ≡ 0
low-case size s z (inl e) = rw e (omega arith)
low-case size s z (inr (inl e)) =
    let f : s % 2 ≡ 0 = rw e at z in
    rw e (omega (arith, f))
low-case size s z (inr (inr e)) =
    let f : s % 4 ≡ 0 = rw e at z in
    rw e (omega (arith, f))

-- the 19 bits that the VIP keeps are aligned as the address is
pub low-multiple : (size s : ℕ) → size_ok size ≡ true → s % size ≡ 0 → s % 524288 % size ≡ 0
low-multiple size s ok z = low-case size s z (size-cases size ok)

-- the n addresses from s on and from t on lead to the same places
abbrev Same : ℕ → ℕ → ℕ → Type 0
Same s t n = (rom pak j : ℕ) → j < n → place_of rom pak (s + j) ≡ place_of rom pak (t + j)

same_first : (s t n : ℕ) → 0 < n → Same s t n → (rom pak : ℕ) → place_of rom pak s ≡ place_of rom pak t
same_first s t n h p rom pak =
    let e : s + 0 ≡ s = omega arith in
    let f : t + 0 ≡ t = omega arith in
    rw (e, f) at (p rom pak 0 h)

same_next : (k s t n all : ℕ) → all ≡ k + n → Same s t all → Same (s + k) (t + k) n
same_next k s t n all c p rom pak j h =
    let e : s + (k + j) ≡ s + k + j = omega arith in
    let f : t + (k + j) ≡ t + k + j = omega arith in
    rw (e, f) at (p rom pak (k + j) (omega arith))

same_bytes : (m : Memory) (s t n : ℕ) → Same s t n → bytes_from m s n ≡ bytes_from m t n
unfolding byte_of
same_bytes m s t zero p = refl
same_bytes m s t (suc n) p =
    rw (same_first s t (suc n) (omega arith) p (length m.rom) (length m.pak), same_bytes m (s + 1) (t + 1) n (same_next 1 s t n (suc n) (omega arith) p))

same_byte : (m : Memory) (s t v : ℕ) → ((rom pak : ℕ) → place_of rom pak s ≡ place_of rom pak t) → put_byte m s v ≡ put_byte m t v
unfolding put_byte
same_byte m s t v p = rw (p (length m.rom) (length m.pak))

same-register : (m : Memory) (s t v : ℕ) → ((rom pak : ℕ) → place_of rom pak s ≡ place_of rom pak t) → put_register m s v ≡ put_register m t v
unfolding put_register
same-register m s t v p = rw (p (length m.rom) (length m.pak))

same-halfword : (m : Memory) (s t n v : ℕ) → Same s t (suc (suc n)) → put_halfword m s v ≡ put_halfword m t v
unfolding put_halfword
same-halfword m s t n v p =
    let first = same_first s t (suc (suc n)) (omega arith) p in
    rw (same_byte m s t v first, same_byte (put_byte m t v) (s + 1) (t + 1) (v / 256) (λ rom pak. p rom pak 1 (omega arith)))
    (same-register _ s t v first)

same-put : (m : Memory) (s t n v : ℕ) → Same s t n → put_from m s n v ≡ put_from m t n v
same-put m s t zero v p = refl
same-put m s t (suc zero) v p =
    let first = same_first s t 1 (omega arith) p in
    rw (same_byte m s t v first) (same-register _ s t v first)
same-put m s t (suc (suc n)) v p =
    rw (same-halfword m s t n v p) (same-put (put_halfword m t v) (s + 2) (t + 2) n (v / 65536) (same_next 2 s t n (suc (suc n)) (omega arith) p))

low-place : (v j : ℕ) → v < 524288 → v % 4 + j < 4 → region_of (v + j) ≡ 0
unfolding region_of
low-place v j h near =
    let small : v + j < 524288 = omega arith in
    omega (arith, small)

low_bits : (s v j : ℕ) → v ≡ s % 524288 → (v + j) % 524288 ≡ (s + j) % 524288
low_bits s v j e = omega arith

-- an access in region 0 goes by the 19 bits that the VIP keeps
module _ (size s v : ℕ) (near : s % 4 + size ≤ 4) (here : region_of s ≡ 0) (e : v ≡ s % 524288) where
  vip-same : Same v s size
  vip-same rom pak j h =
      let in_word : v % 4 + j < 4 = omega arith in
      place-vip rom pak (v + j) (low-place v j (omega (arith, e)) in_word)
      ∙ rw (low_bits s v j e) (sym (place-vip rom pak (s + j) (region-step s j (omega arith) ∙ here)))

  module _ (z : s % size ≡ 0) (w : v % size ≡ 0) where
    still : aligned_of size s ≡ s
    still = rw z (omega arith)

    first : aligned_of size v ≡ v
    first = rw w (omega arith)

    pub vip-reads : (m : Memory) (r : ℕ) → Reads m size v r → Reads m size s r
    unfolding load_of
    vip-reads m r p =
        let same : little_endian (bytes_from m v size) ≡ little_endian (bytes_from m s size) = ap little_endian (same_bytes m v s size vip-same) in
        let means : r ≡ little_endian (bytes_from m v size) = rw first at p.means in
        record { means = rw still (means ∙ same); fits = p.fits }

    pub vip-stored : (m : Memory) (x : ℕ) → store_of m size v x ≡ store_of m size s x
    unfolding store_of
    vip-stored m x = rw (first, still) (same-put m v s size x vip-same)
