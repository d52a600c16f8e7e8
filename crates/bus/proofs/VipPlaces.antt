-- Region 0: which of its bytes lie in VRAM, and what its registers read and take. Assumes nothing.
use Prim.Native.Nat.{ℕ, ◌+◌, ◌-◌, ◌*◌, ◌/◌, ◌%◌, ◌^◌, ◌<◌, ◌≤◌}
use mathlib.Core.Bool.{Bool, true, false, true≢false}
use mathlib.Core.Path.{◌≡◌, refl, sym, ap, ◌∙◌}
use native.Mathlib.Nat.{mod-lt}
use native.Mathlib.Decide.{dec_lt}
use native.Mathlib.Omega.{arith}
use borrow.Author.Tests.{lt-ltb, le-ltb, le-leb, lt-leb, ne_eqb, eq-eqb}
use lib.Dec.{ltb, leb, eqb}
use lib.ListN.{length, get_or, set}
use Rattle.word.specs.Choose.{pick, member, index_of}
use Rattle.bus.specs.Registers.{drawing_addresses, silent_addresses, version_address, kept_of}
use Rattle.bus.specs.Place.{Place, vram_at, drawing_at, version_at, silent, unmapped, mirror_of, vip_place, register_place, region_of}
use Rattle.bus.specs.Memory.{Memory, byte_of, load_of, read_place, place_in, put_place, put_drawing, put_byte, put_register, with_regs}
use Rattle.word.proofs.Choices.{pick-each}
use Rattle.word.proofs.Listed.{index-apart}
use Rattle.bus.specs.inner.LeadsTo.{Between}
use Rattle.bus.proofs.Places.{place-vip}
use Rattle.bus.proofs.Halfwords.{half-load-even}

-- the low part of the VIP is VRAM
pub vip-low : (v : ℕ) → v < 262144 → vip_place v ≡ vram_at v
unfolding vip_place
vip-low v h = simp (lt-ltb v 262144 h)

-- the character mirror
pub vip-mirror : (v : ℕ) → 491520 ≤ v → vip_place v ≡ vram_at (mirror_of (v - 491520))
unfolding vip_place
vip-mirror v h =
    let a : 262144 ≤ v = omega arith in
    let b : 385024 ≤ v = omega arith in
    let d : 393216 ≤ v = omega arith in
    simp (le-ltb v 262144 a, le-ltb v 385024 b, le-ltb v 393216 d, le-ltb v 491520 h)

-- a group of four bytes stays together in the mirror
pub mirror-step : (k j : ℕ) → k % 4 + j < 4 → mirror_of (k + j) ≡ mirror_of k + j
unfolding mirror_of
mirror-step k j h =
    let e : (k + j) / 8192 ≡ k / 8192 = omega arith in
    let f : (k + j) % 8192 ≡ k % 8192 + j = omega arith in
    rw (e, f) (omega arith)

-- 0x5E000 to 0x5FFFF
abbrev in_range : ℕ → Bool
in_range x = pick (leb 385024 x) (ltb x 393216) false

-- outside 0x5E000 to 0x5FFFF no address is a register's
quiet_read : (m : Memory) (b : Bool) → read_place m (pick b silent unmapped) ≡ 0
quiet_read m b = pick-each (λ (p : Place). read_place m p ≡ 0) b silent unmapped refl refl

quiet_write : (m : Memory) (v : ℕ) (b : Bool) → put_drawing m (pick b silent unmapped) v ≡ m
quiet_write m v b = pick-each (λ (p : Place). put_drawing m p v ≡ m) b silent unmapped refl refl

far : (v : ℕ) → in_range (v - v % 2) ≡ false → register_place v ≡ pick (member (v - v % 2) silent_addresses) silent unmapped
unfolding register_place
far v out =
    rw (index-apart in_range (v - v % 2) drawing_addresses tt out)
    (simp (ne_eqb (v - v % 2) version_address (λ e. true≢false (ap in_range (sym e) ∙ out))))

below-range : (v : ℕ) → v < 385024 → in_range (v - v % 2) ≡ false
below-range v h =
    let g : v - v % 2 < 385024 = omega arith in
    simp (lt-leb 385024 (v - v % 2) g)

above-range : (v : ℕ) → 393216 ≤ v → in_range (v - v % 2) ≡ false
above-range v h =
    let f : 385024 ≤ v - v % 2 = omega arith in
    let g : 393216 ≤ v - v % 2 = omega arith in
    simp (le-leb 385024 (v - v % 2) f, le-ltb (v - v % 2) 393216 g)

-- what lies between VRAM and the mirror reads and takes what its register does
abbrev Alike : Place → Place → Type 0
Alike p q = (m : Memory) (v : ℕ) → (read_place m p ≡ read_place m q) × ((put_drawing m p v ≡ put_drawing m q v) × (put_place m p v ≡ m))

quiet-alike : (v : ℕ) → in_range (v - v % 2) ≡ false → Alike unmapped (register_place v)
quiet-alike v out m x =
    let b = member (v - v % 2) silent_addresses in
    rw (far v out) (sym (quiet_read m b), (sym (quiet_write m x b), refl))

register-no-byte : (m : Memory) (v x : ℕ) → put_place m (register_place v) x ≡ m
unfolding register_place
register-no-byte m v x =
    let h = v - v % 2 in
    let k = index_of h drawing_addresses in
    let Dropped : Place → Type 0 = λ p. put_place m p x ≡ m in
    pick-each Dropped (ltb k 13) (drawing_at k (v % 2)) _ refl
    (pick-each Dropped (eqb h version_address) (version_at (v % 2)) _ refl (pick-each Dropped (member h silent_addresses) silent unmapped refl refl))

pub vip-register : (v : ℕ) → 262144 ≤ v → v < 491520 → Alike (vip_place v) (register_place v)
unfolding vip_place
vip-register v low high m x =
    elim (dec_lt v 385024) [
      | yes a ↦ simp (le-ltb v 262144 low, lt-ltb v 385024 a) (quiet-alike v (below-range v a) m x)
      | no a ↦ elim (dec_lt v 393216) [
        | yes b ↦
            let a' : 385024 ≤ v = omega arith in
            simp (le-ltb v 262144 low, le-ltb v 385024 a', lt-ltb v 393216 b) (refl, (refl, register-no-byte m v x))
        | no b ↦
            let a' : 385024 ≤ v = omega arith in
            let b' : 393216 ≤ v = omega arith in
            simp (le-ltb v 262144 low, le-ltb v 385024 a', le-ltb v 393216 b', lt-ltb v 491520 high)
            (quiet-alike v (above-range v b') m x)
      ]
    ]

-- the two bytes of the register at an even address
module _ (h : ℕ) (even : h % 2 ≡ 0) where
  pub register-low : register_place h ≡ pick (ltb (index_of h drawing_addresses) 13) (drawing_at
      (index_of h drawing_addresses) 0) (pick (eqb h version_address) (version_at 0) (pick
      (member h silent_addresses) silent unmapped))
  unfolding register_place
  register-low =
      let e : h - h % 2 ≡ h = omega arith in
      rw (e, even)

  pub register-high : register_place (h + 1) ≡ pick (ltb (index_of h drawing_addresses) 13) (drawing_at
      (index_of h drawing_addresses) 1) (pick (eqb h version_address) (version_at 1) (pick
      (member h silent_addresses) silent unmapped))
  unfolding register_place
  register-high =
      let e : h + 1 - (h + 1) % 2 ≡ h = omega arith in
      let f : (h + 1) % 2 ≡ 1 = omega arith in
      rw (e, f)

  pub read-drawing : (m : Memory) → index_of h drawing_addresses < 13 → get_or m.regs (index_of h drawing_addresses) 0 < 65536
      → read_place m (register_place h) + 256 * read_place m (register_place (h + 1)) ≡ get_or m.regs (index_of h drawing_addresses) 0
  read-drawing m k fits = rw (register-low, register-high) (simp (lt-ltb _ _ k) (omega arith))

  pub read-version : (m : Memory) → 13 ≤ index_of h drawing_addresses → h ≡ version_address → read_place m
      (register_place h) + 256 * read_place m (register_place (h + 1)) ≡ 2
  read-version m k e = rw (register-low, register-high) (simp (le-ltb _ _ k, eq-eqb h version_address e))

  pub read-quiet : (m : Memory) → 13 ≤ index_of h drawing_addresses → (h ≡ version_address → ⊥) → read_place m
      (register_place h) + 256 * read_place m (register_place (h + 1)) ≡ 0
  read-quiet m k n =
      rw (register-low, register-high)
      (simp (le-ltb _ _ k, ne_eqb h version_address n, quiet_read m (member h silent_addresses)))

read_fits : (m : Memory) (v : ℕ) → read_place m (register_place v) < 256
unfolding register_place
read_fits m v =
    let h = v - v % 2 in
    let k = index_of h drawing_addresses in
    let Fits : Place → Type 0 = λ p. read_place m p < 256 in
    pick-each Fits (ltb k 13) (drawing_at k (v % 2)) _ (mod-lt (get_or m.regs k 0 / 256 ^ (v % 2)) (omega arith))
    (pick-each Fits (eqb h version_address) (version_at (v % 2)) _ (mod-lt (2 / 256 ^ (v % 2)) (omega arith))
    (pick-each Fits (member h silent_addresses) silent unmapped (omega arith) (omega arith)))

-- an address between VRAM and the mirror
module _ (m : Memory) (v : ℕ) (b : Between v) where
  between-place : place_in m v ≡ vip_place v
  unfolding region_of
  between-place =
      let here : region_of v ≡ 0 = omega (arith, b.high) in
      let low : v % 524288 ≡ v = omega (arith, b.high) in
      place-vip (length m.rom) (length m.pak) v here ∙ ap vip_place low

  register-read : byte_of m v ≡ read_place m (register_place v)
  unfolding byte_of
  register-read = rw between-place (vip-register v b.low b.high m 0).0

  -- its byte is one
  pub register-fits : byte_of m v < 256
  register-fits = rw register-read (read_fits m v)

  pub register-store : (x : ℕ) → put_register m v x ≡ put_drawing m (register_place v) (x % 65536)
  unfolding put_register
  register-store x = rw between-place (vip-register v b.low b.high m (x % 65536)).1.0

  pub register-byte : (x : ℕ) → put_byte m v x ≡ m
  unfolding put_byte
  register-byte x = rw between-place (vip-register v b.low b.high m (x % 256)).1.1

-- the halfword after an even address, still there
pub between_next : (v : ℕ) → Between v → v % 2 ≡ 0 → Between (v + 1)
between_next v b even = record { low = omega (arith, b.low); high = omega (arith, b.high) }

pub register-load : (m : Memory) (v : ℕ) → Between v → v % 2 ≡ 0
    → load_of m 2 v ≡ read_place m (register_place v) + 256 * read_place m (register_place (v + 1))
register-load m v b even =
    half-load-even m v even ∙ rw (register-read m v b, register-read m (v + 1) (between_next v b even))

pub write-drawing : (m : Memory) (u x : ℕ) → index_of (u - u % 2) drawing_addresses < 13
    → put_drawing m (register_place u) x ≡ with_regs m (set m.regs (index_of (u - u % 2) drawing_addresses) (kept_of (index_of (u - u % 2) drawing_addresses) x))
unfolding register_place
write-drawing m u x k = simp (lt-ltb _ _ k)

pub write-nothing : (m : Memory) (u x : ℕ) → 13 ≤ index_of (u - u % 2) drawing_addresses → put_drawing m (register_place u) x ≡ m
unfolding register_place
write-nothing m u x k =
    let h = u - u % 2 in
    let Kept : Place → Type 0 = λ p. put_drawing m p x ≡ m in
    simp (le-ltb _ _ k)
    (pick-each Kept (eqb h version_address) (version_at (u % 2)) _ refl (pick-each Kept (member h silent_addresses) silent unmapped refl refl))

kept-wide : (v : ℕ) (b₁ b₂ : Bool) → v % 65536 % 2 ^ pick b₁ 10 (pick b₂ 8 2) ≡ v % 2 ^ pick b₁ 10 (pick b₂ 8 2)
kept-wide v true b₂ = omega arith
kept-wide v false true = omega arith
kept-wide v false false = omega arith

-- a register keeps nothing above bit 15
pub kept_low : (k v : ℕ) → kept_of k (v % 65536) ≡ kept_of k v
kept_low k v = kept-wide v (ltb k 4) (ltb k 12)
