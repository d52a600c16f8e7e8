-- The sizes of accesses, 1, 2 and 4, and how an access lies in the word of its address. Assumes nothing.
use Prim.Native.Nat.{ℕ, ◌+◌, ◌-◌, ◌%◌, ◌<◌, ◌≤◌}
use mathlib.Core.Bool.{true, false}
use mathlib.Core.Logic.{◌⊎◌, inl, inr}
use mathlib.Core.Path.{◌≡◌, refl}
use native.Mathlib.Decide.{ℕ_discrete}
use native.Mathlib.Omega.{arith}
use borrow.Author.Tests.{eqb-true, ne_eqb}
use lib.Bits.{bit_and}
use lib.Dec.{eqb}
use Rattle.word.specs.Choose.{pick}
use Rattle.word.specs.Width.{bytes_of}
use Rattle.word.specs.declared.width.Width.{Width}
use Rattle.word.specs.declared.width.Width.TheVariants.{Byte, Half, Word}
use Rattle.word.proofs.Choices.{pick-both}
use Rattle.bus.specs.Refusal.{pak_ok}
use Rattle.bus.specs.Memory.{size_ok, aligned_of}
use Rattle.bus.proofs.Power.{pak-power, power-mask}

module _ (size : ℕ) where
  -- what is left where it is neither 1 nor 2
  pub four-left : size_ok size ≡ true → (size ≡ 1 → ⊥) → (size ≡ 2 → ⊥) → size ≡ 4
  four-left h a b =
      let t : pick (eqb size 4) true false ≡ true = simp (ne_eqb size 1 a, ne_eqb size 2 b) at h in
      eqb-true size 4 (pick-both (eqb size 4) true t).0

  pub size-cases : size_ok size ≡ true → (size ≡ 1) ⊎ ((size ≡ 2) ⊎ (size ≡ 4))
  size-cases h =
      elim (ℕ_discrete size 1) [
        | yes e ↦ inl e
        | no a ↦ elim (ℕ_discrete size 2) [
          | yes e ↦ inr (inl e)
          | no b ↦ inr (inr (four-left h a b))
        ]
      ]

-- the mask of the bits that an access drops
mask-case : (size a : ℕ) → (size ≡ 1) ⊎ ((size ≡ 2) ⊎ (size ≡ 4)) → bit_and a (size - 1) ≡ a % size
unfolding pak_ok
mask-case size a (inl e) = rw e (power-mask 0 1 (pak-power 1 refl (omega arith)) a)
mask-case size a (inr (inl e)) = rw e (power-mask 0 2 (pak-power 2 refl (omega arith)) a)
mask-case size a (inr (inr e)) = rw e (power-mask 0 4 (pak-power 4 refl (omega arith)) a)

pub size-mask : (size a : ℕ) → size_ok size ≡ true → bit_and a (size - 1) ≡ a % size
size-mask size a h = mask-case size a (size-cases size h)

pos-case : (size : ℕ) → (size ≡ 1) ⊎ ((size ≡ 2) ⊎ (size ≡ 4)) → (0 < size) × (size ≤ 4)
pos-case size (inl e) = (omega arith, omega arith)
pos-case size (inr (inl e)) = (omega arith, omega arith)
pos-case size (inr (inr e)) = (omega arith, omega arith)

pub size-range : (size : ℕ) → size_ok size ≡ true → (0 < size) × (size ≤ 4)
size-range size h = pos-case size (size-cases size h)

-- an aligned access stays in its word
word-case : (size a : ℕ) → (size ≡ 1) ⊎ ((size ≡ 2) ⊎ (size ≡ 4)) → aligned_of size a % 4 + size ≤ 4
word-case size a (inl e) = rw e (omega arith)
word-case size a (inr (inl e)) = rw e (omega arith)
word-case size a (inr (inr e)) = rw e (omega arith)

pub in_word : (size a : ℕ) → size_ok size ≡ true → aligned_of size a % 4 + size ≤ 4
in_word size a h = word-case size a (size-cases size h)

drop-case : (size a : ℕ) → (size ≡ 1) ⊎ ((size ≡ 2) ⊎ (size ≡ 4)) → a % size ≤ a
drop-case size a (inl e) = rw e (omega arith)
drop-case size a (inr (inl e)) = rw e (omega arith)
drop-case size a (inr (inr e)) = rw e (omega arith)

pub mask_below : (size a : ℕ) → size_ok size ≡ true → bit_and a (size - 1) ≤ a
mask_below size a h = rw (size-mask size a h) (drop-case size a (size-cases size h))

-- what a test against 4 says
below-case : (size : ℕ) → (size ≡ 1) ⊎ ((size ≡ 2) ⊎ (size ≡ 4)) → size < 4 → (size ≡ 1) ⊎ (size ≡ 2)
below-case size (inl e) h = inl e
below-case size (inr (inl e)) h = inr e
below-case size (inr (inr e)) h = absurd (omega arith)

pub short-left : (size : ℕ) → size_ok size ≡ true → size < 4 → (size ≡ 1) ⊎ (size ≡ 2)
short-left size ok h = below-case size (size-cases size ok) h

pub long-left : (size : ℕ) → size_ok size ≡ true → 4 ≤ size → size ≡ 4
long-left size ok h = four-left size ok (λ e. omega arith) (λ e. omega arith)

-- an address that is a multiple of the size: its access begins there, and stays in its word
pub aligned-itself : (size a : ℕ) → a % size ≡ 0 → aligned_of size a ≡ a
aligned-itself size a z = rw z (omega arith)

pub size-near : (size a : ℕ) → size_ok size ≡ true → a % size ≡ 0 → a % 4 + size ≤ 4
size-near size a ok z = rw (aligned-itself size a z) at (in_word size a ok)

even-case : (size a : ℕ) → (size ≡ 1) ⊎ ((size ≡ 2) ⊎ (size ≡ 4)) → a % size ≡ 0 → 1 < size → a % 2 ≡ 0
even-case size a (inl e) z h = absurd (omega arith)
even-case size a (inr (inl e)) z h = rw e at z
even-case size a (inr (inr e)) z h = let f : a % 4 ≡ 0 = rw e at z in omega arith

pub size-even : (size a : ℕ) → size_ok size ≡ true → a % size ≡ 0 → 1 < size → a % 2 ≡ 0
size-even size a ok z h = even-case size a (size-cases size ok) z h

-- a width's bytes are a size
pub width_ok : (width : Width) → size_ok (bytes_of width) ≡ true
width_ok Byte = refl
width_ok Half = refl
width_ok Word = refl

-- a width that is not a word's
pub short_width : (width : Width) → (width ≡ Word → ⊥) → bytes_of width < 4
short_width Byte h = omega arith
short_width Half h = omega arith
short_width Word h = absurd (h refl)
