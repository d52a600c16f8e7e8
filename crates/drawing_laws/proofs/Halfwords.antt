-- Halfwords of two memories with the same tables: a halfword whose two bytes are the same, a world record, an object record.
-- Assumes nothing.
use Prim.Native.Nat.{ℕ, zero, suc, ◌+◌, ◌*◌, ◌≤◌, ◌<◌}
use mathlib.Core.List.{List, ◌∷◌}
use mathlib.Core.Path.{◌≡◌, refl, ap₂}
use native.Mathlib.Omega.{arith}
use Rattle.word.specs.LittleEndian.{half_at}
use Rattle.drawing_pixel.specs.Lists.{list_of}
use Rattle.drawing_pixel.specs.World.{world_of}
use Rattle.drawing_pixel.specs.Object.{object_of}
use Rattle.drawing_laws.specs.Demand3.{Each, SameByte, SameTables}
use Rattle.drawing_laws.specs.PixelBytes.{half_bytes_of}

-- lists by numbers that are the same
list_same : (n a : ℕ) (f g : ℕ → ℕ) → ((k : ℕ) → k < a + n → f k ≡ g k) → list_of n a f ≡ list_of n a g
unfolding list_of
list_same zero a f g h = refl
list_same (suc n) a f g h = ap₂ ◌∷◌ (h a (omega arith)) (list_same n (suc a) f g (λ k l. h k (omega arith)))

module _ (first second : List ℕ) where
  pub half-same : (a : ℕ) → Each (SameByte first second) (half_bytes_of a) → half_at second a ≡ half_at first a
  half-same a h = ap₂ (λ (p q : ℕ). p + 256 * q) h.0 h.1.0

module _ (first second : List ℕ) (t : SameTables first second) where
  world-half : (a : ℕ) → 0x3D800 ≤ a → a + 1 < 0x3DC00 → half_at second a ≡ half_at first a
  world-half a l h =
      half-same first second a (t.worlds a l (omega arith), (t.worlds (a + 1) (omega arith) (omega arith), tt))

  object-half : (a : ℕ) → 0x3E000 ≤ a → a + 1 < 0x40000 → half_at second a ≡ half_at first a
  object-half a l h =
      half-same first second a (t.objects a l (omega arith), (t.objects (a + 1) (omega arith) (omega arith), tt))

  pub world_same : (n : ℕ) → n < 32 → world_of second n ≡ world_of first n
  unfolding world_of
  world_same n h = list_same 11 0 _ _ (λ k l. world-half (0x3D800 + 32 * n + 2 * k) (omega arith) (omega arith))

  pub object-same : (k : ℕ) → k < 1024 → object_of second k ≡ object_of first k
  unfolding object_of
  object-same k h = list_same 4 0 _ _ (λ i l. object-half (0x3E000 + 8 * k + 2 * i) (omega arith) (omega arith))
