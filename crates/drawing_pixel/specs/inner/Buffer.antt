-- A strip of one eye while it is worked out: 384 halfwords, one for each image column, whose eight pairs of bits are
-- the column's eight rows, as they are stored in the end. What painting one row of it means.
use Rattle.std.specs.Prelude.{ℕ, ◌+◌, ◌-◌, ◌*◌, ◌^◌, ◌<◌, ◌≤◌, ◌≡◌, List, length, get_or}
use Rattle.drawing_pixel.specs.Character.{two_bits_of}

-- a halfword with v at bits 2k and 2k + 1
unfoldable pub with_pair_of : ℕ → ℕ → ℕ → ℕ
with_pair_of h k v = h - two_bits_of h k * 2 ^ (2 * k) + v * 2 ^ (2 * k)

-- a halfword whose row r was taken through f
unfoldable pub repainted_of : ℕ → (ℕ → ℕ) → ℕ → ℕ
repainted_of r f h = with_pair_of h r (f (two_bits_of h r))

-- columns from to to - 1 of row r were taken through f, and nothing else changed
pub record Span (r from to : ℕ) (f : ℕ → ℕ → ℕ) (before after : List ℕ) : Type 0 where
  pub size : length after ≡ length before
  pub inside : (x : ℕ) → from ≤ x → x < to → get_or after x 0 ≡ repainted_of r (f x) (get_or before x 0)
  pub below : (x : ℕ) → x < from → get_or after x 0 ≡ get_or before x 0
  pub above : (x : ℕ) → to ≤ x → get_or after x 0 ≡ get_or before x 0

-- columns from to to - 1 of rows top to bottom - 1 were taken through f, of a pixel's column and row, and nothing else
-- changed
pub record Block (top bottom from to : ℕ) (f : ℕ → ℕ → ℕ → ℕ) (before after : List ℕ) : Type 0 where
  pub size : length after ≡ length before
  pub inside :
      (x r : ℕ) → from ≤ x → x < to → top ≤ r → r < bottom
      → two_bits_of (get_or after x 0) r ≡ f x r (two_bits_of (get_or before x 0) r)
  pub left : (x : ℕ) → x < from → get_or after x 0 ≡ get_or before x 0
  pub right : (x : ℕ) → to ≤ x → get_or after x 0 ≡ get_or before x 0
  pub above : (x r : ℕ) → r < top → r < 8 → two_bits_of (get_or after x 0) r ≡ two_bits_of (get_or before x 0) r
  pub below : (x r : ℕ) → bottom ≤ r → r < 8 → two_bits_of (get_or after x 0) r ≡ two_bits_of (get_or before x 0) r

-- rows 0 to n - 1 of the strip were taken through f, of a pixel's column and row, and the other rows kept
pub record Rows (n : ℕ) (f : ℕ → ℕ → ℕ → ℕ) (before after : List ℕ) : Type 0 where
  pub size : length after ≡ length before
  pub done : (x r : ℕ) → x < 384 → r < n → two_bits_of (get_or after x 0) r ≡ f x r (two_bits_of (get_or before x 0) r)
  pub rest : (x r : ℕ) → x < 384 → n ≤ r → r < 8 → two_bits_of (get_or after x 0) r ≡ two_bits_of (get_or before x 0) r

-- every pixel of the strip was taken through f, of its column and row
pub record Strip (f : ℕ → ℕ → ℕ → ℕ) (before after : List ℕ) : Type 0 where
  pub size : length after ≡ length before
  pub pixels : (x r : ℕ) → x < 384 → r < 8 → two_bits_of (get_or after x 0) r ≡ f x r (two_bits_of (get_or before x 0) r)
