-- A world's window clipped to the image, as the painter computes it, gives what the world makes of each pixel. Assumes nothing.
use Rattle.std.proofs.Common.{◌≡◌, ℕ, ◌+◌, ◌-◌, ◌*◌, ◌<◌, ◌≤◌, min, true, List, sym, refl, ◌∙◌, le_trans, lt_of_lt_of_le, arith}
use native.Mathlib.Decide.{dec_lt}
use Rattle.drawing_pixel.specs.World.{bgm_of, world_shown_of}
use Rattle.drawing_pixel.specs.inner.BiasedFields.{gy_biased}
use Rattle.drawing_pixel.specs.inner.BiasedWindow.{rows_biased, columns_biased, window_left_biased}
use Rattle.drawing_pixel.specs.inner.BiasedCell.{source_pixel_biased, background_pixel_biased}
use Rattle.drawing_pixel.specs.inner.BiasedSource.{source_x_biased, source_y_biased, plain_left_biased, normal_y_biased}
use Rattle.drawing_pixel.specs.inner.Buffer.{Block}
use Rattle.drawing_pixel.proofs.Blocks.{block-tall, block-kept}
use Rattle.drawing_pixel.proofs.Windows.{background-inside, background-left, background-right, background-above, background-below}
use Rattle.drawing_background.proofs.Modes.{normal-pixel}

-- a column of a row that is in the window, offsets counted from the first clipped column
pub row_inside : (vram regs w : List ℕ) (eye x y v from i j : ℕ) → world_shown_of w eye ≡ true
    → gy_biased w ≤ y + 32768 → y + 32768 < gy_biased w + rows_biased w
    → window_left_biased w eye ≤ from + 1024 → from ≤ x → x + 1024 < window_left_biased w eye + columns_biased w
    → i ≡ from + 1024 - window_left_biased w eye → j ≡ y + 32768 - gy_biased w
    → source_pixel_biased vram regs w (source_x_biased vram w eye (i + (x - from)) j) (source_y_biased vram w eye (i + (x - from)) j) v
    ≡ background_pixel_biased vram regs w eye x y v
row_inside vram regs w eye x y v from i j s a b l m r e f =
    let g : i + (x - from) ≡ x + 1024 - window_left_biased w eye = omega arith in
    rw (g, f) (sym (background-inside vram regs w eye x y v s a b (omega arith) r))

-- the columns outside the clipped window are kept
pub clipped-outside : (vram regs w : List ℕ) (eye x y v from to : ℕ) → x < 384
    → from ≡ min (window_left_biased w eye) 1408 - 1024 → to ≡ min (window_left_biased w eye + columns_biased w) 1408 - 1024
    → (x < from → background_pixel_biased vram regs w eye x y v ≡ v) × (to ≤ x → background_pixel_biased vram regs w eye x y v ≡ v)
clipped-outside vram regs w eye x y v from to h e f = (
  (λ l. background-left vram regs w eye x y v (omega arith)),
  (λ l. background-right vram regs w eye x y v (omega arith)),
)

-- a window with no column left keeps every pixel
pub clipped-empty : (vram regs w : List ℕ) (eye x y v from to : ℕ) → x < 384
    → from ≡ min (window_left_biased w eye) 1408 - 1024 → to ≡ min (window_left_biased w eye + columns_biased w) 1408 - 1024
    → to ≤ from → background_pixel_biased vram regs w eye x y v ≡ v
clipped-empty vram regs w eye x y v from to h e f n =
    elim (dec_lt x from) [
      | yes l ↦ (clipped-outside vram regs w eye x y v from to h e f).0 l
      | no m ↦ (clipped-outside vram regs w eye x y v from to h e f).1 (omega arith)
    ]

-- rows counted from y on: where they start to be past an edge, where they end, and how far one is from a third row
row-starts : (y g first : ℕ) → first ≡ min 8 (g - y) → first < 8 → g ≤ y + first
row-starts y g first e l = omega arith

row_ends : (y g last r : ℕ) → last ≡ min 8 (g - y) → r < last → y + r < g
row_ends y g last r e l = omega arith

eight-at-most : (y g last : ℕ) → last ≡ min 8 (g - y) → last ≤ 8
eight-at-most y g last e = omega arith

row-offset : (y g first r : ℕ) → g ≤ y + first → first ≤ r → y + first - g + (r - first) ≡ y + r - g
row-offset y g first r l h = omega arith

row_moved : (strip r : ℕ) → 8 * strip + r + 32768 ≡ 8 * strip + 32768 + r
row_moved strip r = omega arith

row-later : (y first r : ℕ) → first ≤ r → y + first ≤ y + r
row-later y first r h = omega arith

column-in : (x to left wide : ℕ) → x < to → to + 1024 ≤ left + wide → x + 1024 < left + wide
column-in x to left wide h l = omega arith

-- the rows first to last - 1 of a strip are those in a world's window
module _ (vram regs w : List ℕ) (eye strip first last : ℕ) (f : first ≡ min 8 (gy_biased w - (8 * strip + 32768)))
    (g : last ≡ min 8 (gy_biased w + rows_biased w - (8 * strip + 32768))) where
  rows-outside : (x r v : ℕ) → r < 8
      → (r < first → background_pixel_biased vram regs w eye x (8 * strip + r) v ≡ v) × (last ≤ r → background_pixel_biased vram regs w eye x (8 * strip + r) v ≡ v)
  rows-outside x r v u = (
    (λ l. background-above vram regs w eye x (8 * strip + r) v (omega arith)),
    (λ l. background-below vram regs w eye x (8 * strip + r) v (omega arith)),
  )

  -- no such row: all are kept
  pub no-row-inside : (from to : ℕ) (a : List ℕ) → last ≤ first → Block 0 8 from to (λ x r. background_pixel_biased vram regs w eye x (8 * strip + r)) a a
  no-row-inside from to a n =
      block-kept from to (λ x r. background_pixel_biased vram regs w eye x (8 * strip + r)) a
      (λ x r v u. elim (dec_lt r first) [
        | yes l ↦ (rows-outside x r v u).0 l
        | no m ↦ (rows-outside x r v u).1 (omega arith)
      ])

  -- those rows of a normal world, painted from where its window's column `from` and row `first` read
  module _ (normal : bgm_of w ≡ 0) (shown : world_shown_of w eye ≡ true) (few : first < last) (from to : ℕ)
      (left : window_left_biased w eye ≤ from + 1024) (right : to + 1024 ≤ window_left_biased w eye + columns_biased w) where
    inside : (sx sy : ℕ) → sx ≡ plain_left_biased w eye + (from + 1024 - window_left_biased w eye) → sy ≡ normal_y_biased w (8 * strip + 32768 + first - gy_biased w)
        → (x r v : ℕ) → from ≤ x → x < to → first ≤ r → r < last
        → source_pixel_biased vram regs w (sx + (x - from)) (sy + (r - first)) v ≡ background_pixel_biased vram regs w eye x (8 * strip + r) v
    inside sx sy p q x r v l h t u =
        let y = 8 * strip + 32768 in
        let k : last ≤ 8 = eight-at-most y _ last g in
        let m : gy_biased w ≤ y + first = row-starts y _ first f (lt_of_lt_of_le few k) in
        let n : y + r < gy_biased w + rows_biased w = row_ends y _ last r g u in
        let c : 8 * strip + r + 32768 ≡ y + r = row_moved strip r in
        let d : y + first - gy_biased w + (r - first) ≡ y + r - gy_biased w = row-offset y _ first r m t in
        rw (p, q)
        (normal-pixel vram regs w eye (from + 1024 - window_left_biased w eye) (y + first - gy_biased w) (x - from) (r - first) normal v
        ∙ row_inside vram regs w eye x (8 * strip + r) v from _ _ shown (rw c (le_trans m (row-later y first r t)))
        (rw c n) left l (column-in x to _ _ h right) refl (rw c d))

    pub rows_inside : (sx sy : ℕ) → sx ≡ plain_left_biased w eye + (from + 1024 - window_left_biased w eye)
        → sy ≡ normal_y_biased w (8 * strip + 32768 + first - gy_biased w)
        → (a b : List ℕ) → Block first last from to (λ x r. source_pixel_biased vram regs w (sx + (x - from)) (sy + (r - first))) a b
        → Block 0 8 from to (λ x r. background_pixel_biased vram regs w eye x (8 * strip + r)) a b
    rows_inside sx sy p q a b s =
        block-tall first last from to (λ x r. source_pixel_biased vram regs w (sx + (x - from)) (sy + (r - first)))
        (λ x r. background_pixel_biased vram regs w eye x (8 * strip + r)) a b
        (inside sx sy p q) rows-outside s
