-- How a source pixel comes from its cell, its character row and its palette, which eight pixels side by side share.
-- Assumes nothing.
use Rattle.std.proofs.Common.{◌≡◌, ℕ, ◌+◌, ◌-◌, ◌*◌, ◌/◌, ◌%◌, ◌^◌, ◌<◌, ◌≤◌, List, get_or, ap, ◌∙◌, mul-add, arith}
use Rattle.word.specs.LittleEndian.{half_at}
use Rattle.bus.specs.Registers.{gplt_of}
use Rattle.word.specs.Bit.{is_set}
use Rattle.drawing_pixel.specs.Character.{shade_of, pixel_value_of, flipped_of, row_address_of, cell_pixel_of, two_bits_of}
use Rattle.drawing_pixel.specs.inner.BiasedCell.{cell_address_biased, source_cell_address_biased, source_pixel_biased}
use Rattle.drawing_pixel.specs.inner.BiasedSource.{affine_floor_biased}
use Rattle.drawing_pixel.specs.inner.Buffer.{repainted_of, Block}
use Rattle.drawing_background.specs.inner.Row.{affine_sum_of, CellAt}
use Rattle.drawing_background.proofs.Powers.{product_lt}
use Rattle.drawing_pixel.proofs.Blocks.{block-change}

-- a function that agrees at the pixel of a row repaints it alike
pub repainted-change : (r : ℕ) (f g : ℕ → ℕ) (h : ℕ) → ((v : ℕ) → f v ≡ g v) → repainted_of r f h ≡ repainted_of r g h
unfolding repainted_of
repainted-change r f g h e = rw (e (two_bits_of h r))

module _ (vram regs w : List ℕ) (sx sy cell row palette : ℕ) where
  module _ (e : cell ≡ half_at vram (cell_address_biased w (sx / 8) (sy / 8))) (f : row ≡ half_at vram (row_address_of cell
      (sy % 8))) (g : palette ≡ get_or regs (4 + cell / 16384) 0) where
    pub source-pixel-along : (k : ℕ) → sx % 8 + k < 8 → (v : ℕ) → shade_of palette (pixel_value_of cell row
        (sx % 8 + k)) v ≡ source_pixel_biased vram regs w (sx + k) sy v
    unfolding source_pixel_biased source_cell_address_biased cell_pixel_of gplt_of
    source-pixel-along k h v =
        let d : (sx + k) / 8 ≡ sx / 8 = omega arith in
        let m : (sx + k) % 8 ≡ sx % 8 + k = omega arith in
        rw (d, m, ← e, ← f, ← g)

-- a source pixel k columns and j rows further in the same cell
module _ (vram regs w : List ℕ) (sx sy cell palette : ℕ) (e : cell ≡ half_at vram (cell_address_biased w (sx / 8) (sy / 8)))
    (g : palette ≡ get_or regs (4 + cell / 16384) 0) where
  pub source-pixel-near : (k j : ℕ) → sx % 8 + k < 8 → sy % 8 + j < 8 → (v : ℕ)
      → shade_of palette (pixel_value_of cell (half_at vram (row_address_of cell (sy % 8 + j))) (sx % 8 + k)) v ≡ source_pixel_biased vram regs w (sx + k) (sy + j) v
  unfolding source_pixel_biased source_cell_address_biased cell_pixel_of gplt_of
  source-pixel-near k j h l v =
      let d : (sx + k) / 8 ≡ sx / 8 = omega arith in
      let m : (sx + k) % 8 ≡ sx % 8 + k = omega arith in
      let p : (sy + j) / 8 ≡ sy / 8 = omega arith in
      let q : (sy + j) % 8 ≡ sy % 8 + j = omega arith in
      rw (d, m, p, q, ← e, ← g)

-- a block that was painted from one cell shows source pixels
module _ (vram regs w : List ℕ) (top bottom from to sx sy half address cell palette : ℕ) (a b : List ℕ) where
  module _ (c : cell ≡ half) (d : half ≡ half_at vram address) (e : address ≡ cell_address_biased w (sx / 8) (sy / 8))
      (g : palette ≡ get_or regs (4 + cell / 16384) 0) (across : sx % 8 + (to - from) ≤ 8) (down : sy % 8 +
      (bottom - top) ≤ 8) where
    pub block-of-part : Block top bottom from to (λ x r. shade_of palette (pixel_value_of cell (half_at vram
        (row_address_of cell (sy % 8 + (r - top)))) (sx % 8 + (x - from)))) a b
        → Block top bottom from to (λ x r. source_pixel_biased vram regs w (sx + (x - from)) (sy + (r - top))) a b
    block-of-part s =
        block-change top bottom from to _ _ a b
        (λ x r v l h t u. source-pixel-near vram regs w sx sy cell palette (c ∙ (d ∙ ap (half_at vram) e)) g (x - from) (r - top) (omega arith) (omega arith) v)
        s

    pub block-of-whole : from + 8 ≡ to → Block top bottom from to (λ x r. shade_of palette (pixel_value_of cell
        (half_at vram (row_address_of cell (sy % 8 + (r - top)))) (x - from))) a b
        → Block top bottom from to (λ x r. source_pixel_biased vram regs w (sx + (x - from)) (sy + (r - top))) a b
    block-of-whole q s = block-of-part (block-change top bottom from to _ _ a b zero s)
      where
        zero : (x r v : ℕ) → from ≤ x → x < to → top ≤ r → r < bottom
            → shade_of palette (pixel_value_of cell (half_at vram (row_address_of cell (sy % 8 + (r - top)))) (x - from)) v
            ≡ shade_of palette (pixel_value_of cell (half_at vram (row_address_of cell (sy % 8 + (r - top)))) (sx % 8 + (x - from))) v
        zero x r v l h t u =
            let z : x - from ≡ sx % 8 + (x - from) = omega arith in
            ap (λ n. shade_of palette (pixel_value_of cell (half_at vram (row_address_of cell (sy % 8 + (r - top)))) n) v) z

-- a column painted by a pixel of the cell there, from its palette and where its character begins
pub source-repainted : (vram regs w : List ℕ) (q sx sy u v cell palette character h : ℕ) → u ≡ sx / 8 → v ≡ sy / 8
    → CellAt vram regs w u v cell palette character
    → repainted_of q (shade_of palette (pixel_value_of cell (half_at vram (character + 2 * flipped_of (is_set 12 cell) (sy % 8))) (sx % 8))) h
    ≡ repainted_of q (source_pixel_biased vram regs w sx sy) h
unfolding source_pixel_biased source_cell_address_biased cell_pixel_of row_address_of
source-repainted vram regs w q sx sy u v cell palette character h e f c =
    repainted-change q
    (shade_of palette (pixel_value_of cell (half_at vram (character + 2 * flipped_of (is_set 12 cell) (sy % 8))) (sx % 8)))
    (source_pixel_biased vram regs w sx sy) h (λ p. rw (c.shades, c.begins, c.same, e, f))

-- the sum of an affine row: its bounds, and one step further
module _ (m d n : ℕ) where
  pub sum-least : n < 65536 → 32768 ≤ affine_sum_of m d n
  unfolding affine_sum_of
  sum-least h = omega arith

  pub sum-most : m < 65536 → d < 65536 → n < 65536 → affine_sum_of m d n < 2 ^ 40
  unfolding affine_sum_of
  sum-most h l k = omega (arith, product_lt d n l k)

  pub sum-on : (s r : ℕ) → n < 65535 → s ≡ affine_sum_of m d n → r + 32768 ≡ s + d → r ≡ affine_sum_of m d (n + 1)
  unfolding affine_sum_of
  sum-on s r h e k =
      let p : d * (n + 1) ≡ d * n + d * 1 = mul-add d n 1 in
      omega (arith, p)

  pub floor-sum : (s : ℕ) → s ≡ affine_sum_of m d n → s / 512 ≡ affine_floor_biased m d n
  unfolding affine_sum_of affine_floor_biased
  floor-sum s e = ap (λ (k : ℕ). k / 512) e

-- a row whose steps are one pixel to the right
pub level-x : (m n k : ℕ) → affine_floor_biased m 33280 n + k ≡ affine_floor_biased m 33280 (n + k)
unfolding affine_floor_biased
level-x m n k = omega arith

pub level-y : (m n k : ℕ) → affine_floor_biased m 32768 n ≡ affine_floor_biased m 32768 (n + k)
unfolding affine_floor_biased
level-y m n k = omega arith

pub level-low : (m n : ℕ) → m < 65536 → n < 65536 → affine_floor_biased m 33280 n < 33554432
unfolding affine_floor_biased
level-low m n h l = omega arith

pub level-pixel : (vram regs w : List ℕ) (mx my n k sx sy v : ℕ) → sx ≡ affine_floor_biased mx 33280 n → sy ≡ affine_floor_biased my 32768 n
    → source_pixel_biased vram regs w (sx + k) sy v ≡ source_pixel_biased vram regs w (affine_floor_biased mx 33280 (n + k)) (affine_floor_biased my 32768 (n + k)) v
level-pixel vram regs w mx my n k sx sy v e f = rw (e, f, level-x mx n k, level-y my n k)

pub level-steps : (vram regs w : List ℕ) (mx my dx dy n v : ℕ) → dx ≡ 33280 → dy ≡ 32768
    → source_pixel_biased vram regs w (affine_floor_biased mx 33280 n) (affine_floor_biased my 32768 n) v ≡ source_pixel_biased vram regs w
    (affine_floor_biased mx dx n) (affine_floor_biased my dy n) v
level-steps vram regs w mx my dx dy n v e f = rw (e, f)
