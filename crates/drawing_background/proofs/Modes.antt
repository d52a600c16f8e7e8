-- The source of a window's offsets by BGM, as the painter works it out: a row's start and k columns more. Assumes nothing.
use Rattle.std.proofs.Common.{◌≡◌, ℕ, ◌+◌, ◌-◌, ◌<◌, ◌≤◌, List, ap, arith, eq-eqb, ne_eqb}
use native.Mathlib.Decide.{ℕ_discrete}
use Rattle.drawing_pixel.specs.World.{bgm_of}
use Rattle.drawing_pixel.specs.inner.BiasedFields.{my_biased}
use Rattle.drawing_pixel.specs.inner.BiasedSource.{source_x_biased, source_y_biased, normal_x_biased, normal_y_biased, bias_x_biased, affine_x_biased, affine_y_biased}
use Rattle.drawing_pixel.specs.inner.BiasedSource.{plain_left_biased, affine_parameter_biased, affine_shift_biased, affine_floor_biased}
use Rattle.drawing_pixel.specs.inner.BiasedCell.{source_pixel_biased}
use Rattle.drawing_background.specs.inner.Row.{row_bias_of}

module _ (vram w : List ℕ) (eye i j k : ℕ) where
  module _ (affine : 2 ≤ bgm_of w) where
    pub affine-x : affine_floor_biased (affine_parameter_biased vram w j 0) (affine_parameter_biased vram w j 3)
        (i + affine_shift_biased eye (affine_parameter_biased vram w j 1) + k)
        ≡ source_x_biased vram w eye (i + k) j
    unfolding source_x_biased affine_x_biased
    affine-x =
        let shift = affine_shift_biased eye (affine_parameter_biased vram w j 1) in
        let e : i + shift + k ≡ i + k + shift = omega arith in
        simp (ne_eqb (bgm_of w) 0 (λ f. omega arith), ne_eqb (bgm_of w) 1 (λ f. omega arith))
        (ap (affine_floor_biased (affine_parameter_biased vram w j 0) (affine_parameter_biased vram w j 3)) e)

    pub affine-y : affine_floor_biased (affine_parameter_biased vram w j 2) (affine_parameter_biased vram w j 4)
        (i + affine_shift_biased eye (affine_parameter_biased vram w j 1) + k)
        ≡ source_y_biased vram w eye (i + k) j
    unfolding source_y_biased affine_y_biased
    affine-y =
        let shift = affine_shift_biased eye (affine_parameter_biased vram w j 1) in
        let e : i + shift + k ≡ i + k + shift = omega arith in
        simp (ne_eqb (bgm_of w) 0 (λ f. omega arith), ne_eqb (bgm_of w) 1 (λ f. omega arith))
        (ap (affine_floor_biased (affine_parameter_biased vram w j 2) (affine_parameter_biased vram w j 4)) e)

  module _ (plain : bgm_of w < 2) (much : 4096 ≤ plain_left_biased w eye) where
    pub bias-x : bgm_of w ≡ 1 → plain_left_biased w eye + i + row_bias_of vram w eye j - 4096 + k ≡ source_x_biased vram w eye (i + k) j
    unfolding source_x_biased bias_x_biased normal_x_biased row_bias_of
    bias-x e = simp (ne_eqb (bgm_of w) 0 (λ f. omega arith), eq-eqb (bgm_of w) 1 e) (omega arith)

    pub normal-x : (bgm_of w ≡ 1 → ⊥) → plain_left_biased w eye + i + row_bias_of vram w eye j - 4096 + k ≡ source_x_biased vram w eye (i + k) j
    unfolding source_x_biased normal_x_biased row_bias_of
    normal-x n = simp (eq-eqb (bgm_of w) 0 (omega arith), ne_eqb (bgm_of w) 1 n) (omega arith)

    pub plain-x : plain_left_biased w eye + i + row_bias_of vram w eye j - 4096 + k ≡ source_x_biased vram w eye (i + k) j
    plain-x = elim (ℕ_discrete (bgm_of w) 1) [ yes e ↦ bias-x e | no n ↦ normal-x n ]

    pub plain-y : normal_y_biased w j ≡ source_y_biased vram w eye (i + k) j
    unfolding source_y_biased
    plain-y = elim (ℕ_discrete (bgm_of w) 1) [
      | yes e ↦ simp (ne_eqb (bgm_of w) 0 (λ f. omega arith), eq-eqb (bgm_of w) 1 e)
      | no n ↦ simp (eq-eqb (bgm_of w) 0 (omega arith))
    ]

-- the pixel of an affine row, k columns from where the row starts, from the parameters as they were read
pub affine-pixel : (vram regs w : List ℕ) (eye i j k mx mp my dx dy s : ℕ) → 2 ≤ bgm_of w
    → mx ≡ affine_parameter_biased vram w j 0 → mp ≡ affine_parameter_biased vram w j 1 → my ≡ affine_parameter_biased vram w j 2
    → dx ≡ affine_parameter_biased vram w j 3 → dy ≡ affine_parameter_biased vram w j 4 → s ≡ affine_shift_biased eye mp
    → (v : ℕ) → source_pixel_biased vram regs w (affine_floor_biased mx dx (i + s + k)) (affine_floor_biased my dy (i + s + k)) v
    ≡ source_pixel_biased vram regs w (source_x_biased vram w eye (i + k) j) (source_y_biased vram w eye (i + k) j) v
affine-pixel vram regs w eye i j k mx mp my dx dy s h a b c d e f v =
    rw (f, a, b, c, d, e, ← affine-x vram w eye i j k h, ← affine-y vram w eye i j k h)

-- the pixel of a normal or H-bias row, k columns from where the row starts
pub plain-pixel : (vram regs w : List ℕ) (eye i j k p b y : ℕ) → bgm_of w < 2 → 4096 ≤ p
    → p ≡ plain_left_biased w eye → b ≡ row_bias_of vram w eye j → y ≡ normal_y_biased w j
    → (v : ℕ) → source_pixel_biased vram regs w (p + i + b - 4096 + k) y v
    ≡ source_pixel_biased vram regs w (source_x_biased vram w eye (i + k) j) (source_y_biased vram w eye (i + k) j) v
plain-pixel vram regs w eye i j k p b y h l e f g v =
    rw (f, g, e, plain-x vram w eye i j k h (rw e at l), plain-y vram w eye i j k h (rw e at l))

-- the pixel of a normal world, k columns and m rows from where its window's row j starts
pub normal-pixel : (vram regs w : List ℕ) (eye i j k m : ℕ) → bgm_of w ≡ 0
    → (v : ℕ) → source_pixel_biased vram regs w (plain_left_biased w eye + i + k) (normal_y_biased w j + m) v
    ≡ source_pixel_biased vram regs w (source_x_biased vram w eye (i + k) (j + m)) (source_y_biased vram w eye (i + k) (j + m)) v
unfolding source_x_biased source_y_biased normal_x_biased normal_y_biased
normal-pixel vram regs w eye i j k m e v =
    let p : plain_left_biased w eye + i + k ≡ plain_left_biased w eye + (i + k) = omega arith in
    let q : my_biased w + 8384512 + j + m ≡ my_biased w + 8384512 + (j + m) = omega arith in
    simp (eq-eqb (bgm_of w) 0 e) (rw (p, q))
