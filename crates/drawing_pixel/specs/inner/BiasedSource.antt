-- Inner: the source of a window's offsets with a bias of 2 ^ 23. Each statement says that a biased quantity is paper
-- 01's; affine's hold for every i below 65,536, and `offset-small` of proofs/WindowFormulas says that the offset of a
-- covered column is. The proofs are in proofs/SourceFormulas.
use Rattle.std.specs.Prelude.{ℕ, ◌+◌, ◌-◌, ◌*◌, ◌/◌, ◌<◌, ◌≡◌, List, eqb, pos, ◌+ℤ◌}
use Rattle.word.specs.Choose.{pick}
use Rattle.drawing_pixel.specs.World.{bgm_of}
use Rattle.drawing_pixel.specs.Background.{parameter_of, bias_index_of}
use Rattle.drawing_pixel.specs.SourceFormulas.{normal_x, normal_y, bias_x, affine_x, affine_y, source_x, source_y}
use Rattle.drawing_pixel.specs.inner.BiasedFields.{biased_of, mx_biased, mp_biased, my_biased}

-- source x and y are kept plus 2 ^ 23, a multiple of every background's size, so that wrapping needs no correction
abbrev pub source_bias : ℕ
source_bias = 8388608

-- what MX - MP is kept with: source_bias - 4,096 + 16,384, for MX is kept plus 4,096 and MP plus 16,384
abbrev pub left_bias : ℕ
left_bias = 8400896

-- what MX + MP is kept with: source_bias - 4,096 - 16,384
abbrev pub right_bias : ℕ
right_bias = 8368128

-- what MY is kept with: source_bias - 4,096
abbrev pub down_bias : ℕ
down_bias = 8384512

-- what 64 M + D n is kept with, before it is divided by 512: 512 * source_bias - 64 * 32,768, for M is kept plus 32,768;
-- what D is kept with, 32,768 n times, is taken off by itself
abbrev pub affine_bias : ℕ
affine_bias = 4292870144

-- MX - MP left, MX + MP right
unfoldable pub plain_left_biased : List ℕ → ℕ → ℕ
plain_left_biased w eye = pick (eqb eye 0) (mx_biased w + left_bias - mp_biased w) (mx_biased w + mp_biased w + right_bias)

-- normal: source (MX -/+ MP + i, MY + j)
unfoldable pub normal_x_biased : List ℕ → ℕ → ℕ → ℕ
normal_x_biased w eye i = plain_left_biased w eye + i

-- 01: "Normal (0): source (MX - MP + i, MY + j); right, + MP"
abbrev pub NormalX : Type 0
NormalX =
    (w : List ℕ) (eye i : ℕ) → pos (normal_x_biased w eye i) ≡ normal_x w eye i +ℤ pos source_bias

unfoldable pub normal_y_biased : List ℕ → ℕ → ℕ
normal_y_biased w j = my_biased w + down_bias + j

abbrev pub NormalY : Type 0
NormalY =
    (w : List ℕ) (j : ℕ) → pos (normal_y_biased w j) ≡ normal_y w j +ℤ pos source_bias

-- H-bias: the same source, plus that parameter, 13 bits signed
unfoldable pub bias_x_biased : (vram w : List ℕ) (eye i j : ℕ) → ℕ
bias_x_biased vram w eye i j = normal_x_biased w eye i + biased_of 4096 (parameter_of vram w (bias_index_of eye j)) - 4096

-- 01: "H-bias (1): the same, plus parameter 2j (left) or 2j + 1 (right), 13 bits signed"
abbrev pub BiasX : Type 0
BiasX =
    (vram w : List ℕ) (eye i j : ℕ) → pos (bias_x_biased vram w eye i j) ≡ bias_x vram w eye i j +ℤ pos source_bias

-- affine: p, which is -MP left when MP is negative, MP right when it is not, else 0 (MP biased by 32,768)
unfoldable pub affine_shift_biased : ℕ → ℕ → ℕ
affine_shift_biased eye mp = pick (eqb eye 0) (32768 - mp) (mp - 32768)

-- affine: floor((64 M + D n) / 512), M and D biased by 32,768
unfoldable pub affine_floor_biased : ℕ → ℕ → ℕ → ℕ
affine_floor_biased m d n = (64 * m + d * n + affine_bias - 32768 * n) / 512

-- affine: parameter k of row j, 16 bits signed, in the order MX, MP, MY, DX, DY
unfoldable pub affine_parameter_biased : List ℕ → List ℕ → ℕ → ℕ → ℕ
affine_parameter_biased vram w j k = biased_of 32768 (parameter_of vram w (8 * j + k))

unfoldable pub affine_x_biased : (vram w : List ℕ) (eye i j : ℕ) → ℕ
affine_x_biased vram w eye i j =
    affine_floor_biased (affine_parameter_biased vram w j 0) (affine_parameter_biased vram w j 3)
    (i + affine_shift_biased eye (affine_parameter_biased vram w j 1))

unfoldable pub affine_y_biased : (vram w : List ℕ) (eye i j : ℕ) → ℕ
affine_y_biased vram w eye i j =
    affine_floor_biased (affine_parameter_biased vram w j 2) (affine_parameter_biased vram w j 4)
    (i + affine_shift_biased eye (affine_parameter_biased vram w j 1))

-- 01: "Source x = floor((64 MX + DX(i + p)) / 512), y = floor((64 MY + DY(i + p)) / 512)"
abbrev pub AffineX : Type 0
AffineX =
    (vram w : List ℕ) (eye i j : ℕ) → i < 65536
    → pos (affine_x_biased vram w eye i j) ≡ affine_x vram w eye i j +ℤ pos source_bias

abbrev pub AffineY : Type 0
AffineY =
    (vram w : List ℕ) (eye i j : ℕ) → i < 65536
    → pos (affine_y_biased vram w eye i j) ≡ affine_y vram w eye i j +ℤ pos source_bias

-- the source of a window's offsets, by BGM
unfoldable pub source_x_biased : (vram w : List ℕ) (eye i j : ℕ) → ℕ
source_x_biased vram w eye i j =
    pick (eqb (bgm_of w) 0) (normal_x_biased w eye i)
    (pick (eqb (bgm_of w) 1) (bias_x_biased vram w eye i j) (affine_x_biased vram w eye i j))

unfoldable pub source_y_biased : (vram w : List ℕ) (eye i j : ℕ) → ℕ
source_y_biased vram w eye i j =
    pick (eqb (bgm_of w) 0) (normal_y_biased w j)
    (pick (eqb (bgm_of w) 1) (normal_y_biased w j) (affine_y_biased vram w eye i j))

abbrev pub SourceX : Type 0
SourceX =
    (vram w : List ℕ) (eye i j : ℕ) → i < 65536
    → pos (source_x_biased vram w eye i j) ≡ source_x vram w eye i j +ℤ pos source_bias

abbrev pub SourceY : Type 0
SourceY =
    (vram w : List ℕ) (eye i j : ℕ) → i < 65536
    → pos (source_y_biased vram w eye i j) ≡ source_y vram w eye i j +ℤ pos source_bias
