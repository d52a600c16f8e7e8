-- Paper 01, "Normal", "H-bias" and "Affine", over the integers: the source of a window's offsets i and j.
use Rattle.std.specs.Prelude.{ℕ, ◌+◌, ◌*◌, List, eqb, ℤ, pos, neg_ℤ, ◌+ℤ◌, ◌*ℤ◌}
use Rattle.std.specs.Int.Signed.{lt_z, shr_z}
use Rattle.word.specs.Choose.{pick}
use Rattle.drawing_pixel.specs.World.{bgm_of}
use Rattle.drawing_pixel.specs.Background.{parameter_of, bias_index_of}
use Rattle.drawing_pixel.specs.Fields.{field_of, MX, MP, MY, with_parallax}

-- normal: source (MX - MP + i, MY + j); right, + MP
abbrev pub normal_x : List ℕ → ℕ → ℕ → ℤ
normal_x w eye i = with_parallax eye (MX w) (MP w) +ℤ pos i

abbrev pub normal_y : List ℕ → ℕ → ℤ
normal_y w j = MY w +ℤ pos j

-- H-bias: the same, plus parameter 2j (left) or 2j + 1 (right), 13 bits signed
abbrev pub bias_x : (vram w : List ℕ) (eye i j : ℕ) → ℤ
bias_x vram w eye i j = normal_x w eye i +ℤ field_of 4096 (parameter_of vram w (bias_index_of eye j))

-- affine: five signed parameters MX, MP, MY, DX, DY from 8j
abbrev pub affine_parameter : List ℕ → List ℕ → ℕ → ℕ → ℤ
affine_parameter vram w j k = field_of 32768 (parameter_of vram w (8 * j + k))

-- p = -MP left when MP is negative, MP right when it isn't, else 0
abbrev pub affine_shift : ℕ → ℤ → ℤ
affine_shift eye mp = pick (eqb eye 0) (pick (lt_z mp (pos 0)) (neg_ℤ mp) (pos 0)) (pick (lt_z mp (pos 0)) (pos 0) mp)

-- floor((64 M + D(i + p)) / 512), M and D by their numbers among the parameters
abbrev pub affine_at : (vram w : List ℕ) (eye i j m d : ℕ) → ℤ
affine_at vram w eye i j m d =
    let p = affine_shift eye (affine_parameter vram w j 1) in
    shr_z (pos 64 *ℤ affine_parameter vram w j m +ℤ affine_parameter vram w j d *ℤ (pos i +ℤ p)) 512

-- source x = floor((64 MX + DX(i + p)) / 512), y = floor((64 MY + DY(i + p)) / 512)
abbrev pub affine_x : (vram w : List ℕ) (eye i j : ℕ) → ℤ
affine_x vram w eye i j = affine_at vram w eye i j 0 3

abbrev pub affine_y : (vram w : List ℕ) (eye i j : ℕ) → ℤ
affine_y vram w eye i j = affine_at vram w eye i j 2 4

-- the source of a window's offsets, by BGM
abbrev pub source_x : (vram w : List ℕ) (eye i j : ℕ) → ℤ
source_x vram w eye i j =
    pick (eqb (bgm_of w) 0) (normal_x w eye i) (pick (eqb (bgm_of w) 1) (bias_x vram w eye i j) (affine_x vram w eye i j))

abbrev pub source_y : (vram w : List ℕ) (eye i j : ℕ) → ℤ
source_y vram w eye i j =
    pick (eqb (bgm_of w) 0) (normal_y w j) (pick (eqb (bgm_of w) 1) (normal_y w j) (affine_y vram w eye i j))
