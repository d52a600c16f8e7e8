-- Signed fields over the integers, by paper 01's names. Here and in the formulas of windows, sources, objects and
-- pixels, paper 01's quantities are whole numbers. The painters keep them as natural numbers plus a bias: those forms
-- stand in specs/inner/, under the same names with `Biased`, each with the statement that it is the same quantity.
use Rattle.std.specs.Prelude.{ℕ, ◌*◌, ◌%◌, List, eqb, get_or, ℤ, pos, ◌+ℤ◌, ◌-ℤ◌}
use Rattle.word.specs.Choose.{pick}
use Rattle.word.specs.Extend.{signed_of}
use Rattle.drawing_pixel.specs.World.{bgm_of}

-- the low bits of a halfword, read signed; `half` is half the range of the width
abbrev pub field_of : ℕ → ℕ → ℤ
field_of half h = signed_of half (h % (2 * half))

-- 1 GX and 2 GP (10 bits signed); 3 GY (16 signed); 4 MX (13 signed); 5 MP (15 signed); 6 MY (13 signed)
abbrev pub GX : List ℕ → ℤ
GX w = field_of 512 (get_or w 1 0)

abbrev pub GP : List ℕ → ℤ
GP w = field_of 512 (get_or w 2 0)

abbrev pub GY : List ℕ → ℤ
GY w = field_of 32768 (get_or w 3 0)

abbrev pub MX : List ℕ → ℤ
MX w = field_of 4096 (get_or w 4 0)

abbrev pub MP : List ℕ → ℤ
MP w = field_of 16384 (get_or w 5 0)

abbrev pub MY : List ℕ → ℤ
MY w = field_of 4096 (get_or w 6 0)

-- 7 W (13 bits, signed; affine 10, unsigned); 8 H (16, signed): the signs are 000's (docs/DECISIONS.md, R3 and R4)
abbrev pub W : List ℕ → ℤ
W w = pick (eqb (bgm_of w) 2) (pos (get_or w 7 0 % 1024)) (field_of 4096 (get_or w 7 0))

abbrev pub H : List ℕ → ℤ
H w = field_of 32768 (get_or w 8 0)

-- an object's JX and JP (10 bits signed)
abbrev pub JX : List ℕ → ℤ
JX o = field_of 512 (get_or o 0 0)

abbrev pub JP : List ℕ → ℤ
JP o = field_of 512 (get_or o 1 0)

-- a position minus the parallax left, plus the parallax right
abbrev pub with_parallax : ℕ → ℤ → ℤ → ℤ
with_parallax eye position parallax = pick (eqb eye 0) (position -ℤ parallax) (position +ℤ parallax)
