-- The statements of specs/inner/BiasedSource, proved.
use Prim.Native.Nat.{ℕ, suc, ◌+◌, ◌-◌, ◌*◌, ◌<◌, ◌≤◌}
use native.Mathlib.Omega.{arith}
use mathlib.Core.Path.{◌≡◌}
use mathlib.Core.Bool.{Bool, true, false}
use mathlib.Core.List.{List}
use borrow.Author.Tests.{le-ltb}
use lib.Dec.{eqb}
use lib.ListN.{get_or}
use lib.IntN.{ℤ, pos, negsuc, neg_ℤ, ◌+ℤ◌, ◌-ℤ◌, ◌*ℤ◌}
use lib.Signed.{lt_z, shr_z}
use Rattle.word.specs.Choose.{pick}
use Rattle.drawing_pixel.specs.inner.BiasedFields.{biased_of}
use Rattle.drawing_pixel.specs.World.{bgm_of}
use Rattle.drawing_pixel.specs.Background.{parameter_of, bias_index_of}
use Rattle.drawing_pixel.specs.inner.BiasedSource.{plain_left_biased, normal_x_biased, normal_y_biased, bias_x_biased, affine_shift_biased, affine_floor_biased}
use Rattle.drawing_pixel.specs.inner.BiasedSource.{affine_parameter_biased, affine_x_biased, affine_y_biased, source_x_biased, source_y_biased, NormalX, NormalY}
use Rattle.drawing_pixel.specs.inner.BiasedSource.{BiasX, AffineX, AffineY, SourceX, SourceY}
use Rattle.word.proofs.Integers.{Is, is_pos, is_sum, is-difference, is-moved, is_tied, is-times, is-scaled}
use Rattle.word.proofs.Floors.{is-floor}
use Rattle.drawing_pixel.specs.Fields.{field_of}
use Rattle.drawing_pixel.proofs.Fields.{is_field}
use Rattle.drawing_pixel.specs.SourceFormulas.{normal_x, normal_y, bias_x, affine_parameter, affine_shift, affine_x, affine_y}

plain : (left : Bool) (p q : ℕ)
    → Is (pick left (field_of 4096 p -ℤ field_of 16384 q) (field_of 4096 p +ℤ field_of 16384 q))
    (pick left (biased_of 4096 p + 8400896 - biased_of 16384 q) (biased_of 4096 p + biased_of 16384 q + 8368128)) 8388608
plain true p q = is-moved (is-difference (is_field 4096 p (omega arith)) (is_field 16384 q (omega arith))) (omega arith)
plain false p q = is-moved (is_sum (is_field 4096 p (omega arith)) (is_field 16384 q (omega arith))) (omega arith)

is-normal-x : (w : List ℕ) (eye i : ℕ) → Is (normal_x w eye i) (normal_x_biased w eye i) 8388608
unfolding normal_x_biased plain_left_biased
is-normal-x w eye i = is-moved (is_sum (plain (eqb eye 0) (get_or w 4 0) (get_or w 5 0)) (is_pos i)) (omega arith)

is-normal-y : (w : List ℕ) (j : ℕ) → Is (normal_y w j) (normal_y_biased w j) 8388608
unfolding normal_y_biased
is-normal-y w j = is-moved (is_sum (is_field 4096 (get_or w 6 0) (omega arith)) (is_pos j)) (omega arith)

plain-large : (left : Bool) (p q : ℕ)
    → 4096 ≤ pick left (biased_of 4096 p + 8400896 - biased_of 16384 q) (biased_of 4096 p + biased_of 16384 q + 8368128)
plain-large true p q = omega arith
plain-large false p q = omega arith

is-bias-x : (vram w : List ℕ) (eye i j : ℕ) → Is (bias_x vram w eye i j) (bias_x_biased vram w eye i j) 8388608
unfolding bias_x_biased bias_index_of normal_x_biased plain_left_biased
is-bias-x vram w eye i j =
    let h = parameter_of vram w (pick (eqb eye 0) (2 * j) (2 * j + 1)) in
    let large = plain-large (eqb eye 0) (get_or w 4 0) (get_or w 5 0) in
    is-moved (is_sum (is-normal-x w eye i) (is_field 4096 h (omega arith))) (omega arith)

shift : (left : Bool) (z : ℤ) (m : ℕ) → Is z m 32768
    → Is (pick left (pick (lt_z z (pos 0)) (neg_ℤ z) (pos 0)) (pick (lt_z z (pos 0)) (pos 0) z)) (pick left (32768 - m) (m - 32768)) 0
shift true (pos n) m i =
    let g : m ≡ n + 32768 = i.gap in
    simp (le-ltb n 0 (omega arith)) (is-moved (is_pos 0) (omega arith))
shift false (pos n) m i =
    let g : m ≡ n + 32768 = i.gap in
    simp (le-ltb n 0 (omega arith)) (is-moved (is_pos n) (omega arith))
shift true (negsuc n) m i =
    let g : m + suc n ≡ 32768 = i.gap in
    is-moved (is_pos (suc n)) (omega arith)
shift false (negsuc n) m i =
    let g : m + suc n ≡ 32768 = i.gap in
    is-moved (is_pos 0) (omega arith)

shift_small : (left : Bool) (m : ℕ) → m < 65536 → pick left (32768 - m) (m - 32768) ≤ 32768
shift_small true m h = omega arith
shift_small false m h = omega arith

is-shift : (eye : ℕ) {z : ℤ} {m : ℕ} → Is z m 32768 → Is (affine_shift eye z) (affine_shift_biased eye m) 0
unfolding affine_shift_biased
is-shift eye {z} {m} i = shift (eqb eye 0) z m i

-- 64 m + d n, and its floor over 512, where the definition's subtraction does not stop at 0
is-line : {m d n : ℤ} {a b c : ℕ} → c ≤ 131008 → Is m a 32768 → Is d b 32768 → Is n c 0
    → Is (shr_z (pos 64 *ℤ m +ℤ d *ℤ n) 512) (affine_floor_biased a b c) 8388608
unfolding affine_floor_biased
is-line {m} {d} {n} {a} {b} {c} small i k l =
    let left : Is (pos 64 *ℤ m) (64 * a) (64 * 32768) = is-scaled 64 i in
    let right : Is (d *ℤ n) (b * c) (32768 * c) = is-times k l in
    is-floor 512 8388608 (omega arith) (is-moved (is_sum left right) (omega arith))

module _ (vram w : List ℕ) (eye i j : ℕ) (wide : i < 65536) where
  step_small : i + affine_shift_biased eye (affine_parameter_biased vram w j 1) ≤ 131008
  unfolding affine_shift_biased affine_parameter_biased
  step_small =
      let h = shift_small (eqb eye 0) (biased_of 32768 (parameter_of vram w (8 * j + 1))) (omega arith) in
      omega arith

  is-step : Is (pos i +ℤ affine_shift eye (affine_parameter vram w j 1)) (i + affine_shift_biased eye (affine_parameter_biased vram w j 1)) 0
  unfolding affine_parameter_biased
  is-step = is_sum (is_pos i) (is-shift eye (is_field 32768 (parameter_of vram w (8 * j + 1)) (omega arith)))

  is-affine-x : Is (affine_x vram w eye i j) (affine_x_biased vram w eye i j) 8388608
  unfolding affine_x_biased affine_parameter_biased
  is-affine-x =
      is-line step_small
      (is_field 32768 (parameter_of vram w (8 * j + 0)) (omega arith))
      (is_field 32768 (parameter_of vram w (8 * j + 3)) (omega arith)) is-step

  is-affine-y : Is (affine_y vram w eye i j) (affine_y_biased vram w eye i j) 8388608
  unfolding affine_y_biased affine_parameter_biased
  is-affine-y =
      is-line step_small
      (is_field 32768 (parameter_of vram w (8 * j + 2)) (omega arith))
      (is_field 32768 (parameter_of vram w (8 * j + 4)) (omega arith)) is-step

pub normal-x : NormalX
normal-x w eye i = is_tied (is-normal-x w eye i)

pub normal-y : NormalY
normal-y w j = is_tied (is-normal-y w j)

pub bias-x : BiasX
bias-x vram w eye i j = is_tied (is-bias-x vram w eye i j)

pub affine-x : AffineX
affine-x vram w eye i j h = is_tied (is-affine-x vram w eye i j h)

pub affine-y : AffineY
affine-y vram w eye i j h = is_tied (is-affine-y vram w eye i j h)

chosen : (normal bias : Bool) {x y z : ℤ} {a b c d : ℕ} → Is x a d → Is y b d → Is z c d
    → Is (pick normal x (pick bias y z)) (pick normal a (pick bias b c)) d
chosen true bias i k l = i
chosen false true i k l = k
chosen false false i k l = l

pub source-x : SourceX
unfolding source_x_biased
source-x vram w eye i j h =
    is_tied (chosen (eqb (bgm_of w) 0) (eqb (bgm_of w) 1) (is-normal-x w eye i) (is-bias-x vram w eye i j) (is-affine-x vram w eye i j h))

pub source-y : SourceY
unfolding source_y_biased
source-y vram w eye i j h =
    is_tied (chosen (eqb (bgm_of w) 0) (eqb (bgm_of w) 1) (is-normal-y w j) (is-normal-y w j) (is-affine-y vram w eye i j h))
