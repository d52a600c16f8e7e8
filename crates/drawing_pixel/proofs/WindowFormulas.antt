-- The statements of specs/inner/BiasedWindow about a window's edges, columns and offsets, proved.
use Prim.Native.Nat.{ℕ, ◌+◌, ◌-◌, ◌%◌, ◌<◌, ◌≤◌}
use native.Mathlib.Nat as NatL
use native.Mathlib.Omega.{arith}
use mathlib.Core.Path.{◌≡◌, refl, sym, ap, ◌∙◌}
use mathlib.Core.Bool.{Bool, true, false, ◌&&◌}
use mathlib.Core.List.{List}
use lib.Dec.{T, eqb, leb, ltb, leb→le, ltb→lt, lt→ltb}
use borrow.Author.Tests.{ltb-true}
use lib.ListN.{get_or}
use lib.IntN.{ℤ, pos, ◌+ℤ◌, ◌-ℤ◌}
use lib.Signed.{le_z, lt_z}
use Rattle.word.specs.Choose.{pick}
use Rattle.drawing_pixel.specs.inner.BiasedFields.{biased_of, edge_biased, gy_biased}
use Rattle.drawing_pixel.specs.World.{bgm_of}
use Rattle.drawing_pixel.specs.inner.BiasedWindow.{columns_biased, rows_biased, window_left_biased, column_covered_biased, row_covered_biased, column_in_biased}
use Rattle.drawing_pixel.specs.inner.BiasedWindow.{row_in_biased, WindowLeft, WindowTop, WorldColumns, ColumnCovered, RowCovered, PlainRow, ColumnIn, RowIn}
use Rattle.word.specs.Integers.{above_zero}
use Rattle.word.proofs.Choices.{bool_same, and_right}
use Rattle.word.proofs.Integers.{Is, is_pos, is_sum, is-difference, is-moved, is_tied, is-natural, is-le-test, is-lt-test, le_is, is-above}
use Rattle.drawing_pixel.specs.Fields.{field_of, GY, with_parallax}
use Rattle.drawing_pixel.proofs.Fields.{is_field, field-plus-one}
use Rattle.drawing_pixel.proofs.HeightFormulas.{world-height, world-rows}
use Rattle.drawing_pixel.specs.WindowFormulas.{window_left}

edge-left : (p q : ℕ) → Is (field_of 512 p -ℤ field_of 512 q) (biased_of 512 p + 1024 - biased_of 512 q) 1024
edge-left p q = is-moved (is-difference (is_field 512 p (omega arith)) (is_field 512 q (omega arith))) (omega arith)

edge-right : (p q : ℕ) → Is (field_of 512 p +ℤ field_of 512 q) (biased_of 512 p + biased_of 512 q) 1024
edge-right p q = is-moved (is_sum (is_field 512 p (omega arith)) (is_field 512 q (omega arith))) (omega arith)

edge : (left : Bool) (p q : ℕ)
    → Is (pick left (field_of 512 p -ℤ field_of 512 q) (field_of 512 p +ℤ field_of 512 q))
    (pick left (biased_of 512 p + 1024 - biased_of 512 q) (biased_of 512 p + biased_of 512 q)) 1024
edge true p q = edge-left p q
edge false p q = edge-right p q

-- the edge of a window or an object, of its two halfwords
pub is-edge : (eye p q : ℕ) → Is (with_parallax eye (field_of 512 p) (field_of 512 q)) (edge_biased eye (biased_of 512 p) (biased_of 512 q)) 1024
unfolding edge_biased
is-edge eye p q = edge (eqb eye 0) p q

is-start : (w : List ℕ) (eye : ℕ) → Is (window_left w eye) (window_left_biased w eye) 1024
unfolding window_left_biased
is-start w eye = is-edge eye (get_or w 1 0) (get_or w 2 0)

pub window-left : WindowLeft
window-left w eye = is_tied (is-start w eye)

pub window-top : WindowTop
window-top w = is_tied (is_field 32768 (get_or w 3 0) (omega arith))

-- a span from z of n, tested at x
pub span : {z : ℤ} {a b : ℕ} (n x : ℕ) → Is z a b
    → leb a (x + b) && ltb (x + b) (a + n) ≡ le_z z (pos x) && lt_z (pos x) (z +ℤ pos n)
span {z} {a} {b} n x i =
    let lower : le_z z (pos x) ≡ leb (a + 0) (x + b) = is-le-test i (is_pos x) in
    let upper : lt_z (pos x) (z +ℤ pos n) ≡ ltb (x + (b + 0)) (a + n + 0) = is-lt-test (is_pos x) (is_sum i (is_pos n)) in
    rw (lower, upper) (simp NatL.add-zero)

wide : (affine : Bool) (h : ℕ) → pick affine (h % 1024 + 1) (biased_of 4096 h + 1 - 4096)
    ≡ above_zero (pick affine (pos (h % 1024)) (field_of 4096 h) +ℤ pos 1)
wide true h = refl
wide false h = sym (field-plus-one 4096 h (omega arith))

pub world-columns : WorldColumns
unfolding columns_biased
world-columns w = wide (eqb (bgm_of w) 2) (get_or w 7 0)

and_same : (p q r : Bool) → (T p → T q → T r) → (T p → T r → T q) → p && q ≡ p && r
and_same true q r f g = bool_same q r (f tt) (g tt)
and_same false q r f g = refl

-- a size of 0 or less ends a span where it begins, as the size 0 does
sized-test : (a b c d x : ℕ) → leb a (x + b) && ltb (x + b) (a + (c - d)) ≡ leb a (x + b) && ltb (x + (b + d)) (a + c)
sized-test a b c d x =
    and_same (leb a (x + b)) (ltb (x + b) (a + (c - d))) (ltb (x + (b + d)) (a + c))
    (λ t u. let l = leb→le a (x + b) t in let m = ltb→lt (x + b) (a + (c - d)) u in lt→ltb (x + (b + d)) (a + c) (omega arith))
    (λ t u. let l = leb→le a (x + b) t in let m = ltb→lt (x + (b + d)) (a + c) u in lt→ltb (x + b) (a + (c - d)) (omega arith))

sized : {z v : ℤ} {a b c d : ℕ} (x : ℕ) → Is z a b → Is v c d
    → leb a (x + b) && ltb (x + b) (a + above_zero v) ≡ le_z z (pos x) && lt_z (pos x) (z +ℤ v)
sized {z} {v} {a} {b} {c} {d} x i k =
    let lower : le_z z (pos x) ≡ leb (a + 0) (x + b) = is-le-test i (is_pos x) in
    let upper : lt_z (pos x) (z +ℤ v) ≡ ltb (x + (b + d)) (a + c + 0) = is-lt-test (is_pos x) (is_sum i k) in
    rw (lower, upper, is-above k) (simp NatL.add-zero (sized-test a b c d x))

is-width : (affine : Bool) (h : ℕ)
    → Is (pick affine (pos (h % 1024)) (field_of 4096 h)) (pick affine (h % 1024) (biased_of 4096 h)) (pick affine 0 4096)
is-width true h = is_pos (h % 1024)
is-width false h = is_field 4096 h (omega arith)

pub column-covered : ColumnCovered
unfolding column_covered_biased
column-covered w eye x =
    rw (world-columns w)
    (sized x (is-start w eye) (is_sum (is-width (eqb (bgm_of w) 2) (get_or w 7 0)) (is_pos 1)))

pub row-covered : RowCovered
unfolding row_covered_biased
row-covered w y =
    span (rows_biased w) y (is_field 32768 (get_or w 3 0) (omega arith))
    ∙ ap (λ n. le_z (GY w) (pos y) && lt_z (pos y) (GY w +ℤ pos n)) (world-rows w)

pub plain-row : PlainRow
plain-row w y =
    rw (world-height w)
    (sized y (is_field 32768 (get_or w 3 0) (omega arith)) (is_sum (is_field 32768 (get_or w 8 0) (omega arith)) (is_pos 1)))

pub column-in : ColumnIn
unfolding column_in_biased
column-in w eye x h =
    let l = le_is (is-start w eye) (is_pos x) h in
    is-natural _ (is-difference (is_pos x) (is-start w eye)) (omega arith)

pub row_in : RowIn
unfolding row_in_biased
row_in w y h =
    let i = is_field 32768 (get_or w 3 0) (omega arith) in
    let l = le_is i (is_pos y) h in
    is-natural _ (is-difference (is_pos y) i) (omega arith)

-- the same with no condition: 0 to the left of the window and above it
pub column-offset : (w : List ℕ) (eye x : ℕ) → column_in_biased w eye x ≡ above_zero (pos x -ℤ window_left w eye)
unfolding column_in_biased
column-offset w eye x =
    let e : x + 1024 - window_left_biased w eye ≡ x + 1024 - (0 + window_left_biased w eye) = omega arith in
    e ∙ sym (is-above (is-difference (is_pos x) (is-start w eye)))

pub row-offset : (w : List ℕ) (y : ℕ) → row_in_biased w y ≡ above_zero (pos y -ℤ GY w)
unfolding row_in_biased
row-offset w y =
    let e : y + 32768 - gy_biased w ≡ y + 32768 - (0 + gy_biased w) = omega arith in
    e ∙ sym (is-above (is-difference (is_pos y) (is_field 32768 (get_or w 3 0) (omega arith))))

some-columns : (affine : Bool) (h : ℕ) → pick affine (h % 1024 + 1) (biased_of 4096 h + 1 - 4096) ≤ 4096
some-columns true h = omega arith
some-columns false h = omega arith

columns-small : (w : List ℕ) → columns_biased w ≤ 4096
unfolding columns_biased
columns-small w = some-columns (eqb (bgm_of w) 2) (get_or w 7 0)

-- the offset of every covered column is within the range of these theorems
pub offset-small : (w : List ℕ) (eye x : ℕ) → column_covered_biased w eye x ≡ true → column_in_biased w eye x < 65536
unfolding column_covered_biased column_in_biased
offset-small w eye x covered =
    let l : x + 1024 < window_left_biased w eye + columns_biased w =
    ltb-true (x + 1024) (window_left_biased w eye + columns_biased w)
    (and_right (leb (window_left_biased w eye) (x + 1024)) (ltb (x + 1024) (window_left_biased w eye + columns_biased w)) covered) in
    let s = columns-small w in
    omega arith
