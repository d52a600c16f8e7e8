-- What holds of the bytes of every parameter, cell and character row holds of every listed byte. Assumes nothing.
use Prim.Native.Nat.{ℕ, ◌+◌, ◌*◌, ◌%◌, ◌<◌}
use mathlib.Core.Bool.{true, not}
use mathlib.Core.List.{List, [], flat_map}
use mathlib.Core.Path.{◌≡◌, ◌∙◌}
use lib.ListN.{get_or}
use lib.Dec.{eqb}
use native.Mathlib.Omega.{arith}
use Rattle.word.specs.LittleEndian.{half_at}
use Rattle.drawing_pixel.specs.Character.{row_address_of}
use Rattle.drawing_pixel.specs.World.{world_of, bgm_of}
use Rattle.drawing_pixel.specs.inner.BiasedWindow.{column_in_biased, row_in_biased, world_covers_biased}
use Rattle.drawing_pixel.specs.Background.{parameter_address_of, bias_index_of}
use Rattle.drawing_pixel.specs.inner.BiasedSource.{source_x_biased, source_y_biased}
use Rattle.drawing_pixel.specs.inner.BiasedCell.{source_cell_address_biased}
use Rattle.drawing_pixel.specs.Object.{object_of}
use Rattle.drawing_pixel.specs.Pixel.{draws_objects_of}
use Rattle.drawing_pixel.specs.inner.BiasedObject.{object_row_biased}
use Rattle.drawing_pixel.proofs.Painting.{world-covers, object-covered, object-line}
use Rattle.drawing_pixel.proofs.Windows.{object-covers-row}
use Rattle.word.proofs.Choices.{and_right, pick-cases}
use Rattle.drawing_laws.specs.Covers.{reached_of, group_of, in_group_of, background_covers_of, draws_over_of}
use Rattle.drawing_laws.specs.Covers.{object_covers_pixel_of, covering_worlds_of, covering_objects_of}
use Rattle.drawing_laws.specs.Demand3.{Each}
use Rattle.drawing_laws.specs.PixelBytes.{half_bytes_of, affine_bytes_of, parameter_bytes_of, background_bytes, object_bytes, pixel_bytes_of}
use Rattle.drawing_laws.specs.inner.SourceBytes.{cell_bytes_biased}
use Rattle.drawing_laws.proofs.Each.{each-join}
use Rattle.drawing_laws.proofs.Below.{some_at, each-which}
use Rattle.drawing_laws.proofs.PixelBytes.{covering-bytes}

-- a world that covers the pixel has it in its window
covers-window : (vram : List ℕ) (eye x y n : ℕ) → background_covers_of vram eye x y n ≡ true
    → world_covers_biased (world_of vram n) eye x y ≡ true
unfolding background_covers_of
covers-window vram eye x y n e =
    world-covers (world_of vram n) eye x y
    ∙ and_right (not (eqb (bgm_of (world_of vram n)) 3)) _ (and_right (reached_of vram n) _ e)

-- an object that covers the pixel has a row there
covers-line : (vram regs : List ℕ) (eye x y k : ℕ) → object_covers_pixel_of vram regs eye x y k ≡ true
    → object_row_biased (object_of vram k) y < 8
unfolding object_covers_pixel_of draws_over_of
covers-line vram regs eye x y k e =
    some_at (draws_over_of vram regs eye x y k) 32 _ e
    (λ n l d.
    object-covers-row (object_of vram k) eye x y
    (object-covered (object_of vram k) eye x y
    ∙ and_right (in_group_of regs (group_of vram n) k) _
    (and_right (draws_objects_of (world_of vram n)) _ (and_right (reached_of vram n) _ d))))

module _ (P : ℕ → Type 0) (vram : List ℕ)
    (parameter : (w : List ℕ) (k : ℕ) → Each P (half_bytes_of (parameter_address_of w k)))
    (cell : (n sx sy : ℕ) → Each P (half_bytes_of (source_cell_address_biased (world_of vram n) sx sy)))
    (row : (c r : ℕ) → r < 8 → Each P (half_bytes_of (row_address_of c r)))
  where
    affine-each : (w : List ℕ) (j : ℕ) → Each P (affine_bytes_of w j)
    unfolding affine_bytes_of flat_map
    affine-each w j =
        let mx = parameter w (8 * j + 0) in
        let mp = parameter w (8 * j + 1) in
        let my = parameter w (8 * j + 2) in
        let dx = parameter w (8 * j + 3) in
        let dy = parameter w (8 * j + 4) in
        (mx.0, (mx.1.0, (mp.0, (mp.1.0, (my.0, (my.1.0, (dx.0, (dx.1.0, dy))))))))

    parameters-each : (w : List ℕ) (eye j : ℕ) → Each P (parameter_bytes_of w eye j)
    unfolding parameter_bytes_of
    parameters-each w eye j =
        pick-cases (Each P) (eqb (bgm_of w) 0) [] _ (λ _. tt)
        (λ _. pick-cases (Each P) (eqb (bgm_of w) 1) _ _ (λ _. parameter w (bias_index_of eye j)) (λ _. affine-each w j))

    cell-each : (n sx sy : ℕ) → Each P (cell_bytes_biased vram (world_of vram n) sx sy)
    unfolding cell_bytes_biased
    cell-each n sx sy =
        let at = source_cell_address_biased (world_of vram n) sx sy in
        each-join P (half_bytes_of at) (half_bytes_of (row_address_of (half_at vram at) (sy % 8))) (cell n sx sy)
        (row (half_at vram at) (sy % 8) (omega arith))

    background-each : (n eye x y : ℕ) → background_covers_of vram eye x y n ≡ true → Each P (background_bytes vram (world_of vram n) eye x y)
    background-each n eye x y e =
        let w = world_of vram n in
        let i = column_in_biased w eye x in
        let j = row_in_biased w y in
        rw (← covering-bytes vram w eye x y (covers-window vram eye x y n e))
        (each-join P (parameter_bytes_of w eye j) (cell_bytes_biased vram w (source_x_biased vram w eye i j) (source_y_biased vram w eye i j))
        (parameters-each w eye j) (cell-each n (source_x_biased vram w eye i j) (source_y_biased vram w eye i j)))

    object-each : (regs : List ℕ) (eye x y k : ℕ) → object_covers_pixel_of vram regs eye x y k ≡ true → Each P (object_bytes (object_of vram k) y)
    object-each regs eye x y k e =
        rw (← object-line (object_of vram k) y)
        (row (get_or (object_of vram k) 3 0) (object_row_biased (object_of vram k) y) (covers-line vram regs eye x y k e))

    pub listed-each : (regs : List ℕ) (eye x y : ℕ) → Each P (pixel_bytes_of vram regs eye x y)
    unfolding pixel_bytes_of covering_worlds_of covering_objects_of
    listed-each regs eye x y =
        each-join P (flat_map (λ n. background_bytes vram (world_of vram n) eye x y) (covering_worlds_of vram eye x y)) _
        (each-which (background_covers_of vram eye x y) P _ 32 (λ n l e. background-each n eye x y e))
        (each-which (object_covers_pixel_of vram regs eye x y) P _ 1024 (λ k l e. object-each regs eye x y k e))
