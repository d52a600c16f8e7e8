-- The output buffer while it is filled: pixels of a column, columns of a strip, strips, and then all of it. Assumes nothing.
use Prim.Native.Nat.{ℕ, ◌+◌, ◌-◌, ◌*◌, ◌/◌, ◌%◌, ◌<◌, ◌≤◌}
use native.Mathlib.Omega.{arith}
use native.Mathlib.Decide.{dec_lt, ℕ_discrete}
use mathlib.Core.Path.{◌≡◌, sym, ◌∙◌}
use mathlib.Core.List.{List}
use lib.ListN.{get_or}
use lib.Seq.{ext_get_or}
use Rattle.word.specs.LittleEndian.{half_at}
use Rattle.drawing_pixel.specs.Character.{two_bits_of}
use Rattle.drawing_pixel.specs.Strip.{image_of, stored_pixel_of}
use Rattle.drawing_pixel.proofs.Pairs.{pair_lt}
use Rattle.drawing_pixel.proofs.Lists.{length-list, get_or-list}
use Rattle.drawing_display.specs.Brightness.{table_entry_of, repeats_of, lamp_level_of, column_entry_of, brightness_of}
use Rattle.drawing_display.specs.Calls.{shown_of}
use Rattle.drawing_display.specs.inner.Output.{Levels, Column, Columns, Strips, pixel_in}
use Rattle.drawing_display.specs.declared.View.{View}
use Rattle.drawing_display.specs.declared.Durations.{Durations}

-- one column of a strip more
module _ (strip n : ℕ) (f : ℕ → ℕ → ℕ) (g : ℕ → ℕ) (a b c : List ℕ) where
  pub columns-more : Columns strip n f a b → Column (3072 * strip + n) 8 g b c → n < 384
      → ((r : ℕ) → r < 8 → g r ≡ f n (8 * strip + r))
      → Columns strip (n + 1) f a c
  columns-more s t few e =
      record {
        size = t.size ∙ s.size;
        inside = inside;
        before_kept = λ i h. t.others i (λ r l q. omega arith) ∙ s.before_kept i h;
      }
    where
      last : (x r : ℕ) → x ≡ n → r < 8 → get_or c (384 * (8 * strip + r) + x) 0 ≡ f x (8 * strip + r)
      last x r q h =
          let p : 384 * (8 * strip + r) + n ≡ 3072 * strip + n + 384 * r = omega arith in
          rw (q, p) (t.inside r h ∙ e r h)

      inside : (x r : ℕ) → x < n + 1 → r < 8 → get_or c (384 * (8 * strip + r) + x) 0 ≡ f x (8 * strip + r)
      inside x r l h =
          elim (ℕ_discrete x n) [
            | yes q ↦ last x r q h
            | no q ↦ t.others (384 * (8 * strip + r) + x) (λ k m p. q (omega arith)) ∙ s.inside x r (omega arith) h
          ]

-- a column's pixels are those of the image
module _ (vram levels : List ℕ) (base strip x h group : ℕ) where
  pub column-pixels : h ≡ half_at vram (base + 64 * x + 2 * strip) → group ≡ x - x % 4 → (r : ℕ) → r < 8
      → get_or levels (group + two_bits_of h r) 0 ≡ pixel_in vram levels base x (8 * strip + r)
  unfolding pixel_in
  column-pixels e g r l =
      let p : (8 * strip + r) / 8 ≡ strip = omega arith in
      let q : (8 * strip + r) % 8 ≡ r = omega arith in
      rw (p, q, e, g)

-- one strip more
module _ (n : ℕ) (f : ℕ → ℕ → ℕ) (a b : List ℕ) where
  pub strips-more : Strips n f a → Columns n 384 f a b → Strips (n + 1) f b
  strips-more s t = record { size = t.size ∙ s.size; inside = inside }
    where
      last : (x y : ℕ) → x < 384 → 8 * n ≤ y → y < 8 * (n + 1) → get_or b (384 * y + x) 0 ≡ f x y
      last x y h l u =
          let e : 8 * n + (y - 8 * n) ≡ y = omega arith in
          rw e at (t.inside x (y - 8 * n) h (omega arith))

      inside : (x y : ℕ) → x < 384 → y < 8 * (n + 1) → get_or b (384 * y + x) 0 ≡ f x y
      inside x y h u =
          elim (dec_lt y (8 * n)) [
            | yes l ↦ t.before_kept (384 * y + x) (omega arith) ∙ s.inside x y h l
            | no l ↦ last x y h (omega arith) u
          ]

-- a pixel's level is its brightness
module _ (vram levels : List ℕ) (view : View) (d : Durations) (base table start : ℕ) where
  module _ (b : base ≡ 32768 * view.frame + 65536 * view.eye) (t : table ≡ 252928 + 512 * view.eye) (s : start ≡ view.start) where
    pixel-level : Levels vram d table start 384 levels → (x v : ℕ) → x < 384 → v < 4
        → get_or levels (x - x % 4 + v) 0 ≡ lamp_level_of d v (repeats_of (table_entry_of vram view.eye (column_entry_of view.start x)))
    unfolding table_entry_of column_entry_of
    pixel-level l x v h w =
        let p : (x - x % 4 + v) % 4 ≡ v = omega arith in
        let q : (x - x % 4 + v) / 4 ≡ x / 4 = omega arith in
        rw (← t, ← s) (rw (p, q) at (l.each (x - x % 4 + v) (omega arith)))

    pub pixel-brightness : Levels vram d table start 384 levels → (x y : ℕ) → x < 384
        → pixel_in vram levels base x y ≡ brightness_of vram view d x y
    unfolding pixel_in brightness_of stored_pixel_of image_of
    pixel-brightness l x y h =
        let e : base + 64 * x + 2 * (y / 8) ≡ 32768 * view.frame + 65536 * view.eye + (64 * x + 2 * (y / 8)) = omega arith in
        rw e (pixel-level l x _ h (pair_lt _ (y % 8)))

    -- all strips
    pub all_shown : Levels vram d table start 384 levels → (a : List ℕ) → Strips 28 (pixel_in vram levels base) a → a ≡ shown_of vram view d
    unfolding shown_of
    all_shown l a s =
        ext_get_or 0 a (shown_of vram view d)
        (s.size ∙ sym (length-list 86016 0 _))
        (λ i h. each i (omega (arith, s.size)) ∙ sym (get_or-list 86016 0 _ i (omega (arith, s.size))))
      where
        each : (i : ℕ) → i < 86016 → get_or a i 0 ≡ brightness_of vram view d (i % 384) (i / 384)
        each i h =
            let e : 384 * (i / 384) + i % 384 ≡ i = omega arith in
            rw e at (s.inside (i % 384) (i / 384) (omega arith) (omega arith))
            ∙ pixel-brightness l (i % 384) (i / 384) (omega arith)
