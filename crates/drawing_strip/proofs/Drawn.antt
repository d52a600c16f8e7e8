-- Both images stored, from columns that hold the pixels of the strip, are all of VRAM after the strip was drawn. Assumes nothing.
use Prim.Native.Nat.{ℕ, zero, suc, ◌+◌, ◌-◌, ◌*◌, ◌/◌, ◌%◌, ◌<◌}
use native.Mathlib.Omega.{arith}
use native.Mathlib.Decide.{dec_lt, ℕ_discrete}
use mathlib.Core.Path.{◌≡◌, refl, sym, ap, ◌∙◌}
use mathlib.Core.List.{List}
use lib.ListN.{length, get_or, replicate, get_or-replicate}
use lib.Seq.{ext_get_or}
use Rattle.bus.specs.Registers.{bkcol_of}
use Rattle.drawing_pixel.specs.Character.{two_bits_of}
use Rattle.drawing_pixel.specs.Pixel.{pixel_of}
use Rattle.drawing_pixel.specs.inner.Painting.{worlds_pixel_biased, pixel_biased}
use Rattle.drawing_pixel.proofs.Painting.{pixel-formula}
use Rattle.drawing_pixel.specs.Strip.{four_pixels_of, strip_byte_of, strip_of}
use Rattle.drawing_pixel.specs.inner.Buffer.{Strip}
use Rattle.drawing_pixel.proofs.Pairs.{below-eight}
use Rattle.drawing_pixel.proofs.Lists.{length-list, get_or-list}
use Rattle.drawing_pixel.proofs.Strips.{in-strip, past-images, other-frame, past-image, other-strip}
use Rattle.drawing_strip.specs.inner.Stored.{column_byte_of, InStrip, Stored, Worked}

-- a halfword of eight equal pixels
filled : (b : ℕ) → b < 4 → (r : ℕ) → r < 8 → two_bits_of (b * 21845) r ≡ b
unfolding two_bits_of
filled zero h = below-eight (λ r. two_bits_of (0 * 21845) r ≡ 0) refl refl refl refl refl refl refl refl
filled (suc zero) h = below-eight (λ r. two_bits_of (1 * 21845) r ≡ 1) refl refl refl refl refl refl refl refl
filled (suc (suc zero)) h = below-eight (λ r. two_bits_of (2 * 21845) r ≡ 2) refl refl refl refl refl refl refl refl
filled (suc (suc (suc zero))) h = below-eight (λ r. two_bits_of (3 * 21845) r ≡ 3) refl refl refl refl refl refl refl refl
filled (suc (suc (suc (suc b)))) h = absurd (omega arith)

-- the loop over worlds, from columns of BKCOL, works the strip out
pub worked : (vram regs : List ℕ) (eye strip : ℕ) (columns : List ℕ) → bkcol_of regs < 4
    → Strip (λ x r. worlds_pixel_biased vram regs eye x (8 * strip + r) 32 3) (replicate 384 (get_or regs 12 0 * 21845)) columns
    → Worked vram regs eye strip columns
unfolding pixel_biased bkcol_of
worked vram regs eye strip columns h s =
    record {
      pixels = λ x r u v.
          s.pixels x r u v
          ∙ ap (worlds_pixel_biased vram regs eye x (8 * strip + r) 32 3)
          (ap (λ (n : ℕ). two_bits_of n r) (get_or-replicate 384 x (get_or regs 12 0 * 21845) 0 u) ∙ filled (get_or regs 12 0) h r v)
          ∙ pixel-formula vram regs eye x (8 * strip + r);
    }

-- the four pairs of a byte
two_digits : (h : ℕ) → h % 16 ≡ h % 4 + 4 * (h / 4 % 4)
two_digits h = omega arith

halves : (h : ℕ) → h % 256 ≡ h % 16 + 16 * (h / 16 % 16)
halves h = omega arith

quarter : (h : ℕ) → h / 16 / 4 ≡ h / 64
quarter h = omega arith

gathered : (a b c d : ℕ) → a + 4 * b + 16 * (c + 4 * d) ≡ a + 4 * b + 16 * c + 64 * d
gathered a b c d = omega arith

four-digits : (h : ℕ) → h % 256 ≡ h % 4 + 4 * (h / 4 % 4) + 16 * (h / 16 % 4) + 64 * (h / 64 % 4)
four-digits h = halves h ∙ rw (two_digits h, two_digits (h / 16), quarter h) (gathered _ _ _ _)

-- a byte of a halfword is four of its pairs
byte_low : (h : ℕ) → column_byte_of h 0 ≡ two_bits_of h 0 + 4 * two_bits_of h 1 + 16 * two_bits_of h 2 + 64 * two_bits_of h 3
unfolding column_byte_of two_bits_of
byte_low h = let e : h / 1 ≡ h = omega arith in rw e (four-digits h)

byte_high : (h : ℕ) → column_byte_of h 1 ≡ two_bits_of h 4 + 4 * two_bits_of h 5 + 16 * two_bits_of h 6 + 64 * two_bits_of h 7
unfolding column_byte_of two_bits_of
byte_high h =
    let a : h / 256 / 4 ≡ h / 1024 = omega arith in
    let b : h / 256 / 16 ≡ h / 4096 = omega arith in
    let c : h / 256 / 64 ≡ h / 16384 = omega arith in
    rw (← a, ← b, ← c) (four-digits (h / 256))

module _ (vram regs : List ℕ) (eye strip : ℕ) (columns : List ℕ) (w : Worked vram regs eye strip columns) (x : ℕ) (few : x < 384) where
  pixel-at : (r y : ℕ) → r < 8 → 8 * strip + r ≡ y → two_bits_of (get_or columns x 0) r ≡ pixel_of vram regs eye x y
  pixel-at r y h e = w.pixels x r few h ∙ ap (pixel_of vram regs eye x) e

  low : (b : ℕ) → b ≡ 0 → column_byte_of (get_or columns x 0) b ≡ four_pixels_of vram regs eye x (8 * strip + 4 * b)
  unfolding four_pixels_of
  low b e =
      rw (
        ← pixel-at 0 (8 * strip + 4 * b) (omega arith) (omega arith),
        ← pixel-at 1 (8 * strip + 4 * b + 1) (omega arith) (omega arith),
        ← pixel-at 2 (8 * strip + 4 * b + 2) (omega arith) (omega arith),
        ← pixel-at 3 (8 * strip + 4 * b + 3) (omega arith) (omega arith),
      )
      (rw e (byte_low (get_or columns x 0)))

  high : (b : ℕ) → b ≡ 1 → column_byte_of (get_or columns x 0) b ≡ four_pixels_of vram regs eye x (8 * strip + 4 * b)
  unfolding four_pixels_of
  high b e =
      rw (
        ← pixel-at 4 (8 * strip + 4 * b) (omega arith) (omega arith),
        ← pixel-at 5 (8 * strip + 4 * b + 1) (omega arith) (omega arith),
        ← pixel-at 6 (8 * strip + 4 * b + 2) (omega arith) (omega arith),
        ← pixel-at 7 (8 * strip + 4 * b + 3) (omega arith) (omega arith),
      )
      (rw e (byte_high (get_or columns x 0)))

  four-pixels : (b : ℕ) → b < 2 → column_byte_of (get_or columns x 0) b ≡ four_pixels_of vram regs eye x (8 * strip + 4 * b)
  four-pixels b h = elim (ℕ_discrete b 0) [ yes e ↦ low b e | no n ↦ high b (omega arith) ]

-- the offset of an address in its image
offset-strip : (i strip : ℕ) → i % 64 / 2 ≡ strip → i % 32768 % 64 / 2 ≡ strip
offset-strip i strip e = let m : i % 32768 % 64 ≡ i % 64 = omega arith in rw m e

offset-even : (i : ℕ) → i % 32768 % 2 ≡ i % 2
offset-even i = omega arith

offset-left : (i frame : ℕ) → i / 32768 % 2 ≡ frame → i / 65536 ≡ 0 → 32768 * frame + i % 32768 ≡ i
offset-left i frame e f = omega arith

offset-right : (i frame : ℕ) → i / 32768 % 2 ≡ frame → i / 65536 ≡ 1 → 32768 * frame + 65536 + i % 32768 ≡ i
offset-right i frame e f = omega arith

left_below : (i frame : ℕ) → i / 65536 ≡ 0 → i < 32768 * frame + 65536
left_below i frame e = omega arith

column-few : (o : ℕ) → o < 24576 → o / 64 < 384
column-few o h = omega arith

offset-few : (o : ℕ) → o < 24576 → o < 64 * 384
offset-few o h = h

two : (i : ℕ) → i % 2 < 2
two i = omega arith

eye-one : (i : ℕ) → i < 131072 → (i / 65536 ≡ 0 → ⊥) → i / 65536 ≡ 1
eye-one i h n = omega arith

module _ (regs left right v v1 v2 : List ℕ) (frame strip : ℕ) (f : frame < 2) (s : strip < 28) where
  module _ (l : Worked v regs 0 strip left) (r : Worked v regs 1 strip right) (a : Stored
      (32768 * frame) strip 384 left v v1) (b : Stored (32768 * frame + 65536) strip 384 right v1 v2) where
    -- an address in neither image's strip
    kept : (i : ℕ) → ((o : ℕ) → o < 24576 → i ≡ 32768 * frame + o → InStrip strip o → ⊥)
        → ((o : ℕ) → o < 24576 → i ≡ 32768 * frame + 65536 + o → InStrip strip o → ⊥) → get_or v2 i 0 ≡ get_or v i 0
    kept i p q = second ∙ first
      where
        first : get_or v1 i 0 ≡ get_or v i 0
        first =
            elim (dec_lt i (32768 * frame)) [
              | yes h ↦ a.below i h
              | no h ↦ elim (dec_lt i (32768 * frame + 24576)) [
                | yes g ↦
                    let e : 32768 * frame + (i - 32768 * frame) ≡ i = omega arith in
                    rw e at (a.beside (i - 32768 * frame) (omega arith) (p (i - 32768 * frame) (omega arith) (omega arith)))
                | no g ↦ a.above i (omega arith)
              ]
            ]

        second : get_or v2 i 0 ≡ get_or v1 i 0
        second =
            elim (dec_lt i (32768 * frame + 65536)) [
              | yes h ↦ b.below i h
              | no h ↦ elim (dec_lt i (32768 * frame + 65536 + 24576)) [
                | yes g ↦
                    let e : 32768 * frame + 65536 + (i - (32768 * frame + 65536)) ≡ i = omega arith in
                    rw e at (b.beside (i - (32768 * frame + 65536)) (omega arith) (q (i - (32768 * frame + 65536)) (omega arith) (omega arith)))
                | no g ↦ b.above i (omega arith)
              ]
            ]

    -- an address in the strip of an image
    module _ (i : ℕ) (low : i < 131072) (of : i / 32768 % 2 ≡ frame) (short : i % 32768 < 24576) (at : i % 64 / 2 ≡ strip) where
      in_left : i / 65536 ≡ 0 → get_or v2 i 0 ≡ four_pixels_of v regs (i / 65536) (i % 32768 / 64) (8 * strip + 4 * (i % 2))
      in_left e =
          b.below i (left_below i frame e)
          ∙ ((rw (offset-left i frame of e) at (a.inside (i % 32768) (offset-few (i % 32768) short) (offset-strip i strip at)))
          ∙ rw (e, offset-even i) (four-pixels v regs 0 strip left l (i % 32768 / 64) (column-few (i % 32768) short) (i % 2) (two i)))

      in_right : i / 65536 ≡ 1 → get_or v2 i 0 ≡ four_pixels_of v regs (i / 65536) (i % 32768 / 64) (8 * strip + 4 * (i % 2))
      in_right e =
          (rw (offset-right i frame of e) at (b.inside (i % 32768) (offset-few (i % 32768) short) (offset-strip i strip at)))
          ∙ rw (e, offset-even i) (four-pixels v regs 1 strip right r (i % 32768 / 64) (column-few (i % 32768) short) (i % 2) (two i))

      in_either : get_or v2 i 0 ≡ four_pixels_of v regs (i / 65536) (i % 32768 / 64) (8 * strip + 4 * (i % 2))
      in_either = elim (ℕ_discrete (i / 65536) 0) [ yes e ↦ in_left e | no n ↦ in_right (eye-one i low n) ]

    -- every byte
    each : (i : ℕ) → get_or v2 i 0 ≡ strip_byte_of v regs frame strip i
    unfolding strip_byte_of
    each i =
        elim (dec_lt i 131072) [
          | no n ↦ rw (past-images frame strip i (omega arith)) (kept i (λ o h e t. omega arith) (λ o h e t. omega arith))
          | yes lo ↦ elim (ℕ_discrete (i / 32768 % 2) frame) [
            | no n ↦ rw (other-frame frame strip i n) (kept i (λ o h e t. n (omega arith)) (λ o h e t. n (omega arith)))
            | yes fr ↦ elim (dec_lt (i % 32768) 24576) [
              | no n ↦ rw (past-image frame strip i (omega arith)) (kept i (λ o h e t. n (omega arith)) (λ o h e t. n (omega arith)))
              | yes sh ↦ elim (ℕ_discrete (i % 64 / 2) strip) [
                | no n ↦ rw (other-strip frame strip i n) (kept i (λ o h e t. n (omega arith)) (λ o h e t. n (omega arith)))
                | yes st ↦ rw (in-strip frame strip i lo fr sh st) (in_either i lo fr sh st)
              ]
            ]
          ]
        ]

    pub drawn : v2 ≡ strip_of v regs frame strip
    unfolding strip_of
    drawn =
        ext_get_or 0 v2 (strip_of v regs frame strip)
        (b.size ∙ (a.size ∙ sym (length-list (length v) 0 (strip_byte_of v regs frame strip))))
        (λ i h. each i ∙ sym (get_or-list (length v) 0 (strip_byte_of v regs frame strip) i (omega (arith, b.size, a.size))))
