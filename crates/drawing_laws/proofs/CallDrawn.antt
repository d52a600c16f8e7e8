-- What a frame call and a strip call leave: `pixel-drawn`, every drawn pixel is the pixel of memory before the call, and
-- `byte-kept` and `length-kept`, every other byte is as it was; `column-bytes` and `other-bytes`, the bytes of a strip by 01's
-- formula. Assumes nothing.
use Rattle.std.specs.Prelude.{Ok, Err}
use Prim.Native.Nat.{ℕ, zero, suc, ◌+◌, ◌*◌, ◌/◌, ◌%◌, ◌<◌, ◌≤◌}
use mathlib.Core.Bool.{Bool, true, false, ◌&&◌, and-false}
use mathlib.Core.List.{List}
use mathlib.Core.Path.{◌≡◌, refl, ap, ◌∙◌}
use native.Mathlib.Decide.{ℕ_discrete}
use native.Mathlib.Omega.{arith}
use lib.ListN.{length, get_or}
use lib.Dec.{eqb, ltb}
use borrow.Author.Tests.{ltb-true, eqb-true, lt-ltb}
use Rattle.bus.specs.Registers.{drawing_ok}
use Rattle.drawing_pixel.specs.Pixel.{pixel_of}
use Rattle.drawing_pixel.specs.Strip.{image_of, pixel_offset_of, stored_pixel_of, in_strip_of, strip_of, strips_of, frame_of}
use Rattle.bus.specs.Refusal.{vram_ok}
use Rattle.word.proofs.Choices.{and_left, and_right}
use Rattle.drawing.specs.Calls.{strip_verdict_of, draw_strip_of, frame_verdict_of, draw_frame_of}
use Rattle.refusal.specs.Number.{when_accepted, Verdict}
use Rattle.drawing_laws.specs.Drawn.{frame_call, strip_call, draws_strip_of, drawn_by, PixelDrawn, ByteKept, LengthKept, ColumnBytes, OtherBytes}
use Rattle.drawing_pixel.specs.Strip.{in_images_of}
use Rattle.drawing_laws.proofs.Verdicts.{strip_test, accepted-given}
use Rattle.drawing_laws.proofs.Registers.{bkcol-below}
use Rattle.drawing_laws.proofs.Images.{pixel-outside-images}
use Rattle.drawing_pixel.proofs.Small.{pixel-small}
use Rattle.drawing_laws.proofs.StripBytes.{length-strip, strip-kept}
use Rattle.drawing_laws.proofs.StripPixel.{byte-drawn, pixel-of-strip, pixel-of-others}

-- a strip's bytes are those of the images whose halfword in the column is the strip's
pub in-strip-is : (frame s a : ℕ) → in_strip_of frame s a ≡ (in_images_of frame a && eqb (a % 64 / 2) s)
unfolding in_strip_of
in-strip-is frame s a = refl

pub outside-strip : (frame s a : ℕ) → in_images_of frame a ≡ false → in_strip_of frame s a ≡ false
outside-strip frame s a e = in-strip-is frame s a ∙ rw e

module _ (vram regs : List ℕ) (frame : ℕ) where
  pub strips-length : (n : ℕ) → length (strips_of vram regs frame n) ≡ length vram
  unfolding strips_of
  strips-length zero = refl
  strips-length (suc n) = length-strip (strips_of vram regs frame n) regs frame n ∙ strips-length n

  pub strips-kept : (n a : ℕ) → ((s : ℕ) → s < n → in_strip_of frame s a ≡ false)
      → get_or (strips_of vram regs frame n) a 0 ≡ get_or vram a 0
  unfolding strips_of
  strips-kept zero a h = refl
  strips-kept (suc n) a h =
      strip-kept (strips_of vram regs frame n) regs frame n a (h n (omega arith))
      ∙ strips-kept n a (λ s b. h s (omega arith))

  module _ (eye x y : ℕ) (l : length vram ≡ 262144) (ok : drawing_ok regs ≡ true) (f : frame < 2) (e : eye < 2) (c : x < 384)
    where
      strips-same : (n : ℕ) → pixel_of (strips_of vram regs frame n) regs eye x y ≡ pixel_of vram regs eye x y
      strips-same n =
          pixel-outside-images vram (strips_of vram regs frame n) regs frame eye x y ok
          (λ a o. strips-kept n a (λ s _. outside-strip frame s a o))

      strip-pixel : (before : List ℕ) → length before ≡ 262144
          → (s : ℕ) → s < 28
          → y / 8 ≡ s
          → stored_pixel_of (strip_of before regs frame s) frame eye x y ≡ pixel_of before regs eye x y
      strip-pixel before m s r q =
          pixel-of-strip before regs frame eye x s m f e c r
          (λ row. pixel-small before regs eye x row (bkcol-below regs ok)) y q

      strips-pixel : (n : ℕ) → n ≤ 28 → y / 8 < n
          → stored_pixel_of (strips_of vram regs frame n) frame eye x y ≡ pixel_of vram regs eye x y
      unfolding strips_of
      strips-pixel zero h r = absurd (omega arith)
      strips-pixel (suc n) h r =
          let before : List ℕ = strips_of vram regs frame n in
          let earlier : y / 8 < n → stored_pixel_of (strips_of vram regs frame n) frame eye x y ≡ pixel_of vram regs eye x y
          = strips-pixel n (omega arith) in
          elim (ℕ_discrete (y / 8) n) [
            | yes q ↦ strip-pixel before (strips-length n ∙ l) n h q ∙ strips-same n
            | no q ↦ pixel-of-others before regs frame eye x n y f e c (omega arith) q ∙ earlier (omega arith)
          ]

-- an accepted call leaves the frame or the strip drawn
pub frame-accepted : (vram regs : List ℕ) (frame : ℕ) → length vram ≡ 262144 → drawing_ok regs ≡ true → frame < 2
    → draw_frame_of vram regs frame ≡ frame_of vram regs frame
unfolding draw_frame_of frame_verdict_of vram_ok
frame-accepted vram regs frame l ok f = simp (l, ok, lt-ltb frame 2 f)

pub strip-accepted : (vram regs : List ℕ) (frame s : ℕ) → length vram ≡ 262144 → drawing_ok regs ≡ true → frame < 2
    → ltb s 28 ≡ true
    → draw_strip_of vram regs frame s ≡ strip_of vram regs frame s
unfolding draw_strip_of strip_verdict_of vram_ok
strip-accepted vram regs frame s l ok f a = simp (l, ok, lt-ltb frame 2 f, a)

pub pixel-drawn : PixelDrawn
unfolding draws_strip_of drawn_by frame_of strip_test
pixel-drawn vram regs frame frame_call eye x y v e c d =
    let g = accepted-given vram regs frame frame_call v in
    rw (frame-accepted vram regs frame g.bytes g.registers g.frame_below)
    (strips-pixel vram regs frame eye x y g.bytes g.registers g.frame_below e c 28 (omega arith) (ltb-true (y / 8) 28 d))
pixel-drawn vram regs frame (strip_call s) eye x y v e c d =
    let g = accepted-given vram regs frame (strip_call s) v in
    rw (strip-accepted vram regs frame s g.bytes g.registers g.frame_below g.strip)
    (strip-pixel vram regs frame eye x y g.bytes g.registers g.frame_below e c vram g.bytes s
    (ltb-true s 28 g.strip) (eqb-true (y / 8) s d))

-- a byte of a strip that the frame call does not draw lies in none of strips 0 to 27
frame-others : (frame a : ℕ) → (in_images_of frame a && ltb (a % 64 / 2) 28) ≡ false → (s : ℕ) → s < 28 → in_strip_of frame s a ≡ false
frame-others frame a h s r = in-strip-is frame s a ∙ go (eqb (a % 64 / 2) s) refl
  where
    go : (b : Bool) → eqb (a % 64 / 2) s ≡ b → (in_images_of frame a && b) ≡ false
    go false e = and-false (in_images_of frame a)
    go true e =
        let q : a % 64 / 2 ≡ s = eqb-true (a % 64 / 2) s e in
        rw (lt-ltb (a % 64 / 2) 28 (omega arith)) at h

-- what drawing keeps of a list, a call keeps, refused or not
kept-when : {A : Type 0} (f : List ℕ → A) (v : Verdict) (before after : List ℕ) → f after ≡ f before
    → f (when_accepted v before after) ≡ f before
kept-when f (Ok tt) before after e = e
kept-when f (Err n) before after e = refl

pub byte-kept : ByteKept
unfolding draws_strip_of drawn_by frame_of draw_frame_of draw_strip_of
byte-kept vram regs frame frame_call a h =
    kept-when (λ xs. get_or xs a 0) (frame_verdict_of vram regs frame) vram (strips_of vram regs frame 28)
    (strips-kept vram regs frame 28 a (frame-others frame a h))
byte-kept vram regs frame (strip_call s) a h =
    kept-when (λ xs. get_or xs a 0) (strip_verdict_of vram regs frame s) vram (strip_of vram regs frame s)
    (strip-kept vram regs frame s a (in-strip-is frame s a ∙ h))

pub length-kept : LengthKept
unfolding drawn_by frame_of draw_frame_of draw_strip_of
length-kept vram regs frame frame_call =
    kept-when length (frame_verdict_of vram regs frame) vram (strips_of vram regs frame 28) (strips-length vram regs frame 28)
length-kept vram regs frame (strip_call s) =
    kept-when length (strip_verdict_of vram regs frame s) vram (strip_of vram regs frame s) (length-strip vram regs frame s)

pub column-bytes : ColumnBytes
unfolding image_of
column-bytes vram regs frame strip eye x b l f s e c h =
    let here : image_of frame eye + pixel_offset_of x (8 * strip) + b ≡ 0x8000 * frame + 0x10000 * eye + (64 * x + 2 * strip) + b = omega arith in
    ap (λ a. get_or (strip_of vram regs frame strip) a 0) here ∙ byte-drawn vram regs frame eye x strip l f e c s b h

-- where a byte of a strip stands
strip-place : (frame s a : ℕ) → in_strip_of frame s a ≡ true
    → (a < 0x20000) × (a / 0x8000 % 2 ≡ frame) × (a % 0x8000 < 0x6000) × (a % 64 / 2 ≡ s)
unfolding in_strip_of in_images_of
strip-place frame s a e =
    let within = and_left (in_images_of frame a) _ e in
    let image = and_left (ltb a 0x20000 && eqb (a / 0x8000 % 2) frame) _ within in (
      ltb-true a 0x20000 (and_left (ltb a 0x20000) _ image),
      eqb-true (a / 0x8000 % 2) frame (and_right (ltb a 0x20000) _ image),
      ltb-true (a % 0x8000) 0x6000 (and_right (ltb a 0x20000 && eqb (a / 0x8000 % 2) frame) _ within),
      eqb-true (a % 64 / 2) s (and_right (in_images_of frame a) _ e),
    )

-- the address put together again
strip-sum : (a q h r c l b f s : ℕ) → a ≡ 0x8000 * q + r → q ≡ 2 * h + f → r ≡ 64 * c + l → l ≡ 2 * s + b
    → a ≡ 0x8000 * f + 0x10000 * h + (64 * c + 2 * (8 * s / 8)) + b
strip-sum a q h r c l b f s i j k m = omega arith

pub other-bytes : OtherBytes
unfolding image_of
other-bytes vram regs frame strip a none = go (in_strip_of frame strip a) refl
  where
    go : (t : Bool) → in_strip_of frame strip a ≡ t → get_or (strip_of vram regs frame strip) a 0 ≡ get_or vram a 0
    go false e = strip-kept vram regs frame strip a e
    go true e =
        let p = strip-place frame strip a e in
        let images : a / 0x8000 ≡ 2 * (a / 0x10000) + a / 0x8000 % 2 = omega arith in
        let columns : a % 0x8000 ≡ 64 * (a % 0x8000 / 64) + a % 64 = omega arith in
        let bytes : a % 64 ≡ 2 * (a % 64 / 2) + a % 2 = omega arith in
        let whole : a ≡ 0x8000 * (a / 0x8000) + a % 0x8000 = omega arith in
        absurd (none (a / 0x10000) (a % 0x8000 / 64) (a % 2) (omega (arith, p.0)) (omega (arith, p.2)) (omega arith)
        (strip-sum a _ _ _ _ _ _ frame strip whole (images ∙ ap (λ f. 2 * (a / 0x10000) + f) p.1) columns
        (bytes ∙ ap (λ k. 2 * k + a % 2) p.3)))
