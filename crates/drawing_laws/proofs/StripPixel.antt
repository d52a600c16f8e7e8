-- A pixel read back after a strip was drawn: one of the strip's rows, and one of another row. Assumes nothing.
use Prim.Native.Nat.{ℕ, ◌+◌, ◌*◌, ◌/◌, ◌%◌, ◌^◌, ◌<◌}
use mathlib.Core.Bool.{true, false}
use mathlib.Core.List.{List}
use mathlib.Core.Path.{◌≡◌, refl, ap, ap₂, ◌∙◌}
use native.Mathlib.Omega.{arith}
use lib.ListN.{length, get_or}
use Rattle.word.specs.LittleEndian.{half_at}
use Rattle.drawing_pixel.specs.Character.{two_bits_of}
use Rattle.drawing_pixel.specs.Pixel.{pixel_of}
use Rattle.drawing_pixel.proofs.Strips.{other-strip}
use Rattle.drawing_pixel.proofs.Strips as Strips
use Rattle.drawing_pixel.specs.Strip.{image_of, stored_pixel_of, in_strip_of, four_pixels_of, strip_of}
use Rattle.drawing_pixel.proofs.Pairs.{below-eight}
use Rattle.drawing_laws.proofs.StripBytes.{strip-kept, strip-drawn}

-- eight values of two bits, four to a byte, are read back one by one
pairs-back : (p0 p1 p2 p3 p4 p5 p6 p7 : ℕ) → p0 < 4 → p1 < 4 → p2 < 4 → p3 < 4 → p4 < 4 → p5 < 4 → p6 < 4 → p7 < 4
    → (p : ℕ → ℕ) → p 0 ≡ p0 → p 1 ≡ p1 → p 2 ≡ p2 → p 3 ≡ p3 → p 4 ≡ p4 → p 5 ≡ p5 → p 6 ≡ p6 → p 7 ≡ p7
    → (k : ℕ) → k < 8
    → two_bits_of (p0 + 4 * p1 + 16 * p2 + 64 * p3 + 256 * (p4 + 4 * p5 + 16 * p6 + 64 * p7)) k ≡ p k
unfolding two_bits_of
pairs-back p0 p1 p2 p3 p4 p5 p6 p7 h0 h1 h2 h3 h4 h5 h6 h7 p e0 e1 e2 e3 e4 e5 e6 e7 =
    below-eight
    (λ k. (p0 + 4 * p1 + 16 * p2 + 64 * p3 + 256 * (p4 + 4 * p5 + 16 * p6 + 64 * p7)) / 2 ^ (2 * k) % 4 ≡ p k)
    (omega arith) (omega arith) (omega arith) (omega arith) (omega arith) (omega arith) (omega arith) (omega arith)

-- where a column's strip stands in an image
abbrev pub address_of : ℕ → ℕ → ℕ → ℕ → ℕ
address_of frame eye x s = 0x8000 * frame + 0x10000 * eye + (64 * x + 2 * s)

module _ (frame eye x s : ℕ) (f : frame < 2) (e : eye < 2) (c : x < 384) (r : s < 32) where
  -- both bytes of that halfword hold pixels of the strip, and of no other
  in-strip : (b : ℕ) → b < 2 → in_strip_of frame s (address_of frame eye x s + b) ≡ true
  in-strip b h = Strips.in-strip frame s (address_of frame eye x s + b) (omega arith) (omega arith) (omega arith) (omega arith)

  not-in-strip : (b t : ℕ) → b < 2 → (s ≡ t → ⊥) → in_strip_of frame t (address_of frame eye x s + b) ≡ false
  not-in-strip b t h n = other-strip frame t (address_of frame eye x s + b) (λ q. n (omega arith))

module _ (vram regs : List ℕ) (frame eye x s : ℕ) (l : length vram ≡ 262144) (f : frame < 2) (e : eye < 2) (c : x < 384)
    (r : s < 28)
  where
    -- four pixels of a column, as they are drawn
    pub byte-drawn : (b : ℕ) → b < 2
        → get_or (strip_of vram regs frame s) (address_of frame eye x s + b) 0 ≡ four_pixels_of vram regs eye x (8 * s + 4 * b)
    byte-drawn b h =
        let a : ℕ = address_of frame eye x s + b in
        let p : (address_of frame eye x s + b) / 0x10000 ≡ eye = omega arith in
        let q : (address_of frame eye x s + b) % 0x8000 / 64 ≡ x = omega arith in
        let v : (address_of frame eye x s + b) % 2 ≡ b = omega arith in
        strip-drawn vram regs frame s a (omega arith) (in-strip frame eye x s f e c (omega arith) b h) ∙ rw (p, q, v)

    column-drawn : half_at (strip_of vram regs frame s) (address_of frame eye x s)
        ≡ four_pixels_of vram regs eye x (8 * s) + 256 * four_pixels_of vram regs eye x (8 * s + 4)
    column-drawn =
        let here : address_of frame eye x s ≡ address_of frame eye x s + 0 = omega arith in
        let top : 8 * s + 4 * 0 ≡ 8 * s = omega arith in
        ap₂ (λ (p q : ℕ). p + 256 * q)
        (ap (λ (a : ℕ). get_or (strip_of vram regs frame s) a 0) here
        ∙ byte-drawn 0 (omega arith)
        ∙ ap (four_pixels_of vram regs eye x) top)
        (byte-drawn 1 (omega arith))

    -- the pixel of row k of the strip, read back
    row-drawn : ((y : ℕ) → pixel_of vram regs eye x y < 4) → (k : ℕ) → k < 8
        → two_bits_of (half_at (strip_of vram regs frame s) (address_of frame eye x s)) k ≡ pixel_of vram regs eye x (8 * s + k)
    unfolding four_pixels_of
    row-drawn below k h =
        let first : 8 * s + 0 ≡ 8 * s = omega arith in
        let five : 8 * s + 5 ≡ 8 * s + 4 + 1 = omega arith in
        let six : 8 * s + 6 ≡ 8 * s + 4 + 2 = omega arith in
        let seven : 8 * s + 7 ≡ 8 * s + 4 + 3 = omega arith in
        rw column-drawn
        (pairs-back _ _ _ _ _ _ _ _ (below (8 * s)) (below (8 * s + 1)) (below (8 * s + 2)) (below (8 * s + 3))
        (below (8 * s + 4)) (below (8 * s + 4 + 1)) (below (8 * s + 4 + 2)) (below (8 * s + 4 + 3))
        (λ (n : ℕ). pixel_of vram regs eye x (8 * s + n)) (ap (pixel_of vram regs eye x) first) refl refl refl refl
        (ap (pixel_of vram regs eye x) five) (ap (pixel_of vram regs eye x) six) (ap (pixel_of vram regs eye x) seven) k h)

    -- the pixel of a row of the strip
    pub pixel-of-strip : ((y : ℕ) → pixel_of vram regs eye x y < 4) → (y : ℕ) → y / 8 ≡ s
        → stored_pixel_of (strip_of vram regs frame s) frame eye x y ≡ pixel_of vram regs eye x y
    unfolding stored_pixel_of image_of
    pixel-of-strip below y q =
        let back : 8 * s + y % 8 ≡ y = omega arith in
        rw q (row-drawn below (y % 8) (omega arith) ∙ ap (pixel_of vram regs eye x) back)

-- the pixel of another row is kept
pub pixel-of-others : (vram regs : List ℕ) (frame eye x s y : ℕ) → frame < 2
    → eye < 2
    → x < 384
    → y / 8 < 28
    → (y / 8 ≡ s → ⊥)
    → stored_pixel_of (strip_of vram regs frame s) frame eye x y ≡ stored_pixel_of vram frame eye x y
unfolding stored_pixel_of image_of
pixel-of-others vram regs frame eye x s y f e c r n =
    let a : ℕ = address_of frame eye x (y / 8) in
    let here : address_of frame eye x (y / 8) ≡ address_of frame eye x (y / 8) + 0 = omega arith in
    let low : in_strip_of frame s (address_of frame eye x (y / 8)) ≡ false =
    ap (in_strip_of frame s) here ∙ not-in-strip frame eye x (y / 8) f e c (omega arith) 0 s (omega arith) n in
    let high : in_strip_of frame s (address_of frame eye x (y / 8) + 1) ≡ false =
    not-in-strip frame eye x (y / 8) f e c (omega arith) 1 s (omega arith) n in
    rw (strip-kept vram regs frame s a low, strip-kept vram regs frame s (a + 1) high)
