-- `frames-swap` and `lists-swap`: drawings of two frames may be swapped. Their images are apart, and a drawing reads no
-- byte of an image. Assumes nothing.
use Prim.Native.Nat.{ℕ, ◌/◌, ◌%◌, ◌<◌}
use mathlib.Core.Bool.{Bool, true, false, ◌&&◌, false≢true}
use mathlib.Core.List.{List, [], ◌∷◌}
use mathlib.Core.Path.{◌≡◌, refl, sym, ap, ◌∙◌}
use native.Mathlib.Omega.{arith}
use lib.ListN.{length, get_or}
use lib.Seq.{ext_get_or}
use lib.Dec.{eqb, ltb}
use borrow.Author.Tests.{eqb-true, ne_eqb}
use Rattle.drawing_pixel.specs.Strip.{in_images_of}
use Rattle.drawing_laws.proofs.CallDrawn.{byte-kept, length-kept}
use Rattle.drawing_order.specs.Order.{Drawing, strips_drawn_of, all_drawn_of, Differ, FramesSwap, ListsSwap}
use Rattle.drawing_order.proofs.DrawnBytes.{pixels_at_of, pixels-same, draws_byte_of, draws, byte-drawn, byte_left}

drawn-length : (vram : List ℕ) (frame : ℕ) (d : Drawing) → length (strips_drawn_of vram frame d) ≡ length vram
drawn-length vram frame d = length-kept vram d.regs frame d.call

-- whether a drawing over VRAM of n bytes draws the byte at an address
draws_of : ℕ → ℕ → Drawing → ℕ → Bool
draws_of n frame d a = draws_byte_of n d.regs frame d.call a

-- the two frames' images are apart
images-apart : (frame another a : ℕ) → Differ frame another → in_images_of frame a ≡ true → in_images_of another a ≡ false
unfolding in_images_of
images-apart frame another a differ e = go (ltb a 0x20000) (eqb (a / 0x8000 % 2) frame) refl e
  where
    go : (p q : Bool) → eqb (a / 0x8000 % 2) frame ≡ q → ((p && q) && ltb (a % 0x8000) 0x6000) ≡ true
        → ((p && eqb (a / 0x8000 % 2) another) && ltb (a % 0x8000) 0x6000) ≡ false
    go false q s f = refl
    go true false s f = absurd (false≢true f)
    go true true s f =
        let own : a / 0x8000 % 2 ≡ frame = eqb-true (a / 0x8000 % 2) frame s in
        rw (ne_eqb (a / 0x8000 % 2) another (λ o. omega arith))

outside_kept : (vram : List ℕ) (frame : ℕ) (d : Drawing) (a : ℕ) → in_images_of frame a ≡ false
    → get_or (strips_drawn_of vram frame d) a 0 ≡ get_or vram a 0
outside_kept vram frame d a o = byte-kept vram d.regs frame d.call a (rw o)

-- a byte that one of two drawings draws has its pixels after both, in either order
module _ (vram : List ℕ) (frame another : ℕ) (one other : Drawing) (differ : Differ frame another) (a : ℕ) (h : a < length vram)
    (q : draws_of (length vram) frame one a ≡ true) where
  drawn-first : get_or (strips_drawn_of (strips_drawn_of vram frame one) another other) a 0 ≡ pixels_at_of vram one.regs a
  unfolding draws_of
  drawn-first =
      let d = draws (length vram) one.regs frame one.call a q in
      outside_kept (strips_drawn_of vram frame one) another other a (images-apart frame another a differ d.in_image)
      ∙ byte-drawn vram one.regs frame one.call a h d

  drawn-last : get_or (strips_drawn_of (strips_drawn_of vram another other) frame one) a 0 ≡ pixels_at_of vram one.regs a
  unfolding draws_of
  drawn-last =
      let d = draws (length vram) one.regs frame one.call a q in
      let now = strips_drawn_of vram another other in
      byte-drawn now one.regs frame one.call a (rw (drawn-length vram another other) h)
      (rw (drawn-length vram another other) d)
      ∙ pixels-same vram now one.regs another a d.registers-ok (λ b o. outside_kept vram another other b o)

drawn-left : (vram : List ℕ) (frame another : ℕ) (one other : Drawing) (a : ℕ)
    → draws_of (length vram) frame one a ≡ false
    → draws_of (length vram) another other a ≡ false
    → get_or (strips_drawn_of (strips_drawn_of vram frame one) another other) a 0 ≡ get_or vram a 0
unfolding draws_of
drawn-left vram frame another one other a p q =
    byte_left (strips_drawn_of vram frame one) other.regs another other.call a (rw (drawn-length vram frame one) q)
    ∙ byte_left vram one.regs frame one.call a p

pub frames-swap : FramesSwap
frames-swap vram frame another one other differ =
    ext_get_or 0 (strips_drawn_of (strips_drawn_of vram frame one) another other) (strips_drawn_of (strips_drawn_of vram another other) frame one)
    (first-length ∙ sym (drawn-length (strips_drawn_of vram another other) frame one ∙ drawn-length vram another other))
    (λ a h.
    go a (rw first-length at h) (draws_of (length vram) frame one a) (draws_of (length vram) another other a) refl refl)
  where
    first-length : length (strips_drawn_of (strips_drawn_of vram frame one) another other) ≡ length vram
    first-length = drawn-length (strips_drawn_of vram frame one) another other ∙ drawn-length vram frame one

    go : (a : ℕ) → a < length vram → (p q : Bool) → draws_of (length vram) frame one a ≡ p
        → draws_of (length vram) another other a ≡ q
        → get_or (strips_drawn_of (strips_drawn_of vram frame one) another other) a 0
        ≡ get_or (strips_drawn_of (strips_drawn_of vram another other) frame one) a 0
    go a h true q e f =
        drawn-first vram frame another one other differ a h e ∙ sym (drawn-last vram frame another one other differ a h e)
    go a h false true e f =
        drawn-last vram another frame other one (λ g. differ (sym g)) a h f
        ∙ sym (drawn-first vram another frame other one (λ g. differ (sym g)) a h f)
    go a h false false e f =
        drawn-left vram frame another one other a e f ∙ sym (drawn-left vram another frame other one a f e)

-- a drawing of one frame before or after drawings of the other
one-swap : (vram : List ℕ) (frame another : ℕ) (ones : List Drawing) (other : Drawing) → Differ frame another
    → strips_drawn_of (all_drawn_of vram frame ones) another other ≡ all_drawn_of (strips_drawn_of vram another other) frame ones
unfolding all_drawn_of
one-swap vram frame another [] other differ = refl
one-swap vram frame another (one ∷ rest) other differ =
    one-swap (strips_drawn_of vram frame one) frame another rest other differ
    ∙ ap (λ now. all_drawn_of now frame rest) (frames-swap vram frame another one other differ)

pub lists-swap : ListsSwap
unfolding all_drawn_of
lists-swap vram frame another ones [] differ = refl
lists-swap vram frame another ones (other ∷ rest) differ =
    ap (λ now. all_drawn_of now another rest) (one-swap vram frame another ones other differ)
    ∙ lists-swap (strips_drawn_of vram another other) frame another ones rest differ
