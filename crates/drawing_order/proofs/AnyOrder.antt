-- `any_order`: strip calls that name each strip leave what the frame call leaves. Byte by byte: one that the frame call
-- draws gets its four pixels when its strip is first named, and every later call leaves it or draws the same; any other
-- byte stays as it was. Assumes nothing.
use Prim.Native.Nat.{ℕ, ◌/◌, ◌%◌, ◌<◌}
use mathlib.Core.Bool.{Bool, true, false, false≢true, true≢false}
use mathlib.Core.List.{List, [], ◌∷◌}
use mathlib.Core.Logic.{◌⊎◌, inl, inr}
use mathlib.Core.Path.{◌≡◌, refl, sym, ◌∙◌}
use native.Mathlib.Omega.{arith}
use lib.ListN.{length, get_or}
use lib.Seq.{ext_get_or}
use lib.Dec.{eqb}
use borrow.Author.Tests.{ltb-true, eqb-true, lt-ltb, eq-eqb}
use Rattle.word.specs.Choose.{pick, member}
use Rattle.drawing.specs.Calls.{draw_strip_of, draw_frame_of}
use Rattle.drawing_laws.specs.Demand3.{SameByte}
use Rattle.drawing_laws.specs.Drawn.{frame_call, strip_call, draws_strip_of, drawn_by}
use Rattle.drawing_pixel.specs.Strip.{in_images_of}
use Rattle.drawing_laws.proofs.Verdicts.{strip_test}
use Rattle.drawing_laws.proofs.CallDrawn.{byte-kept, length-kept}
use Rattle.drawing_order.specs.Order.{after_strips_of, AnyOrder}
use Rattle.drawing_order.proofs.DrawnBytes.{pixels_at_of, pixels-same, draws_byte_of, Draws, draws, draws-byte, byte-drawn, byte_left}

module _ (regs : List ℕ) (frame : ℕ) where
  -- what strip calls for the frame leave: VRAM as long as it was, and the same outside the frame's images
  record Mixed (vram now : List ℕ) : Type 0 where
    same_length : length now ≡ length vram
    outside : (a : ℕ) → in_images_of frame a ≡ false → SameByte vram now a

  mixed-strip : (vram now : List ℕ) (s : ℕ) → Mixed vram now → Mixed vram (draw_strip_of now regs frame s)
  unfolding drawn_by
  mixed-strip vram now s m =
      record {
        same_length = length-kept now regs frame (strip_call s) ∙ m.same_length;
        outside = λ a o. byte-kept now regs frame (strip_call s) a (rw o) ∙ m.outside a o;
      }

  strips-length : (now : List ℕ) (strips : List ℕ) → length (after_strips_of now regs frame strips) ≡ length now
  unfolding after_strips_of drawn_by
  strips-length now [] = refl
  strips-length now (s ∷ rest) = strips-length (draw_strip_of now regs frame s) rest ∙ length-kept now regs frame (strip_call s)

  module _ (vram : List ℕ) (a : ℕ) (h : a < length vram) (d : Draws (length vram) regs frame frame_call a) where
    -- the strip call of the byte's own strip draws it
    own-draws : (now : List ℕ) (s : ℕ) → length now ≡ length vram → a % 64 / 2 ≡ s
        → Draws (length now) regs frame (strip_call s) a
    unfolding strip_test draws_strip_of
    own-draws now s l q =
        record {
          vram-ok = l ∙ d.vram-ok;
          registers-ok = d.registers-ok;
          frame-ok = d.frame-ok;
          accepted = lt-ltb s 28 (omega (arith, ltb-true (a % 64 / 2) 28 d.in-strip));
          in_image = d.in_image;
          in-strip = eq-eqb (a % 64 / 2) s q;
        }

    own-drawn : (now : List ℕ) (s : ℕ) → Mixed vram now → a % 64 / 2 ≡ s
        → get_or (draw_strip_of now regs frame s) a 0 ≡ pixels_at_of vram regs a
    unfolding drawn_by
    own-drawn now s m q =
        byte-drawn now regs frame (strip_call s) a (rw m.same_length h) (own-draws now s m.same_length q)
        ∙ pixels-same vram now regs frame a d.registers-ok m.outside

    other-left : (now : List ℕ) (s : ℕ) → eqb (a % 64 / 2) s ≡ false
        → get_or (draw_strip_of now regs frame s) a 0 ≡ get_or now a 0
    unfolding drawn_by draws_strip_of
    other-left now s q = byte-kept now regs frame (strip_call s) a (rw d.in_image q)

    -- a byte that has its pixels, or whose strip is still to come, has them after the list
    settled : (strips now : List ℕ) → Mixed vram now
        → (get_or now a 0 ≡ pixels_at_of vram regs a) ⊎ (member (a % 64 / 2) strips ≡ true)
        → get_or (after_strips_of now regs frame strips) a 0 ≡ pixels_at_of vram regs a
    unfolding after_strips_of
    settled [] now m (inl e) = e
    settled [] now m (inr e) = absurd (false≢true e)
    settled (s ∷ rest) now m w =
        settled rest (draw_strip_of now regs frame s) (mixed-strip vram now s m) (next (eqb (a % 64 / 2) s) refl w)
      where
        next : (b : Bool) → eqb (a % 64 / 2) s ≡ b
            → (get_or now a 0 ≡ pixels_at_of vram regs a) ⊎ (pick b true (member (a % 64 / 2) rest) ≡ true)
            → (get_or (draw_strip_of now regs frame s) a 0 ≡ pixels_at_of vram regs a) ⊎ (member (a % 64 / 2) rest ≡ true)
        next true q v = inl (own-drawn now s m (eqb-true (a % 64 / 2) s q))
        next false q (inl e) = inl (other-left now s q ∙ e)
        next false q (inr e) = inr e

  -- a byte that the frame call does not draw, no strip call draws
  no-strip : (n a : ℕ) → draws_byte_of n regs frame frame_call a ≡ false → (s : ℕ) → draws_byte_of n regs frame (strip_call s) a ≡ false
  unfolding strip_test draws_strip_of
  no-strip n a e s = go (draws_byte_of n regs frame (strip_call s) a) refl
    where
      frame-draws : Draws n regs frame (strip_call s) a → Draws n regs frame frame_call a
      frame-draws d =
          record {
            vram-ok = d.vram-ok;
            registers-ok = d.registers-ok;
            frame-ok = d.frame-ok;
            accepted = refl;
            in_image = d.in_image;
            in-strip =
                lt-ltb (a % 64 / 2) 28 (omega (arith, ltb-true s 28 d.accepted, eqb-true (a % 64 / 2) s d.in-strip));
          }

      go : (b : Bool) → draws_byte_of n regs frame (strip_call s) a ≡ b → b ≡ false
      go false q = refl
      go true q =
          absurd (true≢false (sym (draws-byte n regs frame frame_call a (frame-draws (draws n regs frame (strip_call s) a q))) ∙ e))

  strips-left : (a : ℕ) (strips now : List ℕ) → draws_byte_of (length now) regs frame frame_call a ≡ false
      → get_or (after_strips_of now regs frame strips) a 0 ≡ get_or now a 0
  unfolding after_strips_of drawn_by
  strips-left a [] now e = refl
  strips-left a (s ∷ rest) now e =
      strips-left a rest (draw_strip_of now regs frame s) (rw (length-kept now regs frame (strip_call s)) e)
      ∙ byte_left now regs frame (strip_call s) a (no-strip (length now) a e s)

pub any_order : AnyOrder
unfolding drawn_by draws_strip_of
any_order vram regs frame strips names =
    ext_get_or 0 (after_strips_of vram regs frame strips) (draw_frame_of vram regs frame) same_length same_byte
  where
    same_length : length (after_strips_of vram regs frame strips) ≡ length (draw_frame_of vram regs frame)
    same_length = strips-length regs frame vram strips ∙ sym (length-kept vram regs frame frame_call)

    by-frame : (a : ℕ) → a < length vram → (b : Bool) → draws_byte_of (length vram) regs frame frame_call a ≡ b
        → get_or (after_strips_of vram regs frame strips) a 0 ≡ get_or (draw_frame_of vram regs frame) a 0
    by-frame a h true q =
        let d : Draws (length vram) regs frame frame_call a = draws (length vram) regs frame frame_call a q in
        settled regs frame vram a h d strips vram (record { same_length = refl; outside = λ b _. refl })
        (inr (names (a % 64 / 2) (omega (arith, ltb-true (a % 64 / 2) 28 d.in-strip))))
        ∙ sym (byte-drawn vram regs frame frame_call a h d)
    by-frame a h false q =
        strips-left regs frame a strips vram q ∙ sym (byte_left vram regs frame frame_call a q)

    same_byte : (a : ℕ) → a < length (after_strips_of vram regs frame strips)
        → get_or (after_strips_of vram regs frame strips) a 0 ≡ get_or (draw_frame_of vram regs frame) a 0
    same_byte a h =
        by-frame a (rw (strips-length regs frame vram strips) at h) (draws_byte_of (length vram) regs frame frame_call a) refl
