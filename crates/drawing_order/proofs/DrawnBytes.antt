-- The byte at an address after a call that draws: where the call draws it, the four pixels that it holds, worked out in
-- memory as it was before the call (`byte-drawn`); else the byte as it was (`byte_left`). Those pixels are the same in
-- memories that differ in a frame's images alone (`pixels-same`). Assumes nothing.
use Rattle.std.specs.Prelude.{Ok}
use Prim.Native.Nat.{ℕ, zero, suc, ◌+◌, ◌*◌, ◌/◌, ◌%◌, ◌<◌}
use mathlib.Core.Bool.{Bool, true, false, ◌&&◌, true≢false}
use mathlib.Core.List.{List}
use mathlib.Core.Path.{◌≡◌, refl, sym, ap, ◌∙◌}
use native.Mathlib.Decide.{ℕ_discrete}
use native.Mathlib.Omega.{arith}
use lib.ListN.{length, get_or}
use lib.Dec.{ltb}
use borrow.Author.Tests.{ltb-true, eqb-true, lt-ltb, eq-eqb, ne_eqb}
use Rattle.bus.specs.Registers.{drawing_ok}
use Rattle.refusal.specs.Number.{unless, when_accepted}
use Rattle.bus.specs.Refusal.{vram_ok}
use Rattle.refusal.specs.declared.Refusal.{Refusal}
use Rattle.drawing_pixel.specs.Pixel.{pixel_of}
use Rattle.drawing_pixel.specs.Strip.{in_strip_of, four_pixels_of, strip_of, strips_of, frame_of}
use Rattle.drawing.specs.Calls.{strip_verdict_of, draw_strip_of, frame_verdict_of, draw_frame_of}
use Rattle.drawing_laws.specs.Demand3.{SameByte}
use Rattle.drawing_laws.specs.Drawn.{Call, frame_call, strip_call, draws_strip_of, drawn_by}
use Rattle.drawing_pixel.specs.Strip.{in_images_of}
use Rattle.drawing_laws.proofs.Verdicts.{strip_test}
use Rattle.drawing_laws.proofs.CallDrawn.{in-strip-is, outside-strip, strips-length, strips-kept, frame-accepted, strip-accepted, byte-kept}
use Rattle.drawing_laws.proofs.Images.{pixel-outside-images}
use Rattle.drawing_laws.proofs.StripBytes.{strip-kept, strip-drawn}

-- the four pixels that the byte at an address of an image holds
unfoldable pub pixels_at_of : List ℕ → List ℕ → ℕ → ℕ
pixels_at_of vram regs a = four_pixels_of vram regs (a / 0x10000) (a % 0x8000 / 64) (8 * (a % 64 / 2) + 4 * (a % 2))

pub pixels-same : (first second regs : List ℕ) (frame a : ℕ) → drawing_ok regs ≡ true
    → ((b : ℕ) → in_images_of frame b ≡ false → SameByte first second b)
    → pixels_at_of second regs a ≡ pixels_at_of first regs a
unfolding pixels_at_of four_pixels_of
pixels-same first second regs frame a ok h =
    let same : (eye x y : ℕ) → pixel_of second regs eye x y ≡ pixel_of first regs eye x y
    = λ eye x y. pixel-outside-images first second regs frame eye x y ok h in
    simp same

-- whether a call over VRAM of n bytes is accepted
unfoldable pub accepts_of : ℕ → List ℕ → ℕ → Call → Bool
accepts_of n regs frame call = vram_ok n && (drawing_ok regs && (ltb frame 2 && strip_test call))

-- whether it draws the byte at an address
unfoldable pub draws_byte_of : ℕ → List ℕ → ℕ → Call → ℕ → Bool
draws_byte_of n regs frame call a = accepts_of n regs frame call && (in_images_of frame a && draws_strip_of call (a % 64 / 2))

-- what it means that a call draws a byte
pub record Draws (n : ℕ) (regs : List ℕ) (frame : ℕ) (call : Call) (a : ℕ) : Type 0 where
  pub vram-ok : n ≡ 262144
  pub registers-ok : drawing_ok regs ≡ true
  pub frame-ok : frame < 2
  pub accepted : strip_test call ≡ true
  pub in_image : in_images_of frame a ≡ true
  pub in-strip : draws_strip_of call (a % 64 / 2) ≡ true

both : (a b : Bool) → (a && b) ≡ true → (a ≡ true) × (b ≡ true)
both true b e = (refl, e)
both false true e = (e, refl)
both false false e = (e, e)

pub draws : (n : ℕ) (regs : List ℕ) (frame : ℕ) (call : Call) (a : ℕ) → draws_byte_of n regs frame call a ≡ true
    → Draws n regs frame call a
unfolding draws_byte_of accepts_of vram_ok
draws n regs frame call a e =
    let whole = both _ _ e in
    let vram = both _ _ whole.0 in
    let registers = both _ _ vram.1 in
    let calls = both _ _ registers.1 in
    let place = both _ _ whole.1 in
    record {
      vram-ok = eqb-true n 262144 vram.0;
      registers-ok = registers.0;
      frame-ok = ltb-true frame 2 calls.0;
      accepted = calls.1;
      in_image = place.0;
      in-strip = place.1;
    }

pub draws-byte : (n : ℕ) (regs : List ℕ) (frame : ℕ) (call : Call) (a : ℕ) → Draws n regs frame call a
    → draws_byte_of n regs frame call a ≡ true
unfolding draws_byte_of accepts_of vram_ok
draws-byte n regs frame call a d =
    simp (eq-eqb n 262144 d.vram-ok, d.registers-ok, lt-ltb frame 2 d.frame-ok, d.accepted, d.in_image, d.in-strip)

module _ (vram regs : List ℕ) (frame a : ℕ) (ok : drawing_ok regs ≡ true) (image : in_images_of frame a ≡ true) (h : a < length vram)
  where
    -- the byte lies in its own strip alone
    own-strip : (s : ℕ) → a % 64 / 2 ≡ s → in_strip_of frame s a ≡ true
    own-strip s q = in-strip-is frame s a ∙ rw (image, eq-eqb (a % 64 / 2) s q)

    other-strip : (s : ℕ) → (a % 64 / 2 ≡ s → ⊥) → in_strip_of frame s a ≡ false
    other-strip s q = in-strip-is frame s a ∙ rw (image, ne_eqb (a % 64 / 2) s q)

    -- its own strip drawn in a memory
    own-drawn : (now : List ℕ) (s : ℕ) → a < length now → a % 64 / 2 ≡ s
        → get_or (strip_of now regs frame s) a 0 ≡ pixels_at_of now regs a
    unfolding pixels_at_of
    own-drawn now s r q =
        strip-drawn now regs frame s a r (own-strip s q)
        ∙ ap (λ k. four_pixels_of now regs (a / 0x10000) (a % 0x8000 / 64) (8 * k + 4 * (a % 2))) (sym q)

    -- strips 0 to n - 1 drawn one after the other, its own among them
    strips-drawn : (n : ℕ) → a % 64 / 2 < n → get_or (strips_of vram regs frame n) a 0 ≡ pixels_at_of vram regs a
    unfolding strips_of
    strips-drawn zero r = absurd (omega arith)
    strips-drawn (suc n) r =
        let before : List ℕ = strips_of vram regs frame n in
        let earlier : a % 64 / 2 < n → get_or (strips_of vram regs frame n) a 0 ≡ pixels_at_of vram regs a = strips-drawn n in
        elim (ℕ_discrete (a % 64 / 2) n) [
          | yes q ↦ own-drawn before n (rw (strips-length vram regs frame n) h) q
              ∙ pixels-same vram before regs frame a ok (λ b o. strips-kept vram regs frame n b (λ s _. outside-strip frame s b o))
          | no q ↦ strip-kept before regs frame n a (other-strip n q) ∙ earlier (omega arith)
        ]

-- a byte that a call draws
pub byte-drawn : (vram regs : List ℕ) (frame : ℕ) (call : Call) (a : ℕ) → a < length vram
    → Draws (length vram) regs frame call a
    → get_or (drawn_by vram regs frame call) a 0 ≡ pixels_at_of vram regs a
unfolding drawn_by draws_strip_of strip_test frame_of
byte-drawn vram regs frame frame_call a h d =
    rw (frame-accepted vram regs frame d.vram-ok d.registers-ok d.frame-ok)
    (strips-drawn vram regs frame a d.registers-ok d.in_image h 28 (ltb-true (a % 64 / 2) 28 d.in-strip))
byte-drawn vram regs frame (strip_call s) a h d =
    rw (strip-accepted vram regs frame s d.vram-ok d.registers-ok d.frame-ok d.accepted)
    (own-drawn vram regs frame a d.registers-ok d.in_image h vram s h (eqb-true (a % 64 / 2) s d.in-strip))

-- a call that is not accepted leaves VRAM as it is
refused-frame : (r t u : Refusal) (a b c : Bool) (before after : List ℕ) → (a && (b && (c && true))) ≡ false
    → when_accepted (unless a r (unless b t (unless c u (Ok tt)))) before after ≡ before
refused-frame r t u false b c before after e = refl
refused-frame r t u true false c before after e = refl
refused-frame r t u true true false before after e = refl
refused-frame r t u true true true before after e = absurd (true≢false e)

refused-strip : (r t u v : Refusal) (a b c d : Bool) (before after : List ℕ) → (a && (b && (c && d))) ≡ false
    → when_accepted (unless a r (unless b t (unless c u (unless d v (Ok tt))))) before after ≡ before
refused-strip r t u v false b c d before after e = refl
refused-strip r t u v true false c d before after e = refl
refused-strip r t u v true true false d before after e = refl
refused-strip r t u v true true true false before after e = refl
refused-strip r t u v true true true true before after e = absurd (true≢false e)

refused : (vram regs : List ℕ) (frame : ℕ) (call : Call) → accepts_of (length vram) regs frame call ≡ false
    → drawn_by vram regs frame call ≡ vram
unfolding drawn_by accepts_of strip_test draw_frame_of frame_verdict_of draw_strip_of strip_verdict_of
refused vram regs frame frame_call e =
    refused-frame _ _ _ (vram_ok (length vram)) (drawing_ok regs) (ltb frame 2) vram (frame_of vram regs frame) e
refused vram regs frame (strip_call s) e =
    refused-strip _ _ _ _ (vram_ok (length vram)) (drawing_ok regs) (ltb frame 2) (ltb s 28) vram (strip_of vram regs frame s) e

-- a byte that a call does not draw, refused or not
pub byte_left : (vram regs : List ℕ) (frame : ℕ) (call : Call) (a : ℕ)
    → draws_byte_of (length vram) regs frame call a ≡ false
    → get_or (drawn_by vram regs frame call) a 0 ≡ get_or vram a 0
unfolding draws_byte_of
byte_left vram regs frame call a e = go (accepts_of (length vram) regs frame call) refl
  where
    go : (b : Bool) → accepts_of (length vram) regs frame call ≡ b
        → get_or (drawn_by vram regs frame call) a 0 ≡ get_or vram a 0
    go true q = byte-kept vram regs frame call a (rw q at e)
    go false q = ap (λ xs. get_or xs a 0) (refused vram regs frame call q)
