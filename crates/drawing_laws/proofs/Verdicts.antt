-- What an accepted call was given: VRAM of the right length, registers within their widths, a frame below 2 and, where it
-- draws one strip, a strip below 28. And that a verdict looks at no byte of VRAM. Assumes nothing.
use Rattle.std.specs.Prelude.{Ok}
use Prim.Native.Nat.{ℕ, ◌<◌}
use mathlib.Core.Bool.{Bool, true}
use mathlib.Core.List.{List}
use mathlib.Core.Path.{◌≡◌, refl}
use lib.ListN.{length}
use lib.Dec.{ltb}
use borrow.Author.Tests.{ltb-true, eqb-true}
use Rattle.bus.specs.Refusal.{vram_ok}
use Rattle.bus.specs.Registers.{drawing_ok}
use Rattle.bus.proofs.Accepted.{unless-passed}
use Rattle.drawing.specs.Calls.{strip_verdict_of, frame_verdict_of}
use Rattle.drawing_laws.specs.Drawn.{Call, frame_call, strip_call, call_verdict_of}

-- the strip numbers that are accepted
unfoldable pub strip_test : Call → Bool
strip_test frame_call = true
strip_test (strip_call s) = ltb s 28

pub record Given (vram regs : List ℕ) (frame : ℕ) (call : Call) : Type 0 where
  pub bytes : length vram ≡ 262144
  pub registers : drawing_ok regs ≡ true
  pub frame_below : frame < 2
  pub strip : strip_test call ≡ true

pub accepted-given : (vram regs : List ℕ) (frame : ℕ) (call : Call) → call_verdict_of vram regs frame call ≡ (Ok tt)
    → Given vram regs frame call
unfolding call_verdict_of frame_verdict_of strip_verdict_of vram_ok strip_test
accepted-given vram regs frame frame_call e =
    let a = unless-passed _ _ _ e in
    let b = unless-passed _ _ _ a.1 in
    let c = unless-passed _ _ _ b.1 in
    record {
      bytes = eqb-true (length vram) 262144 a.0;
      registers = b.0;
      frame_below = ltb-true frame 2 c.0;
      strip = refl;
    }
accepted-given vram regs frame (strip_call s) e =
    let a = unless-passed _ _ _ e in
    let b = unless-passed _ _ _ a.1 in
    let c = unless-passed _ _ _ b.1 in
    let d = unless-passed _ _ _ c.1 in
    record {
      bytes = eqb-true (length vram) 262144 a.0;
      registers = b.0;
      frame_below = ltb-true frame 2 c.0;
      strip = d.0;
    }

pub verdict-same : (first second regs : List ℕ) (frame : ℕ) (call : Call) → length second ≡ length first
    → call_verdict_of second regs frame call ≡ call_verdict_of first regs frame call
unfolding call_verdict_of frame_verdict_of strip_verdict_of
verdict-same first second regs frame frame_call l = rw l
verdict-same first second regs frame (strip_call s) l = rw l
