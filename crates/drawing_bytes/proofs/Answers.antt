-- What the call answers and leaves where a test refuses, and where all of them pass. Assumes nothing.
use Prim.Native.Nat.{ℕ, ◌<◌}
use native.Mathlib.Omega.{arith}
use mathlib.Core.Bool.{true}
use mathlib.Core.List.{List}
use mathlib.Core.Path.{◌≡◌, sym, ◌∙◌}
use lib.ListN.{length}
use lib.Dec.{eqb}
use borrow.Author.Tests.{eq-eqb, eqb-true, lt-ltb}
use Rattle.std.specs.Prelude.{Some, Ok}
use Rattle.refusal.specs.Number.{unless}
use Rattle.bus.proofs.Accepted.{unless-passed}
use Rattle.refusal.specs.declared.Refusal.TheVariants.{VramLength, State}
use Rattle.bus.specs.Refusal.{vram_ok}
use Rattle.bus.specs.Registers.{drawing_ok}
use Rattle.drawing_laws.specs.PixelBytes.{pixel_bytes_of}
use Rattle.drawing_laws.specs.inner.SourceBytes.{pixel_bytes_biased}
use Rattle.drawing_laws.proofs.PixelBytes.{listed-formula}
use Rattle.drawing_bytes.specs.inner.Output.{Listing}
use Rattle.drawing.specs.Calls.{state_verdict_of}
use Rattle.drawing_bytes.specs.Calls.{in_image_of, bytes_verdict_of, listed_of, output_of}
use Rattle.drawing_bytes.proofs.Listings.{sets-filled}

-- an image's pixel is listed
pub list_done : (v regs : List ℕ) (eye x y : ℕ) (output : List ℕ) → length v ≡ 262144 → drawing_ok regs ≡ true → eye < 2 → x < 384 → y < 224
    → (n : ℕ) (after : List ℕ) → Listing 0 (pixel_bytes_biased v regs eye x y) n output after
    → (Ok (Some n) ≡ listed_of v regs eye x y) × (after ≡ output_of v regs eye x y output)
unfolding output_of listed_of bytes_verdict_of vram_ok in_image_of
list_done v regs eye x y output e r a b c n after l =
    let list : Listing 0 (pixel_bytes_of v regs eye x y) n output after = rw (← listed-formula v regs eye x y r) l in
    let counted : n ≡ length (pixel_bytes_of v regs eye x y) = omega (arith, list.count) in (
      simp (eq-eqb _ _ e, r, lt-ltb _ _ a, lt-ltb _ _ b, lt-ltb _ _ c) (rw counted),
      simp (eq-eqb _ _ e, r, lt-ltb _ _ a, lt-ltb _ _ b, lt-ltb _ _ c) (list.words ∙ sets-filled output (pixel_bytes_of v regs eye x y)),
    )

-- registers that are accepted
pub state-registers : (v regs : List ℕ) → Ok tt ≡ state_verdict_of v regs → (length v ≡ 262144) × (drawing_ok regs ≡ true)
unfolding vram_ok
state-registers v regs e =
    let later = unless (drawing_ok regs) State (Ok tt) in
    let p = unless-passed (eqb (length v) 262144) VramLength later (sym e) in
    (eqb-true _ _ p.0, (unless-passed (drawing_ok regs) State (Ok tt) p.1).0)
