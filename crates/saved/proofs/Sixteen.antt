-- `sixteen-agrees`: the halfwords are all 0 exactly where their bytes are. Assumes nothing.
use Prim.Native.Nat.{ℕ, ◌<◌}
use mathlib.Core.Bool.{true}
use mathlib.Core.Path.{◌≡◌, refl, sym, ap, ◌∙◌}
use lib.ListN.{get_or, replicate}
use Rattle.word.proofs.Choices.{test-same}
use Rattle.bus_timer.specs.declared.TimerLines.{TimerLines}
use Rattle.saved_bytes.specs.Numbers.{bytes_of}
use Rattle.saved_bytes.proofs.Reading.{same-equal, same_self}
use Rattle.saved_layout.specs.File.{hardware_reset}
use Rattle.saved_layout.specs.declared.Form.TheVariants.{One, Two}
use Rattle.saved_kinds.specs.Kinds.{hardware_from}
use Rattle.saved_move.specs.Move.{holds_body_ok}
use Rattle.saved.specs.Body.{lines_of}
use Rattle.saved.specs.Calls.{form_holds}
use Rattle.saved.specs.Exactly.{SixteenAgrees}
use Rattle.saved.proofs.Back.{lines-back, zeros-bytes}

module _ (h : TimerLines) (halves : (k : ℕ) → get_or (lines_of h) k 0 < 65536) where
  body-held : form_holds One (lines_of h) ≡ true → holds_body_ok One (bytes_of (lines_of h)) ≡ true
  unfolding form_holds
  body-held e = rw (zeros-bytes (lines_of h) (same-equal (lines_of h) (replicate 4 0) e)) (same_self hardware_reset)

  lines-held : holds_body_ok One (bytes_of (lines_of h)) ≡ true → form_holds One (lines_of h) ≡ true
  unfolding form_holds lines_of hardware_from
  lines-held e =
      let back : hardware_from hardware_reset ≡ h
      = ap hardware_from (sym (same-equal (bytes_of (lines_of h)) hardware_reset e)) ∙ lines-back h halves in
      ap (λ (g : TimerLines). form_holds One (lines_of g)) (sym back)

pub sixteen-agrees : SixteenAgrees
unfolding form_holds
sixteen-agrees One h halves = test-same _ _ (body-held h halves) (lines-held h halves)
sixteen-agrees Two h halves = refl
