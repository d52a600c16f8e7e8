-- What a move answers and leaves (paper 02, W12): "A move takes its file's form as reading does and writes what the
-- other form's writer makes for the state held". It "refuses by 9 when its file's length fits no pak RAM size in that
-- form or its room isn't the length due, then by 10", and by 16 where lines and timer are not at reset and the other
-- form is 1. A refusal changes nothing.
use Rattle.std.specs.Prelude.{ℕ, Bool, true, List, eqb, length, Ok}
use Rattle.refusal.specs.Number.{unless, when_accepted, Verdict}
use Rattle.refusal.specs.declared.Refusal.TheVariants.{FileLength, FileBytes, NotAtReset}
use Rattle.processor.specs.Acceptance.{both}
use Rattle.saved_bytes.specs.Numbers.{same_of}
use Rattle.saved_layout.specs.Layout.{other_of, file_length_of}
use Rattle.saved_layout.specs.File.{Bodies, file_of, bodies_in, hardware_reset}
use Rattle.saved_layout.specs.declared.Form.{Form}
use Rattle.saved_layout.specs.declared.Form.TheVariants.{One, Two}
use Rattle.saved_kinds.specs.Fits.{form_of, pak_length_of, fits_ok}
use Rattle.saved_kinds.specs.Kinds.{file_ok}

-- the pak RAM's length and the bodies of a file, by its form and length
unfoldable pub pak_in : List ℕ → ℕ
pak_in file = pak_length_of (form_of file) (length file)

unfoldable pub held_in : List ℕ → Bodies
held_in file = bodies_in (form_of file) (pak_in file) file

-- 9: the file's length fits, and the output buffer ("room") has the length of the other form
unfoldable pub lengths_ok : List ℕ → List ℕ → Bool
lengths_ok file output =
    both (fits_ok (form_of file) (length file)) (eqb (length output) (file_length_of (other_of (form_of file)) (pak_in file)))

-- 16: form 2 holds any lines and timer, form 1 only those at reset
abbrev pub holds_body_ok : Form → List ℕ → Bool
holds_body_ok One hardware = same_of hardware hardware_reset
holds_body_ok Two hardware = true

-- 9, 10, 16
unfoldable pub move_verdict_of : List ℕ → List ℕ → Verdict
move_verdict_of file output =
    unless (lengths_ok file output) FileLength
    (unless (file_ok (form_of file) (pak_in file) file) FileBytes
    (unless (holds_body_ok (other_of (form_of file)) (held_in file).hardware) NotAtReset (Ok tt)))

-- the output buffer afterwards
unfoldable pub moved_of : List ℕ → List ℕ → List ℕ
moved_of file output = when_accepted (move_verdict_of file output) output (file_of (other_of (form_of file)) (held_in file))
