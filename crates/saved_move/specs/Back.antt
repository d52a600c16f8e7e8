-- "from form 1 to 2 and back gives the same bytes", and 16 "exactly when kind 6 isn't at reset, after 9 and 10" (paper
-- 02, W12): the statements. Their proofs are `there_and_back` and `sixteen-exactly` in proofs/.
use Rattle.std.specs.Prelude.{ℕ, ◌<◌, true, List, ◌≡◌, length, get_or, Ok, Err}
use Rattle.refusal.specs.declared.Refusal.TheVariants.{NotAtReset}
use Rattle.saved_layout.specs.File.{hardware_reset}
use Rattle.saved_layout.specs.declared.Form.TheVariants.{Two}
use Rattle.saved_kinds.specs.Fits.{form_of}
use Rattle.saved_kinds.specs.Kinds.{file_ok}
use Rattle.saved_move.specs.Move.{pak_in, held_in, lengths_ok, move_verdict_of, moved_of}

-- what an accepted move left, moved into a buffer of the first file's length, is accepted and gives the first file:
-- from form 1 to 2 and back, and from form 2, whose lines and timer are then at reset, to 1 and back
abbrev pub ThereAndBack : Type 0
ThereAndBack =
    (file output back : List ℕ) → ((k : ℕ) → get_or file k 0 < 256) → move_verdict_of file output ≡ (Ok tt)
    → length back ≡ length file
    → (move_verdict_of (moved_of file output) back ≡ (Ok tt)) × (moved_of (moved_of file output) back ≡ file)

-- 16 is answered exactly where 9 and 10 are not, the file is in form 2, and its lines and timer are not at reset
pub record SixteenExactly (file output : List ℕ) : Type 0 where
  pub refused : move_verdict_of file output ≡ Err NotAtReset
      → (lengths_ok file output ≡ true)
      × ((file_ok (form_of file) (pak_in file) file ≡ true)
      × ((form_of file ≡ Two) × ((held_in file).hardware ≡ hardware_reset → ⊥)))
  pub only : lengths_ok file output ≡ true → file_ok (form_of file) (pak_in file) file ≡ true → form_of file ≡ Two
      → ((held_in file).hardware ≡ hardware_reset → ⊥)
      → move_verdict_of file output ≡ Err NotAtReset
