-- "It writes a right form 2 file", "An undamaged file comes out equal, with an empty list; salvaging the output again
-- changes nothing" (paper 02, W13), and which bodies are kept: the statements. Their proofs are `salvaged-valid`,
-- `undamaged-equal`, `salvage-again` and `kept-exactly` in proofs/.
use Rattle.std.specs.Prelude.{ℕ, ◌<◌, Bool, true, false, List, [], ◌≡◌, length, get_or, Ok}
use Rattle.word.specs.Choose.{pick, member}
use Rattle.saved_layout.specs.File.{bodies_in}
use Rattle.saved_layout.specs.declared.Form.TheVariants.{Two}
use Rattle.saved_kinds.specs.Kinds.{file_ok}
use Rattle.saved_salvage.specs.Keep.{kept_in, kept_bodies_of}
use Rattle.saved_salvage.specs.Listed.{listed_kinds_of, replaced_of}
use Rattle.saved_salvage.specs.Salvage.{pak_in_form_two, report_of, salvage_verdict_of, salvage_of, salvaged_output_of}
use Rattle.saved_salvage.specs.declared.Kept.{Kept}

-- the output has the file's length, and reading it with pak RAM of that length refuses neither by 9 nor by 10: it is
-- what form 2's writer makes for an accepted state (`salvaged-accepted` of the crate saved_laws)
pub record Valid (file output : List ℕ) : Type 0 where
  pub whole : length (salvaged_output_of file output) ≡ length file
  pub valid : file_ok Two (pak_in_form_two file) (salvaged_output_of file output) ≡ true

abbrev pub SalvagedValid : Type 0
SalvagedValid = (file output : List ℕ) → salvage_verdict_of file output ≡ (Ok tt) → Valid file output

-- the output is the file, no kind is listed, and nothing before the first body differs
pub record Unchanged (file output : List ℕ) : Type 0 where
  pub same : salvaged_output_of file output ≡ file
  pub reported : salvage_of file output ≡ report_of (Ok tt) (listed_kinds_of []) false

abbrev pub UndamagedEqual : Type 0
UndamagedEqual =
    (file output : List ℕ) → ((k : ℕ) → get_or file k 0 < 256) → salvage_verdict_of file output ≡ (Ok tt)
    → file_ok Two (pak_in_form_two file) file ≡ true
    → Unchanged file output

-- of its own output, in any buffer of the same length
abbrev pub SalvageAgain : Type 0
SalvageAgain =
    (file output again : List ℕ) → salvage_verdict_of file output ≡ (Ok tt) → length again ≡ length file
    → Unchanged (salvaged_output_of file output) again

-- a kind is listed exactly where its body is not kept
abbrev pub lists_of : Kept → ℕ → Bool → Type 0
lists_of k kind kept = member kind (replaced_of k) ≡ pick kept false true

-- the output's bodies are the file's where they are kept and reset's where not (Keep), and the list has the kinds of
-- the second
pub record KeptExactly (file output : List ℕ) (k : Kept) : Type 0 where
  pub bodies :
      bodies_in Two (pak_in_form_two file) (salvaged_output_of file output)
      ≡ kept_bodies_of k (bodies_in Two (pak_in_form_two file) file)
  pub processor : lists_of k 1 k.processor
  pub drawing : lists_of k 2 k.drawing
  pub wram : lists_of k 3 k.wram
  pub vram : lists_of k 4 k.vram
  pub pak : lists_of k 5 k.pak
  pub hardware : lists_of k 6 k.hardware

abbrev pub KeptExactlyAll : Type 0
KeptExactlyAll =
    (file output : List ℕ) → salvage_verdict_of file output ≡ (Ok tt)
    → KeptExactly file output (kept_in (pak_in_form_two file) file)
