-- What a salvage reports and leaves (paper 02, W13). "Refusal 9 first: the output room isn't as long as the file; then
-- 17: no form 2 layout has this length." Nothing else is tested; a refusal changes nothing.
use Rattle.std.specs.Prelude.{ℕ, Bool, false, List, [], eqb, length, Ok, Err}
use Rattle.refusal.specs.Number.{unless, when_accepted, Verdict}
use Rattle.refusal.specs.declared.Refusal.TheVariants.{FileLength, NoLayout}
use Rattle.saved_layout.specs.File.{file_of, bodies_in}
use Rattle.saved_layout.specs.declared.Form.TheVariants.{Two}
use Rattle.saved_kinds.specs.Fits.{pak_length_of, fits_ok}
use Rattle.saved_salvage.specs.Keep.{kept_in, kept_bodies_of}
use Rattle.saved_salvage.specs.Listed.{listed_kinds_of, replaced_of}
use Rattle.saved_salvage.specs.Differ.{contents_differ}
use Rattle.saved_salvage.specs.declared.Salvaged.{Salvaged}
use Rattle.saved_salvage.specs.declared.ListedKinds.{ListedKinds}

-- the output for a file whose pak RAM has `pak` bytes
unfoldable pub output_of : ℕ → List ℕ → List ℕ
output_of pak file = file_of Two (kept_bodies_of (kept_in pak file) (bodies_in Two pak file))

-- the pak RAM's length, by the file's
abbrev pub pak_in_form_two : List ℕ → ℕ
pak_in_form_two file = pak_length_of Two (length file)

-- 9, 17
unfoldable pub salvage_verdict_of : List ℕ → List ℕ → Verdict
salvage_verdict_of file output =
    unless (eqb (length output) (length file)) FileLength (unless (fits_ok Two (length file)) NoLayout (Ok tt))

abbrev pub report_of : Verdict → ListedKinds → Bool → Salvaged
report_of verdict list differ = record { verdict = verdict; list = list; differ = differ }

abbrev pub report_when : Verdict → List ℕ → Salvaged
report_when (Ok tt) file =
    report_of (Ok tt) (listed_kinds_of (replaced_of (kept_in (pak_in_form_two file) file)))
    (contents_differ (pak_in_form_two file) (kept_in (pak_in_form_two file) file) file (output_of (pak_in_form_two file) file))
report_when (Err n) file = report_of (Err n) (listed_kinds_of []) false

unfoldable pub salvage_of : List ℕ → List ℕ → Salvaged
salvage_of file output = report_when (salvage_verdict_of file output) file

-- the output buffer afterwards
unfoldable pub salvaged_output_of : List ℕ → List ℕ → List ℕ
salvaged_output_of file output = when_accepted (salvage_verdict_of file output) output (output_of (pak_in_form_two file) file)
