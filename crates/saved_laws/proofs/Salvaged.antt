-- `salvaged-accepted`: a salvage's output is valid, so it is of form 2 and refused by neither 9 nor 10, and such a file is an accepted
-- machine's. Assumes nothing.
use Rattle.std.specs.Prelude.{Ok}
use Prim.Native.Nat.{ℕ, ◌<◌}
use mathlib.Core.Bool.{true}
use mathlib.Core.List.{List}
use mathlib.Core.Path.{◌≡◌, ap, ◌∙◌}
use lib.ListN.{length, get_or}
use Rattle.bus.specs.Memory.{Memory}
use Rattle.saved_bytes.proofs.Reading.{under}
use Rattle.saved_layout.specs.Layout.{file_length_of}
use Rattle.saved_layout.specs.File.{bodies_in}
use Rattle.saved_layout.specs.declared.Form.TheVariants.{Two}
use Rattle.saved_kinds.specs.Fits.{form_of}
use Rattle.saved_kinds.specs.Kinds.{file_ok}
use Rattle.saved_move.proofs.Returning.{form-back}
use Rattle.saved.specs.Body.{machine_bodies_of}
use Rattle.saved.specs.Calls.{held_bodies_of, held_processor_of, held_memory_of}
use Rattle.saved.proofs.Made.{bodies-are, written-exactly}
use Rattle.saved_salvage.specs.Keep.{kept_in}
use Rattle.saved_salvage.specs.Salvage.{pak_in_form_two, salvage_verdict_of, salvaged_output_of}
use Rattle.saved_salvage.proofs.Unharmed.{salvaged-valid, output-is, whole}
use Rattle.saved_laws.specs.Salvaged.{SalvagedAccepted}
use Rattle.saved_laws.proofs.Bytes.{output-bytes}

module _ (file output : List ℕ) (e : salvage_verdict_of file output ≡ (Ok tt)) where
  form : form_of (salvaged_output_of file output) ≡ Two
  form = ap form_of (output-is file output e) ∙ form-back Two _

  due : length (salvaged_output_of file output) ≡ file_length_of Two (pak_in_form_two file)
  due = (salvaged-valid file output e).whole ∙ whole file output e

  bytes : ((k : ℕ) → get_or file k 0 < 256) → (k : ℕ) → get_or (salvaged_output_of file output) k 0 < 256
  bytes b k = rw (output-is file output e) (output-bytes (kept_in (pak_in_form_two file) file) (pak_in_form_two file) file (under 256 file b) k)

-- the output is refused neither by 9 nor by 10, with pak RAM of the length that follows from the file's
module _ (file output : List ℕ) (n : Memory) (e : salvage_verdict_of file output ≡ (Ok tt)) (l : length n.pak ≡ pak_in_form_two file) where
  long : length (salvaged_output_of file output) ≡ file_length_of (form_of (salvaged_output_of file output)) (length n.pak)
  long = rw (form file output e, l) (due file output e)

  ok : file_ok (form_of (salvaged_output_of file output)) (length n.pak) (salvaged_output_of file output) ≡ true
  ok = rw (form file output e, l) (salvaged-valid file output e).valid

pub salvaged-accepted : SalvagedAccepted
salvaged-accepted file output q n b e accepted l =
    let f = form file output e in
    let made = (written-exactly q n (salvaged_output_of file output) accepted (long file output n e l) (bytes file output e b)).made (ok file output n e l) in
    record { savable = rw f at made.0; written = rw f at made.1.1 }

-- the bodies of the machine that the output holds are the output's
pub held-bodies : (file output : List ℕ) (n : Memory) → ((k : ℕ) → get_or file k 0 < 256) → salvage_verdict_of file output ≡ (Ok tt)
    → length n.pak ≡ pak_in_form_two file
    → machine_bodies_of (held_processor_of n (salvaged_output_of file output)) (held_memory_of n (salvaged_output_of file output))
    ≡ bodies_in Two (pak_in_form_two file) (salvaged_output_of file output)
unfolding held_processor_of held_memory_of held_bodies_of
held-bodies file output n b e l =
    bodies-are (form_of (salvaged_output_of file output)) (length n.pak) (salvaged_output_of file output) (long file output n e l)
    (bytes file output e b) (ok file output n e l) n.rom
    ∙ rw (form file output e, l)
