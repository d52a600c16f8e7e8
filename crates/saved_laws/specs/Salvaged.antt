-- What a salvage or a move writes is a saved state of the machine held (paper 02, W13: "It writes a right form 2 file";
-- W12: a move "writes what the other form's writer makes for the state held"), and what a writer made a salvage leaves
-- as it is (W13: "An undamaged file comes out equal, with an empty list"). The statements; their proofs are
-- `salvaged-accepted`, `moved-accepted` and `written-unchanged`.
use Rattle.std.specs.Prelude.{ℕ, ◌<◌, List, ◌≡◌, length, get_or, Ok}
use Rattle.bus.specs.Memory.{Memory}
use Rattle.processor.specs.Acceptance.{acceptance_in}
use Rattle.processor.specs.declared.Processor.{Processor}
use Rattle.saved_layout.specs.Layout.{other_of}
use Rattle.saved_layout.specs.declared.Form.{Form}
use Rattle.saved_layout.specs.declared.Form.TheVariants.{Two}
use Rattle.saved_kinds.specs.Fits.{form_of, pak_length_of}
use Rattle.saved_move.specs.Move.{move_verdict_of, moved_of}
use Rattle.saved.specs.Calls.{state_file_of, held_processor_of, held_memory_of}
use Rattle.saved.specs.Exactly.{Savable}
use Rattle.saved_salvage.specs.Valid.{Unchanged}
use Rattle.saved_salvage.specs.Salvage.{pak_in_form_two, salvage_verdict_of, salvaged_output_of}

-- the machine that `held` holds, with the memory n, is one that 1 to 5 accept, and `file` is what the form's writer
-- makes for it
pub record FileOfAccepted (form : Form) (n : Memory) (held file : List ℕ) : Type 0 where
  pub savable : Savable form (held_processor_of n held) (held_memory_of n held)
  pub written : state_file_of form (held_processor_of n held) (held_memory_of n held) ≡ file

-- the output of an accepted salvage is such a file of what it holds itself, with any accepted machine whose pak RAM has
-- the length that follows from the file's
abbrev pub SalvagedAccepted : Type 0
SalvagedAccepted =
    (file output : List ℕ) (q : Processor) (n : Memory) → ((k : ℕ) → get_or file k 0 < 256)
    → salvage_verdict_of file output ≡ (Ok tt) → acceptance_in q n ≡ (Ok tt) → length n.pak ≡ pak_in_form_two file
    → FileOfAccepted Two n (salvaged_output_of file output) (salvaged_output_of file output)

-- the output of an accepted move is such a file, in the other form, of what the file given holds
abbrev pub MovedAccepted : Type 0
MovedAccepted =
    (file output : List ℕ) (q : Processor) (n : Memory) → ((k : ℕ) → get_or file k 0 < 256)
    → move_verdict_of file output ≡ (Ok tt) → acceptance_in q n ≡ (Ok tt)
    → length n.pak ≡ pak_length_of (form_of file) (length file)
    → FileOfAccepted (other_of (form_of file)) n file (moved_of file output)

-- what form 2's writer made for an accepted machine is left as it is, no kind is listed, and nothing before the first
-- body differs
abbrev pub WrittenUnchanged : Type 0
WrittenUnchanged =
    (p : Processor) (m : Memory) (output : List ℕ) → Savable Two p m → length output ≡ length (state_file_of Two p m)
    → Unchanged (state_file_of Two p m) output
