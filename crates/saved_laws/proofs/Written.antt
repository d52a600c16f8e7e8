-- `moved-accepted` and `written-unchanged`: the statements of specs/Salvaged about moves and writers. Assumes nothing.
use Rattle.std.specs.Prelude.{Ok}
use Prim.Native.Nat.{ℕ, ◌<◌}
use mathlib.Core.Bool.{true}
use mathlib.Core.List.{List}
use mathlib.Core.Path.{◌≡◌, sym, ap, ◌∙◌}
use lib.ListN.{length, get_or}
use Rattle.bus.specs.Refusal.{pak_ok}
use Rattle.bus.specs.Memory.{Memory}
use Rattle.processor.specs.Acceptance.{acceptance_in}
use Rattle.processor.specs.declared.Processor.{Processor}
use Rattle.saved_bytes.specs.Numbers.{bytes_of}
use Rattle.saved_layout.specs.Layout.{other_of, file_length_of}
use Rattle.saved_layout.specs.File.{Bodies}
use Rattle.saved_layout.specs.declared.Form.TheVariants.{Two}
use Rattle.saved_kinds.specs.Fits.{form_of, pak_length_of}
use Rattle.saved_kinds.specs.Kinds.{file_ok}
use Rattle.saved_move.specs.Move.{pak_in, held_in, holds_body_ok, move_verdict_of}
use Rattle.saved_move.proofs.Returning.{all-passed, lengths-passed, fit-in}
use Rattle.saved.specs.Body.{lines_of, machine_bodies_of}
use Rattle.saved.specs.Calls.{state_file_of, held_bodies_of, held_processor_of, held_memory_of, holds_ok}
use Rattle.saved.specs.Exactly.{Savable}
use Rattle.saved.proofs.Accepting.{passed}
use Rattle.saved.proofs.Made.{sized, made, bodies-are, written-exactly}
use Rattle.saved.proofs.Moves.{move-writes}
use Rattle.saved.proofs.Sixteen.{sixteen-agrees}
use Rattle.saved_salvage.proofs.Unharmed.{unchanged}
use Rattle.saved_laws.specs.Salvaged.{MovedAccepted, WrittenUnchanged}

module _ (file output : List ℕ) (q : Processor) (n : Memory) (bytes : (k : ℕ) → get_or file k 0 < 256) (e : move_verdict_of file output ≡ (Ok tt))
    (accepted : acceptance_in q n ≡ (Ok tt)) (l : length n.pak ≡ pak_length_of (form_of file) (length file)) where
  due : length file ≡ file_length_of (form_of file) (length n.pak)
  unfolding pak_in
  due = sym (rw l (fit-in file (lengths-passed file output e).0).1)

  ok : file_ok (form_of file) (length n.pak) file ≡ true
  unfolding pak_in
  ok = rw l (all-passed file output e).1.0

  own : Savable (form_of file) (held_processor_of n file) (held_memory_of n file)
  own = ((written-exactly q n file accepted due bytes).made ok).0

  -- the lines and the timer that are held, as a body
  body : bytes_of (lines_of (held_processor_of n file).hardware) ≡ (held_in file).hardware
  unfolding held_in pak_in held_processor_of held_bodies_of machine_bodies_of
  body =
      ap (λ (b : Bodies). b.hardware) (bodies-are (form_of file) (length n.pak) file due bytes ok n.rom) ∙ rw l

  other-held : holds_ok (other_of (form_of file)) (held_processor_of n file).hardware ≡ true
  other-held =
      sixteen-agrees (other_of (form_of file)) (held_processor_of n file).hardware own.lines
      ∙ (ap (holds_body_ok (other_of (form_of file))) body ∙ (all-passed file output e).1.1)

  other : Savable (other_of (form_of file)) (held_processor_of n file) (held_memory_of n file)
  other =
      record {
        accepted = own.accepted;
        held = other-held;
        general = own.general;
        words = own.words;
        drawing = own.drawing;
        halves = own.halves;
        lines = own.lines;
      }

pub moved-accepted : MovedAccepted
moved-accepted file output q n bytes e accepted l =
    record {
      savable = other file output q n bytes e accepted l;
      written = sym (move-writes file output n bytes e l);
    }

legal : (p : Processor) (m : Memory) → acceptance_in p m ≡ (Ok tt) → pak_ok (length (machine_bodies_of p m).pak) ≡ true
unfolding machine_bodies_of
legal p m a = (passed p m a).lengths.pak-ok

pub written-unchanged : WrittenUnchanged
unfolding state_file_of
written-unchanged p m output s l =
    unchanged (machine_bodies_of p m) (sized Two p m s) (legal p m s.accepted) (made Two p m s) output l
