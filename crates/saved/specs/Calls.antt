-- What writing and reading a state answer and leave, for every input (paper 02, W1 and W12): refusals 1 to 5, then 9
-- and, reading, 10; writing form 1, 16. Reading takes the form from the file. A refusal changes nothing. ROM is tested
-- and neither stored nor changed.
use Rattle.std.specs.Prelude.{ℕ, Bool, true, List, eqb, length, replicate, Ok, Err}
use Rattle.refusal.specs.Number.{unless, when_accepted, then_of, Verdict}
use Rattle.refusal.specs.declared.Refusal.TheVariants.{FileLength, FileBytes, NotAtReset}
use Rattle.bus_timer.specs.declared.TimerLines.{TimerLines}
use Rattle.bus.specs.Memory.{Memory}
use Rattle.processor.specs.Acceptance.{acceptance_in}
use Rattle.processor.specs.declared.Processor.{Processor}
use Rattle.saved_bytes.specs.Numbers.{same_of}
use Rattle.saved_layout.specs.Layout.{file_length_of}
use Rattle.saved_layout.specs.File.{Bodies, file_of, bodies_in}
use Rattle.saved_layout.specs.declared.Form.{Form}
use Rattle.saved_layout.specs.declared.Form.TheVariants.{One, Two}
use Rattle.saved_kinds.specs.Fits.{form_of}
use Rattle.saved_kinds.specs.Kinds.{file_ok}
use Rattle.saved.specs.Body.{lines_of, machine_bodies_of, processor_in_bodies, memory_in}

-- the file of a machine in a form
unfoldable pub state_file_of : Form → Processor → Memory → List ℕ
state_file_of form p m = file_of form (machine_bodies_of p m)

-- the machine that a file holds, with a memory whose pak RAM has the due length
unfoldable pub held_bodies_of : Memory → List ℕ → Bodies
held_bodies_of m file = bodies_in (form_of file) (length m.pak) file

unfoldable pub held_processor_of : Memory → List ℕ → Processor
held_processor_of m file = processor_in_bodies (held_bodies_of m file)

unfoldable pub held_memory_of : Memory → List ℕ → Memory
held_memory_of m file = memory_in m.rom (held_bodies_of m file)

-- 9: whether an output buffer or a file has exactly the length due for the form and the pak RAM's length
abbrev pub length_ok : Form → Memory → List ℕ → Bool
length_ok form m file = eqb (length file) (file_length_of form (length m.pak))

-- 16: form 2 holds any lines and timer, form 1 only those at reset
unfoldable pub form_holds : Form → List ℕ → Bool
form_holds One lines = same_of lines (replicate 4 0)
form_holds Two lines = true

abbrev pub holds_ok : Form → TimerLines → Bool
holds_ok form h = form_holds form (lines_of h)

-- a writing call's verdict: 1 to 5, 9, 16; and the output buffer ("room") afterwards
unfoldable pub write_verdict_of : Form → Processor → Memory → List ℕ → Verdict
write_verdict_of form p m output =
    then_of (acceptance_in p m)
    (unless (length_ok form m output) FileLength (unless (holds_ok form p.hardware) NotAtReset (Ok tt)))

unfoldable pub written_output_of : Form → Processor → Memory → List ℕ → List ℕ
written_output_of form p m output = when_accepted (write_verdict_of form p m output) output (state_file_of form p m)

-- the reading call's verdict: 1 to 5, 9 by the file's form, 10
unfoldable pub read_verdict_of : Processor → Memory → List ℕ → Verdict
read_verdict_of p m file =
    then_of (acceptance_in p m)
    (unless (length_ok (form_of file) m file) FileLength
    (unless (file_ok (form_of file) (length m.pak) file) FileBytes (Ok tt)))

-- what it gives: the verdict, the record and the memory afterwards
pub record Restored : Type 0 where
  pub verdict : Verdict
  pub processor : Processor
  pub memory : Memory

abbrev pub restored_of : Verdict → Processor → Memory → Restored
restored_of verdict p m = record { verdict = verdict; processor = p; memory = m }

abbrev pub restored_when : Verdict → Processor → Memory → List ℕ → Restored
restored_when (Ok tt) p m file = restored_of (Ok tt) (held_processor_of m file) (held_memory_of m file)
restored_when (Err n) p m file = restored_of (Err n) p m

unfoldable pub read_back_of : Processor → Memory → List ℕ → Restored
read_back_of p m file = restored_when (read_verdict_of p m file) p m file
