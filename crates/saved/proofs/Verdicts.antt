-- What writing and reading a state answer and leave, by each test. Assumes nothing.
use Rattle.std.specs.Prelude.{Ok, Err}
use Prim.Native.Nat.{ℕ}
use mathlib.Core.Bool.{Bool, true, false}
use mathlib.Core.List.{List, [], ◌++◌}
use mathlib.Core.Path.{◌≡◌, refl, sym, ap, ◌∙◌}
use lib.ListN.{length}
use borrow.Author.Tests.{eq-eqb, ne_eqb}
use Rattle.refusal.specs.declared.Refusal as refusal
use Rattle.refusal.specs.declared.Refusal.TheVariants.{FileLength, FileBytes, NotAtReset}
use Rattle.bus.specs.Memory.{Memory, memory_of}
use Rattle.processor.specs.Acceptance.{acceptance_in}
use Rattle.processor.specs.declared.Processor.{Processor}
use Rattle.saved_bytes.specs.Numbers.{bytes_of, halves_of}
use Rattle.saved_layout.specs.Layout.{file_length_of}
use Rattle.saved_layout.specs.File.{bodies_of, file_of, bodies_in}
use Rattle.saved_layout.specs.declared.Form.{Form}
use Rattle.saved_kinds.specs.Fits.{form_of}
use Rattle.saved_kinds.specs.Kinds.{drawing_from, file_ok}
use Rattle.saved.specs.Body.{lines_of, machine_bodies_of, processor_in_bodies, memory_in}
use Rattle.saved_kinds.specs.Words.{rest_of, record_words_of}
use Rattle.saved.specs.Calls.{state_file_of, held_bodies_of, held_processor_of, held_memory_of, form_holds}
use Rattle.saved.specs.Calls.{write_verdict_of, written_output_of, read_verdict_of, restored_of, read_back_of}

module _ (form : Form) (p : Processor) (m : Memory) (output : List ℕ) where
  pub write-refused : (n : refusal.Refusal) → acceptance_in p m ≡ Err n
      → (Err n ≡ write_verdict_of form p m output) × (output ≡ written_output_of form p m output)
  unfolding written_output_of write_verdict_of
  write-refused n e = (simp e, simp e)

  module _ (e : acceptance_in p m ≡ (Ok tt)) where
    pub write-length : (length output ≡ file_length_of form (length m.pak) → ⊥)
        → (Err FileLength ≡ write_verdict_of form p m output) × (output ≡ written_output_of form p m output)
    unfolding written_output_of write_verdict_of
    write-length n = (simp (e, ne_eqb _ _ n), simp (e, ne_eqb _ _ n))

    pub write-reset : length output ≡ file_length_of form (length m.pak) → form_holds form (lines_of p.hardware) ≡ false
        → (Err NotAtReset ≡ write_verdict_of form p m output) × (output ≡ written_output_of form p m output)
    unfolding written_output_of write_verdict_of
    write-reset l h = (simp (e, eq-eqb _ _ l, h), simp (e, eq-eqb _ _ l, h))

    pub write-accepted : length output ≡ file_length_of form (length m.pak) → form_holds form (lines_of p.hardware) ≡ true
        → ((Ok tt) ≡ write_verdict_of form p m output) × (state_file_of form p m ≡ written_output_of form p m output)
    unfolding written_output_of write_verdict_of
    write-accepted l h = (simp (e, eq-eqb _ _ l, h), simp (e, eq-eqb _ _ l, h))

pub file-of-records : (form : Form) (p : Processor) (m : Memory) (rest lines : List ℕ) → rest ≡ rest_of p → lines ≡ lines_of p.hardware
    → file_of form (bodies_of (bytes_of (halves_of (p.regs ++ rest))) (bytes_of m.regs) m.wram m.vram m.pak (bytes_of lines)) ≡ state_file_of form p m
unfolding state_file_of machine_bodies_of record_words_of
file-of-records form p m rest lines e f = rw (e, f)

-- ROM is not stored
pub file-without-rom : (form : Form) (p : Processor) (m : Memory)
    → state_file_of form p (memory_of [] m.wram m.vram m.pak m.regs) ≡ state_file_of form p m
unfolding state_file_of machine_bodies_of
file-without-rom form p m = refl

module _ (p : Processor) (m : Memory) (file : List ℕ) where
  pub read-refused : (n : refusal.Refusal) → acceptance_in p m ≡ Err n → restored_of (Err n) p m ≡ read_back_of p m file
  unfolding read_back_of read_verdict_of
  read-refused n e = simp e

  module _ (e : acceptance_in p m ≡ (Ok tt)) where
    pub read_length : (length file ≡ file_length_of (form_of file) (length m.pak) → ⊥) → restored_of (Err FileLength) p m ≡ read_back_of p m file
    unfolding read_back_of read_verdict_of
    read_length n = simp (e, ne_eqb _ _ n)

    module _ (l : length file ≡ file_length_of (form_of file) (length m.pak)) where
      pub read-bytes : file_ok (form_of file) (length m.pak) file ≡ false → restored_of (Err FileBytes) p m ≡ read_back_of p m file
      unfolding read_back_of read_verdict_of
      read-bytes n = simp (e, eq-eqb _ _ l, n)

      pub read-accepted : file_ok (form_of file) (length m.pak) file ≡ true
          → restored_of (Ok tt) (held_processor_of m file) (held_memory_of m file) ≡ read_back_of p m file
      unfolding read_back_of read_verdict_of
      read-accepted n = simp (e, eq-eqb _ _ l, n)

-- what was taken from a file is what it holds
module _ (m : Memory) (file : List ℕ) (form : Form) (f : form ≡ form_of file) where
  held-bodies : bodies_in form (length m.pak) file ≡ held_bodies_of m file
  unfolding held_bodies_of
  held-bodies = ap (λ (g : Form). bodies_in g (length m.pak) file) f

  pub restored-held : (state : Processor) (wram vram pak halves : List ℕ) → state ≡ processor_in_bodies (bodies_in form (length m.pak) file)
      → wram ≡ (bodies_in form (length m.pak) file).wram → vram ≡ (bodies_in form (length m.pak) file).vram
      → pak ≡ (bodies_in form (length m.pak) file).pak → halves ≡ drawing_from (bodies_in form (length m.pak) file).drawing
      → restored_of (Ok tt) state (memory_of m.rom wram vram pak halves) ≡ restored_of (Ok tt) (held_processor_of m file) (held_memory_of m file)
  unfolding held_processor_of held_memory_of memory_in
  restored-held state wram vram pak halves e1 e2 e3 e4 e5 = rw (e1, e2, e3, e4, e5, held-bodies)

  pub due-held : (n : ℕ) → n ≡ file_length_of form (length m.pak) → n ≡ file_length_of (form_of file) (length m.pak)
  due-held n e = e ∙ ap (λ (g : Form). file_length_of g (length m.pak)) f

  pub due-form : (n : ℕ) → n ≡ file_length_of (form_of file) (length m.pak) → n ≡ file_length_of form (length m.pak)
  due-form n e = e ∙ sym (ap (λ (g : Form). file_length_of g (length m.pak)) f)

  pub ok-held : (t s : Bool) → t ≡ file_ok form (length m.pak) file → t ≡ s → file_ok (form_of file) (length m.pak) file ≡ s
  ok-held t s e g = sym (ap (λ (h : Form). file_ok h (length m.pak) file) f) ∙ (sym e ∙ g)
