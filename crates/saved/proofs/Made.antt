-- `read-written` and `written-exactly`: what was written for an accepted machine is read and gives that machine; and a file of the
-- due length is refused by 10 exactly when no accepted machine is written as it. Assumes nothing.
use Rattle.std.specs.Prelude.{Ok}
use Prim.Native.Nat.{ℕ, ◌+◌, ◌*◌, ◌^◌, ◌<◌, ◌≤◌}
use native.Mathlib.Omega.{arith}
use native.Mathlib.Decide.{dec_lt}
use mathlib.Core.Bool.{Bool, true, false}
use mathlib.Core.List.{List}
use mathlib.Core.Path.{◌≡◌, refl, sym, ap, ◌∙◌}
use borrow.Author.Tests.{le-leb, leb-true}
use lib.Dec.{leb}
use lib.ListN.{length, get_or, get_or-eq_default}
use Rattle.word.specs.LittleEndian.{half_at, word_at}
use Rattle.word.proofs.Choices.{pick-both}
use Rattle.bus.specs.Memory.{Memory, memory_of, Lengths}
use Rattle.processor.specs.Record.{system_in}
use Rattle.processor.specs.Acceptance.{both, state_ok, acceptance_in}
use Rattle.processor.specs.declared.Processor.{Processor}
use Rattle.saved_bytes.specs.Numbers.{words_from, halves_from}
use Rattle.saved_bytes.proofs.LittleEndian.{length-words-from, get_or-words-from, length-halves-from, get_or-halves-from}
use Rattle.saved_layout.specs.Layout.{body_place_of, last_place_of, file_length_of}
use Rattle.saved_layout.specs.File.{Bodies, file_of, bodies_in, contents_ok, hardware_bytes_in, SizedBodies, HeldBy}
use Rattle.saved_layout.specs.declared.Form.{Form}
use Rattle.saved_layout.specs.declared.Form.TheVariants.{One, Two}
use Rattle.saved_layout.proofs.Files.{file-length, file-held, contents-back, file-again, length-pak-in, sized-in}
use Rattle.saved_kinds.specs.Fits.{form_of}
use Rattle.saved_kinds.specs.Kinds.{general_from, rest_from, drawing_from, hardware_from, system_from, words_ok}
use Rattle.saved_kinds.specs.Kinds.{processor_body_ok, drawing_body_ok, hardware_body_ok, bodies_ok, file_ok}
use Rattle.saved_move.proofs.Returning.{form-back}
use Rattle.saved.specs.Body.{lines_of, machine_bodies_of, restored_processor_of, processor_in_bodies, memory_in}
use Rattle.saved_kinds.specs.Words.{rest_of, record_words_of, mode_number}
use Rattle.saved.specs.Calls.{state_file_of, held_bodies_of, held_processor_of, held_memory_of, form_holds}
use Rattle.saved.specs.Exactly.{Savable, ReadWritten, WrittenExactly}
use Rattle.saved.proofs.Accepting.{Passed, passed, accepts, small}
use Rattle.saved.proofs.Back.{mode_small, general-back, rest_back, drawing-back, lines-back, processor-in-back}
use Rattle.saved.proofs.Back.{memory-in-back, machine-sized, machine-held, bodies-again, words-held, lines_are}
use Rattle.saved.proofs.Back.{part_bytes, zero-bytes}
use Rattle.saved.proofs.Verdicts.{read-accepted}

-- the bodies of an accepted machine can be made
words-made : (p : Processor) → state_ok p.regs (system_in p) p.pc p.psw ≡ true → words_ok p.regs (rest_of p) ≡ true
unfolding words_ok rest_of
words-made p e = simp (le-leb (mode_number p.mode) 2 (mode_small p.mode)) e

module _ (form : Form) (p : Processor) (m : Memory) (s : Savable form p m) where
  known : Passed p m
  known = passed p m s.accepted

  few : length m.pak ≤ 16777216
  few = small p m s.accepted

  pub sized : SizedBodies (machine_bodies_of p m)
  sized = machine-sized p m s.general s.words s.drawing s.halves s.lines known.lengths.wram-ok known.lengths.vram-ok

  held : HeldBy form (machine_bodies_of p m)
  held = machine-held form p m s.held

  pub made : bodies_ok (machine_bodies_of p m) ≡ true
  unfolding bodies_ok machine_bodies_of processor_body_ok drawing_body_ok hardware_body_ok
  made =
      rw (
        general-back p s.general s.words,
        rest_back p s.general s.words,
        words-made p known.state,
        drawing-back m.regs s.drawing s.halves,
        known.drawing,
        lines-back p.hardware s.lines,
        known.hardware,
      )

  pak-same : length (machine_bodies_of p m).pak ≡ length m.pak
  unfolding machine_bodies_of
  pak-same = refl

  form-is : form_of (state_file_of form p m) ≡ form
  unfolding state_file_of
  form-is = form-back form (machine_bodies_of p m)

  due : length (state_file_of form p m) ≡ file_length_of form (length m.pak)
  unfolding state_file_of
  due = file-length (machine_bodies_of p m) sized form ∙ ap (file_length_of form) pak-same

  bodies-back : bodies_in form (length m.pak) (state_file_of form p m) ≡ machine_bodies_of p m
  unfolding state_file_of
  bodies-back = rw (← pak-same) (file-held (machine_bodies_of p m) sized form held)

  contents-valid : contents_ok form (length m.pak) (state_file_of form p m) ≡ true
  unfolding state_file_of
  contents-valid = rw (← pak-same) (contents-back (machine_bodies_of p m) sized form (rw pak-same few))

  ok : file_ok form (length m.pak) (state_file_of form p m) ≡ true
  unfolding file_ok
  ok = rw (contents-valid, bodies-back) made

  module _ (n : Memory) (same : length n.pak ≡ length m.pak) where
    held-bodies : held_bodies_of n (state_file_of form p m) ≡ machine_bodies_of p m
    unfolding held_bodies_of
    held-bodies = rw (form-is, same) bodies-back

    held-processor : held_processor_of n (state_file_of form p m) ≡ p
    unfolding held_processor_of
    held-processor = rw held-bodies (processor-in-back p m s.general s.words s.drawing s.halves s.lines)

    held-memory : held_memory_of n (state_file_of form p m) ≡ memory_of n.rom m.wram m.vram m.pak m.regs
    unfolding held_memory_of
    held-memory = rw held-bodies (memory-in-back p m s.general s.words s.drawing s.halves s.lines n.rom)

    own-ok : file_ok (form_of (state_file_of form p m)) (length n.pak) (state_file_of form p m) ≡ true
    own-ok = rw (form-is, same) ok

pub read-written : (form : Form) → ReadWritten form
read-written form p q m n s accepted same =
    sym
    (read-accepted q n (state_file_of form p m) accepted
    (due form p m s ∙ (ap (file_length_of form) (sym same) ∙ ap (λ (f : Form). file_length_of f (length n.pak)) (sym (form-is form p m s))))
    (own-ok form p m s n same))
    ∙ rw (held-processor form p m s n same, held-memory form p m s n same)

-- numbers read from bytes fit
module _ (xs : List ℕ) (bytes : (k : ℕ) → get_or xs k 0 < 256) where
  half-fits : (a : ℕ) → half_at xs a < 65536
  half-fits a = omega (arith, bytes a, bytes (a + 1))

  word_fits : (a : ℕ) → word_at xs a < 2 ^ 32
  word_fits a = omega (arith, half-fits a, half-fits (a + 2))

  words-fit : (a n k : ℕ) → get_or (words_from xs a n) k 0 < 2 ^ 32
  words-fit a n k =
      elim (dec_lt k n) [
        | yes h ↦ rw (get_or-words-from xs a n k h) (word_fits (a + 4 * k))
        | no h ↦
            let l : length (words_from xs a n) ≤ k = omega (arith, length-words-from xs a n) in
            rw (get_or-eq_default (words_from xs a n) 0 {n = k} l) (omega arith)
      ]

  halves-fit : (a n k : ℕ) → get_or (halves_from xs a n) k 0 < 65536
  halves-fit a n k =
      elim (dec_lt k n) [
        | yes h ↦ rw (get_or-halves-from xs a n k h) (half-fits (a + 2 * k))
        | no h ↦
            let l : length (halves_from xs a n) ≤ k = omega (arith, length-halves-from xs a n) in
            rw (get_or-eq_default (halves_from xs a n) 0 {n = k} l) (omega arith)
      ]

-- what a file of bytes holds
module _ (form : Form) (p : ℕ) (file : List ℕ) (whole : length file ≡ file_length_of form p) (bytes : (k : ℕ) → get_or file k 0 < 256) where
  processor-bytes : (k : ℕ) → get_or (bodies_in form p file).processor k 0 < 256
  unfolding bodies_in
  processor-bytes k = part_bytes file bytes (body_place_of form p 0) 172 k

  drawing-bytes : (k : ℕ) → get_or (bodies_in form p file).drawing k 0 < 256
  unfolding bodies_in
  drawing-bytes k = part_bytes file bytes (body_place_of form p 1) 26 k

  hardware-bytes : (k : ℕ) → get_or (bodies_in form p file).hardware k 0 < 256
  unfolding bodies_in
  hardware-bytes k = by form k
    where
      by : (f : Form) (k : ℕ) → get_or (hardware_bytes_in f p file) k 0 < 256
      by One k = zero-bytes 8 k
      by Two k = part_bytes file bytes (last_place_of p) 8 k

  module _ (ok : file_ok form p file ≡ true) where
    tests : (contents_ok form p file ≡ true) × (bodies_ok (bodies_in form p file) ≡ true)
    unfolding file_ok
    tests = pick-both (contents_ok form p file) (bodies_ok (bodies_in form p file)) ok

    three : ((processor_body_ok (bodies_in form p file).processor ≡ true) × (drawing_body_ok (bodies_in form p file).drawing ≡ true))
        × (hardware_body_ok (bodies_in form p file).hardware ≡ true)
    unfolding bodies_ok
    three =
        let a = pick-both (both (processor_body_ok (bodies_in form p file).processor) (drawing_body_ok
        (bodies_in form p file).drawing)) (hardware_body_ok (bodies_in form p file).hardware) tests.1 in
        (pick-both (processor_body_ok (bodies_in form p file).processor) (drawing_body_ok (bodies_in form p file).drawing) a.0, a.1)

    words-ok : (get_or (rest_from (bodies_in form p file).processor) 10 0 ≤ 2)
        × (state_ok (general_from (bodies_in form p file).processor) (system_from (rest_from
        (bodies_in form p file).processor)) (get_or (rest_from (bodies_in form p file).processor) 0 0) (get_or (rest_from
        (bodies_in form p file).processor) 6 0) ≡ true)
    unfolding processor_body_ok words_ok
    words-ok =
        let rest = rest_from (bodies_in form p file).processor in
        let a = pick-both (leb (get_or (rest_from (bodies_in form p file).processor) 10 0) 2) _ three.0.0 in
        (leb-true (get_or (rest_from (bodies_in form p file).processor) 10 0) 2 a.0, a.1)

    -- its records as bodies again, and the file that is written of them
    pub bodies-are : (rom : List ℕ) → machine_bodies_of (processor_in_bodies (bodies_in form p file)) (memory_in rom (bodies_in form p file)) ≡ bodies_in form p file
    bodies-are rom = bodies-again (bodies_in form p file) rom (sized-in p file form whole) processor-bytes drawing-bytes hardware-bytes words-ok.0

    written-again : (rom : List ℕ) → state_file_of form (processor_in_bodies (bodies_in form p file)) (memory_in rom (bodies_in form p file)) ≡ file
    unfolding state_file_of
    written-again rom = ap (file_of form) (bodies-are rom) ∙ file-again p file form whole bytes tests.0

    held-lines : form_holds form (lines_of (hardware_from (bodies_in form p file).hardware)) ≡ true
    unfolding form_holds bodies_in lines_of hardware_from
    held-lines = by form
      where
        by : (f : Form) → form_holds f (lines_of (hardware_from (hardware_bytes_in f p file))) ≡ true
        by One = refl
        by Two = refl

    module _ (rom : List ℕ) (l : Lengths (length rom) 65536 262144 p) where
      lengths : Lengths (length rom) (length (bodies_in form p file).wram) (length (bodies_in form p file).vram) (length (bodies_in form p file).pak)
      lengths =
          record {
            rom-ok = l.rom-ok;
            wram-ok = (sized-in p file form whole).wram;
            vram-ok = (sized-in p file form whole).vram;
            pak-ok = rw (length-pak-in p file form whole) l.pak-ok;
          }

      accepted-held : acceptance_in (processor_in_bodies (bodies_in form p file)) (memory_in rom (bodies_in form p file)) ≡ (Ok tt)
      unfolding processor_in_bodies restored_processor_of memory_in drawing_body_ok hardware_body_ok
      accepted-held =
          accepts (processor_in_bodies (bodies_in form p file)) (memory_in rom (bodies_in form p file))
          (record { lengths = lengths; state = words-ok.1; drawing = three.0.1; hardware = three.1 })

      general-length : length (processor_in_bodies (bodies_in form p file)).regs ≡ 32
      unfolding processor_in_bodies restored_processor_of general_from
      general-length = length-words-from (bodies_in form p file).processor 0 32

      words_small : (k : ℕ) → get_or (record_words_of (processor_in_bodies (bodies_in form p file))) k 0 < 2 ^ 32
      unfolding processor_in_bodies
      words_small k =
          rw (words-held (bodies_in form p file).processor processor-bytes (hardware_from (bodies_in form p file).hardware) words-ok.0)
          (words-fit (bodies_in form p file).processor processor-bytes 0 43 k)

      drawing-length : length (memory_in rom (bodies_in form p file)).regs ≡ 13
      unfolding memory_in drawing_from
      drawing-length = length-halves-from (bodies_in form p file).drawing 0 13

      halves_small : (k : ℕ) → get_or (memory_in rom (bodies_in form p file)).regs k 0 < 65536
      unfolding memory_in drawing_from
      halves_small k = halves-fit (bodies_in form p file).drawing drawing-bytes 0 13 k

      lines-small : (k : ℕ) → get_or (lines_of (processor_in_bodies (bodies_in form p file)).hardware) k 0 < 65536
      unfolding processor_in_bodies restored_processor_of
      lines-small k =
          rw (lines_are (bodies_in form p file).hardware hardware-bytes) (halves-fit (bodies_in form p file).hardware hardware-bytes 0 4 k)

      lines-held : form_holds form (lines_of (processor_in_bodies (bodies_in form p file)).hardware) ≡ true
      unfolding processor_in_bodies restored_processor_of
      lines-held = held-lines

      savable : Savable form (processor_in_bodies (bodies_in form p file)) (memory_in rom (bodies_in form p file))
      savable =
          record {
            accepted = accepted-held;
            held = lines-held;
            general = general-length;
            words = words_small;
            drawing = drawing-length;
            halves = halves_small;
            lines = lines-small;
          }

pak-length : (rom : List ℕ) (b : Bodies) → length (memory_in rom b).pak ≡ length b.pak
unfolding memory_in
pak-length rom b = refl

pub written-exactly : WrittenExactly
unfolding held_processor_of held_memory_of held_bodies_of
written-exactly q n file accepted whole bytes =
    record {
      refused = λ no p m s same e. never no (sym (rw (e, same) at (ok (form_of file) p m s)));
      made = λ yes. (
        savable (form_of file) (length n.pak) file whole bytes yes n.rom lengths-of,
        (
          pak-length n.rom (bodies_in (form_of file) (length n.pak) file) ∙ length-pak-in (length n.pak) file (form_of file) whole,
          written-again (form_of file) (length n.pak) file whole bytes yes n.rom,
        ),
      );
    }
  where
    never : {t : Bool} → t ≡ false → true ≡ t → ⊥
    never e f =
        let z : ◌≡◌ {A = ℕ} 0 1 = cc in
        omega arith

    lengths-of : Lengths (length n.rom) 65536 262144 (length n.pak)
    lengths-of =
        let l = (passed q n accepted).lengths in
        record { rom-ok = l.rom-ok; wram-ok = refl; vram-ok = refl; pak-ok = l.pak-ok }
