-- The records of a machine's bodies are its own, and bodies of bytes are those of their records. Assumes nothing.
use Prim.Native.Nat.{ℕ, zero, suc, ◌+◌, ◌*◌, ◌/◌, ◌%◌, ◌^◌, ◌<◌, ◌≤◌}
use native.Mathlib.Omega.{arith}
use native.Mathlib.Decide.{dec_lt}
use mathlib.Core.Bool.{true}
use mathlib.Core.List.{List, [], ◌∷◌, ◌++◌, append-nil}
use mathlib.Core.Path.{◌≡◌, refl, sym, ap, ◌∙◌}
use lib.ListN.{length, get_or, take, drop, replicate, length-append, length-take, drop_of_length-le}
use lib.ListN.{length-replicate, get_or-replicate, get_or-eq_default}
use lib.Seq.{drop-cons, get_or-drop, get_or-take, take_all}
use Rattle.bus_timer.specs.declared.TimerLines.{TimerLines}
use Rattle.bus.specs.Memory.{Memory, memory_of}
use Rattle.processor_machine.specs.declared.Mode.{Mode}
use Rattle.processor_machine.specs.declared.Mode.TheVariants.{Running, Halted, Fatal}
use Rattle.processor.specs.declared.Processor.{Processor}
use Rattle.saved_bytes.specs.Numbers.{bytes_of, halves_of, halves_from, words_from}
use Rattle.saved_bytes.proofs.LittleEndian.{length-bytes, length-halves, length-words-from, words-from-append}
use Rattle.saved_bytes.proofs.Reading as reading
use Rattle.saved_bytes.proofs.Reading.{Under, under, halves-back, words_back, same-equal, halves-again}
use Rattle.saved_layout.specs.File.{Bodies, SizedBodies, HeldBy, hardware_reset}
use Rattle.saved_layout.specs.declared.Form.{Form}
use Rattle.saved_layout.specs.declared.Form.TheVariants.{One, Two}
use Rattle.saved_layout.proofs.Files.{bodies-same}
use Rattle.saved_layout.proofs.Written.{bytes-append}
use Rattle.saved_kinds.specs.Kinds.{general_from, rest_from, drawing_from, hardware_from}
use Rattle.saved.specs.Body.{lines_of, machine_bodies_of, restored_processor_of, processor_in_bodies, memory_in}
use Rattle.saved_kinds.specs.Words.{mode_number, mode_of, rest_of, record_words_of}
use Rattle.saved.specs.Calls.{form_holds}

mode-back : (m : Mode) → mode_of (mode_number m) ≡ m
mode-back Running = refl
mode-back Halted = refl
mode-back Fatal = refl

pub mode_small : (m : Mode) → mode_number m ≤ 2
mode_small Running = omega arith
mode_small Halted = omega arith
mode_small Fatal = omega arith

mode-again : (n : ℕ) → n ≤ 2 → mode_number (mode_of n) ≡ n
mode-again zero h = refl
mode-again (suc zero) h = refl
mode-again (suc (suc zero)) h = refl
mode-again (suc (suc (suc n))) h = absurd (omega arith)

length_rest : (p : Processor) → length (rest_of p) ≡ 11
unfolding rest_of
length_rest p = refl

under_left : (n : ℕ) (a b : List ℕ) → Under n (a ++ b) → Under n a
under_left n [] b u = tt
under_left n (x ∷ xs) b u = (u.0, under_left n xs b u.1)

under-right : (n : ℕ) (a b : List ℕ) → Under n (a ++ b) → Under n b
under-right n [] b u = u
under-right n (x ∷ xs) b u = under-right n xs b u.1

-- kind 1
module _ (p : Processor) (l : length p.regs ≡ 32) (words : (k : ℕ) → get_or (record_words_of p) k 0 < 2 ^ 32) where
  under_all : Under (2 ^ 32) (p.regs ++ rest_of p)
  unfolding record_words_of
  under_all = under (2 ^ 32) (p.regs ++ rest_of p) words

  pub general-back : general_from (bytes_of (halves_of (record_words_of p))) ≡ p.regs
  unfolding general_from record_words_of
  general-back =
      rw (bytes-append p.regs (rest_of p), ← l)
      (words_back 0 [] p.regs (bytes_of (halves_of (rest_of p))) refl (under_left (2 ^ 32) p.regs (rest_of p) under_all))

  pub rest_back : rest_from (bytes_of (halves_of (record_words_of p))) ≡ rest_of p
  unfolding rest_from record_words_of
  rest_back =
      let n : length (bytes_of (halves_of p.regs)) ≡ 128 = omega (arith, length-bytes (halves_of p.regs), length-halves p.regs) in
      ap (λ (xs : List ℕ). words_from xs 128 11)
      (bytes-append p.regs (rest_of p) ∙ ap (λ (xs : List ℕ). bytes_of (halves_of p.regs) ++ xs) (sym (append-nil (bytes_of (halves_of (rest_of p))))))
      ∙ rw (← length_rest p)
      (words_back 128 (bytes_of (halves_of p.regs)) (rest_of p) [] n (under-right (2 ^ 32) p.regs (rest_of p) under_all))

  record-back : restored_processor_of p.regs (rest_of p) p.hardware ≡ p
  unfolding restored_processor_of rest_of
  record-back = rw (mode-back p.mode)

  pub processor-size : length (bytes_of (halves_of (record_words_of p))) ≡ 172
  unfolding record_words_of
  processor-size =
      omega (arith, length-bytes (halves_of (p.regs ++ rest_of p)), length-halves (p.regs ++ rest_of p), length-append p.regs (rest_of p), length_rest p)

-- kind 2
pub drawing-back : (regs : List ℕ) → length regs ≡ 13 → ((k : ℕ) → get_or regs k 0 < 65536) → drawing_from (bytes_of regs) ≡ regs
unfolding drawing_from
drawing-back regs l small =
    ap (λ (xs : List ℕ). halves_from xs 0 13) (sym (append-nil (bytes_of regs))) ∙ rw (← l) (halves-back 0 [] regs [] refl (under 65536 regs small))

-- kind 6
half-joined : (h : ℕ) → h < 65536 → h % 256 + 256 * (h / 256 % 256) ≡ h
half-joined h l = omega arith

pub lines-back : (h : TimerLines) → ((k : ℕ) → get_or (lines_of h) k 0 < 65536) → hardware_from (bytes_of (lines_of h)) ≡ h
unfolding hardware_from lines_of bytes_of
lines-back h small =
    rw (
      half-joined h.lines (small 0),
      half-joined h.count (small 1),
      half-joined h.reload (small 2),
      half-joined h.control (small 3),
    )

pub lines-size : (h : TimerLines) → length (bytes_of (lines_of h)) ≡ 8
unfolding lines_of bytes_of
lines-size h = refl

-- a whole machine
module _ (p : Processor) (m : Memory) (l : length p.regs ≡ 32) (words : (k : ℕ) → get_or (record_words_of p) k 0 < 2 ^ 32)
    (d : length m.regs ≡ 13) (halves : (k : ℕ) → get_or m.regs k 0 < 65536) (lines : (k : ℕ) → get_or (lines_of p.hardware) k 0 < 65536) where
  pub processor-in-back : processor_in_bodies (machine_bodies_of p m) ≡ p
  unfolding processor_in_bodies machine_bodies_of
  processor-in-back = rw (general-back p l words, rest_back p l words, lines-back p.hardware lines) (record-back p l words)

  pub memory-in-back : (rom : List ℕ) → memory_in rom (machine_bodies_of p m) ≡ memory_of rom m.wram m.vram m.pak m.regs
  unfolding memory_in machine_bodies_of
  memory-in-back rom = rw (drawing-back m.regs d halves)

  pub machine-sized : length m.wram ≡ 65536 → length m.vram ≡ 262144 → SizedBodies (machine_bodies_of p m)
  unfolding machine_bodies_of
  machine-sized w v =
      record {
        processor = processor-size p l words;
        drawing = omega (arith, length-bytes m.regs);
        wram = w;
        vram = v;
        hardware = lines-size p.hardware;
      }

pub zeros-bytes : (xs : List ℕ) → xs ≡ replicate 4 0 → bytes_of xs ≡ hardware_reset
unfolding bytes_of
zeros-bytes xs e = rw e

pub machine-held : (form : Form) (p : Processor) (m : Memory) → form_holds form (lines_of p.hardware) ≡ true → HeldBy form (machine_bodies_of p m)
unfolding form_holds machine_bodies_of
machine-held One p m e = zeros-bytes (lines_of p.hardware) (same-equal (lines_of p.hardware) (replicate 4 0) e)
machine-held Two p m e = tt

-- the elements of a list from one on
elements_from : List ℕ → ℕ → ℕ → List ℕ
elements_from xs k zero = []
elements_from xs k (suc n) = get_or xs k 0 ∷ elements_from xs (suc k) n

elements : (n : ℕ) (xs : List ℕ) (k : ℕ) → k + n ≡ length xs → elements_from xs k n ≡ drop k xs
unfolding elements_from
elements zero xs k e = sym (drop_of_length-le xs {i = k} (omega arith))
elements (suc n) xs k e = rw (elements n xs (suc k) (omega arith)) (sym (drop-cons xs k 0 (omega arith)))

rest-again : (regs xs : List ℕ) (h : TimerLines) → length xs ≡ 11 → get_or xs 10 0 ≤ 2 → rest_of (restored_processor_of regs xs h) ≡ xs
unfolding rest_of restored_processor_of elements_from
rest-again regs xs h l s = rw (mode-again (get_or xs 10 0) s) (elements 11 xs 0 (omega arith))

regs-again : (regs xs : List ℕ) (h : TimerLines) → (restored_processor_of regs xs h).regs ≡ regs
unfolding restored_processor_of
regs-again regs xs h = refl

hardware-again : (regs xs : List ℕ) (h : TimerLines) → (restored_processor_of regs xs h).hardware ≡ h
unfolding restored_processor_of
hardware-again regs xs h = refl

-- the records of bodies of bytes, as bodies again
module _ (body : List ℕ) (bytes : (k : ℕ) → get_or body k 0 < 256) where
  words-joined : general_from body ++ rest_from body ≡ words_from body 0 43
  unfolding general_from rest_from
  words-joined = sym (words-from-append body 0 32 11)

  length-rest-from : length (rest_from body) ≡ 11
  unfolding rest_from
  length-rest-from = length-words-from body 128 11

  words_are : (h : TimerLines) → get_or (rest_from body) 10 0 ≤ 2
      → record_words_of (restored_processor_of (general_from body) (rest_from body) h) ≡ general_from body ++ rest_from body
  unfolding record_words_of
  words_are h s =
      ap (λ (xs : List ℕ). xs ++ rest_of (restored_processor_of (general_from body) (rest_from body) h)) (regs-again (general_from body) (rest_from body) h)
      ∙ ap (λ (xs : List ℕ). general_from body ++ xs) (rest-again (general_from body) (rest_from body) h length-rest-from s)

  pub words-held : (h : TimerLines) → get_or (rest_from body) 10 0 ≤ 2 → record_words_of (restored_processor_of
      (general_from body) (rest_from body) h) ≡ words_from body 0 43
  words-held h s = words_are h s ∙ words-joined

  pub processor-again : (h : TimerLines) → length body ≡ 172 → get_or (rest_from body) 10 0 ≤ 2
      → bytes_of (halves_of (record_words_of (restored_processor_of (general_from body) (rest_from body) h))) ≡ body
  processor-again h l s =
      ap (λ (xs : List ℕ). bytes_of (halves_of xs)) (words-held h s)
      ∙ (ap bytes_of (reading.words-again body bytes 43 0) ∙ (halves-again body bytes 86 0 (omega arith) ∙ take_all 172 body (omega arith)))

  pub drawing-again : length body ≡ 26 → bytes_of (drawing_from body) ≡ body
  unfolding drawing_from
  drawing-again l = halves-again body bytes 13 0 (omega arith) ∙ take_all 26 body (omega arith)

  pub lines_are : lines_of (hardware_from body) ≡ halves_from body 0 4
  unfolding lines_of hardware_from halves_from
  lines_are = refl

  pub lines-again : length body ≡ 8 → bytes_of (lines_of (hardware_from body)) ≡ body
  lines-again l = ap bytes_of lines_are ∙ (halves-again body bytes 4 0 (omega arith) ∙ take_all 8 body (omega arith))

-- all bodies
pub bodies-again : (b : Bodies) (rom : List ℕ) → SizedBodies b → ((k : ℕ) → get_or b.processor k 0 < 256) → ((k : ℕ) → get_or b.drawing k 0 < 256)
    → ((k : ℕ) → get_or b.hardware k 0 < 256) → get_or (rest_from b.processor) 10 0 ≤ 2
    → machine_bodies_of (processor_in_bodies b) (memory_in rom b) ≡ b
unfolding machine_bodies_of processor_in_bodies memory_in
bodies-again b rom s u v w mode =
    bodies-same (processor-again b.processor u (hardware_from b.hardware) s.processor mode) (drawing-again b.drawing v s.drawing) refl refl refl
    (ap (λ (h : TimerLines). bytes_of (lines_of h)) (hardware-again (general_from b.processor) (rest_from b.processor) (hardware_from b.hardware))
    ∙ lines-again b.hardware w s.hardware)

-- the bytes of a part of a file, and of zeros
pub part_bytes : (file : List ℕ) → ((k : ℕ) → get_or file k 0 < 256) → (a n k : ℕ) → get_or (take n (drop a file)) k 0 < 256
part_bytes file bytes a n k =
    elim (dec_lt k n) [
      | yes h ↦ rw (get_or-take n (drop a file) k 0 h, get_or-drop a file k 0) (bytes (a + k))
      | no h ↦
          let l : length (take n (drop a file)) ≤ k = simp length-take (omega arith) in
          rw (get_or-eq_default (take n (drop a file)) 0 {n = k} l) (omega arith)
    ]

pub zero-bytes : (n k : ℕ) → get_or (replicate n 0) k 0 < 256
zero-bytes n k =
    elim (dec_lt k n) [
      | yes h ↦ rw (get_or-replicate {A = ℕ} n k 0 0 h) (omega arith)
      | no h ↦
          let l : length (replicate {A = ℕ} n 0) ≤ k = omega (arith, length-replicate {A = ℕ} n 0) in
          rw (get_or-eq_default (replicate {A = ℕ} n 0) 0 {n = k} l) (omega arith)
    ]
