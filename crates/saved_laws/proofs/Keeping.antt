-- `each-kept-exactly`: the statement of specs/Keeps. The machine that has a kept body is the one that the salvage's output holds.
-- Assumes nothing.
use Rattle.std.specs.Prelude.{Ok}
use Prim.Native.Nat.{ℕ, ◌<◌}
use mathlib.Core.Bool.{Bool, true}
use mathlib.Core.List.{List, []}
use mathlib.Core.Path.{◌≡◌, refl, sym, ap, ◌∙◌}
use native.Mathlib.Omega.{arith}
use borrow.Author.Tests.{eqb-true, eq-eqb, ne_eqb}
use lib.Dec.{eqb}
use lib.ListN.{length, get_or, replicate, length-replicate}
use Rattle.word.specs.LittleEndian.{word_at}
use Rattle.word.proofs.Choices.{pick-both}
use Rattle.bus_timer.specs.Ports.{hardware_ok, control_bits_of}
use Rattle.bus.specs.Refusal.{rom_ok}
use Rattle.bus.specs.Registers.{drawing_ok}
use Rattle.bus.specs.TimerLines.{hardware_in}
use Rattle.bus.specs.Memory.{Memory, memory_of, Lengths}
use Rattle.processor_machine.specs.System.{psw_bits_of}
use Rattle.processor.specs.Acceptance.{both, even_ok, formats_ok, state_ok, acceptance_in}
use Rattle.processor.specs.Record.{system_in}
use Rattle.processor.specs.Calls.{reset_of}
use Rattle.saved_bytes.specs.Parts.{body_sum_of}
use Rattle.saved_layout.specs.Layout.{sum_place_of}
use Rattle.saved_layout.specs.File.{Bodies, bodies_in}
use Rattle.saved_layout.specs.declared.Form.TheVariants.{Two}
use Rattle.saved_layout.proofs.Files.{sized-in}
use Rattle.saved_kinds.specs.Kinds.{processor_body_ok, drawing_body_ok, hardware_body_ok, bodies_ok}
use Rattle.saved.specs.Body.{machine_bodies_of}
use Rattle.saved.specs.Calls.{held_processor_of, held_memory_of}
use Rattle.saved.proofs.Accepting.{accepts}
use Rattle.saved.proofs.Made.{made}
use Rattle.saved_salvage.specs.Keep.{keeps_of, last_sum_place, kept_from, kept_in, kept_bodies_of}
use Rattle.saved_salvage.specs.Salvage.{pak_in_form_two, salvage_verdict_of, salvaged_output_of}
use Rattle.saved_salvage.proofs.Unharmed.{fit, whole, kept-exactly}
use Rattle.saved_laws.specs.Keeps.{MadeForSome, KeptWhere, EachKeptExactly}
use Rattle.saved_laws.proofs.Salvaged.{salvaged-accepted, held-bodies}
use Rattle.saved_laws.proofs.Resetting.{replaced-at-reset}

-- a machine at reset, with memories of zeros
abbrev zero_memory : (rom wram vram pak : ℕ) → Memory
zero_memory rom wram vram pak =
    memory_of (replicate rom 0) (replicate wram 0) (replicate vram 0) (replicate pak 0) reset_of.drawing.regs

zero-lengths : (rom wram vram pak : ℕ) → Lengths rom wram vram pak
    → Lengths (length (replicate {A = ℕ} rom 0)) (length (replicate {A = ℕ} wram 0)) (length (replicate {A = ℕ} vram 0)) (length (replicate {A = ℕ} pak 0))
zero-lengths rom wram vram pak l =
    rw (length-replicate {A = ℕ} rom 0, length-replicate {A = ℕ} wram 0, length-replicate {A = ℕ} vram 0, length-replicate {A = ℕ} pak 0) l

reset-state : state_ok reset_of.processor.regs (system_in reset_of.processor) reset_of.processor.pc reset_of.processor.psw ≡ true
unfolding state_ok reset_of even_ok formats_ok psw_bits_of
reset-state = refl

zero-accepted : (rom wram vram pak : ℕ) → Lengths rom wram vram pak → acceptance_in reset_of.processor (zero_memory rom wram vram pak) ≡ (Ok tt)
unfolding reset_of drawing_ok hardware_in hardware_ok control_bits_of
zero-accepted rom wram vram pak l =
    accepts reset_of.processor (zero_memory rom wram vram pak)
    (record { lengths = zero-lengths rom wram vram pak l; state = reset-state; drawing = refl; hardware = refl })

rom-legal : rom_ok 1024 ≡ true
unfolding rom_ok
rom-legal = refl

-- a body that some accepted machine has passes its test
module _ (body : List ℕ) where
  processor-made : MadeForSome (λ c. c.processor) body → processor_body_ok body ≡ true
  unfolding bodies_ok
  processor-made x =
      let c = machine_bodies_of x.processor x.memory in
      let all = pick-both (both (processor_body_ok c.processor) (drawing_body_ok c.drawing)) (hardware_body_ok c.hardware)
      (made Two x.processor x.memory x.savable) in
      rw x.made at (pick-both (processor_body_ok c.processor) (drawing_body_ok c.drawing) all.0).0

  drawing-made : MadeForSome (λ c. c.drawing) body → drawing_body_ok body ≡ true
  unfolding bodies_ok
  drawing-made x =
      let c = machine_bodies_of x.processor x.memory in
      let all = pick-both (both (processor_body_ok c.processor) (drawing_body_ok c.drawing)) (hardware_body_ok c.hardware)
      (made Two x.processor x.memory x.savable) in
      rw x.made at (pick-both (processor_body_ok c.processor) (drawing_body_ok c.drawing) all.0).1

  hardware-made : MadeForSome (λ c. c.hardware) body → hardware_body_ok body ≡ true
  unfolding bodies_ok
  hardware-made x =
      let c = machine_bodies_of x.processor x.memory in
      let all = pick-both (both (processor_body_ok c.processor) (drawing_body_ok c.drawing)) (hardware_body_ok c.hardware)
      (made Two x.processor x.memory x.savable) in
      rw x.made at all.1

-- by the two tests of a body
kept-where : (kept : Bool) (stored : ℕ) (part : Bodies → List ℕ) (body : List ℕ) (ok : Bool) → kept ≡ keeps_of stored body ok
    → (kept ≡ true → MadeForSome part body) → (MadeForSome part body → ok ≡ true) → KeptWhere kept stored part body
kept-where kept stored part body ok e some test =
    record {
      sum = λ h. eqb-true stored (body_sum_of body) (pick-both (eqb stored (body_sum_of body)) ok (sym e ∙ h)).0;
      made = some;
      only = λ same x. e ∙ rw (eq-eqb stored (body_sum_of body) same) (test x);
    }

module _ (file output : List ℕ) (bytes : (k : ℕ) → get_or file k 0 < 256) (e : salvage_verdict_of file output ≡ (Ok tt)) where
  lengths : Lengths 1024 65536 262144 (pak_in_form_two file)
  lengths = record { rom-ok = rom-legal; wram-ok = refl; vram-ok = refl; pak-ok = (fit file output e).0 }

  some : (wram vram : ℕ) → Lengths 1024 wram vram (pak_in_form_two file) → (part : Bodies → List ℕ) (body : List ℕ)
      → part (kept_bodies_of (kept_in (pak_in_form_two file) file) (bodies_in Two (pak_in_form_two file) file)) ≡ body → MadeForSome part body
  some wram vram l part body p =
      let n = zero_memory 1024 wram vram (pak_in_form_two file) in
      let a = zero-accepted 1024 wram vram (pak_in_form_two file) l in
      let s = length-replicate {A = ℕ} (pak_in_form_two file) 0 in
      record {
        processor = held_processor_of n (salvaged_output_of file output);
        memory = held_memory_of n (salvaged_output_of file output);
        savable = (salvaged-accepted file output reset_of.processor n bytes e a s).savable;
        made = ap part (held-bodies file output n bytes e s ∙ (kept-exactly file output e).bodies) ∙ p;
      }

pub each-kept-exactly : EachKeptExactly
unfolding kept_in kept_from
each-kept-exactly file output bytes e =
    let pak = pak_in_form_two file in
    let k = kept_in (pak_in_form_two file) file in
    let b = bodies_in Two (pak_in_form_two file) file in
    let chosen = replaced-at-reset [] k b (sized-in (pak_in_form_two file) file Two (whole file output e)) in
    let machine = some file output bytes e 65536 262144 (lengths file output bytes e) in
    record {
      processor = kept-where k.processor (word_at file (sum_place_of 0)) (λ c. c.processor) b.processor (processor_body_ok b.processor) refl
          (λ h. machine (λ c. c.processor) b.processor (chosen.processor.keeps h)) (processor-made b.processor);
      drawing = kept-where k.drawing (word_at file (sum_place_of 1)) (λ c. c.drawing) b.drawing (drawing_body_ok b.drawing) refl
          (λ h. machine (λ c. c.drawing) b.drawing (chosen.drawing.keeps h)) (drawing-made b.drawing);
      wram = kept-where k.wram (word_at file (sum_place_of 2)) (λ c. c.wram) b.wram true refl
          (λ h. machine (λ c. c.wram) b.wram (chosen.wram.keeps h)) (λ x. refl);
      vram = kept-where k.vram (word_at file (sum_place_of 3)) (λ c. c.vram) b.vram true refl
          (λ h. machine (λ c. c.vram) b.vram (chosen.vram.keeps h)) (λ x. refl);
      pak_ram = λ some. kept-where k.pak (word_at file (sum_place_of 4)) (λ c. c.pak) b.pak true
          (rw (ne_eqb (pak_in_form_two file) 0 (λ z. absurd (omega (arith, z, some)))))
          (λ h. machine (λ c. c.pak) b.pak (chosen.pak.keeps h)) (λ x. refl);
      pak_empty = λ none. rw (eq-eqb (pak_in_form_two file) 0 none);
      hardware = kept-where k.hardware (word_at file (last_sum_place (pak_in_form_two file))) (λ c. c.hardware) b.hardware (hardware_body_ok b.hardware) refl
          (λ h. machine (λ c. c.hardware) b.hardware (chosen.hardware.keeps h)) (hardware-made b.hardware);
    }
