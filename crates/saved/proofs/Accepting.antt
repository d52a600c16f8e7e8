-- What follows from an accepted machine: the lengths of 1 to 4 and the validity of its records by 5; and the reverse. Assumes nothing.
use Rattle.std.specs.Prelude.{Ok, Err}
use Prim.Native.Nat.{ℕ, ◌≤◌}
use native.Mathlib.Omega.{arith}
use mathlib.Core.Bool.{true}
use mathlib.Core.Path.{◌≡◌, refl, sym, ◌∙◌}
use lib.ListN.{length}
use Rattle.word.proofs.Choices.{pick-both}
use Rattle.refusal.specs.Number.{unless, then_of, Verdict}
use Rattle.refusal.specs.declared.Refusal as refusal
use Rattle.bus_timer.specs.Ports.{hardware_ok}
use Rattle.bus.specs.Registers.{drawing_ok}
use Rattle.bus.specs.TimerLines.{device_of, registers_ok}
use Rattle.bus.specs.Memory.{Memory, verdict_at, Lengths}
use Rattle.bus.proofs.Devices.{device-ok}
use Rattle.bus.proofs.Accepted.{accepted-lengths, accepted-registers, lengths-accepted, unless-passed}
use Rattle.processor.specs.Record.{system_in}
use Rattle.processor.specs.Acceptance.{state_ok, acceptance_at, acceptance_in}
use Rattle.processor.specs.declared.Processor.{Processor}
use Rattle.saved_kinds.proofs.Sizes.{pak-small}

then-accepted : (v later : Verdict) → then_of v later ≡ (Ok tt) → (v ≡ (Ok tt)) × (later ≡ (Ok tt))
then-accepted (Ok tt) later e = (refl, e)
then-accepted (Err n) later e =
    let z : ◌≡◌ {A = ℕ} 0 1 = cc in
    absurd (omega arith)

-- what is known of an accepted machine
pub record Passed (p : Processor) (m : Memory) : Type 0 where
  pub lengths : Lengths (length m.rom) (length m.wram) (length m.vram) (length m.pak)
  pub state : state_ok p.regs (system_in p) p.pc p.psw ≡ true
  pub drawing : drawing_ok m.regs ≡ true
  pub hardware : hardware_ok p.hardware ≡ true

module _ (p : Processor) (m : Memory) where
  tests : acceptance_in p m ≡ (Ok tt)
      → (verdict_at (length m.rom) (length m.wram) (length m.vram) (length m.pak) (device_of m.regs p.hardware) ≡ (Ok tt))
      × (unless (state_ok p.regs (system_in p) p.pc p.psw) refusal.TheVariants.State (Ok tt) ≡ (Ok tt))
  unfolding acceptance_at
  tests e =
      then-accepted (verdict_at (length m.rom) (length m.wram) (length m.vram) (length m.pak) (device_of m.regs p.hardware))
      (unless (state_ok p.regs (system_in p) p.pc p.psw) refusal.TheVariants.State (Ok tt)) e

  pub passed : acceptance_in p m ≡ (Ok tt) → Passed p m
  passed e =
      let t = tests e in
      let r = accepted-registers (length m.rom) (length m.wram) (length m.vram) (length m.pak) (device_of m.regs p.hardware) t.0 in
      let d = pick-both (drawing_ok m.regs) (hardware_ok p.hardware) (sym (device-ok m.regs p.hardware) ∙ r) in
      record {
        lengths = accepted-lengths (length m.rom) (length m.wram) (length m.vram) (length m.pak) (device_of m.regs p.hardware) t.0;
        state = (unless-passed (state_ok p.regs (system_in p) p.pc p.psw) refusal.TheVariants.State (Ok tt) t.1).0;
        drawing = d.0;
        hardware = d.1;
      }

  pub accepts : Passed p m → acceptance_in p m ≡ (Ok tt)
  unfolding acceptance_at
  accepts t =
      let r : registers_ok (device_of m.regs p.hardware) ≡ true = device-ok m.regs p.hardware ∙ rw (t.drawing, t.hardware) in
      let v = lengths-accepted (length m.rom) (length m.wram) (length m.vram) (length m.pak) (device_of m.regs p.hardware) t.lengths r in
      rw (v, t.state)

  pub small : acceptance_in p m ≡ (Ok tt) → length m.pak ≤ 16777216
  small e = pak-small (length m.pak) (passed e).lengths.pak-ok
