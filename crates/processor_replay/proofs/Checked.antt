-- What the public call's definition comes to, by the tests that the call made. Assumes nothing.
use Rattle.std.specs.Prelude.{Ok, Err}
use Rattle.std.proofs.Common.{◌≡◌, ℕ, ◌%◌, List, length, sym, refl, ap, ◌∙◌, arith, eq-eqb, ne_eqb}
use Rattle.refusal.specs.declared.Refusal.{Refusal}
use Rattle.refusal.specs.Number.{unless, then_of, Verdict}
use Rattle.refusal.specs.declared.Refusal.TheVariants.{State, TraceLength}
use Rattle.bus.specs.TimerLines.{device_of}
use Rattle.bus.specs.Memory.{Memory, Lengths, with_regs, verdict_at}
use Rattle.bus.proofs.Accepted.{accepted-lengths}
use Rattle.processor_machine.specs.State.{state_of}
use Rattle.processor.specs.Record.{system_in, processor_of}
use Rattle.processor.specs.Lines.{lent_of}
use Rattle.processor.specs.Acceptance.{state_ok, acceptance_at, acceptance_in}
use Rattle.processor.specs.declared.Processor.{Processor}
use Rattle.processor_replay.specs.declared.End.TheVariants.{Refused}
use Rattle.processor_replay.specs.Replay.{Replay, records_of, replay_of}
use Rattle.processor_replay.specs.Calls.{replay_verdict_of, replayed_of, checked_replay_of}

module _ (p : Processor) (m : Memory) (trace : List ℕ) (v : Verdict) (tested : v ≡ acceptance_in p m) where
  pub replay-refused : (n : Refusal) → v ≡ Err n → replayed_of (Refused n) 0 p m ≡ checked_replay_of p m trace
  unfolding checked_replay_of replay_verdict_of
  replay-refused n h = rw (← tested, h)

  pub replay-odd : v ≡ (Ok tt) → (length trace % 16 ≡ 0 → ⊥) → replayed_of (Refused TraceLength) 0 p m ≡ checked_replay_of p m trace
  unfolding checked_replay_of replay_verdict_of
  replay-odd h odd = rw (← tested, h, ne_eqb (length trace % 16) 0 odd)

  pub replay-done : v ≡ (Ok tt) → length trace % 16 ≡ 0 → (sys d : List ℕ) → sys ≡ system_in p → d ≡ device_of m.regs p.hardware
      → (r : Replay) → r ≡ replay_of (records_of trace) 0 trace (state_of p.regs sys p.pc p.psw p.mode) (with_regs m d)
      → replayed_of r.end r.agreed (processor_of r.state r.memory.regs) (lent_of r.memory) ≡ checked_replay_of p m trace
  unfolding checked_replay_of replay_verdict_of
  replay-done h whole sys d held assembled r e =
      rw (← tested, h, eq-eqb (length trace % 16) 0 whole)
      (ap (λ (u : Replay). replayed_of u.end u.agreed (processor_of u.state u.memory.regs) (lent_of u.memory)) (rw (held, assembled) at e))

first-accepted : (v later : Verdict) → then_of v later ≡ (Ok tt) → v ≡ (Ok tt)
first-accepted (Ok tt) later e = refl
first-accepted (Err n) later e =
    let z : ◌≡◌ {A = ℕ} 0 1 = cc in
    absurd (omega arith)

-- the lengths of an accepted call's memories
pub accepted-memories : (p : Processor) (m : Memory) (v : Verdict) → v ≡ acceptance_in p m → v ≡ (Ok tt)
    → Lengths (length m.rom) (length m.wram) (length m.vram) (length m.pak)
unfolding acceptance_at
accepted-memories p m v e h =
    let d = device_of m.regs p.hardware in
    let bus = verdict_at (length m.rom) (length m.wram) (length m.vram) (length m.pak) d in
    let later = unless (state_ok p.regs (system_in p) p.pc p.psw) State (Ok tt) in
    accepted-lengths (length m.rom) (length m.wram) (length m.vram) (length m.pak) d
    (first-accepted bus later (sym e ∙ h))
