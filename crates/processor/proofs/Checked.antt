-- What the public calls' definitions come to where none of refusals 1 to 5 holds.
use Rattle.std.specs.Prelude.{Ok}
use Rattle.refusal.specs.Number.{Verdict}
use Prim.Native.Nat.{ℕ}
use mathlib.Core.List.{List}
use mathlib.Core.Path.{◌≡◌, sym, ap, ◌∙◌}
use lib.ListN.{length}
use Rattle.bus.specs.TimerLines.{device_of}
use Rattle.bus.specs.Memory.{Memory, with_regs}
use Rattle.processor_machine.specs.State.{state_of, Stepped}
use Rattle.processor_step.specs.Step.{step_of, fetched_of}
use Rattle.processor_step.specs.declared.step.Fetched.{Fetched}
use Rattle.processor_undefined.specs.Reads.{read_of, undefined_when, undefined_step_of}
use Rattle.processor_undefined.specs.declared.Undefined.{Undefined}
use Rattle.processor.specs.Record.{system_in, processor_of}
use Rattle.processor.specs.Lines.{lent_of}
use Rattle.processor.specs.Acceptance.{acceptance_at, acceptance_in}
use Rattle.processor.specs.Run.{Run, run_of}
use Rattle.processor.specs.Calls.{done_of, ran_of, checked_step_of, checked_run_of}
use Rattle.processor.specs.declared.Processor.{Processor}

module _ (p : Processor) (m : Memory) (sys d : List ℕ) (v : Verdict) (held : sys ≡ system_in p) (assembled : d ≡ device_of
    m.regs p.hardware) (tested : v ≡ acceptance_at (length m.rom) (length m.wram) (length m.vram) (length
    m.pak) d p.regs sys p.pc p.psw) (accepted : v ≡ (Ok tt)) where
  passed : acceptance_in p m ≡ (Ok tt)
  passed = rw (← assembled, ← held) (sym tested ∙ accepted)

  pub step-accepted : (t : Stepped) → t ≡ step_of (state_of p.regs sys p.pc p.psw p.mode) (with_regs m d)
      → (f : Fetched) → f ≡ fetched_of (state_of p.regs sys p.pc p.psw p.mode) (with_regs m d)
      → (u : Undefined) → u ≡ undefined_when t.answer (read_of f (state_of p.regs sys p.pc p.psw p.mode) (with_regs m d))
      → done_of t.answer u (processor_of t.state t.memory.regs) (lent_of t.memory) ≡ checked_step_of p m
  unfolding checked_step_of undefined_step_of
  step-accepted t e f g u h = rw passed (rw (h, g, e, held, assembled))

  pub run-accepted : (budget : ℕ) (t : Run) → t ≡ run_of budget (state_of p.regs sys p.pc p.psw p.mode) (with_regs m d)
      → ran_of t.verdict t.count (processor_of t.state t.memory.regs) (lent_of t.memory) ≡ checked_run_of budget p m
  unfolding checked_run_of
  run-accepted budget t e =
      rw passed
      (ap (λ (u : Run). ran_of u.verdict u.count (processor_of u.state u.memory.regs) (lent_of u.memory)) (rw (held, assembled) at e))
