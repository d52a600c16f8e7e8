-- The processor's record at the C boundary (include/vb.h, `vb_processor`): the same words, the mode as the number that
-- a saved state has for it (VB_RUNNING, VB_HALTED, VB_FATAL); and what a call answers where that is above 2.
use Rattle.std.specs.Prelude.{ℕ, ltb}
use Rattle.word.specs.Choose.{pick}
use Rattle.bus.specs.Memory.{Memory}
use Rattle.processor.specs.Acceptance.{acceptance_in}
use Rattle.processor.specs.declared.Processor.{Processor}
use Rattle.saved_kinds.specs.Words.{mode_number, mode_of}
use Rattle.capi_bus.specs.Misuse.{misuse_number}
use Rattle.capi_bus.specs.TimerLines.{hardware_given, hardware_out}
use Rattle.capi_processor.specs.declared.record.VbProcessor.{VbProcessor}

-- the record that a boundary record stands for, and back
unfoldable pub processor_in : VbProcessor → Processor
processor_in p =
    record {
      regs = p.regs;
      pc = p.pc;
      eipc = p.eipc;
      eipsw = p.eipsw;
      fepc = p.fepc;
      fepsw = p.fepsw;
      ecr = p.ecr;
      psw = p.psw;
      sr25 = p.sr25;
      sr29 = p.sr29;
      sr31 = p.sr31;
      mode = mode_of p.mode;
      hardware = hardware_given p.hardware;
    }

unfoldable pub processor_out : Processor → VbProcessor
processor_out p =
    record {
      regs = p.regs;
      pc = p.pc;
      eipc = p.eipc;
      eipsw = p.eipsw;
      fepc = p.fepc;
      fepsw = p.fepsw;
      ecr = p.ecr;
      psw = p.psw;
      sr25 = p.sr25;
      sr29 = p.sr29;
      sr31 = p.sr31;
      mode = mode_number p.mode;
      hardware = hardware_out p.hardware;
    }

-- a mode above 2 is VB_MISUSE, after 1 to 5: `misused` makes the answer of that number, `done` is what the call answers
-- for the three modes
abbrev pub unless_misused : {A : Type 0} (p : VbProcessor) (m : Memory) (misused : ℕ → A) (done : A) → A
unless_misused p m misused done =
    pick (ltb 2 p.mode) (misused (misuse_number (acceptance_in (processor_in p) m))) done
