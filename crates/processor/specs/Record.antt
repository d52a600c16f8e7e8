-- The processor's record as the public calls have it, and the state that it stands for (machine, State).
use Rattle.std.specs.Prelude.{ℕ, List, [], ◌∷◌, get_or}
use Rattle.bus.specs.TimerLines.{hardware_in}
use Rattle.processor_machine.specs.State.{State, state_of, eipc_place, eipsw_place, fepc_place, fepsw_place, ecr_place}
use Rattle.processor_machine.specs.State.{sr25_place, sr29_place, sr31_place}
use Rattle.processor.specs.declared.Processor.{Processor}

-- the stored system registers, in the state's order
abbrev pub system_in : Processor → List ℕ
system_in p = p.eipc ∷ p.eipsw ∷ p.fepc ∷ p.fepsw ∷ p.ecr ∷ p.sr25 ∷ p.sr29 ∷ p.sr31 ∷ []

-- the state that a record stands for
abbrev pub state_in : Processor → State
state_in p = state_of p.regs (system_in p) p.pc p.psw p.mode

-- the record of a state and of the device registers
abbrev pub processor_of : State → List ℕ → Processor
processor_of s device =
    record {
      regs = s.regs;
      pc = s.pc;
      eipc = get_or s.sys eipc_place 0;
      eipsw = get_or s.sys eipsw_place 0;
      fepc = get_or s.sys fepc_place 0;
      fepsw = get_or s.sys fepsw_place 0;
      ecr = get_or s.sys ecr_place 0;
      psw = s.psw;
      sr25 = get_or s.sys sr25_place 0;
      sr29 = get_or s.sys sr29_place 0;
      sr31 = get_or s.sys sr31_place 0;
      mode = s.mode;
      hardware = hardware_in device;
    }
