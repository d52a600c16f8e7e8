-- `step-call-accepted`, `run-call-accepted` and `reset-accepted`: the statements of specs/Called.
use Prim.Native.Nat.{ℕ, zero, suc, ◌^◌, ◌<◌}
use mathlib.Core.Bool.{true, false}
use mathlib.Core.List.{List, [], ◌∷◌}
use mathlib.Core.Path.{◌≡◌, refl, ◌∙◌}
use native.Mathlib.Omega.{arith}
use lib.ListN.{length, get_or, replicate}
use Rattle.word.specs.Choose.{pick}
use Rattle.bus_timer.specs.Record.{reset_hardware}
use Rattle.bus_timer.specs.Ports.{control_bits_of, hardware_ok}
use Rattle.bus.specs.Registers.{drawing_ok}
use Rattle.bus.specs.TimerLines.{hardware_in, device_of, registers_ok}
use Rattle.bus.proofs.Devices.{device-whole, device-length, device-ok}
use Rattle.bus.specs.Memory.{Memory}
use Rattle.bus.proofs.Accepted.{lengths-accepted}
use Rattle.processor_machine.specs.State.{State}
use Rattle.processor_machine.specs.System.{psw_bits_of}
use Rattle.processor_step.specs.Step.{step_of}
use Rattle.processor.specs.Acceptance.{even_ok, formats_ok, state_ok, acceptance_at, acceptance_of}
use Rattle.processor.specs.Record.{system_in, state_in, processor_of}
use Rattle.processor.specs.Lines.{bus_of, lent_of}
use Rattle.processor.specs.Run.{run_of}
use Rattle.processor.specs.Calls.{checked_step_of, checked_run_of, reset_of}
use Rattle.processor_laws.specs.Accepted.{Below, Machine}
use Rattle.processor_laws.specs.Called.{StepCallAccepted, RunCallAccepted, ResetAccepted}
use Rattle.processor_laws.proofs.Lists.{Each, each_at}
use Rattle.processor_laws.proofs.Accepting.{step-accepted, run-accepted}

-- numbers below n in a list that is written out
listed : (n : ℕ) (xs : List ℕ) → 0 < n → Each (λ (x : ℕ). x < n) xs → Below n xs
listed n xs h e i = each_at (λ (x : ℕ). x < n) xs i 0 e h

-- a state and its record stand for the same machine
same-acceptance : (s : State) (m : Memory) → acceptance_of (state_in (processor_of s m.regs)) m ≡ acceptance_of s m
unfolding acceptance_at state_ok even_ok formats_ok
same-acceptance s m = refl

same-machine : (s : State) (m : Memory) → Machine s m → Machine (state_in (processor_of s m.regs)) m
same-machine s m h =
    let z = h.sized in
    let w = z.system_words in
    record {
      sized =
          record {
            general = z.general;
            general_words = z.general_words;
            system = refl;
            system_words =
                listed (2 ^ 32) (system_in (processor_of s m.regs)) (omega arith)
                (w 0, (w 1, (w 2, (w 3, (w 4, (w 5, (w 6, (w 7, tt))))))));
            pc_word = z.pc_word;
            psw_word = z.psw_word;
            rom_bytes = z.rom_bytes;
            wram-bytes = z.wram-bytes;
            vram-bytes = z.vram-bytes;
            pak_bytes = z.pak_bytes;
            device = z.device;
          };
      accepted = rw (same-acceptance s m) h.accepted;
    }

-- taken apart and put together again
record-machine : (s : State) (m : Memory) → Machine s m
    → Machine (state_in (processor_of s m.regs)) (bus_of (processor_of s m.regs) (lent_of m))
record-machine s m h = rw (device-whole m.regs h.sized.device) (same-machine s m h)

pub step-call-accepted : StepCallAccepted
unfolding checked_step_of
step-call-accepted p m h =
    let t = step_of (state_in p) (bus_of p m) in
    rw h.accepted (record-machine t.state t.memory (step-accepted (state_in p) (bus_of p m) h))

pub run-call-accepted : RunCallAccepted
unfolding checked_run_of
run-call-accepted budget p m h =
    let r = run_of budget (state_in p) (bus_of p m) in
    rw h.accepted (record-machine r.state r.memory (run-accepted budget (state_in p) (bus_of p m) h))

zeros : (n k i : ℕ) → 0 < k → get_or (replicate n 0) i 0 < k
zeros zero k i h = h
zeros (suc n) k zero h = h
zeros (suc n) k (suc i) h = zeros n k i h

pub reset-accepted : ResetAccepted
unfolding reset_of hardware_in acceptance_at state_ok even_ok formats_ok psw_bits_of
reset-accepted rom wram vram pak l r w v p =
    record {
      sized =
          record {
            general = refl;
            general_words = λ i. zeros 32 (2 ^ 32) i (omega arith);
            system = refl;
            system_words =
                let none : 0 < 2 ^ 32 = omega arith in
                let code : 0xFFF0 < 2 ^ 32 = omega arith in
                listed (2 ^ 32) (0 ∷ 0 ∷ 0 ∷ 0 ∷ 0xFFF0 ∷ 0 ∷ 0 ∷ 0 ∷ []) none
                (none, (none, (none, (none, (code, (none, (none, (none, tt))))))));
            pc_word = omega arith;
            psw_word = omega arith;
            rom_bytes = r;
            wram-bytes = w;
            vram-bytes = v;
            pak_bytes = p;
            device = device-length (replicate 13 0) reset_hardware;
          };
      accepted =
          rw (lengths-accepted (length rom) (length wram) (length vram) (length pak) (device_of (replicate 13 0) reset_hardware) l device);
    }
  where
    records : pick (drawing_ok (replicate 13 0)) (hardware_ok reset_hardware) false ≡ true
    records = unfold drawing_ok hardware_ok control_bits_of in refl

    device : registers_ok (device_of (replicate 13 0) reset_hardware) ≡ true
    device = device-ok (replicate 13 0) reset_hardware ∙ records
