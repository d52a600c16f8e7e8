-- An accepted machine stays accepted (paper 01, "Refusal numbers" 1 to 5), so that a run tests 1 to 5 once: the
-- statements. Their proofs are `step-accepted`, `run-accepted`, `run-count`, `machine-accepted-means` and
-- `machine-means-accepted` in proofs/Accepting.
use Rattle.std.specs.Prelude.{ℕ, ◌%◌, ◌^◌, ◌≤◌, ◌<◌, List, ◌≡◌, length, get_or, Ok}
use Rattle.std.specs.Int.Bits.{bit_and}
use Rattle.bus_timer.specs.Accepted as hardware
use Rattle.bus.specs.Registers.{width_of}
use Rattle.bus.specs.TimerLines.{device_length, hardware_in}
use Rattle.bus.specs.Memory.{Memory, Lengths}
use Rattle.processor_machine.specs.State.{State}
use Rattle.processor_machine.specs.System.{psw_mask}
use Rattle.processor_step.specs.Step.{step_of}
use Rattle.processor.specs.Acceptance.{acceptance_of}
use Rattle.processor.specs.Run.{run_of}

-- each number of a list is below n; past the end `get_or` gives 0
abbrev pub Below : ℕ → List ℕ → Type 0
Below n xs = (i : ℕ) → get_or xs i 0 < n

-- the sizes that the Rattle types give for any call: 32 general and 8 stored system registers, PC and PSW of 32 bits,
-- memories of bytes, all device registers
pub record Sized (s : State) (m : Memory) : Type 0 where
  pub general : length s.regs ≡ 32
  pub general_words : Below (2 ^ 32) s.regs
  pub system : length s.sys ≡ 8
  pub system_words : Below (2 ^ 32) s.sys
  pub pc_word : s.pc < 2 ^ 32
  pub psw_word : s.psw < 2 ^ 32
  pub rom_bytes : Below 256 m.rom
  pub wram-bytes : Below 256 m.wram
  pub vram-bytes : Below 256 m.vram
  pub pak_bytes : Below 256 m.pak
  pub device : length m.regs ≡ device_length

-- a machine that a call is given and does not refuse by 1 to 5
pub record Machine (s : State) (m : Memory) : Type 0 where
  pub sized : Sized s m
  pub accepted : acceptance_of s m ≡ (Ok tt)

-- a step leaves an accepted machine
abbrev pub StepAccepted : Type 0
StepAccepted = (s : State) (m : Memory) → Machine s m → Machine (step_of s m).state (step_of s m).memory

-- a run of any budget leaves an accepted machine
abbrev pub RunAccepted : Type 0
RunAccepted =
    (budget : ℕ) (s : State) (m : Memory) → Machine s m → Machine (run_of budget s m).state (run_of budget s m).memory

-- "A run does at most the given number of instructions"
abbrev pub RunCount : Type 0
RunCount = (budget : ℕ) (s : State) (m : Memory) → (run_of budget s m).count ≤ budget

-- what 5 then says: EIPC, EIPSW, FEPC, FEPSW, 25 and 31 are 0, 1, 2, 3, 5 and 7 of the stored system registers; of the
-- device registers it tests the drawing registers, and what bus_timer says of the request lines and the timer
pub record MachineMeans (s : State) (m : Memory) : Type 0 where
  pub zero_register : get_or s.regs 0 0 ≡ 0
  pub pc_even : s.pc % 2 ≡ 0
  pub eipc_even : get_or s.sys 0 0 % 2 ≡ 0
  pub fepc_even : get_or s.sys 2 0 % 2 ≡ 0
  pub sr25_even : get_or s.sys 5 0 % 2 ≡ 0
  pub psw_bits : bit_and s.psw psw_mask ≡ s.psw
  pub eipsw_bits : bit_and (get_or s.sys 1 0) psw_mask ≡ get_or s.sys 1 0
  pub fepsw_bits : bit_and (get_or s.sys 3 0) psw_mask ≡ get_or s.sys 3 0
  pub sr31_most : get_or s.sys 7 0 ≤ 0x80000000
  pub drawing_widths : (k : ℕ) → k < 13 → get_or m.regs k 0 < 2 ^ width_of k
  pub lines_and_timer : hardware.Means (hardware_in m.regs)

abbrev pub MachineAcceptedMeans : Type 0
MachineAcceptedMeans = (s : State) (m : Memory) → Machine s m → MachineMeans s m

-- and 5 is given only then: a call whose memories have the right lengths is accepted where all of these hold
abbrev pub MachineMeansAccepted : Type 0
MachineMeansAccepted =
    (s : State) (m : Memory) → Lengths (length m.rom) (length m.wram) (length m.vram) (length m.pak)
    → MachineMeans s m
    → acceptance_of s m ≡ (Ok tt)
