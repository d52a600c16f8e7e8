-- Refusals 1 to 5 of a step and a run (paper 01, "Refusal numbers"): those of the bus, which test the request lines and
-- the timer too (paper 02, W6), then what 5 says of the processor.
use Rattle.std.specs.Prelude.{ℕ, ◌%◌, ◌^◌, Bool, false, List, eqb, leb, get_or, length, Ok}
use Rattle.word.specs.Choose.{pick}
use Rattle.refusal.specs.Number.{unless, then_of, Verdict}
use Rattle.bus.specs.Memory.{Memory, verdict_at}
use Rattle.refusal.specs.declared.Refusal as refusal
use Rattle.processor_machine.specs.State.{State, eipc_place, eipsw_place, fepc_place, fepsw_place, sr25_place, sr31_place}
use Rattle.processor_machine.specs.System.{psw_bits_of}
use Rattle.processor.specs.Record.{state_in}
use Rattle.processor.specs.Lines.{bus_of}
use Rattle.processor.specs.declared.Processor.{Processor}

-- both tests hold
abbrev pub both : Bool → Bool → Bool
both a b = pick a b false

-- an address is even
abbrev pub is_even : ℕ → Bool
is_even a = eqb (a % 2) 0

-- PC, EIPC, FEPC and system register 25 are even
unfoldable pub even_ok : List ℕ → ℕ → Bool
even_ok sys pc =
    both (is_even pc)
    (both (is_even (get_or sys eipc_place 0)) (both (is_even (get_or sys fepc_place 0)) (is_even (get_or sys sr25_place 0))))

-- a PSW format has no bit outside 0x000FF3FF
abbrev pub is_format : ℕ → Bool
is_format v = eqb (psw_bits_of v) v

-- PSW, EIPSW and FEPSW
unfoldable pub formats_ok : List ℕ → ℕ → Bool
formats_ok sys psw =
    both (is_format psw) (both (is_format (get_or sys eipsw_place 0)) (is_format (get_or sys fepsw_place 0)))

-- 5, of the processor: general register 0 is 0, the addresses even, the formats within their bits, and system register
-- 31 at most 0x80000000
unfoldable pub state_ok : List ℕ → List ℕ → ℕ → ℕ → Bool
state_ok regs sys pc psw =
    both (eqb (get_or regs 0 0) 0) (both (even_ok sys pc) (both (formats_ok sys psw) (leb (get_or sys sr31_place 0) (2 ^ 31))))

-- the lowest number whose condition holds
unfoldable pub acceptance_at : (rom wram vram pak : ℕ) (device regs sys : List ℕ) (pc psw : ℕ) → Verdict
acceptance_at rom wram vram pak device regs sys pc psw =
    then_of (verdict_at rom wram vram pak device) (unless (state_ok regs sys pc psw) refusal.TheVariants.State (Ok tt))

-- the same of a state and a memory
abbrev pub acceptance_of : State → Memory → Verdict
acceptance_of s m =
    acceptance_at (length m.rom) (length m.wram) (length m.vram) (length m.pak) m.regs s.regs
    s.sys s.pc s.psw

-- the same of what a public call is given
abbrev pub acceptance_in : Processor → Memory → Verdict
acceptance_in p m = acceptance_of (state_in p) (bus_of p m)
