-- What a list of accesses answers and leaves, for every input (paper 02, W7): "Refusal 11, after 1 to 5 and before any
-- access". A refusal changes nothing, the list among it.
use Rattle.std.specs.Prelude.{ℕ, List, length, Ok, Err}
use Rattle.refusal.specs.Number.{unless, then_of, Verdict}
use Rattle.refusal.specs.declared.Refusal.TheVariants.{AccessList}
use Rattle.bus.specs.Memory.{Memory, verdict_at}
use Rattle.bus_list.specs.List.{count_of, Made, made_of, accesses_of, list_ok}

-- the verdict by the memories' lengths, the registers and the list
unfoldable pub list_verdict_at : ℕ → ℕ → ℕ → ℕ → List ℕ → List ℕ → Verdict
list_verdict_at rom wram vram pak regs xs =
    then_of (verdict_at rom wram vram pak regs) (unless (list_ok xs) AccessList (Ok tt))

abbrev pub list_verdict_of : Memory → List ℕ → Verdict
list_verdict_of m xs =
    list_verdict_at (length m.rom) (length m.wram) (length m.vram) (length m.pak) m.regs xs

-- what is left: the second unless refused
abbrev pub made_when : Verdict → Made → Made → Made
made_when (Ok tt) before after = after
made_when (Err n) before after = before

-- memory and the list afterwards
unfoldable pub access_list_of : Memory → List ℕ → Made
access_list_of m xs = made_when (list_verdict_of m xs) (made_of m xs) (accesses_of (count_of xs) 0 m xs)
