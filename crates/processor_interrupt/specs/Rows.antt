-- Worked rows of W6: what an interrupt leaves of PC, PSW, EIPC, EIPSW and ECR, and which lines are not accepted.
use Rattle.std.specs.Prelude.{ℕ, true, false, List, [], ◌∷◌, map, ◌≡◌, refl, get_or, replicate}
use Rattle.processor_arithmetic.specs.Flag.{regular_of}
use Rattle.processor_machine.specs.State.{state_of, eipc_place, eipsw_place, ecr_place}
use Rattle.processor_machine.specs.declared.Mode.{Mode}
use Rattle.processor_machine.specs.declared.Mode.TheVariants.{Running, Halted, Fatal}
use Rattle.processor_interrupt.specs.Interrupt.{level_of, allows_of, accepts_of, with_level_of, interrupted_of}

-- a machine with these lines, PSW and mode, at 0x07000100
pub record InterruptRow : Type 0 where
  pub lines : ℕ
  pub psw : ℕ
  pub mode : Mode

abbrev interrupt_row : ℕ → ℕ → Mode → InterruptRow
interrupt_row lines psw mode = record { lines = lines; psw = psw; mode = mode }

-- PC, PSW, EIPC, EIPSW and ECR after the entry
abbrev entered_of : InterruptRow → List ℕ
entered_of r =
    let s = interrupted_of (level_of r.lines)
    (state_of (replicate 32 0) (replicate 8 0) 0x07000100 r.psw r.mode) in
    s.pc ∷ s.psw ∷ get_or s.sys eipc_place 0 ∷ get_or s.sys eipsw_place 0 ∷ get_or s.sys ecr_place 0 ∷ []

abbrev pub accepted_rows : List InterruptRow
accepted_rows = interrupt_row 0x12 0 Running ∷ interrupt_row 0x06 0x20000 Running ∷ interrupt_row 0x01 0x2000 Halted ∷ []

pub accepted-rows :
    map (λ (r : InterruptRow). accepts_of r.lines r.psw r.mode) accepted_rows ≡ true ∷ true ∷ true ∷ []
unfolding accepts_of level_of allows_of
accepted-rows = refl

pub entered-rows : map entered_of accepted_rows
    ≡ (0xFFFFFE40 ∷ 0x00055000 ∷ 0x07000100 ∷ 0 ∷ 0xFE40 ∷ [])
    ∷ (0xFFFFFE20 ∷ 0x00035000 ∷ 0x07000100 ∷ 0x20000 ∷ 0xFE20 ∷ [])
    ∷ (0xFFFFFE00 ∷ 0x00015000 ∷ 0x07000100 ∷ 0x2000 ∷ 0xFE00 ∷ [])
    ∷ []
unfolding interrupted_of level_of with_level_of regular_of
entered-rows = refl

abbrev pub masked_rows : List InterruptRow
masked_rows =
    interrupt_row 0x02 0x20000 Running
    ∷ interrupt_row 0x1F 0x1000 Running
    ∷ interrupt_row 0x1F 0x4000 Running
    ∷ interrupt_row 0x1F 0x8000 Running
    ∷ interrupt_row 0x1F 0x50000 Running
    ∷ interrupt_row 0x1F 0 Fatal
    ∷ interrupt_row 0 0 Running
    ∷ []

pub masked-rows : map (λ (r : InterruptRow). accepts_of r.lines r.psw r.mode) masked_rows
    ≡ false ∷ false ∷ false ∷ false ∷ false ∷ false ∷ false ∷ []
unfolding accepts_of level_of allows_of
masked-rows = refl
