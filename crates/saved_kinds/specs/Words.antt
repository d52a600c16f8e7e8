-- Kind 1's 43 words of a processor (paper 02, W1): "32 registers, PC, EIPC, EIPSW, FEPC, FEPSW, ECR, PSW, system
-- registers 25 and 29, the value read from 31, mode: 0 running, 1 halted, 2 fatal". The C boundary has the same numbers
-- for the mode.
use Rattle.std.specs.Prelude.{ℕ, List, [], ◌∷◌, ◌++◌, eqb}
use Rattle.word.specs.Choose.{pick}
use Rattle.processor_machine.specs.declared.Mode.{Mode}
use Rattle.processor_machine.specs.declared.Mode.TheVariants.{Running, Halted, Fatal}
use Rattle.processor.specs.declared.Processor.{Processor}

abbrev pub mode_number : Mode → ℕ
mode_number Running = 0
mode_number Halted = 1
mode_number Fatal = 2

-- the mode of a number that is at most 2
abbrev pub mode_of : ℕ → Mode
mode_of n = pick (eqb n 0) Running (pick (eqb n 1) Halted Fatal)

-- the eleven words after the general registers
unfoldable pub rest_of : Processor → List ℕ
rest_of p =
    p.pc
    ∷ p.eipc
    ∷ p.eipsw
    ∷ p.fepc
    ∷ p.fepsw
    ∷ p.ecr
    ∷ p.psw
    ∷ p.sr25
    ∷ p.sr29
    ∷ p.sr31
    ∷ mode_number p.mode
    ∷ []

-- all 43
unfoldable pub record_words_of : Processor → List ℕ
record_words_of p = p.regs ++ rest_of p
