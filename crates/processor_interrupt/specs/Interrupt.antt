-- Interrupts (paper 02, W6; document 000, "Interrupt", "List of Exceptions"): which raised line is accepted, and the
-- entry of its level. The five lines are one number, bit n that of level n: 0 pad, 1 timer, 2 game pak, 3 link, 4 VIP.
use Rattle.std.specs.Prelude.{ℕ, ◌+◌, ◌*◌, ◌/◌, ◌%◌, ◌^◌, Bool, true, false, eqb, leb, get_or, set}
use Rattle.word.specs.Bit.{bit_at, is_set}
use Rattle.word.specs.Choose.{pick}
use Rattle.processor_arithmetic.specs.Flag.{regular_of, id_flag, ep_flag, np_flag}
use Rattle.processor_machine.specs.State.{eipc_place, eipsw_place, ecr_place, State, state_of}
use Rattle.processor_machine.specs.declared.Mode.{Mode}
use Rattle.processor_machine.specs.declared.Mode.TheVariants.{Running, Halted, Fatal}

-- the line of level n
abbrev pub line_of : ℕ → ℕ → ℕ
line_of n lines = bit_at n lines

-- I, bits 19 to 16 of PSW
abbrev pub masking_level_of : ℕ → ℕ
masking_level_of psw = psw / 2 ^ 16 % 2 ^ 4

-- the highest raised level, where a line is raised: "the highest such level wins"
unfoldable pub level_of : ℕ → ℕ
level_of lines =
    pick (eqb (line_of 4 lines) 1) 4
    (pick (eqb (line_of 3 lines) 1) 3 (pick (eqb (line_of 2 lines) 1) 2 (pick (eqb (line_of 1 lines) 1) 1 0)))

-- "at least I while NP, EP and ID are all clear"
unfoldable pub allows_of : ℕ → ℕ → Bool
allows_of psw level =
    pick (is_set np_flag psw) false
    (pick (is_set ep_flag psw) false (pick (is_set id_flag psw) false (leb (masking_level_of psw) level)))

-- "Running or halted"
abbrev pub awake_of : Mode → Bool
awake_of Running = true
awake_of Halted = true
awake_of Fatal = false

-- whether an interrupt is accepted: if any raised line's level is at least I, the highest raised one's is
unfoldable pub accepts_of : ℕ → ℕ → Mode → Bool
accepts_of lines psw mode =
    pick (eqb (lines % 32) 0) false (pick (awake_of mode) (allows_of psw (level_of lines)) false)

-- "codes are 0xFE00 plus 16 times the level, handlers as in the Scroll"
abbrev pub interrupt_code_of : ℕ → ℕ
interrupt_code_of level = 0xFE00 + 16 * level

abbrev pub interrupt_handler_of : ℕ → ℕ
interrupt_handler_of level = 0xFFFFFE00 + 16 * level

-- PSW with I replaced
unfoldable pub with_level_of : ℕ → ℕ → ℕ
with_level_of level psw = psw / 2 ^ 20 * 2 ^ 20 + level * 2 ^ 16 + psw % 2 ^ 16

-- the entry: as a regular exception's, "and sets I to level + 1"; a halted machine wakes. The restore PC is the
-- record's: HALT has moved it past itself
unfoldable pub interrupted_of : ℕ → State → State
interrupted_of level s =
    let sys = set (set s.sys eipc_place s.pc) eipsw_place s.psw in
    state_of s.regs (set sys ecr_place (get_or sys ecr_place 0 / 2 ^ 16 * 2 ^ 16 + interrupt_code_of level))
    (interrupt_handler_of level)
    (with_level_of (level + 1) (regular_of s.psw)) Running
