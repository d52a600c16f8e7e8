-- I of PSW after an interrupt (paper 02, W6: it "sets I to level + 1"), bit by bit: bits 16 to 19 are the level's four
-- bits, and every other bit stays. The statement; its proof is `level-placed` in proofs/Levelling.
use Rattle.std.specs.Prelude.{ℕ, ◌+◌, ◌<◌, ◌≤◌, ◌≡◌}
use Rattle.word.specs.Bit.{bit_at}
use Rattle.processor_interrupt.specs.Interrupt.{masking_level_of, with_level_of}

pub record LevelAt (level psw after : ℕ) : Type 0 where
  pub masking : masking_level_of after ≡ level
  pub bits : (k : ℕ) → k < 4 → bit_at (16 + k) after ≡ bit_at k level
  pub below : (k : ℕ) → k < 16 → bit_at k after ≡ bit_at k psw
  pub above : (k : ℕ) → 20 ≤ k → bit_at k after ≡ bit_at k psw

abbrev pub LevelPlaced : Type 0
LevelPlaced = (level psw : ℕ) → level < 16 → LevelAt level psw (with_level_of level psw)
