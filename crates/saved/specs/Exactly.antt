-- "Reading gives the state written", refusal 10 exactly, what a move writes, and that a move and a writer mean one
-- refusal 16 (paper 02, W1 and W12): the statements. Their proofs are `read-written`, `written-exactly`, `move-writes`
-- and `sixteen-agrees` in proofs/.
use Rattle.std.specs.Prelude.{ℕ, ◌^◌, ◌<◌, true, false, List, ◌≡◌, length, get_or, Ok}
use Rattle.bus_timer.specs.declared.TimerLines.{TimerLines}
use Rattle.bus.specs.Memory.{Memory, memory_of}
use Rattle.processor.specs.Acceptance.{acceptance_in}
use Rattle.processor.specs.declared.Processor.{Processor}
use Rattle.saved_bytes.specs.Numbers.{bytes_of}
use Rattle.saved_layout.specs.Layout.{other_of, file_length_of}
use Rattle.saved_layout.specs.declared.Form.{Form}
use Rattle.saved_kinds.specs.Fits.{form_of, pak_length_of}
use Rattle.saved_kinds.specs.Kinds.{file_ok}
use Rattle.saved_move.specs.Move.{holds_body_ok, move_verdict_of, moved_of}
use Rattle.saved.specs.Body.{lines_of}
use Rattle.saved_kinds.specs.Words.{record_words_of}
use Rattle.saved.specs.Calls.{state_file_of, held_processor_of, held_memory_of, holds_ok, restored_of, read_back_of}

-- a machine that 1 to 5 accept and a form holds, with the sizes that the Rattle types give any call: 32 general
-- registers, words of 32 bits, 13 drawing registers and the fields of lines and timer of 16
pub record Savable (form : Form) (p : Processor) (m : Memory) : Type 0 where
  pub accepted : acceptance_in p m ≡ (Ok tt)
  pub held : holds_ok form p.hardware ≡ true
  pub general : length p.regs ≡ 32
  pub words : (k : ℕ) → get_or (record_words_of p) k 0 < 2 ^ 32
  pub drawing : length m.regs ≡ 13
  pub halves : (k : ℕ) → get_or m.regs k 0 < 65536
  pub lines : (k : ℕ) → get_or (lines_of p.hardware) k 0 < 65536

-- what was written for an accepted machine is read, with any accepted machine that has pak RAM of the same length,
-- without refusal and gives that machine: both records and every byte of WRAM, VRAM and pak RAM. In form 1 lines and
-- timer are at reset
abbrev pub ReadWritten : Form → Type 0
ReadWritten form =
    (p q : Processor) (m n : Memory) → Savable form p m → acceptance_in q n ≡ (Ok tt)
    → length n.pak ≡ length m.pak
    → read_back_of q n (state_file_of form p m)
    ≡ restored_of (Ok tt) p (memory_of n.rom m.wram m.vram m.pak m.regs)

-- a file of the due length of its form is refused by 10 exactly when no accepted machine is written as it; and what
-- was read, written again in that form, is the file
pub record Exactly (n : Memory) (file : List ℕ) : Type 0 where
  pub refused : file_ok (form_of file) (length n.pak) file ≡ false
      → (p : Processor) (m : Memory) → Savable (form_of file) p m → length m.pak ≡ length n.pak
      → state_file_of (form_of file) p m ≡ file → ⊥
  pub made : file_ok (form_of file) (length n.pak) file ≡ true
      → Savable (form_of file) (held_processor_of n file) (held_memory_of n file)
      × ((length (held_memory_of n file).pak ≡ length n.pak)
      × (state_file_of (form_of file) (held_processor_of n file) (held_memory_of n file) ≡ file))

abbrev pub WrittenExactly : Type 0
WrittenExactly =
    (q : Processor) (n : Memory) (file : List ℕ) → acceptance_in q n ≡ (Ok tt)
    → length file ≡ file_length_of (form_of file) (length n.pak)
    → ((k : ℕ) → get_or file k 0 < 256)
    → Exactly n file

-- "writes what the other form's writer makes for the state held": an accepted move leaves the file, in the other form,
-- of the machine that reading gives with a memory whose pak RAM has the length that follows from the file's
abbrev pub MoveWrites : Type 0
MoveWrites =
    (file output : List ℕ) (n : Memory) → ((k : ℕ) → get_or file k 0 < 256) → move_verdict_of file output ≡ (Ok tt)
    → length n.pak ≡ pak_length_of (form_of file) (length file)
    → moved_of file output ≡ state_file_of (other_of (form_of file)) (held_processor_of n file) (held_memory_of n file)

-- 16 of a writer is 16 of a move: a form holds lines and timer exactly where it holds their body
abbrev pub SixteenAgrees : Type 0
SixteenAgrees =
    (form : Form) (h : TimerLines) → ((k : ℕ) → get_or (lines_of h) k 0 < 65536)
    → holds_ok form h ≡ holds_body_ok form (bytes_of (lines_of h))
