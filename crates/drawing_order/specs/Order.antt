-- Strips in any order, and drawings of the two frames swapped (paper 02, W14): the statements. Their proofs are
-- `any_order`, `frames-swap` and `lists-swap` in proofs/. They hold for every list given as VRAM, for all registers,
-- frame and strip numbers: a refused call leaves VRAM as it is, so that it counts as absent.
use Rattle.std.specs.Prelude.{ℕ, ◌<◌, true, List, [], ◌∷◌, ◌≡◌}
use Rattle.word.specs.Choose.{member}
use Rattle.drawing.specs.Calls.{draw_strip_of, draw_frame_of}
use Rattle.drawing_laws.specs.Drawn.{Call, drawn_by}

-- VRAM after strip calls for one frame, with one set of registers, one for each number of a list and in its order
unfoldable pub after_strips_of : List ℕ → List ℕ → ℕ → List ℕ → List ℕ
after_strips_of vram regs frame [] = vram
after_strips_of vram regs frame (s ∷ rest) = after_strips_of (draw_strip_of vram regs frame s) regs frame rest

-- a list that names each of 0 to 27 at least once
abbrev pub NamesEach : List ℕ → Type 0
NamesEach strips = (s : ℕ) → s < 28 → member s strips ≡ true

-- strip calls that name each strip, in any order, leave exactly the memory that the frame call leaves
abbrev pub AnyOrder : Type 0
AnyOrder =
    (vram regs : List ℕ) (frame : ℕ) (strips : List ℕ) → NamesEach strips
    → after_strips_of vram regs frame strips ≡ draw_frame_of vram regs frame

-- a drawing: the frame call or a strip call, with its own registers
pub record Drawing : Type 0 where
  pub call : Call
  pub regs : List ℕ

-- VRAM after a drawing of a frame
abbrev pub strips_drawn_of : List ℕ → ℕ → Drawing → List ℕ
strips_drawn_of vram frame d = drawn_by vram d.regs frame d.call

-- VRAM after a list of drawings of one frame
unfoldable pub all_drawn_of : List ℕ → ℕ → List Drawing → List ℕ
all_drawn_of vram frame [] = vram
all_drawn_of vram frame (d ∷ rest) = all_drawn_of (strips_drawn_of vram frame d) frame rest

-- two frame numbers that differ, as 0 and 1 do
abbrev pub Differ : ℕ → ℕ → Type 0
Differ frame another = frame ≡ another → ⊥

-- drawings of two frames may be swapped
abbrev pub FramesSwap : Type 0
FramesSwap =
    (vram : List ℕ) (frame another : ℕ) (one other : Drawing) → Differ frame another
    → strips_drawn_of (strips_drawn_of vram frame one) another other
    ≡ strips_drawn_of (strips_drawn_of vram another other) frame one

-- and so may two lists of drawings
abbrev pub ListsSwap : Type 0
ListsSwap =
    (vram : List ℕ) (frame another : ℕ) (ones others : List Drawing) → Differ frame another
    → all_drawn_of (all_drawn_of vram frame ones) another others ≡ all_drawn_of (all_drawn_of vram another others) frame ones
