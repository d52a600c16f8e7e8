-- What a salvage leaves of each body (paper 02, W13: it "keeps each body whose stored sum matches and which the writer
-- could have made for some accepted state, and sets every other to reset values (3 to 5: zeros)"): a replaced body is
-- the one that a writer makes of the machine at reset (paper 01: "PC 0xFFFFFFF0, ECR 0xFFF0, PSW 0x8000, all else 0
-- (H), running"), whichever others are replaced. The statement; its proof is `replaced-at-reset`.
use Rattle.std.specs.Prelude.{ℕ, Bool, true, false, List, ◌≡◌, length, replicate}
use Rattle.bus.specs.Memory.{Memory, memory_of}
use Rattle.processor.specs.Calls.{reset_of}
use Rattle.saved_layout.specs.File.{Bodies, SizedBodies}
use Rattle.saved.specs.Body.{machine_bodies_of}
use Rattle.saved_salvage.specs.Keep.{kept_bodies_of}
use Rattle.saved_salvage.specs.declared.Kept.{Kept}

-- memories of zeros, as long as the bodies, with the drawing registers at reset
abbrev pub zero_memory_of : List ℕ → Bodies → Memory
zero_memory_of rom b =
    memory_of rom (replicate (length b.wram) 0) (replicate (length b.vram) 0) (replicate (length b.pak) 0)
    reset_of.drawing.regs

-- a body of the output: the file's where it is kept, reset's where it is not
pub record Chosen (kept : Bool) (body reset output : List ℕ) : Type 0 where
  pub keeps : kept ≡ true → output ≡ body
  pub replaces : kept ≡ false → output ≡ reset

pub record BodyByBody (k : Kept) (b reset output : Bodies) : Type 0 where
  pub processor : Chosen k.processor b.processor reset.processor output.processor
  pub drawing : Chosen k.drawing b.drawing reset.drawing output.drawing
  pub wram : Chosen k.wram b.wram reset.wram output.wram
  pub vram : Chosen k.vram b.vram reset.vram output.vram
  pub pak : Chosen k.pak b.pak reset.pak output.pak
  pub hardware : Chosen k.hardware b.hardware reset.hardware output.hardware

abbrev pub ReplacedAtReset : Type 0
ReplacedAtReset =
    (rom : List ℕ) (k : Kept) (b : Bodies) → SizedBodies b
    → BodyByBody k b (machine_bodies_of reset_of.processor (zero_memory_of rom b)) (kept_bodies_of k b)
