-- Which bodies a salvage keeps (paper 02, W13): it "keeps each body whose stored sum matches and which the writer could
-- have made for some accepted state", and no other. The statement; its proof is `each-kept-exactly`.
use Rattle.std.specs.Prelude.{ℕ, ◌<◌, Bool, true, List, ◌≡◌, get_or, Ok}
use Rattle.word.specs.LittleEndian.{word_at}
use Rattle.bus.specs.Memory.{Memory}
use Rattle.processor.specs.declared.Processor.{Processor}
use Rattle.saved_bytes.specs.Parts.{body_sum_of}
use Rattle.saved_layout.specs.Layout.{sum_place_of}
use Rattle.saved_layout.specs.File.{Bodies, bodies_in}
use Rattle.saved_layout.specs.declared.Form.TheVariants.{Two}
use Rattle.saved.specs.Body.{machine_bodies_of}
use Rattle.saved.specs.Exactly.{Savable}
use Rattle.saved_salvage.specs.Keep.{last_sum_place, kept_in}
use Rattle.saved_salvage.specs.Salvage.{pak_in_form_two, salvage_verdict_of}
use Rattle.saved_salvage.specs.declared.Kept.{Kept}

-- form 2's writer makes this body for some machine that 1 to 5 accept; `part` says which of the machine's bodies it is
pub record MadeForSome (part : Bodies → List ℕ) (body : List ℕ) : Type 0 where
  pub processor : Processor
  pub memory : Memory
  pub savable : Savable Two processor memory
  pub made : part (machine_bodies_of processor memory) ≡ body

-- a body is kept exactly where the stored sum is its own and a writer makes it for some accepted machine
pub record KeptWhere (kept : Bool) (stored : ℕ) (part : Bodies → List ℕ) (body : List ℕ) : Type 0 where
  pub sum : kept ≡ true → stored ≡ body_sum_of body
  pub made : kept ≡ true → MadeForSome part body
  pub only : stored ≡ body_sum_of body → MadeForSome part body → kept ≡ true

-- body by body, each with the sum at its own place; empty pak RAM has neither
pub record EachKept (file : List ℕ) (pak : ℕ) (k : Kept) (b : Bodies) : Type 0 where
  pub processor : KeptWhere k.processor (word_at file (sum_place_of 0)) (λ c. c.processor) b.processor
  pub drawing : KeptWhere k.drawing (word_at file (sum_place_of 1)) (λ c. c.drawing) b.drawing
  pub wram : KeptWhere k.wram (word_at file (sum_place_of 2)) (λ c. c.wram) b.wram
  pub vram : KeptWhere k.vram (word_at file (sum_place_of 3)) (λ c. c.vram) b.vram
  pub pak_ram : 0 < pak → KeptWhere k.pak (word_at file (sum_place_of 4)) (λ c. c.pak) b.pak
  pub pak_empty : pak ≡ 0 → k.pak ≡ true
  pub hardware : KeptWhere k.hardware (word_at file (last_sum_place pak)) (λ c. c.hardware) b.hardware

abbrev pub EachKeptExactly : Type 0
EachKeptExactly =
    (file output : List ℕ) → ((k : ℕ) → get_or file k 0 < 256) → salvage_verdict_of file output ≡ (Ok tt)
    → EachKept file (pak_in_form_two file) (kept_in (pak_in_form_two file) file) (bodies_in Two (pak_in_form_two file) file)
