-- Which bodies a salvage keeps (paper 02, W13): it "keeps each body whose stored sum matches and which the writer could
-- have made for some accepted state, and sets every other to reset values (3 to 5: zeros)". A stored sum is the word at
-- its own place in the contents, whatever stands next to it; pak RAM that is empty has no entry and no body, and counts
-- as kept.
use Rattle.std.specs.Prelude.{ℕ, Bool, true, List, eqb, length, replicate}
use Rattle.word.specs.Choose.{pick}
use Rattle.word.specs.LittleEndian.{word_at}
use Rattle.processor.specs.Acceptance.{both}
use Rattle.processor.specs.Calls.{reset_of}
use Rattle.saved_bytes.specs.Numbers.{bytes_of, halves_of}
use Rattle.saved_bytes.specs.Parts.{body_sum_of}
use Rattle.saved_layout.specs.Layout.{sum_place_of}
use Rattle.saved_layout.specs.File.{Bodies, bodies_of, bodies_in}
use Rattle.saved_layout.specs.declared.Form.TheVariants.{Two}
use Rattle.saved_kinds.specs.Kinds.{processor_body_ok, drawing_body_ok, hardware_body_ok}
use Rattle.saved_kinds.specs.Words.{record_words_of}
use Rattle.saved_salvage.specs.declared.Kept.{Kept}

-- whether a body is kept, by its stored sum and whether a writer can have made it
abbrev pub keeps_of : ℕ → List ℕ → Bool → Bool
keeps_of stored body made = both (eqb stored (body_sum_of body)) made

-- the stored sum of kind 6 stands in the last entry: the fifth where pak RAM is empty, else the sixth
abbrev pub last_sum_place : ℕ → ℕ
last_sum_place pak = pick (eqb pak 0) (sum_place_of 4) (sum_place_of 5)

unfoldable pub kept_from : ℕ → List ℕ → Bodies → Kept
kept_from pak file b =
    record {
      processor = keeps_of (word_at file (sum_place_of 0)) b.processor (processor_body_ok b.processor);
      drawing = keeps_of (word_at file (sum_place_of 1)) b.drawing (drawing_body_ok b.drawing);
      wram = keeps_of (word_at file (sum_place_of 2)) b.wram true;
      vram = keeps_of (word_at file (sum_place_of 3)) b.vram true;
      pak = pick (eqb pak 0) true (keeps_of (word_at file (sum_place_of 4)) b.pak true);
      hardware = keeps_of (word_at file (last_sum_place pak)) b.hardware (hardware_body_ok b.hardware);
    }

unfoldable pub kept_in : ℕ → List ℕ → Kept
kept_in pak file = kept_from pak file (bodies_in Two pak file)

-- kind 1 of a processor at reset
unfoldable pub processor_reset : List ℕ
processor_reset = bytes_of (halves_of (record_words_of reset_of.processor))

-- a body, or zeros of its length
abbrev pub or_zeros : Bool → List ℕ → List ℕ
or_zeros kept body = pick kept body (replicate (length body) 0)

-- the bodies of the output
unfoldable pub kept_bodies_of : Kept → Bodies → Bodies
kept_bodies_of k b =
    bodies_of (pick k.processor b.processor processor_reset) (or_zeros k.drawing b.drawing)
    (or_zeros k.wram b.wram)
    (or_zeros k.vram b.vram) (or_zeros k.pak b.pak) (or_zeros k.hardware b.hardware)
