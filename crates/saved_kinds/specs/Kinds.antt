-- Whether a body is one that a writer makes for some accepted state: paper 02, W1's refusal 10 of kinds 1 and 2 and
-- W12's of kind 6, by the tests of refusal 5 (processor, Acceptance; bus, Registers; bus_timer, Ports). Kinds 3 to 5
-- are free. And the same of a whole file, whose contents are valid.
use Rattle.std.specs.Prelude.{ℕ, Bool, List, [], ◌∷◌, leb, get_or}
use Rattle.word.specs.LittleEndian.{half_at}
use Rattle.bus.specs.Registers.{drawing_ok}
use Rattle.bus_timer.specs.Record.{hardware_of}
use Rattle.bus_timer.specs.Ports.{hardware_ok}
use Rattle.bus_timer.specs.declared.TimerLines.{TimerLines}
use Rattle.processor.specs.Acceptance.{both, state_ok}
use Rattle.saved_bytes.specs.Numbers.{halves_from, words_from}
use Rattle.saved_layout.specs.File.{Bodies, bodies_in, contents_ok}
use Rattle.saved_layout.specs.declared.Form.{Form}

-- kind 1's words: the general registers; PC, EIPC, EIPSW, FEPC, FEPSW, ECR, PSW, system registers 25, 29 and 31, and
-- the mode
unfoldable pub general_from : List ℕ → List ℕ
general_from body = words_from body 0 32

unfoldable pub rest_from : List ℕ → List ℕ
rest_from body = words_from body 128 11

-- the stored system registers among the eleven, in the state's order
abbrev pub system_from : List ℕ → List ℕ
system_from rest =
    get_or rest 1 0
    ∷ get_or rest 2 0
    ∷ get_or rest 3 0
    ∷ get_or rest 4 0
    ∷ get_or rest 5 0
    ∷ get_or rest 7 0
    ∷ get_or rest 8 0
    ∷ get_or rest 9 0
    ∷ []

-- the mode is one of three, and the processor state is valid (refusal 5)
unfoldable pub words_ok : List ℕ → List ℕ → Bool
words_ok general rest =
    both (leb (get_or rest 10 0) 2) (state_ok general (system_from rest) (get_or rest 0 0) (get_or rest 6 0))

unfoldable pub processor_body_ok : List ℕ → Bool
processor_body_ok body = words_ok (general_from body) (rest_from body)

-- kind 2
unfoldable pub drawing_from : List ℕ → List ℕ
drawing_from body = halves_from body 0 13

unfoldable pub drawing_body_ok : List ℕ → Bool
drawing_body_ok body = drawing_ok (drawing_from body)

-- kind 6: request lines, timer count, reload, control bits
unfoldable pub hardware_from : List ℕ → TimerLines
hardware_from body = hardware_of (half_at body 0) (half_at body 2) (half_at body 4) (half_at body 6)

unfoldable pub hardware_body_ok : List ℕ → Bool
hardware_body_ok body = hardware_ok (hardware_from body)

-- every body
unfoldable pub bodies_ok : Bodies → Bool
bodies_ok b = both (both (processor_body_ok b.processor) (drawing_body_ok b.drawing)) (hardware_body_ok b.hardware)

-- 10: everything before the first body is valid, and every body is one that a writer makes
unfoldable pub file_ok : Form → ℕ → List ℕ → Bool
file_ok form pak file = both (contents_ok form pak file) (bodies_ok (bodies_in form pak file))
