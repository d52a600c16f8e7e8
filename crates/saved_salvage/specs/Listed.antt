-- "the list of kinds replaced, in order" (paper 02, W13), and as it is reported: a number and six places, 0
-- after the last.
use Rattle.std.specs.Prelude.{ℕ, ◌-◌, Bool, List, [], ◌∷◌, ◌++◌, length, replicate}
use Rattle.word.specs.Choose.{pick}
use Rattle.saved_salvage.specs.declared.Kept.{Kept}
use Rattle.saved_salvage.specs.declared.ListedKinds.{ListedKinds}

-- a kind at the end of the list, unless its body is kept
abbrev pub with_kind : List ℕ → ℕ → Bool → List ℕ
with_kind kinds kind kept = pick kept kinds (kinds ++ (kind ∷ []))

unfoldable pub replaced_of : Kept → List ℕ
replaced_of k =
    with_kind
    (with_kind
    (with_kind (with_kind (with_kind (with_kind [] 1 k.processor) 2 k.drawing) 3 k.wram) 4 k.vram)
    5 k.pak)
    6 k.hardware

-- a list of at most six kinds, as it is reported
unfoldable pub listed_kinds_of : List ℕ → ListedKinds
listed_kinds_of kinds = record { count = length kinds; kinds = kinds ++ replicate (6 - length kinds) 0 }
