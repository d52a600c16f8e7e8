-- What "any byte before the first body differs" comes to (paper 02, W13): since a kept body's sum is the stored one,
-- that the halfwords 0 and 2, the count, or some entry's kind, offset or length was not what the writer puts there. The
-- statement; its proof is `contents-differ-means` in proofs/.
use Rattle.std.specs.Prelude.{ℕ, ◌+◌, ◌<◌, Bool, true, false, List, [], ◌∷◌, ◌≡◌, length, get_or, Ok}
use Rattle.word.specs.Choose.{pick}
use Rattle.processor.specs.Acceptance.{both}
use Rattle.saved_bytes.specs.Numbers.{halves_from, same_of}
use Rattle.saved_layout.specs.Layout.{Part, parts_of, contents_entry_of, entry_halves_of, entry_bytes_of, contents_end_of}
use Rattle.saved_layout.specs.declared.Form.TheVariants.{One, Two}
use Rattle.saved_salvage.specs.Salvage.{pak_in_form_two, salvage_verdict_of, salvage_of}

-- the kind, offset and length of an entry at byte `at`, all that form 1 has, for a body that starts at byte `place`
abbrev pub entry_valid : ℕ → ℕ → Part → List ℕ → Bool
entry_valid at place part file =
    same_of (halves_from file at (entry_halves_of One)) (contents_entry_of One part place 0)

abbrev pub entries_valid : ℕ → ℕ → List Part → List ℕ → Bool
entries_valid at place [] file = true
entries_valid at place (part ∷ parts) file =
    both (entry_valid at place part file) (entries_valid (at + entry_bytes_of Two) (place + part.size) parts file)

-- the halfwords 0 and 2 and the count, then the entries
unfoldable pub contents_valid : ℕ → List ℕ → Bool
contents_valid pak file =
    both (same_of (halves_from file 0 3) (0 ∷ 2 ∷ length (parts_of Two pak) ∷ []))
    (entries_valid (contents_end_of Two 0) (contents_end_of Two (length (parts_of Two pak))) (parts_of Two pak) file)

abbrev pub ContentsDifferMeans : Type 0
ContentsDifferMeans =
    (file output : List ℕ) → ((k : ℕ) → get_or file k 0 < 256) → salvage_verdict_of file output ≡ (Ok tt)
    → (salvage_of file output).differ ≡ pick (contents_valid (pak_in_form_two file) file) false true
