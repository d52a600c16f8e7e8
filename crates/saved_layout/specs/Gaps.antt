-- "then the bodies in kind order, no gaps", and that the pak RAM's length follows from the file's (paper 02, W1 and
-- W12): the statements. Their proofs are `no_gaps` and `lengths_differ` in proofs/.
use Rattle.std.specs.Prelude.{ℕ, zero, suc, ◌+◌, ◌*◌, ◌<◌, List, [], ◌∷◌, ◌≡◌, length}
use Rattle.saved_layout.specs.Layout.{Part, parts_of, contents_of, body_place_of, file_length_of}
use Rattle.saved_layout.specs.declared.Form.{Form}

-- the length of body i, counted from 0
abbrev pub part_size_at : List Part → ℕ → ℕ
part_size_at [] i = 0
part_size_at (part ∷ parts) zero = part.size
part_size_at (part ∷ parts) (suc i) = part_size_at parts i

-- the first body starts where the contents end, each next one where the one before it ends, and the last ends with the
-- file
pub record NoGaps (form : Form) (pak : ℕ) : Type 0 where
  pub starts : (sums : List ℕ) → body_place_of form pak 0 ≡ 2 * length (contents_of form pak sums)
  pub follow :
      (i : ℕ) → i < length (parts_of form pak)
      → body_place_of form pak (suc i) ≡ body_place_of form pak i + part_size_at (parts_of form pak) i
  pub ends : body_place_of form pak (length (parts_of form pak)) ≡ file_length_of form pak

-- no two pak RAM lengths have one file length
abbrev pub LengthsDiffer : Form → Type 0
LengthsDiffer form = (p q : ℕ) → file_length_of form p ≡ file_length_of form q → p ≡ q
