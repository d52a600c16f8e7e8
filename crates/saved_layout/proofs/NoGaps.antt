-- `no_gaps` and `lengths_differ`, of both forms. Assumes nothing.
use Prim.Native.Nat.{ℕ, zero, suc, ◌+◌, ◌<◌}
use native.Mathlib.Omega.{arith}
use mathlib.Core.Path.{◌≡◌, refl, sym, ap}
use mathlib.Core.List.{List, [], ◌∷◌}
use lib.ListN.{length, take}
use lib.Seq.{take-length}
use Rattle.saved_layout.specs.Layout.{Part, parts_of, contents_end_of, end_from, body_place_of, file_length_of}
use Rattle.saved_layout.specs.Gaps.{part_size_at, NoGaps, LengthsDiffer}
use Rattle.saved_layout.specs.declared.Form.{Form}
use Rattle.saved_layout.proofs.Positions.{first_some, length-is, contents-end}

follows : (at : ℕ) (parts : List Part) (i : ℕ) → i < length parts → end_from at (take (suc i) parts) ≡ end_from at (take i parts) + part_size_at parts i
follows at [] i h = absurd (omega arith)
follows at (part ∷ parts) zero h = refl
follows at (part ∷ parts) (suc i) h = follows (at + part.size) parts i (omega arith)

pub no_gaps : (form : Form) (pak : ℕ) → NoGaps form pak
unfolding body_place_of file_length_of
no_gaps form pak =
    record {
      starts = λ sums. sym (contents-end form pak sums);
      follow = follows (contents_end_of form (length (parts_of form pak))) (parts_of form pak);
      ends = ap (end_from (contents_end_of form (length (parts_of form pak)))) (take-length (parts_of form pak));
    }

pub lengths_differ : (form : Form) → LengthsDiffer form
lengths_differ form zero zero e = refl
lengths_differ form zero (suc q) e = absurd (omega (arith, length-is form 0, length-is form (suc q), first_some form (suc q) (omega arith)))
lengths_differ form (suc p) zero e = absurd (omega (arith, length-is form 0, length-is form (suc p), first_some form (suc p) (omega arith)))
lengths_differ form (suc p) (suc q) e =
    omega (arith, length-is form (suc p), length-is form (suc q), first_some form (suc p) (omega arith), first_some form (suc q) (omega arith))
