-- The list of kinds while it is made.
use Rattle.std.specs.Prelude.{ℕ, ◌+◌, Bool, set}
use Rattle.word.specs.Choose.{pick}
use Rattle.saved_salvage.specs.declared.ListedKinds.{ListedKinds}

-- what is reported, with one kind more
unfoldable pub added_of : ListedKinds → ℕ → Bool → ListedKinds
added_of l kind kept = pick kept l (record { count = l.count + 1; kinds = set l.kinds l.count kind })
