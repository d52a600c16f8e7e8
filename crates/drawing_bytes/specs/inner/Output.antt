-- Inner: the output buffer while addresses are written into it, one word each and none past its end.
use Rattle.std.specs.Prelude.{ℕ, ◌+◌, List, ◌≡◌, length}
use Rattle.std.proofs.lemmas.List.Edits.{sets}

-- a list was written from word n on, r words have been asked for, and nothing else changed
pub record Listing (n : ℕ) (list : List ℕ) (r : ℕ) (before after : List ℕ) : Type 0 where
  pub count : r ≡ n + length list
  pub words : after ≡ sets before n list

-- the same of the caller's buffer before and after, for a contract
abbrev pub Lists : (before after : List ℕ) → ℕ → List ℕ → ℕ → Type 0
Lists before after n list r = Listing n list r before after
