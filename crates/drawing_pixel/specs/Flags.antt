-- The two flags of a halfword that show a world or an object to an eye.
use Rattle.std.specs.Prelude.{ℕ, Bool, eqb}
use Rattle.word.specs.Bit.{is_set}
use Rattle.word.specs.Choose.{pick}

-- whether the two flags at bits 15 (left) and 14 (right) of a halfword show an eye
unfoldable pub eye_flag_of : ℕ → ℕ → Bool
eye_flag_of eye h = pick (eqb eye 0) (is_set 15 h) (is_set 14 h)
