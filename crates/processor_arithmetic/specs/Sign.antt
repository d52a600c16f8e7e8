-- A signed word by its magnitude and its sign.
use Rattle.std.specs.Prelude.{ℕ, ◌-◌, ◌%◌, ◌^◌, nat_lt}
use Rattle.word.specs.Choose.{pick}

-- the distance of a word from 0, read signed
unfoldable pub magnitude_of : ℕ → ℕ
magnitude_of a = pick (nat_lt a (2 ^ 31)) a (2 ^ 32 - a)

-- the word of -x
unfoldable pub negative_of : ℕ → ℕ
negative_of x = (2 ^ 32 - x) % 2 ^ 32
