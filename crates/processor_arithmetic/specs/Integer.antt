-- Words and whole numbers: the signed reading of a word, the two's complement of a whole number, and which whole
-- numbers are not signed words.
use Rattle.std.specs.Prelude.{ℕ, ◌-◌, ◌%◌, ◌^◌, Bool, true, ℤ, pos, negsuc, neg_ℤ, int_le, int_lt}
use Rattle.word.specs.Choose.{pick}
use Rattle.word.specs.Extend.{signed_of}

-- a word read as a signed number
abbrev pub signed : ℕ → ℤ
signed a = signed_of (2 ^ 31) a

-- a number of 64 bits read signed
abbrev pub signed64 : ℕ → ℤ
signed64 w = signed_of (2 ^ 63) w

-- whether a whole number is not a signed word: below -2 ^ 31, or not below 2 ^ 31
abbrev pub outside : ℤ → Bool
outside z = pick (int_lt z (neg_ℤ (pos (2 ^ 31)))) true (int_le (pos (2 ^ 31)) z)

-- the two's complement of a whole number at the width whose range is given: 2 ^ 32 or 2 ^ 64
abbrev pub complement_of : ℕ → ℤ → ℕ
complement_of range (pos n) = n % range
complement_of range (negsuc n) = range - 1 - n % range
