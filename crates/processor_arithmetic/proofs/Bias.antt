-- Signed readings as naturals, plus 2 ^ 31: what omega reads, where the definitions speak of whole numbers.
use Rattle.std.proofs.Common.{ℕ, ◌+◌, ◌/◌, ◌%◌, ◌^◌, eqb}
use Rattle.word.specs.Choose.{pick}

-- a word's signed reading plus 2 ^ 31
unfoldable pub biased_of : ℕ → ℕ
biased_of a = (a + 2 ^ 31) % 2 ^ 32

-- 1 where a signed number, given plus 2 ^ 32, is below -2 ^ 31 or not below 2 ^ 31
unfoldable pub outside_of : ℕ → ℕ
outside_of t = pick (eqb ((t + 2 ^ 31) / 2 ^ 32) 1) 0 1
