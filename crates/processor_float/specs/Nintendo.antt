-- XB, XH, REV and MPYHW (document 000, "Nintendo"; request W4). a is reg2's word and b is reg1's.
use Rattle.std.specs.Prelude.{ℕ, zero, suc, ◌+◌, ◌*◌, ◌/◌, ◌%◌, ◌^◌}
use Rattle.word.specs.Extend.{extend_of}

-- the two low bytes exchanged
unfoldable pub xb_of : ℕ → ℕ
xb_of w = w / 65536 * 65536 + w % 256 * 256 + w / 256 % 256

-- the two halfwords exchanged
unfoldable pub xh_of : ℕ → ℕ
xh_of w = w % 65536 * 65536 + w / 65536

-- the low n bits in reverse order: bit 0 comes first
unfoldable pub reversed_of : ℕ → ℕ → ℕ
reversed_of zero x = 0
reversed_of (suc n) x = x % 2 * 2 ^ n + reversed_of n (x / 2)

unfoldable pub rev_of : ℕ → ℕ
rev_of w = reversed_of 32 w

-- "reg1 << 15 >> 15 (sign-propagating)" times reg2: the low 32 bits
unfoldable pub mpyhw_of : ℕ → ℕ → ℕ
mpyhw_of a b = a * extend_of 65536 (b % 2 ^ 17) % 2 ^ 32
