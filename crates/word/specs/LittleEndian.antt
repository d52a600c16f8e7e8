-- Little-endian numbers in a list of bytes (paper 01, "Addresses": "little-endian").
-- A number's bytes stand lowest first.
use Rattle.std.specs.Prelude.{ℕ, zero, suc, ◌+◌, ◌*◌, ◌/◌, ◌%◌, List, [], ◌∷◌, get_or, set}

-- the number whose bytes are given, lowest first
abbrev pub little_endian : List ℕ → ℕ
little_endian [] = 0
little_endian (b ∷ bs) = b + 256 * little_endian bs

-- the list with the n low bytes of v from byte i on, lowest first
unfoldable pub put_bytes : ℕ → List ℕ → ℕ → ℕ → List ℕ
put_bytes zero xs i v = xs
put_bytes (suc n) xs i v = put_bytes n (set xs i (v % 256)) (i + 1) (v / 256)

-- the halfword at byte i of a list
abbrev pub half_at : List ℕ → ℕ → ℕ
half_at xs i = get_or xs i 0 + 256 * get_or xs (i + 1) 0

-- the word at byte i of a list
abbrev pub word_at : List ℕ → ℕ → ℕ
word_at xs i = half_at xs i + 65536 * half_at xs (i + 2)

-- the list with the low 16 bits of v as a halfword at byte i
abbrev pub put_half : List ℕ → ℕ → ℕ → List ℕ
put_half xs i v = set (set xs i (v % 256)) (i + 1) (v / 256 % 256)

-- the list with v as a word at byte i, low halfword first
abbrev pub put_word : List ℕ → ℕ → ℕ → List ℕ
put_word xs i v = put_half (put_half xs i v) (i + 2) (v / 65536)
