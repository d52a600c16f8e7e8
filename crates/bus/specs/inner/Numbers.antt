-- Numbers of 1, 2 or 4 bytes in a list, lowest byte first.
use Rattle.std.specs.Prelude.{ℕ, zero, suc, ◌+◌, List, [], ◌∷◌, get_or}
use Rattle.word.specs.LittleEndian.{little_endian}

-- the n bytes from byte i on
abbrev pub bytes_at : List ℕ → ℕ → ℕ → List ℕ
bytes_at xs i zero = []
bytes_at xs i (suc n) = get_or xs i 0 ∷ bytes_at xs (i + 1) n

-- the number that they are
unfoldable pub number_at : List ℕ → ℕ → ℕ → ℕ
number_at xs size i = little_endian (bytes_at xs i size)
