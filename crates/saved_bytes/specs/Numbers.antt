-- Halfwords and words as bytes, lowest first (paper 02, W1: "Little-endian"), and those that stand in a list of bytes.
-- A word is two halfwords, the low one first.
use Rattle.std.specs.Prelude.{ℕ, zero, suc, ◌+◌, ◌/◌, ◌%◌, Bool, true, false, List, [], ◌∷◌, eqb}
use Rattle.word.specs.Choose.{pick}
use Rattle.word.specs.LittleEndian.{half_at, word_at}

unfoldable pub bytes_of : List ℕ → List ℕ
bytes_of [] = []
bytes_of (h ∷ hs) = h % 256 ∷ h / 256 % 256 ∷ bytes_of hs

unfoldable pub halves_of : List ℕ → List ℕ
halves_of [] = []
halves_of (w ∷ ws) = w % 65536 ∷ w / 65536 ∷ halves_of ws

-- the n halfwords from byte a on
unfoldable pub halves_from : List ℕ → ℕ → ℕ → List ℕ
halves_from xs a zero = []
halves_from xs a (suc n) = half_at xs a ∷ halves_from xs (a + 2) n

-- the n words from byte a on
unfoldable pub words_from : List ℕ → ℕ → ℕ → List ℕ
words_from xs a zero = []
words_from xs a (suc n) = word_at xs a ∷ words_from xs (a + 4) n

-- whether two lists are the same
abbrev pub same_of : List ℕ → List ℕ → Bool
same_of [] [] = true
same_of [] (y ∷ ys) = false
same_of (x ∷ xs) [] = false
same_of (x ∷ xs) (y ∷ ys) = pick (eqb x y) (same_of xs ys) false
