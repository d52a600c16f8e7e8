-- Bytes put over a part of a buffer.
use Rattle.std.specs.Prelude.{ℕ, ◌+◌, List, ◌++◌, length, take, drop}

-- a buffer with bytes put over those from byte `at` on
unfoldable pub put_at : List ℕ → ℕ → List ℕ → List ℕ
put_at output at bytes = take at output ++ bytes ++ drop (at + length bytes) output
