-- Loads, inputs, stores and outputs by width (document 000, "Load and Input", "Store and Output").
use Rattle.std.specs.Prelude.{ℕ}
use Rattle.word.specs.Extend.{extend_of}
use Rattle.bus.specs.Memory.{Memory, load_of, store_of}
use Rattle.word.specs.Width.{bytes_of}
use Rattle.word.specs.declared.width.Width.{Width}
use Rattle.word.specs.declared.width.Width.TheVariants.{Byte, Half, Word}

-- how many bytes a width has
abbrev pub size_of : Width → ℕ
size_of = bytes_of

-- LD: sign-extended
abbrev pub loaded_of : Memory → Width → ℕ → ℕ
loaded_of m Byte a = extend_of 128 (load_of m 1 a)
loaded_of m Half a = extend_of 32768 (load_of m 2 a)
loaded_of m Word a = load_of m 4 a

-- IN: zero-extended
abbrev pub input_of : Memory → Width → ℕ → ℕ
input_of m width a = load_of m (size_of width) a

-- ST and OUT: v is the whole source register
abbrev pub stored_of : Memory → Width → ℕ → ℕ → Memory
stored_of m width a v = store_of m (size_of width) a v
