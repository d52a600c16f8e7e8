-- How many bytes an access of a width moves, and which numbers of bytes are a width's.
use Rattle.std.specs.Prelude.{◌≡◌, ◌≢◌, ℕ, Result, MatchResult}
use Rattle.word.specs.declared.width.Width.{Width}
use Rattle.word.specs.declared.width.Width.TheVariants.{Byte, Half, Word}
use Rattle.word.specs.declared.width.NoWidth.{NoWidth}

abbrev pub bytes_of : Width → ℕ
bytes_of Byte = 1
bytes_of Half = 2
bytes_of Word = 4

-- the width that moves so many bytes, or the number, which is none of 1, 2 and 4
abbrev pub Decodes : ℕ → Result Width NoWidth → Type 0
Decodes bytes r =
    MatchResult r (λ width. bytes_of width ≡ bytes) (λ e. (e.0 ≡ bytes) × ((bytes ≢ 1) × ((bytes ≢ 2) × (bytes ≢ 4))))
