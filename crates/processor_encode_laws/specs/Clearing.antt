-- What clearing the unused bits keeps (paper 02, W8): cleared halfwords stay as they are when cleared again, and decode
-- to the same; and an instruction of one halfword is decoded by that alone. The proofs of the same names are in
-- proofs/.
use Rattle.std.specs.Prelude.{ℕ, ◌<◌, false, ◌≡◌}
use Rattle.processor_decode.specs.Format.{two_of}
use Rattle.processor_decode.specs.Opcode.{decode_of}
use Rattle.processor_encode.specs.Unused.{cleared_first, cleared_second}

abbrev pub ClearedTwice : Type 0
ClearedTwice =
    (f s : ℕ)
    → (cleared_first (cleared_first f s) (cleared_second f s) ≡ cleared_first f s)
    × (cleared_second (cleared_first f s) (cleared_second f s) ≡ cleared_second f s)

abbrev pub ClearedDecodes : Type 0
ClearedDecodes = (f s : ℕ) → f < 65536 → s < 65536 → decode_of (cleared_first f s) (cleared_second f s) ≡ decode_of f s

-- the second halfword counts only where the first asks for it
abbrev pub SecondIgnored : Type 0
SecondIgnored = (f s t : ℕ) → two_of f ≡ false → decode_of f s ≡ decode_of f t
