-- System register 31 (paper 01): "keeps and reads the absolute value of what is written", 0x80000000 for itself among
-- them.
use Rattle.std.specs.Prelude.{ℕ, ◌^◌, ◌<◌, List, ◌≡◌, nat_abs, length}
use Rattle.processor_arithmetic.specs.Integer.{signed}
use Rattle.processor_machine.specs.System.{system_of, written_of}

-- what STSR reads after LDSR wrote the word v
abbrev pub AbsoluteRead : Type 0
AbsoluteRead =
    (sys : List ℕ) (psw v : ℕ) → length sys ≡ 8 → v < 2 ^ 32
    → system_of (written_of sys psw 31 v).sys (written_of sys psw 31 v).psw 31 ≡ nat_abs (signed v)
