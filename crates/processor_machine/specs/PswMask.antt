-- What the mask 0x000FF3FF of a PSW format (paper 01) keeps of a word: its ten low bits, and the eight from bit 12 on.
use Rattle.std.specs.Prelude.{ℕ, ◌+◌, ◌*◌, ◌/◌, ◌%◌, ◌^◌, ◌≡◌}
use Rattle.processor_machine.specs.System.{psw_bits_of}

abbrev pub PswBitsKept : Type 0
PswBitsKept =
    (v : ℕ) → psw_bits_of v ≡ v % 2 ^ 10 + v / 2 ^ 12 % 2 ^ 8 * 2 ^ 12
