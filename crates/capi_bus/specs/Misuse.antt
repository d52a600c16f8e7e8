-- VB_MISUSE at the C boundary (include/vb.h): what the papers have no number for. It comes after refusals 1 to 5.
use Rattle.std.specs.Prelude.{ℕ, Ok, Err}
use Rattle.refusal.specs.Number.{number_of, Verdict}

-- VB_MISUSE, unless one of 1 to 5 comes first
abbrev pub misuse_number : Verdict → ℕ
misuse_number (Ok tt) = 255
misuse_number (Err n) = number_of n
