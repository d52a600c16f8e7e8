-- What the C boundary gives for a character's lookup (include/vb.h, `vb_part`).
use Rattle.refusal.specs.Number.{Verdict}
use Rattle.std.specs.Prelude.{ℕ, Ok, Err}
use Rattle.drawing_pixel.specs.Character.{character_address_of}

-- where a character's part begins, 0 where it was refused
abbrev pub part_offset : Verdict → ℕ → ℕ
part_offset (Ok tt) c = character_address_of c
part_offset (Err n) c = 0
