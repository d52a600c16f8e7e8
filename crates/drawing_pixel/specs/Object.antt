-- Objects and their groups (paper 01, "Objects"): the list of an object's four halfwords, which eyes it is shown to,
-- and how many objects a group has.
use Rattle.std.specs.Prelude.{ℕ, zero, suc, ◌+◌, ◌-◌, ◌*◌, ◌%◌, Bool, List, get_or}
use Rattle.word.specs.LittleEndian.{half_at}
use Rattle.bus.specs.Registers.{spt_of}
use Rattle.drawing_pixel.specs.Lists.{list_of}
use Rattle.drawing_pixel.specs.Flags.{eye_flag_of}

-- where the 1,024 objects begin in VRAM
abbrev pub object_table : ℕ
object_table = 0x3E000

-- object k: 8 bytes at 0x3E000 + 8k
unfoldable pub object_of : List ℕ → ℕ → List ℕ
object_of vram k = list_of 4 0 (λ i. half_at vram (object_table + 8 * k + 2 * i))

-- whether an object is shown to an eye: by JLON or JRON; its world's own flags hide nothing (reading R7)
unfoldable pub object_shown_of : List ℕ → ℕ → Bool
object_shown_of o eye = eye_flag_of eye (get_or o 1 0)

-- the object drawn after object k: downwards, 1,023 after 0
unfoldable pub object_after_of : ℕ → ℕ
object_after_of k = (k + 1023) % 1024

-- how many objects group n has: from SPTn down to just above SPT(n-1), 1,024 when equal; group 0 ends at object 0
unfoldable pub group_count_of : List ℕ → ℕ → ℕ
group_count_of regs zero = spt_of regs 0 + 1
group_count_of regs (suc n) = (spt_of regs (suc n) + 1023 - spt_of regs n) % 1024 + 1
