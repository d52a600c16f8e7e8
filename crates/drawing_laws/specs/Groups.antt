-- Groups of objects in 01's own words: "Group n: SPTn downwards mod 1,024 to just above SPT(n-1), 1,024 objects when
-- equal (H); group 0 ends at object 0", and which group an object world draws. The proofs are in proofs/Groups, each
-- named as its statement. `drawn_of i k` is the object drawn i objects after object k, (k - i) mod 1,024
-- (`object-drawn`).
use Rattle.std.specs.Prelude.{ℕ, suc, ◌<◌, true, List, ◌≡◌, ◌≢◌}
use Rattle.bus.specs.Registers.{spt_of}
use Rattle.drawing_pixel.specs.World.{world_of}
use Rattle.drawing_pixel.specs.Object.{group_count_of}
use Rattle.drawing_pixel.specs.ObjectFormulas.{drawn_of}
use Rattle.drawing_pixel.specs.Pixel.{counter_of}
use Rattle.drawing_laws.specs.Covers.{group_of, in_group_of}

-- "to just above SPT(n-1)": the object after a group's last is SPT(n-1) ..
abbrev pub GroupEnds : Type 0
GroupEnds =
    (regs : List ℕ) (n : ℕ) → spt_of regs (suc n) < 1024
    → spt_of regs n < 1024
    → drawn_of (group_count_of regs (suc n)) (spt_of regs (suc n)) ≡ spt_of regs n

-- .. and no object after the group's first is, so that it ends there and not a round later
abbrev pub GroupEndsFirst : Type 0
GroupEndsFirst =
    (regs : List ℕ) (n i : ℕ) → spt_of regs (suc n) < 1024
    → spt_of regs n < 1024
    → 0 < i
    → i < group_count_of regs (suc n)
    → drawn_of i (spt_of regs (suc n)) ≢ spt_of regs n

-- "1,024 objects when equal"
abbrev pub GroupEqual : Type 0
GroupEqual =
    (regs : List ℕ) (n : ℕ) → spt_of regs (suc n) < 1024
    → spt_of regs n < 1024
    → spt_of regs (suc n) ≡ spt_of regs n
    → group_count_of regs (suc n) ≡ 1024

-- "group 0 ends at object 0": it has objects SPT0 to 0 (their order: GroupZero of drawing_pixel)
abbrev pub GroupZeroCount : Type 0
GroupZeroCount = (regs : List ℕ) → group_count_of regs 0 ≡ suc (spt_of regs 0)

-- the objects that a group draws are of it ..
abbrev pub DrawnInGroup : Type 0
DrawnInGroup =
    (regs : List ℕ) (n i : ℕ) → spt_of regs n < 1024
    → i < group_count_of regs n
    → in_group_of regs n (drawn_of i (spt_of regs n)) ≡ true

-- group n draws object k, `place` objects after its first
pub record DrawnAt (regs : List ℕ) (n k : ℕ) : Type 0 where
  pub place : ℕ
  pub within : place < group_count_of regs n
  pub drawn : drawn_of place (spt_of regs n) ≡ k

-- .. and an object that is of a group is one of them
abbrev pub InGroupDrawn : Type 0
InGroupDrawn =
    (regs : List ℕ) (n k : ℕ) → spt_of regs n < 1024 → k < 1024 → in_group_of regs n k ≡ true → DrawnAt regs n k

-- world 31 is reached with group 3 ..
abbrev pub GroupFirst : Type 0
GroupFirst = (vram : List ℕ) → group_of vram 31 ≡ 3

-- .. and every other world with the counter that the world above it leaves
abbrev pub GroupNext : Type 0
GroupNext =
    (vram : List ℕ) (n : ℕ) → n < 31 → group_of vram n ≡ counter_of (world_of vram (suc n)) (group_of vram (suc n))
