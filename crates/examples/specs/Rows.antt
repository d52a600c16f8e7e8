-- Paper 01, "Checks worth a day each": its table of worked examples. A row says that the definitions that the contracts
-- name give what the paper prints; `RowsHold` is the one statement about their list.
use Rattle.std.specs.Prelude.{ℕ, zero, suc, ◌+◌, ◌-◌, ◌*◌, ◌/◌, ◌%◌, ◌^◌, List, [], ◌∷◌, ◌≡◌, replicate}
use Rattle.word.specs.Bit.{bit_at}
use Rattle.word.specs.Choose.{pick}
use Rattle.bus.specs.TimerLines.{device_length}
use Rattle.bus.specs.Place.{wram_at, vram_at, rom_at, place_of}
use Rattle.bus.specs.Memory.{Memory, memory_of, aligned_of}
use Rattle.processor_arithmetic.specs.Flag.{z_flag, s_flag, ov_flag, cy_flag}
use Rattle.processor_arithmetic.specs.Sum.{sum_of}
use Rattle.processor_arithmetic.specs.Quotient.{divide_of}
use Rattle.processor_machine.specs.State.{state_of}
use Rattle.processor_machine.specs.declared.Mode.TheVariants.{Running}
use Rattle.processor_step.specs.Step.{step_of}
use Rattle.drawing_pixel.specs.Character.{character_address_of, shade_of}
use Rattle.drawing_pixel.specs.Pixel.{world_covers}
use Rattle.drawing_pixel.specs.Strip.{pixel_offset_of, pixel_pair_of}

-- a normal world of a width, position and parallax, shown to both eyes, all else 0
unfoldable pub world_with : ℕ → ℕ → ℕ → List ℕ
world_with w gx gp = 0xC000 ∷ gx ∷ gp ∷ 0 ∷ 0 ∷ 0 ∷ 0 ∷ w ∷ 0 ∷ 0 ∷ 0 ∷ []

-- of the n columns from x on of the image's first row, those that a world covers
unfoldable pub shown_from : List ℕ → ℕ → ℕ → ℕ → List ℕ
shown_from w eye x zero = []
shown_from w eye x (suc n) =
    let rest = shown_from w eye (suc x) n in
    pick (world_covers w eye x 0) (x ∷ rest) rest

-- the first address of ROM, where the halfword of the instruction stands; all other memory and every register is 0
abbrev pub pc_before : ℕ
pc_before = 0x07000000

unfoldable pub memory_with : ℕ → Memory
memory_with f =
    memory_of (f % 256 ∷ f / 256 ∷ replicate 1022 0) (replicate 65536 0) (replicate 262144 0) []
    (replicate device_length 0)

-- PC after a step
unfoldable pub pc_after : ℕ → ℕ → ℕ
pc_after f psw = (step_of (state_of (replicate 32 0) (replicate 8 0) pc_before psw Running) (memory_with f)).state.pc

-- OV, S, CY and Z of a PSW
unfoldable pub flags_in : ℕ → List ℕ
flags_in psw = bit_at ov_flag psw ∷ bit_at s_flag psw ∷ bit_at cy_flag psw ∷ bit_at z_flag psw ∷ []

-- the table, in its order
unfoldable pub example_rows : List (Type 0)
example_rows =
    (place_of 1024 0 0xFFFFFFF0 ≡ rom_at 0x3F0)
    ∷ (place_of 1024 0 0x05012345 ≡ wram_at 0x2345)
    ∷ (place_of 1024 0 0x000FA010 ≡ vram_at 0xE010)
    -- where a character's bytes begin
    ∷ (character_address_of 513 ≡ 0xE010)
    -- the bytes of a halfword access
    ∷ ((place_of 1024 0 (aligned_of 2 0x05000001) ≡ wram_at 0) × (place_of 1024 0 (aligned_of 2 0x05000001 + 1) ≡ wram_at 1))
    -- a pixel's offset in its image, and there its first and its last bit; `pixel-drawn` (drawing_laws) ties the place
    -- to the lists that contracts name
    ∷ ((pixel_offset_of 1 9 ∷ (2 * pixel_pair_of 9) ∷ (2 * pixel_pair_of 9 + 1) ∷ []) ≡ (66 ∷ 2 ∷ 3 ∷ []))
    -- what values 1, 2 and 3 become in a palette
    ∷ ((shade_of 0xE4 1 0 ∷ shade_of 0xE4 2 0 ∷ shade_of 0xE4 3 0 ∷ []) ≡ (1 ∷ 2 ∷ 3 ∷ []))
    ∷ (flags_in (sum_of 0x7FFFFFFF 1 0).psw ≡ (1 ∷ 1 ∷ 0 ∷ 0 ∷ []))
    -- the quotient in reg2, the remainder in r30
    ∷ (((divide_of (2 ^ 32 - 7) 2 0).reg2 ≡ 2 ^ 32 - 3) × ((divide_of (2 ^ 32 - 7) 2 0).r30 ≡ 2 ^ 32 - 1))
    -- with every PSW
    ∷ ((psw : ℕ) → pc_after 0x8A00 psw ≡ pc_before)
    ∷ ((psw : ℕ) → pc_after 0x9A00 psw ≡ pc_before + 2)
    -- the image columns of a window, by W, GX and GP, to the left eye and to the right
    ∷ ((shown_from (world_with 0 383 1) 0 0 384 ≡ (382 ∷ [])) × (shown_from (world_with 0 383 1) 1 0 384 ≡ []))
    ∷ []

-- every row of a list holds
abbrev pub EachHolds : List (Type 0) → Type 0
EachHolds [] = Unit {0}
EachHolds (row ∷ rows) = row × EachHolds rows

abbrev pub RowsHold : Type 0
RowsHold = EachHolds example_rows
