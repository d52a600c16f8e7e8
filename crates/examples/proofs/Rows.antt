-- The rows of specs/Rows: ten by computing, and the two branches by the laws of Branches, from the halfword at PC.
use Prim.Native.Nat.{ℕ, ◌+◌}
use mathlib.Core.Bool.{false}
use mathlib.Core.Path.{◌≡◌, refl, ap}
use native.Mathlib.Omega.{arith}
use lib.ListN.{replicate}
use Rattle.word.specs.Extend.{extend_of, signed_of}
use Rattle.bus.specs.Place.{region_of, mirror_of, vip_place, register_place, place_of}
use Rattle.bus.specs.Memory.{byte_of, load_of}
use Rattle.processor_arithmetic.specs.Flag.{flags_of, keep_carry_of}
use Rattle.processor_arithmetic.specs.Sum.{sum_of}
use Rattle.processor_arithmetic.specs.Quotient.{divide_of}
use Rattle.processor_machine.specs.State.{Stepped, state_of}
use Rattle.processor_machine.specs.declared.Mode.TheVariants.{Running}
use Rattle.processor_interrupt.specs.Interrupt.{accepts_of}
use Rattle.processor_step.specs.Interrupted.{accepts_in}
use Rattle.drawing_pixel.specs.Flags.{eye_flag_of}
use Rattle.drawing_pixel.specs.Character.{two_bits_of, character_address_of, shade_of}
use Rattle.drawing_pixel.specs.World.{world_shown_of}
use Rattle.word.specs.Floors.{mod_z}
use Rattle.examples.specs.Rows.{example_rows, world_with, shown_from}
use Rattle.examples.specs.Rows.{flags_in, pc_before, memory_with, pc_after, RowsHold}
use Rattle.examples.proofs.Branches.{branches-to-itself, never-branches}

-- the halfword at PC, and no request line
module _ (psw : ℕ) where
  holds-itself : load_of (memory_with 0x8A00) 2 pc_before ≡ 0x8A00
  unfolding memory_with load_of byte_of place_of region_of
  holds-itself = refl

  holds-never : load_of (memory_with 0x9A00) 2 pc_before ≡ 0x9A00
  unfolding memory_with load_of byte_of place_of region_of
  holds-never = refl

  quiet : (f : ℕ) → accepts_in (state_of (replicate 32 0) (replicate 8 0) pc_before psw Running) (memory_with f) ≡ false
  unfolding memory_with accepts_of
  quiet f = refl

  itself-pc : pc_after 0x8A00 psw ≡ pc_before
  unfolding pc_after
  itself-pc =
      ap (λ (t : Stepped). t.state.pc)
      (branches-to-itself (replicate 32 0) (replicate 8 0) pc_before psw (memory_with 0x8A00) (omega arith) refl holds-itself (quiet 0x8A00))

  never-pc : pc_after 0x9A00 psw ≡ pc_before + 2
  unfolding pc_after
  never-pc =
      ap (λ (t : Stepped). t.state.pc)
      (never-branches (replicate 32 0) (replicate 8 0) pc_before psw (memory_with 0x9A00) holds-never (quiet 0x9A00))

pub rows-hold : RowsHold
unfolding example_rows flags_in extend_of sum_of signed_of flags_of keep_carry_of divide_of place_of region_of vip_place register_place mirror_of character_address_of shade_of
    two_bits_of world_with shown_from world_shown_of eye_flag_of mod_z
rows-hold =
    (refl, (refl, (refl, (refl, ((refl, refl), (refl, (refl, (refl, ((refl, refl), (itself-pc, (never-pc, ((refl, refl), tt))))))))))))
