-- Code in ROM or WRAM (paper 01, "Addresses"): index x below `last` of that memory is the address base + x, and so is
-- the halfword after it.
use Rattle.std.specs.Prelude.{ℕ, ◌+◌, ◌/◌, ◌%◌, ◌^◌, ◌<◌, Bool, true, false, ◌≡◌}
use Rattle.bus.specs.Place.{region_of}
use Rattle.bus.specs.Memory.{Memory, load_of}
use Rattle.bus.specs.declared.code.Code.{Code}
use Rattle.bus.specs.declared.code.Code.TheVariants.{Rom, Wram, Elsewhere}

pub record Stands (romLength : ℕ) (inRom : Bool) (base last : ℕ) : Type 0 where
  pub word : base < 2 ^ 32
  pub in_rom : inRom ≡ true → (last + 3 ≡ romLength) × (base % romLength ≡ 0) × (region_of base ≡ 7)
  pub in_wram : inRom ≡ false → (last + 3 ≡ 65536) × (base % 65536 ≡ 0) × (region_of base ≡ 5)

-- the same of what the code found at PC
abbrev pub Standing : ℕ → Code → Type 0
Standing n (Rom base last) = Stands n true base last
Standing n (Wram base last) = Stands n false base last
Standing n Elsewhere = Unit {0}

-- w holds the halfwords that a step fetches at the address of index x and after it
pub record Halves (m : Memory) (base x w : ℕ) : Type 0 where
  pub first : load_of m 2 ((base + x) % 2 ^ 32) ≡ w % 65536
  pub second : load_of m 2 (((base + x) % 2 ^ 32 + 2) % 2 ^ 32) ≡ w / 65536
