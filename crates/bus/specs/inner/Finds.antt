-- What the fast path of a load answers: the value, or that it stands neither in ROM, WRAM nor VRAM; and what that of a
-- store does: all of it, or nothing where it goes neither to WRAM nor to VRAM.
use Rattle.std.specs.Prelude.{ℕ, Bool, true, false, Option, Some, None, ◌≡◌}
use Rattle.bus.specs.Memory.{Memory, Reads, aligned_of, store_of}
use Rattle.bus.specs.inner.LeadsTo.{Outside, OutsideRam}

abbrev pub Finds : Memory → ℕ → ℕ → Option ℕ → Type 0
Finds m size a (Some v) = Reads m size a v
Finds m size a None = Outside (aligned_of size a)

abbrev pub Stores : Memory → ℕ → ℕ → ℕ → Bool → Memory → Type 0
Stores m size a v true after = after ≡ store_of m size a v
Stores m size a v false after = (after ≡ m) × OutsideRam (aligned_of size a)
