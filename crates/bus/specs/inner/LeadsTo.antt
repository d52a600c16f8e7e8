-- What the place that the code finds for an address says of it: its region, and where in it the access begins.
use Rattle.std.specs.Prelude.{ℕ, ◌+◌, ◌%◌, ◌<◌, ◌≤◌, ◌≡◌}
use Rattle.bus_timer.specs.Ports.{hardware_offset_of}
use Rattle.bus.specs.Place.{vram_at, vip_place, region_of}
use Rattle.bus.specs.Refusal.{vram_bytes}
use Rattle.bus.specs.declared.Place.{Place}
use Rattle.bus.specs.declared.Place.TheVariants.{Wram, Vram, Rom, Pak, Register, Port, Nothing}

-- v is between VRAM and the character mirror
pub record Between (v : ℕ) : Type 0 where
  pub low : 262144 ≤ v
  pub high : v < 491520

-- the bytes of the VIP from v on to the end of its word are those of VRAM from i on
pub record InVram (v i : ℕ) : Type 0 where
  pub within : i < vram_bytes
  pub in_word : i % 4 ≡ v % 4
  pub each : (j : ℕ) → v % 4 + j < 4 → vip_place (v + j) ≡ vram_at (i + j)
  pub not_between : Between v → ⊥

-- regions 1, 3 and 4
pub record Quiet (r : ℕ) : Type 0 where
  pub no_vip : r ≡ 0 → ⊥
  pub no_port : r ≡ 2 → ⊥
  pub no_wram : r ≡ 5 → ⊥
  pub no_pak : r ≡ 6 → ⊥
  pub no_rom : r ≡ 7 → ⊥

abbrev pub VipLeadsTo : ℕ → Place → Type 0
VipLeadsTo v (Vram i) = InVram v i
VipLeadsTo v (Register w) = (w ≡ v) × Between v
VipLeadsTo v (Wram i) = ⊥
VipLeadsTo v (Rom x) = ⊥
VipLeadsTo v (Pak x) = ⊥
VipLeadsTo v (Port o) = ⊥
VipLeadsTo v Nothing = ⊥

abbrev pub LeadsTo : ℕ → Place → Type 0
LeadsTo a (Wram i) = (region_of a ≡ 5) × (i ≡ a % 65536)
LeadsTo a (Rom x) = (region_of a ≡ 7) × (x ≡ a)
LeadsTo a (Vram i) = (region_of a ≡ 0) × InVram (a % 524288) i
LeadsTo a (Register v) = (region_of a ≡ 0) × ((v ≡ a % 524288) × Between (a % 524288))
LeadsTo a (Pak x) = (region_of a ≡ 6) × (x ≡ a)
LeadsTo a (Port o) = (region_of a ≡ 2) × (o ≡ hardware_offset_of a)
LeadsTo a Nothing = Quiet (region_of a)

-- neither WRAM nor VRAM
pub record OutsideRam (a : ℕ) : Type 0 where
  pub no_wram : region_of a ≡ 5 → ⊥
  pub no_vram : region_of a ≡ 0 → Between (a % 524288)

-- and not ROM
pub record Outside (a : ℕ) : Type 0 where
  pub no_rom : region_of a ≡ 7 → ⊥
  pub no_ram : OutsideRam a
