-- The place that the code finds for an address, from what it found of its region. Assumes nothing.
use Prim.Native.Nat.{ℕ, ◌%◌}
use mathlib.Core.Path.{◌≡◌, refl}
use Rattle.bus.specs.Place.{region_of}
use Rattle.bus.proofs.Accesses.{found, missed}
use Rattle.bus.specs.declared.Place.{Place}
use Rattle.bus.specs.declared.Place.TheVariants.{Wram, Vram, Rom, Pak, Register, Port, Nothing}
use Rattle.bus.specs.inner.LeadsTo.{LeadsTo, VipLeadsTo}

-- in region 0 it is what the VIP's own address leads to
pub vip-led : (a : ℕ) (p : Place) → region_of a ≡ 0 → VipLeadsTo (a % 524288) p → LeadsTo a p
vip-led a (Vram i) here e = (here, e)
vip-led a (Register v) here e = (here, e)
vip-led a (Wram i) here e = absurd e
vip-led a (Rom x) here e = absurd e
vip-led a (Pak x) here e = absurd e
vip-led a (Port o) here e = absurd e
vip-led a Nothing here e = absurd e

-- every place but the VIP's registers
abbrev pub NoRegister : Place → Type 0
NoRegister (Register v) = ⊥
NoRegister (Wram i) = Unit {0}
NoRegister (Vram i) = Unit {0}
NoRegister (Rom x) = Unit {0}
NoRegister (Pak x) = Unit {0}
NoRegister (Port o) = Unit {0}
NoRegister Nothing = Unit {0}

pub no_register : (p : Place) → ((x : ℕ) → p ≡ Register x → ⊥) → NoRegister p
no_register (Register v) h = h v refl
no_register (Wram i) h = tt
no_register (Vram i) h = tt
no_register (Rom x) h = tt
no_register (Pak x) h = tt
no_register (Port o) h = tt
no_register Nothing h = tt

-- every place but VRAM
abbrev pub NoVram : Place → Type 0
NoVram (Vram i) = ⊥
NoVram (Wram i) = Unit {0}
NoVram (Rom x) = Unit {0}
NoVram (Pak x) = Unit {0}
NoVram (Register v) = Unit {0}
NoVram (Port o) = Unit {0}
NoVram Nothing = Unit {0}

pub no_vram : (p : Place) → ((x : ℕ) → p ≡ Vram x → ⊥) → NoVram p
no_vram (Vram i) h = h i refl
no_vram (Wram i) h = tt
no_vram (Rom x) h = tt
no_vram (Pak x) h = tt
no_vram (Register v) h = tt
no_vram (Port o) h = tt
no_vram Nothing h = tt

-- for the code's match
pub ruleset places = (found, missed, vip-led)
