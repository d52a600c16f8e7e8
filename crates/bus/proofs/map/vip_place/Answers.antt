-- `bus::map::vip_place` meets its contract: below 0x40000 VRAM itself, from 0x78000 on the character mirror.
-- Assumes nothing.
use mathlib.Core.Path.{◌≡◌, refl, ap, ◌∙◌}
use Prim.Native.Nat.{◌+◌, ◌-◌}
use native.Mathlib.Omega.{arith}
use Rattle.bus.specs.Place.{vram_at, mirror_of}
use Rattle.bus.proofs.VipPlaces.{vip-low, vip-mirror, mirror-step}
use Rattle.bus.proofs.map.vip_place.Goals as goal

pub returns-then-v-lt262144 : goal.returns-then-v-lt262144
returns-then-v-lt262144 c =
    let v = c.args.v in
    record { within = omega arith; in_word = refl; each = λ j near. vip-low (v + j) (omega arith); not_between = λ b. omega (arith, b.low) }

pub returns-then-v-lt491520 : goal.returns-then-v-lt491520
returns-then-v-lt491520 c = (refl, record { low = omega arith; high = omega arith })

pub returns : goal.returns
unfolding mirror_of
returns c =
    let v = c.args.v in
    record {
      within = omega arith;
      in_word = omega arith;
      each = λ j near.
          let e : v + j - 491520 ≡ v - 491520 + j = omega arith in
          vip-mirror (v + j) (omega arith) ∙ ap vram_at (rw e (mirror-step (v - 491520) j (omega arith)));
      not_between = λ b. omega (arith, b.high);
    }
