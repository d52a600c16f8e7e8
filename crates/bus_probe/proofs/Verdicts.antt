-- What an accepted write says of its target. Assumes nothing.
use Rattle.std.specs.Prelude.{Ok}
use Prim.Native.Nat.{ℕ, ◌+◌, ◌<◌}
use mathlib.Core.Bool.{true}
use mathlib.Core.Logic.{⊎_elim}
use mathlib.Core.Path.{◌≡◌}
use native.Mathlib.Omega.{arith}
use borrow.Author.Tests.{eqb-true}
use Rattle.bus.specs.Refusal.{rom_ok, wram_ok, vram_ok, pak_ok}
use Rattle.bus.specs.Memory.{verdict_when}
use Rattle.bus.proofs.Accepted.{unless-passed}
use Rattle.bus_probe.specs.Probe.{in_ranges_of, probe_verdict_at}
use Rattle.bus_probe.proofs.Ranges.{in-ranges}

-- an accepted write: VRAM has its length, and the target is in the ranges
pub record Allowed (vram target : ℕ) : Type 0 where
  pub vram-ok : vram ≡ 262144
  pub target_ok : in_ranges_of target ≡ true

pub allowed : (rom wram vram pak target : ℕ) → probe_verdict_at rom wram vram pak target ≡ (Ok tt) → Allowed vram target
unfolding probe_verdict_at vram_ok
allowed rom wram vram pak target e =
    let one = unless-passed (rom_ok rom) _ _ e in
    let two = unless-passed (wram_ok wram) _ _ one.1 in
    let three = unless-passed (vram_ok vram) _ _ two.1 in
    let four = unless-passed (pak_ok pak) _ _ three.1 in
    let last = unless-passed (in_ranges_of target) _ _ four.1 in
    record { vram-ok = eqb-true vram 262144 three.0; target_ok = last.0 }

-- there is room for a word at the target
pub room : (vram target : ℕ) → Allowed vram target → target + 3 < vram
room vram target h =
    let w = h.vram-ok in
    ⊎_elim (λ c. omega arith) (λ c. omega arith) (in-ranges target h.target_ok)

-- the length of VRAM, where the memories' lengths are accepted
pub vram-passed : (rom wram vram pak : ℕ) → verdict_when rom wram vram pak true ≡ (Ok tt) → vram ≡ 262144
unfolding vram_ok
vram-passed rom wram vram pak e =
    let one = unless-passed (rom_ok rom) _ _ e in
    let two = unless-passed (wram_ok wram) _ _ one.1 in
    eqb-true vram 262144 (unless-passed (vram_ok vram) _ _ two.1).0
