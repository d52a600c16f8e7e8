-- What the verdict "accepted" says, and what gives it: the lengths of 1 to 4 and the register widths of 5.
-- Assumes nothing.
use Rattle.std.specs.Prelude.{Ok}
use Prim.Native.Nat.{ℕ}
use mathlib.Core.Bool.{Bool, true, false}
use mathlib.Core.List.{List}
use mathlib.Core.Path.{◌≡◌, refl}
use native.Mathlib.Omega.{arith}
use borrow.Author.Tests.{eqb-true, eq-eqb}
use Rattle.refusal.specs.declared.Refusal.{Refusal}
use Rattle.refusal.specs.declared.Refusal.TheVariants.{RomLength, WramLength, VramLength, PakLength, State}
use Rattle.bus.specs.Refusal.{rom_ok, wram_ok, vram_ok, pak_ok}
use Rattle.refusal.specs.Number.{unless, Verdict}
use Rattle.bus.specs.TimerLines.{registers_ok}
use Rattle.bus.specs.Memory.{verdict_at, Lengths}

-- a call that was accepted passed its first test and the later ones
pub unless-passed : (b : Bool) (n : Refusal) (later : Verdict) → unless b n later ≡ (Ok tt) → (b ≡ true) × (later ≡ (Ok tt))
unless-passed true n later e = (refl, e)
unless-passed false n later e =
    let z : ◌≡◌ {A = ℕ} 0 1 = cc in
    absurd (omega arith)

module _ (rom wram vram pak : ℕ) (regs : List ℕ) where
  passed : verdict_at rom wram vram pak regs ≡ (Ok tt) → (rom_ok rom ≡ true) × ((wram_ok wram ≡ true) ×
      ((vram_ok vram ≡ true) × ((pak_ok pak ≡ true) × (registers_ok regs ≡ true))))
  unfolding verdict_at
  passed e =
      let last = unless (registers_ok regs) State (Ok tt) in
      let fourth = unless (pak_ok pak) PakLength last in
      let third = unless (vram_ok vram) VramLength fourth in
      let second = unless (wram_ok wram) WramLength third in
      let a = unless-passed (rom_ok rom) RomLength second e in
      let b = unless-passed (wram_ok wram) WramLength third a.1 in
      let d = unless-passed (vram_ok vram) VramLength fourth b.1 in
      let f = unless-passed (pak_ok pak) PakLength last d.1 in
      let g = unless-passed (registers_ok regs) State (Ok tt) f.1 in
      (a.0, (b.0, (d.0, (f.0, g.0))))

  pub accepted-lengths : verdict_at rom wram vram pak regs ≡ (Ok tt) → Lengths rom wram vram pak
  unfolding wram_ok vram_ok
  accepted-lengths e =
      let p = passed e in
      record {
        rom-ok = p.0;
        wram-ok = eqb-true wram 65536 p.1.0;
        vram-ok = eqb-true vram 262144 p.1.1.0;
        pak-ok = p.1.1.1.0;
      }

  pub accepted-registers : verdict_at rom wram vram pak regs ≡ (Ok tt) → registers_ok regs ≡ true
  accepted-registers e = (passed e).1.1.1.1

  pub lengths-accepted : Lengths rom wram vram pak → registers_ok regs ≡ true → verdict_at rom wram vram pak regs ≡ (Ok tt)
  unfolding verdict_at wram_ok vram_ok
  lengths-accepted h r =
      simp (h.rom-ok, eq-eqb wram 65536 h.wram-ok, eq-eqb vram 262144 h.vram-ok, h.pak-ok, r)
