-- From the tests that a call made to its verdict, and from the verdict to what the call leaves. Assumes nothing.
use Rattle.std.specs.Prelude.{Ok, Err}
use Prim.Native.Nat.{ℕ}
use mathlib.Core.List.{List}
use mathlib.Core.Path.{◌≡◌, refl, sym, ap, ◌∙◌}
use native.Mathlib.Omega.{arith}
use lib.ListN.{length}
use Rattle.refusal.specs.Number.{unless, then_of, Verdict}
use Rattle.refusal.specs.declared.Refusal.TheVariants.{AccessList}
use Rattle.bus_timer.specs.declared.TimerLines.{TimerLines}
use Rattle.bus.specs.Registers.{drawing_in}
use Rattle.bus.specs.TimerLines.{device_length, hardware_in, device_of}
use Rattle.bus.specs.Memory.{Memory, with_regs, verdict_at, verdict_of}
use Rattle.bus.proofs.Devices.{device-whole}
use Rattle.bus_list.specs.List.{count_of, Made, made_of, accesses_of, list_ok}
use Rattle.bus_list.proofs.Registers.{accesses-registers}
use Rattle.bus_list.specs.Calls.{list_verdict_at, list_verdict_of, access_list_of}

then-passed : (v later : Verdict) → then_of v later ≡ (Ok tt) → (v ≡ (Ok tt)) × (later ≡ (Ok tt))
then-passed (Ok tt) later e = (refl, e)
then-passed (Err n) later e =
    let z : ◌≡◌ {A = ℕ} 0 1 = cc in
    absurd (omega arith)

module _ (rom wram vram pak : ℕ) (regs xs : List ℕ) where
  passed : list_verdict_at rom wram vram pak regs xs ≡ (Ok tt) → (verdict_at rom wram vram pak regs ≡ (Ok tt)) × (unless
      (list_ok xs) AccessList (Ok tt) ≡ (Ok tt))
  unfolding list_verdict_at
  passed e = then-passed (verdict_at rom wram vram pak regs) (unless (list_ok xs) AccessList (Ok tt)) e

module _ (m : Memory) (xs : List ℕ) (v : Verdict) (e : v ≡ list_verdict_of m xs) where
  pub bus-passed : v ≡ (Ok tt) → verdict_of m ≡ (Ok tt)
  bus-passed h =
      (passed (length m.rom) (length m.wram) (length m.vram) (length m.pak) m.regs xs (sym e ∙ h)).0

  pub list_left : v ≡ (Ok tt) → (t : Made) → t ≡ accesses_of (count_of xs) 0 m xs → t ≡ access_list_of m xs
  unfolding access_list_of
  list_left h t f = rw (← e, h) f

  -- with the device registers borrowed
  pub list-lent : v ≡ (Ok tt) → length m.regs ≡ device_length → (lent : List ℕ) → lent ≡ m.regs
      → (t : Made) → t ≡ accesses_of (count_of xs) 0 (with_regs m lent) xs
      → (drawn : List ℕ) (timer : TimerLines) → drawn ≡ drawing_in t.memory.regs → timer ≡ hardware_in t.memory.regs
      → made_of (with_regs t.memory (device_of drawn timer)) t.list ≡ access_list_of m xs
  list-lent h l lent f t g drawn timer p q =
      let same : t ≡ accesses_of (count_of xs) 0 m xs = g ∙ ap (λ (d : List ℕ). accesses_of (count_of xs) 0 (with_regs m d) xs) f in
      let whole : length t.memory.regs ≡ device_length = ap (λ (u : Made). length u.memory.regs) same ∙ (accesses-registers (count_of xs) 0 m xs ∙ l) in
      let parts : device_of drawn timer ≡ t.memory.regs = rw (p, q) (device-whole t.memory.regs whole) in
      ap (λ (d : List ℕ). made_of (with_regs t.memory d) t.list) parts ∙ list_left h t same
