-- What an accepted call says of the memories: the bus's verdict was accepted, so the lengths are those of 1 to 4.
use Rattle.std.specs.Prelude.{Ok, Err}
use Prim.Native.Nat.{ℕ}
use mathlib.Core.List.{List}
use mathlib.Core.Path.{◌≡◌, refl}
use native.Mathlib.Omega.{arith}
use Rattle.bus.specs.Memory.{verdict_at, Lengths}
use Rattle.refusal.specs.Number.{unless, then_of, Verdict}
use Rattle.refusal.specs.declared.Refusal as refusal
use Rattle.bus.proofs.Accepted.{accepted-lengths}
use Rattle.processor.specs.Acceptance.{acceptance_at, state_ok}

first-accepted : (v later : Verdict) → then_of v later ≡ (Ok tt) → v ≡ (Ok tt)
first-accepted (Ok tt) later e = refl
first-accepted (Err n) later e =
    let z : ◌≡◌ {A = ℕ} 0 1 = cc in
    absurd (omega arith)

pub lengths-of-accepted : (rom wram vram pak : ℕ) (device regs sys : List ℕ)
    (pc psw : ℕ) → acceptance_at rom wram vram pak device regs sys pc psw ≡ (Ok tt) → Lengths rom wram vram pak
unfolding acceptance_at
lengths-of-accepted rom wram vram pak device regs sys pc psw e =
    accepted-lengths rom wram vram pak device
    (first-accepted (verdict_at rom wram vram pak device)
    (unless (state_ok regs sys pc psw) refusal.TheVariants.State (Ok tt)) e)
