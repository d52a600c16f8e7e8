-- What an access does that borrows a copy of the device registers. Assumes nothing.
use Prim.Native.Nat.{ℕ}
use mathlib.Core.List.{List}
use mathlib.Core.Path.{◌≡◌, ap, subst, ◌∙◌}
use lib.ListN.{length}
use Rattle.bus_timer.specs.declared.TimerLines.{TimerLines}
use Rattle.bus.specs.Registers.{drawing_in}
use Rattle.bus.specs.TimerLines.{device_length, hardware_in, device_of}
use Rattle.bus.specs.Memory.{Memory, with_regs, Reads, store_of}
use Rattle.bus.proofs.Devices.{device-whole}
use Rattle.bus.proofs.Kept.{store-shape}

-- an access that borrowed a copy of the device registers
module _ (m : Memory) (size a : ℕ) (lent : List ℕ) (same : lent ≡ m.regs) where
  pub load-lent : (r : ℕ) → Reads (with_regs m lent) size a r → Reads m size a r
  load-lent r p = subst (λ (x : List ℕ). Reads (with_regs m x) size a r) same p

  pub store-lent : (v : ℕ) → length m.regs ≡ device_length → (left : Memory) → left ≡ store_of (with_regs m lent) size a v
      → (drawn : List ℕ) → drawn ≡ drawing_in left.regs → (timer : TimerLines) → timer ≡ hardware_in left.regs
      → with_regs left (device_of drawn timer) ≡ store_of m size a v
  store-lent v l left p drawn d timer t =
      let after : left ≡ store_of m size a v = p ∙ ap (λ (x : List ℕ). store_of (with_regs m x) size a v) same in
      let whole : length left.regs ≡ device_length = ap (λ (n : Memory). length n.regs) after ∙ ((store-shape m size a v).same_regs ∙ l) in
      let parts : device_of drawn timer ≡ left.regs = rw (d, t) (device-whole left.regs whole) in
      ap (with_regs left) parts ∙ after
