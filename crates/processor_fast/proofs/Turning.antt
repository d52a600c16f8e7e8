-- One turn of the loop: what the common instructions answer holds for all system registers, and SEI and CLI change PSW
-- above its flags.
use Rattle.std.proofs.Common.{◌≡◌, ℕ, ◌+◌, ◌-◌, ◌*◌, ◌/◌, ◌%◌, ◌^◌, ◌<◌, ◌≤◌, List, sym, refl, ap, ◌∙◌, arith, shr-shr}
use Rattle.bus.specs.Memory.{Memory}
use Rattle.processor_arithmetic.specs.Flag.{set_id_of, clear_id_of, flags_of}
use Rattle.processor_lazy_flags.specs.inner.Packed.{packed_of}
use Rattle.processor_lazy_flags.proofs.Kept.{packed-high}
use Rattle.processor_lazy_flags.specs.declared.Flags.{Flags}
use Rattle.processor_machine.specs.State.{Stepped}
use Rattle.processor_fast_compute.specs.inner.Fast.{Does}
use Rattle.processor_fast_compute.specs.declared.Fast.{Fast}
use Rattle.processor_fast_compute.specs.declared.Fast.TheVariants.{Done, Masked, NotHere}
use Rattle.processor_fast.specs.inner.Turns.{Turned}
use Rattle.processor_fast.proofs.Acceptance.{above}

pub turned : (r : Fast) (lines base x psw : ℕ) (g : Flags) (regs₀ sys : List ℕ) (m₀ : Memory) (regs : List ℕ) (m : Memory) (t : Stepped)
    → Does r base psw regs₀ m₀ regs m sys t → Turned r lines base x psw g regs₀ sys m₀ regs sys m t
turned (Done to addition value) lines base x psw g regs₀ sys m₀ regs m t d = d
turned (Masked p) lines base x psw g regs₀ sys m₀ regs m t d = absurd d
turned NotHere lines base x psw g regs₀ sys m₀ regs m t d = (d.0, refl, d.1)

-- ID stands above the flags: a number by its sixteenths, with bit 12 cleared
low_same : (p q : ℕ) (g : Flags) → packed_of p g % 16 ≡ packed_of q g % 16
unfolding packed_of flags_of
low_same p q g = omega arith

sixteenths : (k r : ℕ) → r < 16 → (k * 16 + r) / 16 ≡ k
sixteenths k r h = omega arith

cleared : (p q r b : ℕ) → p ≡ q * 16 + r → r < 16 → b * 256 ≤ q → (p - b * 4096) / 16 ≡ q - b * 256
cleared p q r b e h k =
    let s : p - b * 4096 ≡ (q - b * 256) * 16 + r = omega arith in
    rw s (sixteenths (q - b * 256) r h)

joined : (x p q b : ℕ) → x / 16 ≡ q - b * 256 → x % 16 ≡ p % 16 → p / 16 ≡ q → b * 256 ≤ q → x ≡ p - b * 4096
joined x p q b e l h k = omega arith

over : (x y : ℕ) → x / 16 ≡ y / 16 + 256 → x % 16 ≡ y % 16 → x ≡ y + 4096
over x y e l = omega arith

set-clear : (p : ℕ) → set_id_of p ≡ clear_id_of p + 4096
unfolding set_id_of clear_id_of
set-clear p = refl

module _ (psw : ℕ) where
  quarter : psw / 4096 ≡ psw / 16 / 256
  quarter = sym (shr-shr psw 4 8)

  within : psw / 16 / 256 % 2 * 256 ≤ psw / 16
  within = omega arith

  clear-high : clear_id_of psw / 16 ≡ psw / 16 - psw / 16 / 256 % 2 * 256
  unfolding clear_id_of
  clear-high = rw quarter (cleared psw (psw / 16) (psw % 16) (psw / 16 / 256 % 2) (omega arith) (omega arith) within)

  -- set is cleared and 4096 more
  set-high : set_id_of psw / 16 ≡ clear_id_of psw / 16 + 256
  unfolding set_id_of clear_id_of
  set-high = omega arith

  module _ (g : Flags) where
    id_same : packed_of psw g / 4096 ≡ psw / 16 / 256
    id_same = above 8 (packed_of psw g) psw (packed-high psw g) ∙ quarter

    pub packed-clear : packed_of (clear_id_of psw) g ≡ clear_id_of (packed_of psw g)
    unfolding clear_id_of
    packed-clear =
        rw id_same
        (joined (packed_of (clear_id_of psw) g) (packed_of psw g) (psw / 16) (psw / 16 / 256 % 2) (packed-high (clear_id_of psw) g ∙ clear-high)
        (low_same (clear_id_of psw) psw g) (packed-high psw g) within)

    pub packed-set : packed_of (set_id_of psw) g ≡ set_id_of (packed_of psw g)
    packed-set =
        let e : packed_of (set_id_of psw) g ≡ packed_of (clear_id_of psw) g + 4096 = over (packed_of (set_id_of psw) g) (packed_of
        (clear_id_of psw) g) (packed-high (set_id_of psw) g ∙ set-high ∙ ap (λ (n : ℕ). n + 256) (sym (packed-high
        (clear_id_of psw) g))) (low_same (set_id_of psw) (clear_id_of psw) g) in
        e ∙ ap (λ (n : ℕ). n + 4096) packed-clear ∙ sym (set-clear (packed_of psw g))
