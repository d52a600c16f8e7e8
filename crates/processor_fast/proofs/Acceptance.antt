-- Acceptance inside a stretch: PSW above its four flags decides of it, and SEI lets nothing through.
use Rattle.std.proofs.Common.{◌≡◌, ℕ, ◌+◌, ◌-◌, ◌*◌, ◌/◌, ◌%◌, ◌^◌, Bool, true, false, eqb, sym, refl, ap, ◌∙◌, arith, shr-shr, eq-eqb}
use Rattle.word.specs.Bit.{bit_at}
use Rattle.word.proofs.Choices.{pick-either}
use Rattle.processor_arithmetic.specs.Flag.{set_id_of, id_flag}
use Rattle.processor_lazy_flags.specs.inner.Packed.{packed_of}
use Rattle.processor_lazy_flags.specs.declared.Flags.{Flags}
use Rattle.processor_lazy_flags.proofs.Kept.{packed-high}
use Rattle.processor_interrupt.specs.Interrupt.{level_of, masking_level_of, allows_of, accepts_of}
use Rattle.processor_machine.specs.declared.Mode.{Mode}
use Rattle.processor_machine.specs.declared.Mode.TheVariants.{Running}

-- what stands above the four flags stands above any place there
pub above : (j p q : ℕ) → p / 2 ^ 4 ≡ q / 2 ^ 4 → p / 2 ^ (4 + j) ≡ q / 2 ^ (4 + j)
above j p q e = sym (shr-shr p 4 j) ∙ ap (λ (n : ℕ). n / 2 ^ j) e ∙ shr-shr q 4 j

-- PSW above its four flags decides
accepts-high : (lines p q : ℕ) (mode : Mode) → p / 16 ≡ q / 16 → accepts_of lines p mode ≡ accepts_of lines q mode
unfolding accepts_of allows_of
accepts-high lines p q mode e =
    let np : p / 32768 ≡ q / 32768 = above 11 p q e in
    let ep : p / 16384 ≡ q / 16384 = above 10 p q e in
    let id : p / 4096 ≡ q / 4096 = above 8 p q e in
    let level : p / 65536 ≡ q / 65536 = above 12 p q e in
    rw (np, ep, id, level)

pub accepts-packed : (lines psw : ℕ) (g : Flags) (mode : Mode) → accepts_of lines (packed_of psw g) mode ≡ accepts_of lines psw mode
accepts-packed lines psw g mode = accepts-high lines (packed_of psw g) psw mode (packed-high psw g)

id_set : (psw : ℕ) → bit_at id_flag (set_id_of psw) ≡ 1
unfolding set_id_of
id_set psw = omega arith

-- nothing is accepted with ID set
pub accepts-id : (lines psw : ℕ) → accepts_of lines (set_id_of psw) Running ≡ false
unfolding accepts_of allows_of
accepts-id lines psw =
    simp (eq-eqb (bit_at id_flag (set_id_of psw)) 1 (id_set psw), pick-either)
