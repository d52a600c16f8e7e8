-- The control bits that are stored as a sum, in which omega reads them: two low bits, and two from bit 3 on. Assumes nothing.
use Prim.Native.Nat.{ℕ, ◌+◌, ◌*◌, ◌/◌, ◌%◌, ◌^◌, ◌<◌}
use mathlib.Core.Path.{◌≡◌, sym, ap, ◌∙◌}
use native.Mathlib.Omega.{arith}
use lib.Pow.{split}
use lib.Bits.{bit_and, and_block, and_mask}
use Rattle.bus_timer.specs.Ports.{control_bits_of}

pub control-sum : (c : ℕ) → control_bits_of c ≡ c % 4 + c / 8 % 4 * 8
unfolding control_bits_of
control-sum c =
    let low : c % 2 ^ 3 < 2 ^ 3 = omega arith in
    let sum : c / 2 ^ 3 % 2 ^ 2 * 2 ^ 3 + c % 2 ^ 3 % 2 ^ 2 ≡ c % 4 + c / 8 % 4 * 8 = omega arith in
    ap (λ (n : ℕ). bit_and n 0x1B) (sym (split c 3))
    ∙ and_block 3 (c / 2 ^ 3) 3 (c % 2 ^ 3) 3 low (omega arith)
    ∙ ap (λ (n : ℕ). n * 2 ^ 3 + bit_and (c % 2 ^ 3) 3) (and_mask (c / 2 ^ 3) 2)
    ∙ ap (λ (n : ℕ). c / 2 ^ 3 % 2 ^ 2 * 2 ^ 3 + n) (and_mask (c % 2 ^ 3) 2)
    ∙ sum

-- for tactics, which take a lemma by a name without a dash
pub ruleset stored = (control-sum)
