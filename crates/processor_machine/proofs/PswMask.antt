-- `psw-bits-kept`: the statement of specs/PswMask, which is the form that omega reads.
use Prim.Native.Nat.{ℕ, ◌+◌, ◌*◌, ◌/◌, ◌%◌, ◌^◌, ◌<◌}
use mathlib.Core.Path.{◌≡◌, sym, ap, ◌∙◌}
use native.Mathlib.Omega.{arith}
use lib.Pow.{split}
use lib.Bits.{bit_and, and_block, and_mask}
use Rattle.processor_machine.specs.System.{psw_bits_of}
use Rattle.processor_machine.specs.PswMask.{PswBitsKept}

pub psw-bits-kept : PswBitsKept
unfolding psw_bits_of
psw-bits-kept v =
    let low : v % 2 ^ 12 < 2 ^ 12 = omega arith in
    let sum : v / 2 ^ 12 % 2 ^ 8 * 2 ^ 12 + v % 2 ^ 12 % 2 ^ 10 ≡ v % 2 ^ 10 + v / 2 ^ 12 % 2 ^ 8 * 2 ^ 12 = omega arith in
    ap (λ (n : ℕ). bit_and n 0x000FF3FF) (sym (split v 12))
    ∙ and_block 12 (v / 2 ^ 12) 255 (v % 2 ^ 12) 1023 low (omega arith)
    ∙ ap (λ (n : ℕ). n * 2 ^ 12 + bit_and (v % 2 ^ 12) 1023) (and_mask (v / 2 ^ 12) 8)
    ∙ ap (λ (n : ℕ). v / 2 ^ 12 % 2 ^ 8 * 2 ^ 12 + n) (and_mask (v % 2 ^ 12) 10)
    ∙ sum
