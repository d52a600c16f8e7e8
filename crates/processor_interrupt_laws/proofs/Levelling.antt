-- `level-placed`: the statement of specs/Level. Assumes nothing.
use Prim.Native.Nat.{ℕ, ◌+◌, ◌*◌, ◌/◌, ◌%◌, ◌^◌, ◌<◌}
use mathlib.Core.Path.{◌≡◌, sym, ap, ◌∙◌}
use native.Mathlib.Omega.{arith}
use lib.Pow.{shr-shr}
use Rattle.word.specs.Bit.{bit_at}
use Rattle.processor_arithmetic.proofs.Bits.{same_above, same-below}
use Rattle.processor_interrupt.specs.Interrupt.{with_level_of}
use Rattle.processor_interrupt_laws.specs.Level.{LevelPlaced}

module _ (level psw : ℕ) (small : level < 16) where
  -- from bit 16 on
  upper : with_level_of level psw / 2 ^ 16 ≡ psw / 1048576 * 16 + level
  unfolding with_level_of
  upper = omega arith

  lower : with_level_of level psw % 2 ^ 16 ≡ psw % 2 ^ 16
  unfolding with_level_of
  lower = omega arith

  top : with_level_of level psw / 2 ^ 20 ≡ psw / 2 ^ 20
  unfolding with_level_of
  top = omega arith

  own : (k : ℕ) → k < 4 → bit_at (16 + k) (with_level_of level psw) ≡ bit_at k level
  own k less =
      ap (λ (n : ℕ). n % 2) (sym (shr-shr (with_level_of level psw) 16 k) ∙ ap (λ (n : ℕ). n / 2 ^ k) upper)
      ∙ same-below (psw / 1048576 * 16 + level) level k 4 (omega arith) less

pub level-placed : LevelPlaced
level-placed level psw small =
    record {
      masking = omega (arith, upper level psw small);
      bits = own level psw small;
      below = λ k less. same-below (with_level_of level psw) psw k 16 (lower level psw small) less;
      above = λ k more. same_above (with_level_of level psw) psw 20 k (top level psw small) more;
    }
