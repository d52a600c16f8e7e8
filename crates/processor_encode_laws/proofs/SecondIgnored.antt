-- `second-ignored`: the statement of specs/Clearing. The rows of Formats I to III have no second halfword, and the two other
-- opcodes of one halfword are illegal. Assumes nothing.
use Rattle.std.specs.Prelude.{Some, None}
use Prim.Native.Nat.{ℕ, ◌/◌, ◌≤◌}
use mathlib.Core.Bool.{true, false}
use mathlib.Core.List.{◌++◌}
use mathlib.Core.Path.{◌≡◌, sym, ap, ◌∙◌}
use native.Mathlib.Decide.{ℕ_discrete, dec_lt}
use native.Mathlib.Omega.{arith}
use borrow.Author.Tests.{le-ltb, ne_eqb}
use lib.ListN.{get_or}
use Rattle.processor_decode.specs.Format.{two_of}
use Rattle.processor_decode.specs.Opcode.{short_rows, branch_rows, long_rows, decode_of}
use Rattle.processor_decode.specs.declared.Instruction.TheVariants.{Illegal}
use Rattle.processor_decode.proofs.Rows.{short_row, branch_row}
use Rattle.processor_encode_laws.specs.Clearing.{SecondIgnored}

module _ (f s : ℕ) where
  illegal-50 : f / 1024 ≡ 50 → decode_of f s ≡ Some Illegal
  unfolding decode_of short_rows branch_rows long_rows
  illegal-50 e = ap (λ (i : ℕ). get_or (short_rows f ++ (branch_rows f ++ long_rows f s)) i None) e

  illegal-54 : f / 1024 ≡ 54 → decode_of f s ≡ Some Illegal
  unfolding decode_of short_rows branch_rows long_rows
  illegal-54 e = ap (λ (i : ℕ). get_or (short_rows f ++ (branch_rows f ++ long_rows f s)) i None) e

-- any other opcode from 40 on asks for a second halfword
asks : (f : ℕ) → 40 ≤ f / 1024 → (f / 1024 ≡ 50 → ⊥) → (f / 1024 ≡ 54 → ⊥) → two_of f ≡ true
asks f h n m = simp (le-ltb (f / 1024) 40 h, ne_eqb (f / 1024) 50 n, ne_eqb (f / 1024) 54 m)

never : (f : ℕ) → two_of f ≡ true → two_of f ≡ false → ⊥
never f p q = cc

pub second-ignored : SecondIgnored
second-ignored f s t one =
    elim (dec_lt (f / 1024) 32) [
      | yes short ↦ short_row f s short ∙ sym (short_row f t short)
      | no long ↦ elim (dec_lt (f / 1024) 40) [
        | yes branch ↦ branch_row f s (omega arith) branch ∙ sym (branch_row f t (omega arith) branch)
        | no rest ↦ elim (ℕ_discrete (f / 1024) 50) [
          | yes e ↦ illegal-50 f s e ∙ sym (illegal-50 f t e)
          | no n ↦ elim (ℕ_discrete (f / 1024) 54) [
            | yes e ↦ illegal-54 f s e ∙ sym (illegal-54 f t e)
            | no m ↦ absurd (never f (asks f (omega arith) n m) one)
          ]
        ]
      ]
    ]
