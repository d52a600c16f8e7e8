-- Which opcodes load: the decoder's row of each. Assumes nothing.
use Rattle.std.specs.Prelude.{Option, Some, None}
use Rattle.std.proofs.Common.{◌≡◌, ℕ, zero, suc, ◌/◌, ◌<◌, Bool, true, false, T, eqb, List, [], ◌∷◌, ◌++◌, get_or, refl, ne_eqb, eqb-true}
use native.Mathlib.Decide.{ℕ_discrete}
use Rattle.word.specs.Choose.{pick, member}
use Rattle.word.proofs.Choices.{pick-head, pick-tail}
use Rattle.word.proofs.Listed.{every_below, below-test}
use Rattle.bus.specs.Memory.{Memory}
use Rattle.processor_decode.specs.Format.{low_of, reg2_of, transfer, ldsr, stsr}
use Rattle.processor_decode.specs.Opcode.{decode_of, short_rows, branch_rows, long_rows}
use Rattle.processor_decode.specs.SubOpcode.{sub_rows, extended_of}
use Rattle.word.specs.declared.width.Width.TheVariants.{Byte, Half, Word}
use Rattle.processor_decode.specs.declared.Instruction.TheVariants.{Load, In, Ldsr, Stsr, Illegal}
use Rattle.processor_machine.specs.State.{State}
use Rattle.processor_undefined.specs.Reads.{decoded_load_of}
use Rattle.processor_decode.specs.declared.Instruction.{Instruction}

-- the six rows that load
module _ (f s : ℕ) where
  pub row-48 : f / 1024 ≡ 48 → decode_of f s ≡ transfer Load Byte f s
  unfolding decode_of short_rows branch_rows long_rows
  row-48 e = rw e

  pub row-49 : f / 1024 ≡ 49 → decode_of f s ≡ transfer Load Half f s
  unfolding decode_of short_rows branch_rows long_rows
  row-49 e = rw e

  pub row-51 : f / 1024 ≡ 51 → decode_of f s ≡ transfer Load Word f s
  unfolding decode_of short_rows branch_rows long_rows
  row-51 e = rw e

  pub row-56 : f / 1024 ≡ 56 → decode_of f s ≡ transfer In Byte f s
  unfolding decode_of short_rows branch_rows long_rows
  row-56 e = rw e

  pub row-57 : f / 1024 ≡ 57 → decode_of f s ≡ transfer In Half f s
  unfolding decode_of short_rows branch_rows long_rows
  row-57 e = rw e

  pub row-59 : f / 1024 ≡ 59 → decode_of f s ≡ transfer In Word f s
  unfolding decode_of short_rows branch_rows long_rows
  row-59 e = rw e

  -- LDSR and STSR, whose rows name register 24 apart
  row-28 : f / 1024 ≡ 28 → decode_of f s ≡ ldsr f
  unfolding decode_of short_rows branch_rows long_rows
  row-28 e = rw e

  row-29 : f / 1024 ≡ 29 → decode_of f s ≡ stsr f
  unfolding decode_of short_rows branch_rows long_rows
  row-29 e = rw e

  -- 111110, which has separate rows
  row-62 : f / 1024 ≡ 62 → decode_of f s ≡ extended_of f s
  unfolding decode_of short_rows branch_rows long_rows
  row-62 e = rw e

-- the rows that load, and those that are not an instruction by themselves
abbrev apart : List ℕ
apart = 28 ∷ 29 ∷ 48 ∷ 49 ∷ 51 ∷ 56 ∷ 57 ∷ 59 ∷ 62 ∷ []

-- whether no row of a list loads
abbrev none_loads : List (Option Instruction) → State → Memory → Bool
none_loads [] t m = true
none_loads (x ∷ xs) t m = pick (eqb (decoded_load_of x t m) 0) (none_loads xs t m) false

row-quiet : (xs : List (Option Instruction)) (k : ℕ) (d : Option Instruction) (t : State) (m : Memory) → T
    (none_loads xs t m) → decoded_load_of d t m ≡ 0 → decoded_load_of (get_or xs k d) t m ≡ 0
row-quiet [] k d t m h e = e
row-quiet (x ∷ xs) zero d t m h e = eqb-true _ 0 (pick-head (eqb (decoded_load_of x t m) 0) (none_loads xs t m) h)
row-quiet (x ∷ xs) (suc k) d t m h e = row-quiet xs k d t m (pick-tail (eqb (decoded_load_of x t m) 0) (none_loads xs t m) h) e

extended-quiet : (f s : ℕ) (t : State) (m : Memory) → decoded_load_of (extended_of f s) t m ≡ 0
unfolding extended_of sub_rows
extended-quiet f s t m = row-quiet (sub_rows f) (s / 1024) (Some Illegal) t m tt refl

module _ (f s : ℕ) (t : State) (m : Memory) where
  abbrev quiet : ℕ → Bool
  quiet q =
      pick (member q apart) true (eqb (decoded_load_of (get_or (short_rows f ++ (branch_rows f ++ long_rows f s)) q None) t m) 0)

  all_quiet : T (every_below quiet 64)
  unfolding short_rows branch_rows long_rows
  all_quiet = tt

  either : (d e : Option Instruction) (b : Bool) → decoded_load_of d t m ≡ 0 → decoded_load_of e t m ≡ 0 → decoded_load_of (pick b d e) t m ≡ 0
  either d e true p q = p
  either d e false p q = q

  other : f / 1024 < 64 → member (f / 1024) apart ≡ false → decoded_load_of (decode_of f s) t m ≡ 0
  unfolding decode_of
  other h n = eqb-true _ 0 (rw n at (below-test quiet 64 (f / 1024) all_quiet h))

  pub loads-nothing : f / 1024 < 64 → (f / 1024 ≡ 48 → ⊥) → (f / 1024 ≡ 49 → ⊥) → (f / 1024 ≡ 51 → ⊥) →
      (f / 1024 ≡ 56 → ⊥) → (f / 1024 ≡ 57 → ⊥) → (f / 1024 ≡ 59 → ⊥) → decoded_load_of (decode_of f s) t m ≡ 0
  loads-nothing h n₁ n₂ n₃ n₄ n₅ n₆ =
      elim (ℕ_discrete (f / 1024) 28) [
        | yes e ↦ rw (row-28 f s e) (either None (Some (Ldsr (reg2_of f) (low_of f))) (eqb (low_of f) 24) refl refl)
        | no a ↦ elim (ℕ_discrete (f / 1024) 29) [
          | yes e ↦ rw (row-29 f s e) (either None (Some (Stsr (low_of f) (reg2_of f))) (eqb (low_of f) 24) refl refl)
          | no b ↦ elim (ℕ_discrete (f / 1024) 62) [
            | yes e ↦ rw (row-62 f s e) (extended-quiet f s t m)
            | no c ↦
                other h
                (simp (
                  ne_eqb (f / 1024) 28 a,
                  ne_eqb (f / 1024) 29 b,
                  ne_eqb (f / 1024) 62 c,
                  ne_eqb
                      (f / 1024) 48 n₁,
                  ne_eqb (f / 1024) 49 n₂,
                  ne_eqb (f / 1024) 51 n₃,
                  ne_eqb (f / 1024) 56 n₄,
                  ne_eqb
                      (f / 1024) 57 n₅,
                  ne_eqb (f / 1024) 59 n₆,
                ))
          ]
        ]
      ]
