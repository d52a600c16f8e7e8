-- Opcode 111110: its traps' flags, its decoding, and what its instructions change.
use Rattle.std.specs.Prelude.{Option, Some, None}
use Prim.Native.Nat.{ℕ, ◌*◌, ◌/◌, ◌%◌, ◌^◌, ◌<◌}
use mathlib.Core.Path.{◌≡◌, refl, ap, subst}
use mathlib.Core.Logic.{◌⊎◌, inl, inr}
use mathlib.Core.Bool.{Bool, true, false}
use mathlib.Core.List.{List, [], ◌∷◌, ◌++◌}
use native.Mathlib.Decide.{ℕ_discrete}
use native.Mathlib.Omega.{arith}
use lib.Dec.{ltb, eqb}
use lib.ListN.{get_or, set}
use lib.Seq.{get_or-set_other}
use lib.Ieee.{Float, binary32, to_bits, of_int}
use Rattle.word.proofs.Choices.{pick-each}
use Rattle.word.specs.Bit.{bit_at}
use Rattle.processor_arithmetic.specs.Integer.{signed}
use Rattle.processor_arithmetic.proofs.Places.{set-flag, set-flag-others}
use Rattle.bus.specs.Memory.{Memory}
use Rattle.processor_decode.specs.SubOpcode.{sub_rows, extended_of}
use Rattle.processor_decode.specs.Opcode.{short_rows, branch_rows, long_rows, decode_of}
use Rattle.processor_decode.specs.declared.Instruction.TheVariants.{Illegal}
use Rattle.processor_decode.specs.declared.sub_opcode.FloatingOperation.{FloatingOperation}
use Rattle.processor_float.specs.Operand.{is_zero}
use Rattle.processor_float.specs.Arithmetic.{outcome_of}
use Rattle.processor_float.specs.Conversion.{nearest_size_of, truncated_size_of, converted_of, nearest_of, truncated_of}
use Rattle.processor_float.specs.Comparison.{comparison_of}
use Rattle.processor_float.specs.Flag.{order_flags_of, underflow_of, number_flags_of, conversion_flags_of}
use Rattle.processor_float.specs.declared.Operation.{Operation}
use Rattle.processor_float.specs.declared.Compared.{Compared}
use Rattle.processor_float.specs.declared.FloatOutcome.{FloatOutcome}
use Rattle.processor_float.specs.declared.FloatOutcome.TheVariants.{Number, Word, Reserved, Invalid, ZeroDivide, Overflow}
use Rattle.processor_float_laws.proofs.Flagged.{order-placed, number-placed, conversion-placed}
use Rattle.processor_machine.specs.State.{State, Stepped, reg_of, put_of}
use Rattle.processor_machine.specs.declared.Cause.TheVariants as cause
use Rattle.processor_machine.specs.declared.floating.FloatCause.{FloatCause}
use Rattle.processor_execute.specs.Floating.{floating_of, nintendo_of}
use Rattle.processor_execute.specs.Result.{goes_on}
use Rattle.processor_execute.specs.Floating.{settles_of, compares_of}
use Rattle.processor_execute.specs.Execute.{execute_of}
use Rattle.processor_laws.specs.Trapping.{Outside}
use Rattle.processor_laws.specs.Extended.{FlagsSaved, Decodes, Changes, Traps, floating_flags, CmpfChanges, FloatingChanges, NintendoChanges}
use Rattle.processor_laws.proofs.Lists.{each_at}
use Rattle.processor_laws.proofs.Floats.{Kept, outcome-kept, converted-each}
use Rattle.processor_decode.specs.declared.Instruction.{Instruction}

pub flags-saved : FlagsSaved
flags-saved =
    record {
      fro = record { set = λ psw. set-flag 9 psw; kept = λ psw k n. set-flag-others k 9 psw n };
      fiv = record { set = λ psw. set-flag 8 psw; kept = λ psw k n. set-flag-others k 8 psw n };
      fzd = record { set = λ psw. set-flag 7 psw; kept = λ psw k n. set-flag-others k 7 psw n };
      fov = record { set = λ psw. set-flag 6 psw; kept = λ psw k n. set-flag-others k 6 psw n };
    }

-- ---- decoding

abbrev Modelled? : Option Instruction → Type 0
Modelled? (Some i) = Unit {0}
Modelled? None = ⊥

each-modelled : (f s : ℕ) → Modelled? (extended_of f s)
unfolding sub_rows extended_of
each-modelled f s =
    each_at Modelled? (sub_rows f) (s / 1024) (Some Illegal)
    (tt, (tt, (tt, (tt, (tt, (tt, (tt, (tt, (tt, (tt, (tt, (tt, (tt, tt))))))))))))) tt

row_of : (f s : ℕ) → f / 1024 ≡ 62 → decode_of f s ≡ extended_of f s
unfolding decode_of short_rows branch_rows long_rows
row_of f s e = ap (λ (i : ℕ). get_or (short_rows f ++ (branch_rows f ++ long_rows f s)) i None) e

ignored-bits : (f s : ℕ) → extended_of f s ≡ extended_of f (s / 1024 * 1024)
unfolding extended_of
ignored-bits f s =
    let e : s / 1024 ≡ s / 1024 * 1024 / 1024 = omega arith in
    ap (λ (i : ℕ). get_or (sub_rows f) i (Some Illegal)) e

pub decodes : (f s : ℕ) → Decodes f s
decodes f s =
    record {
      row = row_of f s;
      modelled = λ e. subst Modelled? e (each-modelled f s);
      ignored = ignored-bits f s;
    }

-- ---- what changes

-- a floating outcome's flags leave every bit of PSW but those of `flags`
abbrev Within : List ℕ → ℕ → FloatOutcome → Type 0
Within flags psw (Number v underflowed) =
    (k : ℕ) → Outside k flags → bit_at k (number_flags_of psw (to_bits binary32 v) underflowed) ≡ bit_at k psw
Within flags psw (Word w) = (k : ℕ) → Outside k flags → bit_at k (conversion_flags_of psw w) ≡ bit_at k psw
Within flags psw Reserved = Unit {0}
Within flags psw Invalid = Unit {0}
Within flags psw ZeroDivide = Unit {0}
Within flags psw Overflow = Unit {0}

module _ (psw : ℕ) where
  -- Z, S and OV alone
  conversion-within : (w : ℕ) → w < 2 ^ 32 → Within (0 ∷ 1 ∷ 2 ∷ []) psw (Word w)
  conversion-within w h k n =
      let p = conversion-placed psw w h in
      elim (ℕ_discrete k 3) [
        | yes e ↦ rw e p.at_cy
        | no ne ↦ p.others k (omega (arith, n.0, n.1.0, n.1.1.0))
      ]

  converted-within : (w n : ℕ) → Within (0 ∷ 1 ∷ 2 ∷ []) psw (converted_of w n)
  converted-within = converted-each (Within (0 ∷ 1 ∷ 2 ∷ []) psw) tt tt conversion-within

  -- Z, S, OV, CY and FUD
  number-within : (o : FloatOutcome) → Kept o → Within (0 ∷ 1 ∷ 2 ∷ 3 ∷ 5 ∷ []) psw o
  number-within (Number v underflowed) h =
      λ k n. (number-placed psw (to_bits binary32 v) underflowed).others k (omega (arith, n.0, n.1.0, n.1.1.0, n.1.1.1.0)) n.1.1.1.1.0
  number-within (Word w) h = λ k n. conversion-within w h k (n.0, (n.1.0, (n.1.1.0, tt)))
  number-within Reserved h = tt
  number-within Invalid h = tt
  number-within ZeroDivide h = tt
  number-within Overflow h = tt

  -- Z, S, OV and CY
  order-within : (z n : Bool) (k : ℕ) → Outside k (0 ∷ 1 ∷ 2 ∷ 3 ∷ []) → bit_at k (order_flags_of psw z n) ≡ bit_at k psw
  order-within z n k f = (order-placed psw z n).others k (omega (arith, f.0, f.1.0, f.1.1.0, f.1.1.1.0))

  floated-within : (v : Float) → Within (0 ∷ 1 ∷ 2 ∷ 3 ∷ []) psw (Number v false)
  unfolding number_flags_of underflow_of
  floated-within v k f = order-within (is_zero (to_bits binary32 v)) (ltb (2 ^ 31) (to_bits binary32 v)) k f

  floating-within : (op : FloatingOperation) (a b : ℕ) → Within (floating_flags op) psw (floating_of op a b)
  unfolding nearest_of truncated_of
  floating-within FloatingOperation.CvtWs a b = floated-within (of_int binary32 (signed b))
  floating-within FloatingOperation.CvtSw a b = converted-within b (nearest_size_of b)
  floating-within FloatingOperation.Addf a b = number-within (outcome_of Operation.Add a b) (outcome-kept Operation.Add a b)
  floating-within FloatingOperation.Subf a b = number-within (outcome_of Operation.Subtract a b) (outcome-kept Operation.Subtract a b)
  floating-within FloatingOperation.Mulf a b = number-within (outcome_of Operation.Multiply a b) (outcome-kept Operation.Multiply a b)
  floating-within FloatingOperation.Divf a b = number-within (outcome_of Operation.Divide a b) (outcome-kept Operation.Divide a b)
  floating-within FloatingOperation.TrncSw a b = converted-within b (truncated_size_of b)

-- reg2 written, every other general register stays
put-general : (reg2 : ℕ) (s : State) (v k : ℕ) → Outside k (reg2 % 32 ∷ []) → get_or (put_of s.regs reg2 v) k 0 ≡ get_or s.regs k 0
unfolding put_of
put-general reg2 s v k n =
    pick-each (λ (l : List ℕ). get_or l k 0 ≡ get_or s.regs k 0) (eqb (reg2 % 32) 0) s.regs (set s.regs (reg2 % 32) v)
    refl (get_or-set_other s.regs (reg2 % 32) k v 0 n.0)

module _ (reg2 next : ℕ) (s : State) (m : Memory) where
  abbrev Does : List ℕ → List ℕ → Stepped → Type 0
  Does registers flags t = Changes registers flags next s m t ⊎ Traps next s m t

  gives : (flags : List ℕ) (v psw : ℕ) → ((k : ℕ) → Outside k flags → bit_at k psw ≡ bit_at k s.psw)
      → Changes (reg2 % 32 ∷ []) flags next s m (goes_on (put_of s.regs reg2 v) next psw s m)
  gives flags v psw h =
      record { answer = refl; memory = refl; general = put-general reg2 s v; system = refl; pc = refl; psw = h; mode = refl }

  stays : (z n : Bool) → Changes [] (0 ∷ 1 ∷ 2 ∷ 3 ∷ []) next s m (goes_on s.regs next (order_flags_of s.psw z n) s m)
  stays z n =
      record {
        answer = refl;
        memory = refl;
        general = λ k f. refl;
        system = refl;
        pc = refl;
        psw = order-within s.psw z n;
        mode = refl;
      }

  settles : (flags : List ℕ) (o : FloatOutcome) → Within flags s.psw o → Does (reg2 % 32 ∷ []) flags (settles_of reg2 o next s m)
  settles flags (Number v underflowed) h =
      let w = to_bits binary32 v in
      inl (gives flags w (number_flags_of s.psw w underflowed) h)
  settles flags (Word w) h = inl (gives flags w (conversion_flags_of s.psw w) h)
  settles flags Reserved h = inr (record { cause = cause.Float FloatCause.Reserved; floating = refl; raised = refl })
  settles flags Invalid h = inr (record { cause = cause.Float FloatCause.Invalid; floating = refl; raised = refl })
  settles flags ZeroDivide h = inr (record { cause = cause.Float FloatCause.ZeroDivide; floating = refl; raised = refl })
  settles flags Overflow h = inr (record { cause = cause.Float FloatCause.Overflow; floating = refl; raised = refl })

  compares : (c : Compared) → Does [] (0 ∷ 1 ∷ 2 ∷ 3 ∷ []) (compares_of c next s m)
  compares Compared.Lower = inl (stays false true)
  compares Compared.Equal = inl (stays true false)
  compares Compared.Higher = inl (stays false false)
  compares Compared.Reserved = inr (record { cause = cause.Float FloatCause.Reserved; floating = refl; raised = refl })

pub cmpf-changes : CmpfChanges
unfolding execute_of
cmpf-changes reg1 reg2 next s m = compares reg2 next s m (comparison_of (reg_of s reg2) (reg_of s reg1))

pub floating-changes : FloatingChanges
unfolding execute_of
floating-changes op reg1 reg2 next s m =
    let o = floating_of op (reg_of s reg2) (reg_of s reg1) in
    settles reg2 next s m (floating_flags op) o (floating-within s.psw op (reg_of s reg2) (reg_of s reg1))

pub nintendo-changes : NintendoChanges
unfolding execute_of
nintendo-changes op reg1 reg2 next s m =
    record {
      answer = refl;
      memory = refl;
      general = put-general reg2 s (nintendo_of op (reg_of s reg2) (reg_of s reg1));
      system = refl;
      pc = refl;
      psw = λ k f. refl;
      mode = refl;
    }
