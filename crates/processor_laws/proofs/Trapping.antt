-- `trap-leaves`: the statement of specs/Trapping, by the three entries. Assumes nothing.
use Prim.Native.Nat.{ℕ, ◌+◌, ◌*◌, ◌/◌, ◌%◌, ◌<◌}
use mathlib.Core.List.{List, [], ◌∷◌}
use mathlib.Core.Path.{◌≡◌, refl, ap, ◌∙◌}
use mathlib.Core.Logic.{◌≢◌}
use native.Mathlib.Decide.{dec_lt}
use native.Mathlib.Omega.{arith}
use borrow.Author.Tests.{eq-eqb, ne_eqb}
use lib.Dec.{eqb}
use lib.ListN.{length, get_or, set, length-set}
use lib.Seq.{get_or-set_same, get_or-set_other, set_out}
use Rattle.word.proofs.Choices.{pick-each}
use Rattle.word.specs.Bit.{bit_at}
use Rattle.processor_arithmetic.specs.Flag.{ep_flag, np_flag}
use Rattle.processor_arithmetic.proofs.Entering.{regular-entry, duplexed-entry}
use Rattle.bus.specs.Memory.{Memory}
use Rattle.processor_machine.specs.State.{State, Stepped}
use Rattle.processor_machine.specs.Exception.{code_of, handler_of, restore_of, fatal_of, duplexed_entry_of, regular_entry_of, enter_of, raise_of}
use Rattle.processor_machine.specs.FloatCause.{saved_of}
use Rattle.processor_machine.specs.declared.Cause.{Cause}
use Rattle.processor_machine.specs.declared.Answer.TheVariants.{Trapped}
use Rattle.processor_laws.specs.Trapping.{Entered, Leaves, TrapLeaves}
use Rattle.processor_laws.proofs.Exceptions.{code-small}

-- ---- the stored system registers with three of them set

module _ (l : List ℕ) (p q x y : ℕ) where
  others : (z k : ℕ) → k ≢ p → k ≢ q → k ≢ 4 → get_or (set (set (set l p x) q y) 4 z) k 0 ≡ get_or l k 0
  others z k np nq n4 =
      get_or-set_other (set (set l p x) q y) 4 k z 0 n4 ∙ get_or-set_other (set l p x) q k y 0 nq ∙ get_or-set_other l p k x 0 np

  saved : (z : ℕ) → q ≢ 4 → q < length l → get_or (set (set (set l p x) q y) 4 z) q 0 ≡ y
  saved z n h =
      let inside : q < length (set l p x) = rw (length-set l p x) h in
      get_or-set_other (set (set l p x) q y) 4 q z 0 n ∙ get_or-set_same (set l p x) q y 0 inside

  ecr : 4 ≢ p → 4 ≢ q → get_or (set (set l p x) q y) 4 0 ≡ get_or l 4 0
  ecr np nq = get_or-set_other (set l p x) q 4 y 0 nq ∙ get_or-set_other l p 4 x 0 np

-- a half of ECR that the new value keeps
half : (g : ℕ → ℕ) (l : List ℕ) (z : ℕ) → g z ≡ g (get_or l 4 0) → g (get_or (set l 4 z) 4 0) ≡ g (get_or l 4 0)
half g l z e =
    elim (dec_lt 4 (length l)) [
      | yes inside ↦ ap g (get_or-set_same l 4 z 0 inside) ∙ e
      | no outside ↦ ap (λ (r : List ℕ). g (get_or r 4 0)) (set_out l 4 z (omega arith))
    ]

-- ---- the three entries

module _ (c : Cause) (next : ℕ) (s : State) (m : Memory) where
  abbrev restore : ℕ
  restore = restore_of c s.pc next

  abbrev kept : ℕ
  kept = saved_of c s.psw

  abbrev duplexed : Stepped
  duplexed = duplexed_entry_of c (code_of c) restore kept s m

  abbrev regular : Stepped
  regular = regular_entry_of c (code_of c) (handler_of c) restore kept s m

  raise-fatal : bit_at np_flag s.psw ≡ 1 → raise_of c next s m ≡ fatal_of c s m
  unfolding raise_of enter_of
  raise-fatal e = simp (eq-eqb (bit_at np_flag s.psw) 1 e)

  raise-duplexed : bit_at np_flag s.psw ≡ 0 → bit_at ep_flag s.psw ≡ 1 → raise_of c next s m ≡ duplexed
  unfolding raise_of enter_of
  raise-duplexed e f =
      simp (ne_eqb (bit_at np_flag s.psw) 1 (λ g. omega arith), eq-eqb (bit_at ep_flag s.psw) 1 f)

  raise-regular : bit_at np_flag s.psw ≡ 0 → bit_at ep_flag s.psw ≡ 0 → raise_of c next s m ≡ regular
  unfolding raise_of enter_of
  raise-regular e f =
      simp (ne_eqb (bit_at np_flag s.psw) 1 (λ g. omega arith), ne_eqb (bit_at ep_flag s.psw) 1 (λ g. omega arith))

  abbrev Both : Stepped → Type 0
  Both t = (t.memory ≡ m) × (t.state.regs ≡ s.regs)

  both : Both (raise_of c next s m)
  unfolding raise_of enter_of
  both =
      pick-each Both (eqb (bit_at np_flag s.psw) 1) (fatal_of c s m) _ (refl, refl)
      (pick-each Both (eqb (bit_at ep_flag s.psw) 1) duplexed regular (refl, refl) (refl, refl))

  trapped : bit_at np_flag s.psw ≡ 0 → (raise_of c next s m).answer ≡ Trapped c
  unfolding raise_of enter_of
  trapped e =
      rw (ne_eqb (bit_at np_flag s.psw) 1 (λ g. omega arith))
      (pick-each (λ (t : Stepped). t.answer ≡ Trapped c) (eqb (bit_at ep_flag s.psw) 1) duplexed regular refl refl)

  duplexed-enters : Entered (2 ∷ 3 ∷ 4 ∷ []) 3 np_flag kept s duplexed.state
  duplexed-enters =
      record {
        mode = refl;
        system = λ k n. others s.sys 2 3 restore kept _ k n.0 n.1.0 n.1.1.0;
        kept = λ h. saved s.sys 2 3 restore kept _ (λ e. omega arith) h;
        psw = duplexed-entry kept;
      }

  regular-enters : Entered (0 ∷ 1 ∷ 4 ∷ []) 1 ep_flag kept s regular.state
  regular-enters =
      record {
        mode = refl;
        system = λ k n. others s.sys 0 1 restore kept _ k n.0 n.1.0 n.1.1.0;
        kept = λ h. saved s.sys 0 1 restore kept _ (λ e. omega arith) h;
        psw = regular-entry kept;
      }

  duplexed-half : get_or duplexed.state.sys 4 0 % 65536 ≡ get_or s.sys 4 0 % 65536
  duplexed-half =
      let l = set (set s.sys 2 restore) 3 kept in
      half (λ (n : ℕ). n % 65536) l (get_or l 4 0 % 65536 + code_of c * 65536) (omega arith)
      ∙ ap (λ (n : ℕ). n % 65536) (ecr s.sys 2 3 restore kept (λ e. omega arith) (λ e. omega arith))

  regular-half : get_or regular.state.sys 4 0 / 65536 ≡ get_or s.sys 4 0 / 65536
  regular-half =
      let l = set (set s.sys 0 restore) 1 kept in
      half (λ (n : ℕ). n / 65536) l (get_or l 4 0 / 65536 * 65536 + code_of c) (omega (arith, code-small c))
      ∙ ap (λ (n : ℕ). n / 65536) (ecr s.sys 0 1 restore kept (λ e. omega arith) (λ e. omega arith))

  leaves : Leaves c s m (raise_of c next s m)
  leaves =
      record {
        memory = both.0;
        general = both.1;
        fatal = λ e. rw (raise-fatal e) (refl, refl);
        trapped = trapped;
        duplexed = λ e f. rw (raise-duplexed e f) (duplexed-enters, duplexed-half);
        regular = λ e f. rw (raise-regular e f) (regular-enters, regular-half);
      }

pub trap-leaves : TrapLeaves
trap-leaves c next s m = leaves c next s m
