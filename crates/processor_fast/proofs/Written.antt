-- LDSR of a number other than PSW's leaves PSW.
use Rattle.std.proofs.Common.{◌≡◌, ℕ, ◌%◌, eqb, List, get_or, refl, ap, ◌∙◌, ne_eqb}
use Rattle.word.proofs.Choices.{pick-each}
use Rattle.bus.specs.Memory.{Memory}
use Rattle.processor_decode.specs.declared.Instruction.TheVariants.{Ldsr}
use Rattle.processor_execute.specs.Execute.{execute_of}
use Rattle.processor_machine.specs.State.{state_of, stepped_of}
use Rattle.processor_machine.specs.System.{Status, status_of, written_of}
use Rattle.processor_machine.specs.declared.Answer.TheVariants.{Ended}
use Rattle.processor_machine.specs.declared.Mode.TheVariants.{Running}

pub written-psw : (sys : List ℕ) (psw id v : ℕ) → (id ≡ 5 → ⊥) → (written_of sys psw id v).psw ≡ psw
unfolding written_of
written-psw sys psw id v h =
    let each = pick-each (λ (s : Status). s.psw ≡ psw) in
    each (eqb id 0) _ _ refl
    (each (eqb id 1) _ _ refl
    (each (eqb id 2) _ _ refl
    (each (eqb id 3) _ _ refl
    (rw (ne_eqb id 5 h)
    (each (eqb id 25) _ _ refl (each (eqb id 29) _ _ refl (each (eqb id 31) _ _ refl refl)))))))

pub written-does : (pc next psw n id r : ℕ) (regs sys sys' : List ℕ) (m : Memory) → (id ≡ 5 → ⊥)
    → status_of sys' r ≡ written_of sys psw id (get_or regs (n % 32) 0)
    → stepped_of Ended (state_of regs sys' next psw Running) m ≡ execute_of (Ldsr n id) next (state_of regs sys pc psw Running) m
unfolding execute_of
written-does pc next psw n id r regs sys sys' m h e =
    let k : r ≡ psw = ap (λ (w : Status). w.psw) e ∙ written-psw sys psw id (get_or regs (n % 32) 0) h in
    rw (← e, k)
