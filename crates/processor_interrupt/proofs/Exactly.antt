-- `accepts-taken`, `acceptable-accepts` and `entry-regular`: the statements of specs/Accepted. Assumes nothing.
use Prim.Native.Nat.{ℕ, ◌/◌, ◌%◌, ◌≤◌}
use mathlib.Core.Bool.{Bool, true, false}
use mathlib.Core.Path.{◌≡◌, refl}
use native.Mathlib.Omega.{arith}
use borrow.Author.Tests.{eqb-false, ne_eqb, leb-true, le-leb}
use lib.Dec.{eqb}
use Rattle.word.specs.Bit.{bit_at}
use Rattle.word.specs.Choose.{pick}
use Rattle.word.proofs.Choices.{pick-both}
use Rattle.processor_arithmetic.specs.Flag.{id_flag, ep_flag, np_flag}
use Rattle.processor_machine.specs.declared.Mode.{Mode}
use Rattle.processor_machine.specs.declared.Mode.TheVariants.{Running, Halted, Fatal}
use Rattle.processor_interrupt.specs.Interrupt.{masking_level_of, level_of, allows_of, awake_of, accepts_of, interrupted_of}
use Rattle.processor_interrupt.specs.Accepted.{AcceptsTaken, AcceptableAccepts, EntryRegular}
use Rattle.processor_interrupt.proofs.Levels.{level-raised, level-highest, level-none, level-five}

false-not-true : false ≡ true → ⊥
false-not-true e = let z : ◌≡◌ {A = ℕ} 0 1 = cc in omega arith

-- a choice with a false part holds only where the other part does
second_holds : (c t : Bool) → pick c false t ≡ true → (c ≡ false) × (t ≡ true)
second_holds true t e = absurd (false-not-true e)
second_holds false t e = (refl, e)

-- a flag that is not 1 is 0
flag-clear : (x : ℕ) → eqb (x % 2) 1 ≡ false → x % 2 ≡ 0
flag-clear x e = omega (arith, eqb-false (x % 2) 1 e)

awake-not-fatal : (mode : Mode) → awake_of mode ≡ true → mode ≡ Fatal → ⊥
awake-not-fatal mode e f = false-not-true (rw f at e)

not-fatal-awake : (mode : Mode) → (mode ≡ Fatal → ⊥) → awake_of mode ≡ true
not-fatal-awake Running n = refl
not-fatal-awake Halted n = refl
not-fatal-awake Fatal n = absurd (n refl)

-- what PSW lets through
record Allows (psw level : ℕ) : Type 0 where
  np : bit_at np_flag psw ≡ 0
  ep : bit_at ep_flag psw ≡ 0
  id : bit_at id_flag psw ≡ 0
  at_least : masking_level_of psw ≤ level

allows : (psw level : ℕ) → allows_of psw level ≡ true → Allows psw level
unfolding allows_of
allows psw level e =
    let np = second_holds (eqb (bit_at np_flag psw) 1) _ e in
    let ep = second_holds (eqb (bit_at ep_flag psw) 1) _ np.1 in
    let id = second_holds (eqb (bit_at id_flag psw) 1) _ ep.1 in
    record {
      np = flag-clear (psw / 32768) np.0;
      ep = flag-clear (psw / 16384) ep.0;
      id = flag-clear (psw / 4096) id.0;
      at_least = leb-true _ _ id.1;
    }

clear-flag : (x : ℕ) → x ≡ 0 → x ≡ 1 → ⊥
clear-flag x z e = omega arith

allowed : (psw level : ℕ) → Allows psw level → allows_of psw level ≡ true
unfolding allows_of
allowed psw level a =
    simp (
      ne_eqb _ _ (clear-flag _ a.np),
      ne_eqb _ _ (clear-flag _ a.ep),
      ne_eqb _ _ (clear-flag _ a.id),
      le-leb _ _ a.at_least,
    )

pub accepts-taken : AcceptsTaken
unfolding accepts_of
accepts-taken lines psw mode e =
    let some = second_holds (eqb (lines % 32) 0) _ e in
    let awake = pick-both (awake_of mode) (allows_of psw (level_of lines)) some.1 in
    let a = allows psw (level_of lines) awake.1 in
    record {
      acceptable =
          record {
            level_below = level-five lines;
            raised = level-raised lines (eqb-false (lines % 32) 0 some.0);
            at_least = a.at_least;
            np_clear = a.np;
            ep_clear = a.ep;
            id_clear = a.id;
            not_fatal = awake-not-fatal mode awake.0;
          };
      highest = level-highest lines;
    }

pub acceptable-accepts : AcceptableAccepts
unfolding accepts_of
acceptable-accepts lines psw mode n a =
    let some : lines % 32 ≡ 0 → ⊥ = λ none. level-none lines n a.level_below none a.raised in
    let high : n ≤ level_of lines = level-highest lines n a.level_below a.raised in
    let least : masking_level_of psw ≤ level_of lines = omega (arith, a.at_least) in
    let awake = not-fatal-awake mode a.not_fatal in
    let through = allowed psw (level_of lines) (record { np = a.np_clear; ep = a.ep_clear; id = a.id_clear; at_least = least }) in
    simp (ne_eqb _ _ some, awake, through)

pub entry-regular : EntryRegular
unfolding interrupted_of
entry-regular level s cause m = refl
