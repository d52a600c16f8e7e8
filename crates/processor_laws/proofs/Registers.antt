-- General and system registers stay what an accepted machine's are: a word put to a register, LDSR and STSR.
use Prim.Native.Nat.{ℕ, ◌-◌, ◌%◌, ◌^◌, ◌≤◌, ◌<◌}
use mathlib.Core.List.{List, [], ◌∷◌}
use mathlib.Core.Path.{◌≡◌, refl, ◌∙◌}
use native.Mathlib.Decide.{ℕ_discrete}
use native.Mathlib.Omega.{arith}
use borrow.Author.Tests.{eq-eqb, ne_eqb}
use lib.IntN.{nat_abs}
use lib.ListN.{get_or, set, length-set}
use Rattle.bus.proofs.Bytes.{set-each}
use Rattle.processor_arithmetic.specs.Integer.{signed}
use Rattle.processor_arithmetic.proofs.Reading.{magnitude-small, magnitude-absolute}
use Rattle.processor_machine.specs.State.{put_of}
use Rattle.processor_machine.specs.System.{psw_bits_of, system_of, Status, status_of, written_of}
use Rattle.processor_laws.proofs.Lists.{each_row}
use Rattle.processor_laws.proofs.Invariant.{General, Format, System, Generals, Systems, format-word}
use Rattle.processor_laws.proofs.Psw.{kept-format}

-- a word put to a general register
pub put-generals : (regs : List ℕ) (n v : ℕ) → v < 2 ^ 32 → Generals regs → Generals (put_of regs n v)
unfolding put_of
put-generals regs n v hv h =
    elim (ℕ_discrete (n % 32) 0) [
      | yes e ↦ rw (eq-eqb (n % 32) 0 e) h
      | no ne ↦
          rw (ne_eqb (n % 32) 0 ne)
          record {
            size = length-set regs (n % 32) v ∙ h.size;
            each = set-each General regs (n % 32) v h.each (hv, λ e. absurd (ne e));
          }
    ]

pub set-systems : (sys : List ℕ) (k v : ℕ) → System k v → Systems sys → Systems (set sys k v)
set-systems sys k v hv h = record { size = length-set sys k v ∙ h.size; each = set-each System sys k v h.each hv }

-- what a register that holds an address may be given, one that holds a PSW format, one that holds any word, and 31
address-system : (k v : ℕ) → (k ≡ 1 → ⊥) → (k ≡ 3 → ⊥) → (k ≡ 7 → ⊥) → v < 2 ^ 32 → v % 2 ≡ 0 → System k v
address-system k v n1 n3 n7 h e =
    record {
      word = h;
      eipc = λ _. e;
      eipsw = λ f. absurd (n1 f);
      fepc = λ _. e;
      fepsw = λ f. absurd (n3 f);
      sr25 = λ _. e;
      sr31 = λ f. absurd (n7 f);
    }

pub eipc-system : (v : ℕ) → v < 2 ^ 32 → v % 2 ≡ 0 → System 0 v
eipc-system v h e = address-system 0 v (λ f. omega arith) (λ f. omega arith) (λ f. omega arith) h e

pub fepc-system : (v : ℕ) → v < 2 ^ 32 → v % 2 ≡ 0 → System 2 v
fepc-system v h e = address-system 2 v (λ f. omega arith) (λ f. omega arith) (λ f. omega arith) h e

sr25-system : (v : ℕ) → v < 2 ^ 32 → v % 2 ≡ 0 → System 5 v
sr25-system v h e = address-system 5 v (λ f. omega arith) (λ f. omega arith) (λ f. omega arith) h e

format-system : (k v : ℕ) → k % 2 ≡ 1 → k < 5 → Format v → System k v
format-system k v odd low f =
    record {
      word = omega (arith, format-word v f);
      eipc = λ e. absurd (omega arith);
      eipsw = λ _. f;
      fepc = λ e. absurd (omega arith);
      fepsw = λ _. f;
      sr25 = λ e. absurd (omega arith);
      sr31 = λ e. absurd (omega arith);
    }

pub eipsw-system : (v : ℕ) → Format v → System 1 v
eipsw-system v f = format-system 1 v refl (omega arith) f

pub fepsw-system : (v : ℕ) → Format v → System 3 v
fepsw-system v f = format-system 3 v refl (omega arith) f

word-system : (k v : ℕ) → k % 2 ≡ 0 → 4 ≤ k → v < 2 ^ 32 → System k v
word-system k v even high h =
    record {
      word = h;
      eipc = λ e. absurd (omega arith);
      eipsw = λ e. absurd (omega arith);
      fepc = λ e. absurd (omega arith);
      fepsw = λ e. absurd (omega arith);
      sr25 = λ e. absurd (omega arith);
      sr31 = λ e. absurd (omega arith);
    }

pub ecr-system : (v : ℕ) → v < 2 ^ 32 → System 4 v
ecr-system v h = word-system 4 v refl (omega arith) h

sr29-system : (v : ℕ) → v < 2 ^ 32 → System 6 v
sr29-system v h = word-system 6 v refl (omega arith) h

sr31-system : (v : ℕ) → v ≤ 2 ^ 31 → System 7 v
sr31-system v h =
    record {
      word = omega arith;
      eipc = λ e. absurd (omega arith);
      eipsw = λ e. absurd (omega arith);
      fepc = λ e. absurd (omega arith);
      fepsw = λ e. absurd (omega arith);
      sr25 = λ e. absurd (omega arith);
      sr31 = λ _. h;
    }

-- STSR's rows
abbrev read_rows : List ℕ → ℕ → List (ℕ × ℕ)
read_rows sys psw =
    (0, get_or sys 0 0)
    ∷ (1, get_or sys 1 0)
    ∷ (2, get_or sys 2 0)
    ∷ (3, get_or sys 3 0)
    ∷ (4, get_or sys 4 0)
    ∷ (5, psw)
    ∷ (6, 0x5346)
    ∷ (7, 0xE0)
    ∷ (25, get_or sys 5 0)
    ∷ (29, get_or sys 6 0)
    ∷ (30, 4)
    ∷ (31, get_or sys 7 0)
    ∷ []

-- what STSR reads is a word
pub system-word : (sys : List ℕ) (psw id : ℕ) → Systems sys → Format psw → system_of sys psw id < 2 ^ 32
unfolding system_of
system-word sys psw id h f =
    let w : (k : ℕ) → get_or sys k 0 < 2 ^ 32 = λ k. (h.each k).word in
    let p : psw < 2 ^ 32 = omega (arith, format-word psw f) in
    let pir : 0x5346 < 2 ^ 32 = omega arith in
    let tkcw : 0xE0 < 2 ^ 32 = omega arith in
    let four : 4 < 2 ^ 32 = omega arith in
    let none : 0 < 2 ^ 32 = omega arith in
    each_row (λ (x : ℕ). x < 2 ^ 32) id (read_rows sys psw) 0
    (w 0, (w 1, (w 2, (w 3, (w 4, (p, (pir, (tkcw, (w 5, (w 6, (four, (w 7, tt)))))))))))) none

-- what LDSR leaves
pub record Written (w : Status) : Type 0 where
  pub systems : Systems w.sys
  pub format : Format w.psw

-- LDSR's rows
abbrev write_rows : List ℕ → ℕ → ℕ → List (ℕ × Status)
write_rows sys psw v =
    (0, status_of (set sys 0 (v - v % 2)) psw)
    ∷ (1, status_of (set sys 1 (psw_bits_of v)) psw)
    ∷ (2, status_of (set sys 2 (v - v % 2)) psw)
    ∷ (3, status_of (set sys 3 (psw_bits_of v)) psw)
    ∷ (5, status_of sys (psw_bits_of v))
    ∷ (25, status_of (set sys 5 (v - v % 2)) psw)
    ∷ (29, status_of (set sys 6 v) psw)
    ∷ (31, status_of (set sys 7 (nat_abs (signed v))) psw)
    ∷ []

pub written : (sys : List ℕ) (psw id v : ℕ) → v < 2 ^ 32 → Systems sys → Format psw → Written (written_of sys psw id v)
unfolding written_of
written sys psw id v hv h f =
    let low : v - v % 2 < 2 ^ 32 = omega arith in
    let even : (v - v % 2) % 2 ≡ 0 = omega arith in
    let absolute : nat_abs (signed v) ≤ 2 ^ 31 = rw (magnitude-absolute v hv) (magnitude-small v) in
    let keep : (k x : ℕ) → System k x → Written (status_of (set sys k x) psw) = λ k x q. record { systems = set-systems sys k x q h; format = f } in
    each_row Written id (write_rows sys psw v) (status_of sys psw) (
      keep 0 (v - v % 2) (eipc-system (v - v % 2) low even),
      (
        keep 1 (psw_bits_of v) (eipsw-system (psw_bits_of v) (kept-format v)),
        (
          keep 2 (v - v % 2) (fepc-system (v - v % 2) low even),
          (
            keep 3 (psw_bits_of v) (fepsw-system (psw_bits_of v) (kept-format v)),
            (
              record { systems = h; format = kept-format v },
              (
                keep 5 (v - v % 2) (sr25-system (v - v % 2) low even),
                (
                  keep 6 v (sr29-system v hv),
                  (keep 7 (nat_abs (signed v)) (sr31-system (nat_abs (signed v)) absolute), tt),
                ),
              ),
            ),
          ),
        ),
      ),
    )
    record { systems = h; format = f }
