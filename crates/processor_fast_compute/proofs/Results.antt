-- What an answer of the dispatch has to show, by the kind of the instruction: where it goes on, and what its case of
-- execute_of leaves.
use Rattle.std.proofs.Common.{◌≡◌, ℕ, ◌+◌, ◌%◌, ◌^◌, Bool, true, false, List, get_or, refl, arith, eq-eqb, ne_eqb}
use native.Mathlib.Decide.{ℕ_discrete}
use lib.Seq.{set-get_or}
use Rattle.word.specs.Choose.{pick}
use Rattle.bus.specs.Memory.{Memory}
use Rattle.processor_arithmetic.specs.Sum.{difference_of, compare_of}
use Rattle.processor_arithmetic.specs.declared.Outcome.{Outcome}
use Rattle.processor_arithmetic.specs.declared.Pair as arithmetic
use Rattle.processor_execute.specs.Result.{goes_on, gives_of, result_of, pair_of}
use Rattle.processor_lazy_flags.specs.inner.Packed.{packed_value_of, packed_of, Gives, GivesPair}
use Rattle.processor_lazy_flags.specs.declared.Flags.{Flags}
use Rattle.processor_lazy_flags.specs.declared.Pair.{Pair}
use Rattle.processor_machine.specs.State.{put_of}
use Rattle.processor_step.specs.Step.{next_of}
use Rattle.processor_fast_compute.specs.inner.Fast.{address_of, machine_of, Does}
use Rattle.processor_fast_compute.specs.declared.Fast.{Fast}
use Rattle.processor_fast_compute.specs.declared.Fast.TheVariants.{Done}

-- the following instruction
module _ (base x : ℕ) where
  pub after_one : address_of base ((x + 2) % 2 ^ 32) ≡ next_of false (address_of base x)
  unfolding next_of
  after_one = omega arith

  pub after_two : address_of base ((x + 4) % 2 ^ 32) ≡ next_of true (address_of base x)
  unfolding next_of
  after_two = omega arith

pub one-even : (x : ℕ) → x % 2 ≡ 0 → (x + 2) % 2 ^ 32 % 2 ≡ 0
one-even x h = omega arith

pub two-even : (x : ℕ) → x % 2 ≡ 0 → (x + 4) % 2 ^ 32 % 2 ≡ 0
two-even x h = omega arith

-- the same over the number of halfwords
abbrev pub after_of : Bool → ℕ → ℕ
after_of two x = (x + pick two 4 2) % 2 ^ 32

pub after_on : (two : Bool) (base x : ℕ) → address_of base (after_of two x) ≡ next_of two (address_of base x)
after_on true base x = after_two base x
after_on false base x = after_one base x

pub after-even : (two : Bool) (x : ℕ) → x % 2 ≡ 0 → after_of two x % 2 ≡ 0
after-even true x h = two-even x h
after-even false x h = one-even x h

-- the answer of an arm of one halfword or two: it goes on at the following instruction, and register n has its result
module _ (two : Bool) (base x psw n : ℕ) (regs₀ regs sys : List ℕ) (g : Flags) (m : Memory) (r : Fast) (to : ℕ)
    (aligned : x % 2 ≡ 0) (after : to ≡ after_of two x) where
  -- a result with flags
  pub result-does : (f : Flags) (o : Outcome) → Gives psw f o
      → (regs ≡ put_of regs₀ n (packed_value_of f)) × (r ≡ Done to f.addition f.value)
      → Does r base psw regs₀ m regs m sys (result_of n o (next_of two (address_of base x)) (machine_of regs₀ sys base x psw g) m)
  result-does f o e d = rw (d.1, after) (rw (after_on two base x, e.flags, d.0, e.value), after-even two x aligned)

  -- a value that leaves the flags
  pub value-does : (v : ℕ) → (regs ≡ put_of regs₀ n v) × (r ≡ Done to g.addition g.value)
      → Does r base psw regs₀ m regs m sys (gives_of n v (next_of two (address_of base x)) (machine_of regs₀ sys base x psw g) m)
  value-does v d = rw (d.1, after) (rw (after_on two base x, d.0), after-even two x aligned)

  -- two results
  pub pair-does : (p : Pair) (o : arithmetic.Pair) → GivesPair psw p o
      → (regs ≡ put_of (put_of regs₀ 30 p.r30) n (packed_value_of p.flags)) × (r ≡ Done to p.flags.addition p.flags.value)
      → Does r base psw regs₀ m regs m sys (pair_of n o (next_of two (address_of base x)) (machine_of regs₀ sys base x psw g) m)
  pair-does p o e d = rw (d.1, after) (rw (after_on two base x, e.flags, d.0, e.reg2, e.r30), after-even two x aligned)

-- a register that keeps its own value
pub put_same : (regs : List ℕ) (n : ℕ) → put_of regs n (get_or regs (n % 32) 0) ≡ regs
unfolding put_of
put_same regs n =
    elim (ℕ_discrete (n % 32) 0) [
      | yes e ↦ simp (eq-eqb (n % 32) 0 e)
      | no e ↦ simp (ne_eqb (n % 32) 0 e) (set-get_or regs (n % 32) 0)
    ]

-- a comparison leaves its flags alone
pub compare-does : (base x psw n : ℕ) (regs sys : List ℕ) (g : Flags) (m : Memory) (to next : ℕ) → address_of base to ≡ next → to % 2 ≡ 0
    → (r : Flags) (b : ℕ) → Gives psw r (difference_of (get_or regs (n % 32) 0) b (packed_of psw g))
    → Does (Done to r.addition r.value) base psw regs m regs m sys (result_of n (compare_of (get_or regs (n % 32) 0) b
    (packed_of psw g)) next (machine_of regs sys base x psw g) m)
unfolding compare_of
compare-does base x psw n regs sys g m to next on even r b e = (rw (on, e.flags, put_same regs n), even)

-- a store
pub store_does : (base x psw : ℕ) (regs sys : List ℕ) (g : Flags) (m : Memory) (to : ℕ) → x % 2 ≡ 0 → to ≡ after_of true x → (w : Memory) → m ≡ w
    → Does (Done to g.addition g.value) base psw regs m regs m sys
    (goes_on regs (next_of true (address_of base x)) (packed_of psw g) (machine_of regs sys base x psw g) w)
store_does base x psw regs sys g m to aligned after w e = rw after (rw (after_on true base x, e), after-even true x aligned)
