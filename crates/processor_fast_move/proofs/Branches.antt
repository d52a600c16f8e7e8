-- Relative jumps and branches: the index of the target is that of the target's address.
use Rattle.std.proofs.Common.{◌≡◌, ℕ, ◌+◌, ◌-◌, ◌*◌, ◌/◌, ◌%◌, ◌^◌, ◌<◌, ◌≤◌, Bool, true, false, List, sym, refl, ap, ◌∙◌, arith, le-ltb, lt-ltb}
use native.Mathlib.Decide.{dec_lt}
use Rattle.word.specs.Choose.{pick}
use Rattle.word.specs.Extend.{extend_of}
use Rattle.bus.specs.Memory.{Memory}
use Rattle.processor_arithmetic.specs.Condition.{condition_of}
use Rattle.processor_decode.specs.Format as format
use Rattle.processor_execute.specs.Execute.{execute_of, plus_of}
use Rattle.processor_lazy_flags.specs.inner.Packed.{packed_of}
use Rattle.processor_lazy_flags.specs.declared.Flags.{Flags}
use Rattle.processor_machine.specs.State.{even_of}
use Rattle.processor_step.specs.Step.{next_of, perform_of}
use Rattle.processor_fast_compute.specs.inner.Fast.{address_of, machine_of, Does}
use Rattle.processor_fast_compute.specs.declared.Fast.TheVariants.{Done}
use Rattle.processor_fast_compute.proofs.Results.{after_one, one-even}

-- an even displacement stays even
pub extended-even : (half y : ℕ) → half ≤ 2 ^ 31 → y % 2 ≡ 0 → extend_of half y % 2 ≡ 0
unfolding extend_of
extended-even half y h e =
    elim (dec_lt y half) [
      | yes l ↦ simp (lt-ltb y half l) e
      | no l ↦
          let k : half ≤ y = omega arith in
          simp (le-ltb y half k) (omega arith)
    ]

-- sums of even numbers
even_sum : (a b : ℕ) → a % 2 ≡ 0 → b % 2 ≡ 0 → (a + b) % 2 ^ 32 % 2 ≡ 0
even_sum a b h k = omega arith

even-itself : (a : ℕ) → a % 2 ≡ 0 → a ≡ even_of a
even-itself a h = omega arith

pub sum_moved : (base x d : ℕ) → (base + (x + d) % 2 ^ 32) % 2 ^ 32 ≡ ((base + x) % 2 ^ 32 + d) % 2 ^ 32
sum_moved base x d = omega arith

module _ (base x d : ℕ) (hb : base % 2 ≡ 0) (hx : x % 2 ≡ 0) (hd : d % 2 ≡ 0) where
  pub jump-on : address_of base ((x + d) % 2 ^ 32) ≡ even_of (plus_of (address_of base x) d)
  jump-on = sum_moved base x d ∙ even-itself (plus_of (address_of base x) d) (even_sum (address_of base x) d (even_sum base x hb hx) hd)

  pub jump-even : (x + d) % 2 ^ 32 % 2 ≡ 0
  jump-even = even_sum x d hx hd

-- a branch whose condition is k
pub branch-does : (base x psw f k : ℕ) (regs sys : List ℕ) (g : Flags) (m : Memory) (b : Bool) → base % 2 ≡ 0 → x % 2 ≡ 0
    → f / 512 % 16 ≡ k → b ≡ condition_of k (packed_of psw g)
    → Does (Done (pick b ((x + extend_of 256 (f % 512 / 2 * 2)) % 2 ^ 32) ((x + 2) % 2 ^ 32)) g.addition g.value) base psw regs m regs m sys
    (perform_of (format.branch f) (next_of false (address_of base x)) (machine_of regs sys base x psw g) m)
unfolding execute_of
branch-does base x psw f k regs sys g m true hb hx e h =
    let d : extend_of 256 (f % 512 / 2 * 2) % 2 ≡ 0 = extended-even 256 (f % 512 / 2 * 2) (omega arith) (omega arith) in
    (rw (e, ← h, jump-on base x (extend_of 256 (f % 512 / 2 * 2)) hb hx d), jump-even base x (extend_of 256 (f % 512 / 2 * 2)) hb hx d)
branch-does base x psw f k regs sys g m false hb hx e h = (rw (e, ← h, after_one base x), one-even x hx)

-- the condition's number, by the opcode and bit 9
pub pair-first : (f k : ℕ) → f / 1024 ≡ 32 + k → f / 512 % 2 ≡ 0 → k < 8 → f / 512 % 16 ≡ 2 * k
pair-first f k e h l = omega arith

pub pair-second : (f k : ℕ) → f / 1024 ≡ 32 + k → (f / 512 % 2 ≡ 0 → ⊥) → k < 8 → f / 512 % 16 ≡ 2 * k + 1
pair-second f k e h l = omega arith

-- a jump to an address
pub address-jump : (t base to : ℕ) → t < 2 ^ 32 → base < 2 ^ 32 → (to + base) % 2 ^ 32 ≡ t → address_of base to ≡ t
address-jump t base to ht hb e =
    let c : base + to ≡ to + base = omega arith in
    rw c e

pub address-even : (t base to : ℕ) → to < 2 ^ 32 → base % 2 ≡ 0 → (to + base) % 2 ^ 32 ≡ t - t % 2 → to % 2 ≡ 0
address-even t base to h hb e = omega arith
