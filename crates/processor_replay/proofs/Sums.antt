-- The sum of the general registers, register by register: what is summed so far and what is left come to the whole sum.
-- Assumes nothing.
use Rattle.std.proofs.Common.{◌≡◌, ℕ, suc, ◌+◌, ◌-◌, ◌%◌, ◌^◌, ◌<◌, ◌≤◌, List, get_or, arith}
use Rattle.processor_replay.specs.Replay.{sum_from, register_sum_of}

-- the first i registers come to s
pub record Summed (regs : List ℕ) (i s : ℕ) : Type 0 where
  pub within : i ≤ 32
  pub word : s < 2 ^ 32
  pub whole : register_sum_of regs ≡ (s + sum_from regs i (32 - i)) % 2 ^ 32

pub summed-none : (regs : List ℕ) → Summed regs 0 0
unfolding register_sum_of
summed-none regs =
    let e : 0 + sum_from regs 0 32 ≡ sum_from regs 0 32 = omega arith in
    record { within = omega arith; word = omega arith; whole = rw e }

pub summed-next : (regs : List ℕ) (i s t : ℕ) → Summed regs i s → i < 32 → t ≡ (s + get_or regs i 0) % 2 ^ 32 → Summed regs (i + 1) t
summed-next regs i s t p h e =
    let f : 32 - i ≡ suc (32 - (i + 1)) = omega arith in
    let g : register_sum_of regs ≡ (s + (get_or regs i 0 + sum_from regs (i + 1) (32 - (i + 1)))) % 2 ^ 32 = rw f at p.whole in
    record { within = omega arith; word = omega arith; whole = omega arith }

pub summed-all : (regs : List ℕ) (i s : ℕ) → Summed regs i s → 32 ≤ i → s ≡ register_sum_of regs
summed-all regs i s p h =
    let f : 32 - i ≡ 0 = omega arith in
    let w = p.word in
    let g : register_sum_of regs ≡ (s + 0) % 2 ^ 32 = rw f at p.whole in
    omega arith
