-- A replay in the middle: what is left of the trace, replayed from here, is what the whole trace gives from the start, with the
-- records so far added. Each law is one turn of the loop. Assumes nothing.
use Rattle.std.specs.Prelude.{None, Some}
use Rattle.std.proofs.Common.{◌≡◌, ℕ, suc, ◌+◌, ◌-◌, ◌<◌, ◌≤◌, List, sym, zero-add, arith, le-ltb, lt-ltb}
use Rattle.bus.specs.Memory.{Memory}
use Rattle.processor_machine.specs.State.{State, Stepped}
use Rattle.processor_step.specs.Step.{step_of}
use Rattle.processor_replay.specs.Replay.{record_with, record_at, record_of, register_sum_of, first_difference_of, progress_of}
use Rattle.processor_replay.specs.Replay.{Replay, replay_with, after_record, replay_of}
use Rattle.processor_replay.specs.declared.End.{End}
use Rattle.processor_replay.specs.declared.End.TheVariants.{Agreed, Differed}

-- a replay with k agreeing records before it
abbrev pub later : ℕ → Replay → Replay
later k r = replay_with r.end (k + r.agreed) r.state r.memory

pub record Along (n : ℕ) (trace : List ℕ) (s₀ : State) (m₀ : Memory) (k : ℕ) (s : State) (m : Memory) : Type 0 where
  pub within : k ≤ n
  pub rest : replay_of n 0 trace s₀ m₀ ≡ later k (replay_of (n - k) k trace s m)

pub along-start : (n : ℕ) (trace : List ℕ) (s : State) (m : Memory) → Along n trace s m 0 s m
along-start n trace s m =
    let e : n - 0 ≡ n = omega arith in
    record { within = omega arith; rest = rw (e, zero-add) }

module _ (n : ℕ) (trace : List ℕ) (s₀ : State) (m₀ : Memory) (k : ℕ) (s : State) (m : Memory) (before : Along n trace s₀ m₀ k s m) where
  -- the definition's next step
  turn : k < n → (t : Stepped) → t ≡ step_of s m
      → replay_of n 0 trace s₀ m₀ ≡ later k (after_record (progress_of t.answer) (first_difference_of (record_at trace k)
      (record_of s t)) t (replay_of (n - (k + 1)) (k + 1) trace t.state t.memory))
  unfolding replay_of
  turn h t e =
      let f : n - k ≡ suc (n - (k + 1)) = omega arith in
      rw e (rw f at before.rest)

  -- the sum and the first wrong word as the code has them
  module _ (h : k < n) (t : Stepped) (e : t ≡ step_of s m) (told : progress_of t.answer ≡ None) (sum : ℕ)
      (added : sum ≡ register_sum_of t.state.regs) (word : ℕ) (found : word ≡ first_difference_of (record_at trace k)
      (record_with s.pc t.state.pc t.state.psw sum)) where
    same_word : word ≡ first_difference_of (record_at trace k) (record_of s t)
    unfolding record_of
    same_word = rw added at found

    pub along-agreed : 4 ≤ word → Along n trace s₀ m₀ (k + 1) t.state t.memory
    along-agreed w =
        let g = replay_of (n - (k + 1)) (k + 1) trace t.state t.memory in
        let z : k + suc (replay_of (n - (k + 1)) (k + 1) trace t.state t.memory).agreed ≡ k + 1 + (replay_of (n -
        (k + 1)) (k + 1) trace t.state t.memory).agreed = omega arith in
        record { within = omega arith; rest = rw z at (rw (le-ltb word 4 w) at (rw (told, ← same_word) at (turn h t e))) }

    pub along-differed : word < 4 → replay_with (Differed word) k t.state t.memory ≡ replay_of n 0 trace s₀ m₀
    along-differed w =
        let z : k + 0 ≡ k = omega arith in
        sym (rw z at (rw (lt-ltb word 4 w) at (rw (told, ← same_word) at (turn h t e))))

  pub along-ended : k < n → (t : Stepped) (end : End) → t ≡ step_of s m → progress_of
      t.answer ≡ Some end → replay_with end k t.state t.memory ≡ replay_of n 0 trace s₀ m₀
  along-ended h t end e told =
      let z : k + 0 ≡ k = omega arith in
      sym (rw z at (rw told at (turn h t e)))

  pub along-finished : n ≤ k → replay_with Agreed k s m ≡ replay_of n 0 trace s₀ m₀
  unfolding replay_of
  along-finished h =
      let i = before.within in
      let f : n - k ≡ 0 = omega arith in
      let z : k + 0 ≡ k = omega arith in
      sym (rw z at (rw f at before.rest))
