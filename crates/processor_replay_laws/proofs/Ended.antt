-- `replay-ends`: the statement of specs/Ending, by induction over the records left, from any record on. Assumes nothing.
use Rattle.std.specs.Prelude.{None, Some}
use Prim.Native.Nat.{ℕ, zero, suc, ◌+◌, ◌≤◌, ◌<◌}
use mathlib.Core.List.{List}
use mathlib.Core.Logic.{◌⊎◌, inl, inr}
use mathlib.Core.Path.{◌≡◌, refl}
use native.Mathlib.Decide.{dec_lt}
use native.Mathlib.Nat.{zero-add}
use native.Mathlib.Omega.{arith}
use borrow.Author.Tests.{lt-ltb, le-ltb}
use Rattle.bus.specs.Memory.{Memory}
use Rattle.processor_machine.specs.State.{State}
use Rattle.processor_step.specs.Step.{step_of}
use Rattle.processor_laws.specs.Steps.{steps_of}
use Rattle.processor_replay.specs.Replay.{record_at, record_of, first_difference_of, progress_of, Replay, after_record, replay_of, Progress}
use Rattle.processor_replay.specs.declared.End.TheVariants.{Agreed, Differed}
use Rattle.processor_replay_laws.specs.Ending.{progress_at, step_record_at, Differs, Parts, ReplayEnds}
use Rattle.processor_replay_laws.proofs.Records.{first_word, no_word}

-- the same from record k on
record PartsFrom (k : ℕ) (trace : List ℕ) (s : State) (m : Memory) (r : Replay) : Type 0 where
  word : ℕ
  reported : r.end ≡ Differed word
  completed : progress_at r.agreed s m ≡ None
  differs : Differs word (record_at trace (k + r.agreed)) (step_record_at r.agreed s m)

record EndsFrom (k n : ℕ) (trace : List ℕ) (s : State) (m : Memory) (r : Replay) : Type 0 where
  within : r.agreed ≤ n
  completed : (i : ℕ) → i < r.agreed → progress_at i s m ≡ None
  equal : (i : ℕ) → i < r.agreed → record_at trace (k + i) ≡ step_record_at i s m
  all : r.agreed ≡ n → r.end ≡ Agreed
  next : r.agreed < n → (progress_at r.agreed s m ≡ Some r.end) ⊎ PartsFrom k trace s m r

module _ (k n : ℕ) (trace : List ℕ) (s : State) (m : Memory) (completed : progress_of (step_of s m).answer ≡ None)
    (same : record_at trace k ≡ record_of s (step_of s m)) where
  completed-again : (l : ℕ) → ((i : ℕ) → i < l → progress_at i (step_of s m).state (step_of s m).memory ≡ None)
      → (i : ℕ) → i < suc l → progress_at i s m ≡ None
  unfolding steps_of
  completed-again l h zero less = completed
  completed-again l h (suc i) less = h i (omega arith)

  equal-again : (l : ℕ) → ((i : ℕ) → i < l → record_at trace (k + 1 + i) ≡ step_record_at i (step_of s m).state (step_of s m).memory)
      → (i : ℕ) → i < suc l → record_at trace (k + i) ≡ step_record_at i s m
  unfolding steps_of
  equal-again l h zero less =
      let z : k + 0 ≡ k = omega arith in
      rw z same
  equal-again l h (suc i) less =
      let z : k + suc i ≡ k + 1 + i = omega arith in
      rw z (h i (omega arith))

  next-again : (r : Replay) → (progress_at r.agreed (step_of s m).state (step_of s m).memory ≡ Some r.end) ⊎ PartsFrom
      (k + 1) trace (step_of s m).state (step_of s m).memory r
      → (progress_at (suc r.agreed) s m ≡ Some r.end) ⊎ PartsFrom k trace s m (record {
        end = r.end;
        agreed = suc
            r.agreed;
        state = r.state;
        memory = r.memory;
      })
  unfolding steps_of
  next-again r (inl e) = inl e
  next-again r (inr p) =
      let z : k + suc r.agreed ≡ k + 1 + r.agreed = omega arith in
      inr (record { word = p.word; reported = p.reported; completed = p.completed; differs = rw z p.differs })

  one-agreed : (r : Replay) → EndsFrom (k + 1) n trace (step_of s m).state (step_of s m).memory r
      → EndsFrom k (suc n) trace s m (record { end = r.end; agreed = suc r.agreed; state = r.state; memory = r.memory })
  one-agreed r h =
      let w = h.within in
      record {
        within = omega arith;
        completed = completed-again r.agreed h.completed;
        equal = equal-again r.agreed h.equal;
        all = λ e. h.all (omega arith);
        next = λ l. next-again r (h.next (omega arith));
      }

module _ (k n : ℕ) (trace : List ℕ) (s : State) (m : Memory) (rest : Replay) (later : EndsFrom (k + 1) n trace
    (step_of s m).state (step_of s m).memory rest) where
  by-progress : (u : Progress) (word : ℕ) → progress_of (step_of s m).answer ≡ u → word ≡ first_difference_of (record_at trace k) (record_of s (step_of s m))
      → EndsFrom k (suc n) trace s m (after_record u word (step_of s m) rest)
  unfolding steps_of
  by-progress (Some e) word t f =
      record {
        within = omega arith;
        completed = λ i l. absurd (omega arith);
        equal = λ i l. absurd (omega arith);
        all = λ z. absurd (omega arith);
        next = λ l. inl t;
      }
  by-progress None word t f =
      elim (dec_lt word 4) [
        | yes h ↦
            let z : k + 0 ≡ k = omega arith in
            rw (lt-ltb word 4 h)
            (record {
              within = omega arith;
              completed = λ i l. absurd (omega arith);
              equal = λ i l. absurd (omega arith);
              all = λ e. absurd (omega arith);
              next =
                  λ l.
                  let d = first_word (record_at trace k) (record_of s (step_of s m)) word f h in
                  inr (record { word = word; reported = refl; completed = t; differs = rw z d });
            })
        | no h ↦
            let above : 4 ≤ word = omega arith in
            rw (le-ltb word 4 above) (one-agreed k n trace s m t (no_word (record_at trace k) (record_of s (step_of s m)) word f above) rest later)
      ]

ends-from : (n k : ℕ) (trace : List ℕ) (s : State) (m : Memory) → EndsFrom k n trace s m (replay_of n k trace s m)
unfolding replay_of
ends-from zero k trace s m =
    record {
      within = omega arith;
      completed = λ i l. absurd (omega arith);
      equal = λ i l. absurd (omega arith);
      all = λ e. refl;
      next = λ l. absurd (omega arith);
    }
ends-from (suc n) k trace s m =
    let t = step_of s m in
    by-progress k n trace s m (replay_of n (k + 1) trace t.state t.memory) (ends-from n (k + 1) trace t.state t.memory) (progress_of t.answer)
    (first_difference_of (record_at trace k) (record_of s t)) refl refl

parts_first : (trace : List ℕ) (s : State) (m : Memory) (r : Replay) → PartsFrom 0 trace s m r → Parts trace s m r
parts_first trace s m r p =
    let z : 0 + r.agreed ≡ r.agreed = omega arith in
    record { word = p.word; reported = p.reported; completed = p.completed; differs = rw z at p.differs }

next-first : (trace : List ℕ) (s : State) (m : Memory) (r : Replay) → (progress_at r.agreed s m ≡ Some r.end) ⊎ PartsFrom 0 trace s m r
    → (progress_at r.agreed s m ≡ Some r.end) ⊎ Parts trace s m r
next-first trace s m r (inl e) = inl e
next-first trace s m r (inr p) = inr (parts_first trace s m r p)

pub replay-ends : ReplayEnds
replay-ends n trace s m =
    let r = replay_of n 0 trace s m in
    let h = ends-from n 0 trace s m in
    record {
      within = h.within;
      completed = h.completed;
      equal = λ i l. rw zero-add at (h.equal i l);
      all = h.all;
      next = λ l. next-first trace s m r (h.next l);
    }
