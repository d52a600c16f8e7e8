-- `period` and `clock-selection`: the statements of specs/Period. By induction on the number of ticks: a tick of an
-- enabled timer that counts down from n + 2 leaves one that counts down from n + 1, and one from 1 reaches zero.
-- Assumes nothing.
use Prim.Native.Nat.{ℕ, zero, suc, ◌-◌, ◌<◌}
use mathlib.Core.Path.{◌≡◌, refl, ap, ◌∙◌}
use native.Mathlib.Omega.{arith}
use borrow.Author.Tests.{eq-eqb}
use lib.Dec.{eqb, eqb-suc-zero}
use Rattle.word.specs.Bit.{bit_at, is_set}
use Rattle.word.proofs.Choices.{pick-map}
use Rattle.bus_timer.specs.Record.{with_count}
use Rattle.bus_timer.specs.Timer.{t_enb, z_stat, start_of, ticked_count_of, reached_zero_of, counted_of, tick_of}
use Rattle.bus_timer.specs.Period.{ticks_of, FirstZero, Period, with_clock, ClockSelection}
use Rattle.bus_timer.specs.declared.TimerLines.{TimerLines}
use Rattle.bus_timer.proofs.Digits.{set-second, set_first, clock-first, clock-eighth, clock-set}

module _ (h : TimerLines) (on : bit_at t_enb h.control ≡ 1) where
  -- a tick that counts down from 1
  tick-last : start_of h ≡ 1 → tick_of h ≡ reached_zero_of h
  unfolding tick_of counted_of ticked_count_of
  tick-last e =
      let z : start_of h - 1 ≡ 0 = omega arith in
      simp (eq-eqb _ _ on, eq-eqb _ _ z)

  -- one that counts down from more
  tick-more : (n : ℕ) → start_of h ≡ suc (suc n) → tick_of h ≡ with_count h (suc n)
  unfolding tick_of counted_of ticked_count_of
  tick-more n e =
      let more : start_of h - 1 ≡ suc n = omega arith in
      simp (eq-eqb _ _ on, more, eqb-suc-zero)

  module _ (clear : bit_at z_stat h.control ≡ 0) where
    none_before : (k : ℕ) → k < 1 → bit_at z_stat (ticks_of k h).control ≡ 0
    unfolding ticks_of
    none_before k less = let e : k ≡ 0 = omega arith in rw e clear

    lines_none : (k : ℕ) → k < 1 → (ticks_of k h).lines ≡ h.lines
    unfolding ticks_of
    lines_none k less = let e : k ≡ 0 = omega arith in rw e refl

    first-last : start_of h ≡ 1 → FirstZero 1 h
    unfolding ticks_of start_of reached_zero_of
    first-last e =
        record {
          clear_before = none_before;
          lines_before = lines_none;
          set = rw (tick-last e) (set-second h.control);
          raised = λ i. rw (tick-last e) (simp (eq-eqb _ _ i) (set-second h.lines));
          enabled = rw (tick-last e) (set_first h.control ∙ on);
          again = rw (tick-last e);
        }

ticks-more : (k : ℕ) (h t : TimerLines) → tick_of h ≡ t → ticks_of (suc k) h ≡ ticks_of k t
unfolding ticks_of
ticks-more k h t e = ap (ticks_of k) e

ticks-none : (h : TimerLines) → ticks_of zero h ≡ h
unfolding ticks_of
ticks-none h = refl

-- what the ticks before the first zero leave, with one tick more in front
earlier : (n : ℕ) (h t : TimerLines) → tick_of h ≡ t → bit_at z_stat h.control ≡ 0
    → ((k : ℕ) → k < n → bit_at z_stat (ticks_of k t).control ≡ 0)
    → (k : ℕ) → k < suc n → bit_at z_stat (ticks_of k h).control ≡ 0
earlier n h t e clear f zero less = rw (ticks-none h) clear
earlier n h t e clear f (suc k) less = rw (ticks-more k h t e) (f k (omega arith))

same : (n : ℕ) (h t : TimerLines) → tick_of h ≡ t → t.lines ≡ h.lines
    → ((k : ℕ) → k < n → (ticks_of k t).lines ≡ t.lines)
    → (k : ℕ) → k < suc n → (ticks_of k h).lines ≡ h.lines
same n h t e lines f zero less = rw (ticks-none h)
same n h t e lines f (suc k) less = rw (ticks-more k h t e) (f k (omega arith) ∙ lines)

-- one tick more before the first zero
first_more : (n : ℕ) (h t : TimerLines) → tick_of h ≡ t → t.lines ≡ h.lines → t.reload ≡ h.reload → t.control ≡ h.control
    → bit_at z_stat h.control ≡ 0
    → FirstZero n t
    → FirstZero (suc n) h
first_more n h t e lines reload control clear f =
    record {
      clear_before = earlier n h t e clear f.clear_before;
      lines_before = same n h t e lines f.lines_before;
      set = rw (ticks-more n h t e) f.set;
      raised = λ i. rw (ticks-more n h t e) (f.raised (rw control i));
      enabled = rw (ticks-more n h t e) f.enabled;
      again = rw (ticks-more n h t e) (f.again ∙ reload);
    }

-- a count that is not 0 is what the tick counts down from
start-count : (n : ℕ) (h : TimerLines) → h.count ≡ suc n → start_of h ≡ suc n
unfolding start_of
start-count n h e = rw e (simp eqb-suc-zero)

first : (n : ℕ) (h : TimerLines) → start_of h ≡ suc n → bit_at t_enb h.control ≡ 1 → bit_at z_stat h.control ≡ 0
    → FirstZero (suc n) h
first zero h e on clear = first-last h on clear e
first (suc n) h e on clear =
    let t = with_count h (suc n) in
    first_more (suc n) h t (tick-more h on n e) refl refl refl clear (first n t (start-count n t refl) on clear)

pub period : Period
period zero h less e on clear = absurd (omega arith)
period (suc n) h less e on clear = first n h e on clear

-- T-Clk-Sel is not one of the bits that a tick reads or sets
module _ (b : ℕ) (h : TimerLines) (less : b < 2) where
  clock-zero : reached_zero_of (with_clock b h) ≡ with_clock b (reached_zero_of h)
  unfolding reached_zero_of
  clock-zero = rw (clock-eighth h.control b less, clock-set h.control b less)

  clock-counted : counted_of (with_clock b h) ≡ with_clock b (counted_of h)
  unfolding counted_of ticked_count_of start_of
  clock-counted =
      rw clock-zero
      (pick-map (with_clock b) (eqb (ticked_count_of h) 0) (reached_zero_of h)
      (with_count h (ticked_count_of h)))

  clock-tick : tick_of (with_clock b h) ≡ with_clock b (tick_of h)
  unfolding tick_of
  clock-tick =
      rw (clock-counted, clock-first h.control b less) (pick-map (with_clock b) (is_set t_enb h.control) (counted_of h) h)

pub clock-selection : ClockSelection
clock-selection b h less = clock-tick b h less
