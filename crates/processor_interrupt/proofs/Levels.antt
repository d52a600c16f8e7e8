-- The highest raised level: it is raised where any line is, and no raised line is above it. By the lines, from the highest
-- down. Assumes nothing.
use Prim.Native.Nat.{ℕ, zero, suc, ◌+◌, ◌*◌, ◌/◌, ◌%◌, ◌<◌, ◌≤◌}
use mathlib.Core.Bool.{false}
use mathlib.Core.Path.{◌≡◌}
use native.Mathlib.Nat.{div-one, div-div-eq-div-mul}
use native.Mathlib.Omega.{arith}
use borrow.Author.Tests.{eqb-true, eqb-false}
use lib.Arith.{mod-mul}
use lib.Dec.{eqb}
use Rattle.word.proofs.Choices.{pick-cases}
use Rattle.processor_interrupt.specs.Interrupt.{line_of, level_of}

-- a number below 32 by its bits
halved : (x m : ℕ) → 0 < m → x % (m * 2) ≡ x / 2 % m * 2 + x % 2
halved x m some = let two : 0 < 2 = omega arith in mod-mul x {m = m} {c = 2} some two

summed : (r a b c e f g h i : ℕ) → r ≡ a * 2 + e → a ≡ b * 2 + f → b ≡ c * 2 + g → c ≡ i * 2 + h
    → r ≡ e + f * 2 + g * 4 + h * 8 + i * 16
summed r a b c e f g h i p q s t = omega arith

five-bits : (x : ℕ) → x % 32 ≡ line_of 0 x + line_of 1 x * 2 + line_of 2 x * 4 + line_of 3 x * 8 + line_of 4 x * 16
five-bits x =
    let by-four : x / 2 / 2 ≡ x / 4 = div-div-eq-div-mul x 2 2 in
    let by-eight : x / 4 / 2 ≡ x / 8 = div-div-eq-div-mul x 4 2 in
    let by-sixteen : x / 8 / 2 ≡ x / 16 = div-div-eq-div-mul x 8 2 in
    let whole : x / 1 ≡ x = div-one x in
    summed (x % 32) (x / 2 % 16) (x / 4 % 8) (x / 8 % 4) (line_of 0 x) (line_of 1 x) (line_of 2 x) (line_of 3 x) (line_of 4 x)
    (rw whole (halved x 16 (omega arith)))
    (rw (← by-four) (halved (x / 2) 8 (omega arith)))
    (rw (← by-eight) (halved (x / 4) 4 (omega arith)))
    (rw (← by-sixteen) (halved (x / 8) 2 (omega arith)))

-- with no line above 0 raised, that of level 0 is
lowest : (x a b c d e : ℕ) → (x ≡ 0 → ⊥) → x ≡ a + b * 2 + c * 4 + d * 8 + e * 16 → a < 2 → b < 2 → c < 2 → d < 2 → e < 2
    → (b ≡ 1 → ⊥) → (c ≡ 1 → ⊥) → (d ≡ 1 → ⊥) → (e ≡ 1 → ⊥)
    → a ≡ 1
lowest x a b c d e some sum p q r s t hb hc hd he = omega arith

module _ (lines : ℕ) where
  pub level-raised : (lines % 32 ≡ 0 → ⊥) → line_of (level_of lines) lines ≡ 1
  unfolding level_of
  level-raised some =
      pick-cases (λ n. line_of n lines ≡ 1) (eqb (line_of 4 lines) 1) 4 _ (λ e. eqb-true _ _ e)
      (λ four.
      pick-cases (λ n. line_of n lines ≡ 1) (eqb (line_of 3 lines) 1) 3 _ (λ e. eqb-true _ _ e)
      (λ three.
      pick-cases (λ n. line_of n lines ≡ 1) (eqb (line_of 2 lines) 1) 2 _ (λ e. eqb-true _ _ e)
      (λ two.
      pick-cases (λ n. line_of n lines ≡ 1) (eqb (line_of 1 lines) 1) 1 0 (λ e. eqb-true _ _ e)
      (λ one.
      lowest (lines % 32) (line_of 0 lines) (line_of 1 lines) (line_of 2 lines) (line_of 3 lines) (line_of 4 lines) some
      (five-bits lines) (omega arith) (omega arith) (omega arith) (omega arith) (omega arith) (eqb-false _ _ one)
      (eqb-false _ _ two) (eqb-false _ _ three) (eqb-false _ _ four)))))

  -- the level is one of the five
  pub level-five : level_of lines < 5
  unfolding level_of
  level-five =
      pick-cases (λ n. n < 5) (eqb (line_of 4 lines) 1) 4 _ (λ e. omega arith)
      (λ four.
      pick-cases (λ n. n < 5) (eqb (line_of 3 lines) 1) 3 _ (λ e. omega arith)
      (λ three.
      pick-cases (λ n. n < 5) (eqb (line_of 2 lines) 1) 2 _ (λ e. omega arith)
      (λ two. pick-cases (λ n. n < 5) (eqb (line_of 1 lines) 1) 1 0 (λ e. omega arith) (λ e. omega arith))))

  -- a raised line is none that is down
  not-it : (k n : ℕ) → eqb (line_of k lines) 1 ≡ false → line_of n lines ≡ 1 → n ≡ k → ⊥
  not-it k n down raised e = eqb-false (line_of k lines) 1 down (rw (← e) raised)

  -- a raised line is at most the level
  pub level-highest : (n : ℕ) → n < 5 → line_of n lines ≡ 1 → n ≤ level_of lines
  unfolding level_of
  level-highest n less raised =
      pick-cases (λ k. n ≤ k) (eqb (line_of 4 lines) 1) 4 _ (λ e. omega arith)
      (λ four.
      pick-cases (λ k. n ≤ k) (eqb (line_of 3 lines) 1) 3 _ (λ e. omega (arith, not-it 4 n four raised))
      (λ three.
      pick-cases (λ k. n ≤ k) (eqb (line_of 2 lines) 1) 2 _ (λ e. omega (arith, not-it 4 n four raised, not-it 3 n three raised))
      (λ two.
      pick-cases (λ k. n ≤ k) (eqb (line_of 1 lines) 1) 1 0
      (λ e. omega (arith, not-it 4 n four raised, not-it 3 n three raised, not-it 2 n two raised))
      (λ one.
      omega (
        arith,
        not-it 4 n four raised,
        not-it 3 n three raised,
        not-it 2 n two raised,
        not-it 1 n one raised,
      )))))

  -- where the five lines are 0, none is raised
  pub level-none : (n : ℕ) → n < 5 → lines % 32 ≡ 0 → line_of n lines ≡ 1 → ⊥
  level-none zero less none raised = omega (arith, five-bits lines)
  level-none (suc zero) less none raised = omega (arith, five-bits lines)
  level-none (suc (suc zero)) less none raised = omega (arith, five-bits lines)
  level-none (suc (suc (suc zero))) less none raised = omega (arith, five-bits lines)
  level-none (suc (suc (suc (suc zero)))) less none raised = omega (arith, five-bits lines)
  level-none (suc (suc (suc (suc (suc n))))) less none raised = omega arith
