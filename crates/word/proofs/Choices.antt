-- Laws of tests, and of `pick`, the choice by a test, which every layer cites: what holds of both sides (`pick-each`,
-- `pick-cases`), a test that is known (`pick_true`, `pick-false`), and a choice that is a test itself. Assumes nothing.
use Prim.Native.Nat.{ℕ, ◌<◌, ◌≤◌}
use mathlib.Core.Path.{◌≡◌, refl, sym, ap, ◌∙◌}
use mathlib.Core.Bool.{Bool, true, false, not, cond, ◌&&◌, ◌||◌, false≢true}
use native.Mathlib.Decide.{dec_lt, ℕ_discrete}
use native.Mathlib.Omega.{arith}
use borrow.Author.Tests.{lt-ltb, le-ltb, lt-leb, le-leb, eq-eqb, ne_eqb}
use lib.Dec.{T, ltb, leb, eqb, ltb→lt, lt→ltb}
use Rattle.word.specs.Choose.{pick}

pub cond-case : {X : Type 0} (P : X → Type 0) (c : Bool) (x y : X) → (T c → P x) → (T (not c) → P y) → P (cond c x y)
cond-case P true x y f g = f tt
cond-case P false x y f g = g tt

-- two tests that follow from each other
pub bool_same : (b c : Bool) → (T b → T c) → (T c → T b) → b ≡ c
bool_same true true f g = refl
bool_same true false f g = absurd (f tt)
bool_same false true f g = absurd (g tt)
bool_same false false f g = refl

pub test-same : (b c : Bool) → (b ≡ true → c ≡ true) → (c ≡ true → b ≡ true) → b ≡ c
test-same true c f g = sym (f refl)
test-same false true f g = g refl
test-same false false f g = refl

-- a test that cannot hold
pub bool-refuted : (b : Bool) → (b ≡ true → ⊥) → b ≡ false
bool-refuted true h = absurd (h refl)
bool-refuted false h = refl

pub or-neither : (a b : Bool) → (a || b) ≡ false → (a ≡ false) × (b ≡ false)
or-neither false false e = (refl, refl)
or-neither false true e = (refl, e)
or-neither true b e = (e, absurd (false≢true (sym e)))

-- a joined test by its parts
pub and_left : (a b : Bool) → (a && b) ≡ true → a ≡ true
and_left true b e = refl
and_left false b e = e

pub and_right : (a b : Bool) → (a && b) ≡ true → b ≡ true
and_right true b e = e
and_right false b e = absurd (false≢true e)

pub and_both : (a b : Bool) → a ≡ true → b ≡ true → (a && b) ≡ true
and_both true b e f = f
and_both false b e f = e

pub or_left : (a b : Bool) → a ≡ true → (a || b) ≡ true
or_left true b e = refl
or_left false b e = absurd (false≢true e)

pub or_right : (a b : Bool) → b ≡ true → (a || b) ≡ true
or_right true b e = refl
or_right false b e = e

pub or_cases : {A : Type 0} (a b : Bool) → (a || b) ≡ true → (a ≡ true → A) → (b ≡ true → A) → A
or_cases true b e h k = h refl
or_cases false b e h k = k e

pub not_of_false : (b : Bool) → b ≡ false → not b ≡ true
not_of_false true e = sym e
not_of_false false e = refl

-- what holds of both sides of a choice holds of the choice
pub pick-each : {A : Type 0} (P : A → Type 0) (b : Bool) (x y : A) → P x → P y → P (pick b x y)
pick-each P true x y p q = p
pick-each P false x y p q = q

-- the same, each side under its test
pub pick-cases : {A : Type 0} (P : A → Type 0) (b : Bool) (x y : A) → (b ≡ true → P x) → (b ≡ false → P y) → P (pick b x y)
pick-cases P true x y p q = p refl
pick-cases P false x y p q = q refl

-- what is made of either side is made of the choice
pub pick-map : {A B : Type 0} (f : A → B) (b : Bool) (x y : A) → pick b (f x) (f y) ≡ f (pick b x y)
pick-map f true x y = refl
pick-map f false x y = refl

-- a choice whose test is known
pub pick_true : {A : Type 0} (b : Bool) (x y : A) → b ≡ true → x ≡ pick b x y
pick_true true x y e = refl
pick_true false x y e = absurd (false≢true e)

pub pick-false : {A : Type 0} (b : Bool) (x y : A) → b ≡ false → y ≡ pick b x y
pick-false true x y e = absurd (false≢true (sym e))
pick-false false x y e = refl

-- two choices by one test
pub pick_same : {A : Type 0} (b : Bool) {s t u v : A} → (b ≡ true → s ≡ t) → (b ≡ false → u ≡ v) → pick b s u ≡ pick b t v
pick_same true h k = h refl
pick_same false h k = k refl

-- a choice that is true, where one of its sides is false
pub pick-both : (a b : Bool) → pick a b false ≡ true → (a ≡ true) × (b ≡ true)
pick-both true b e = (refl, e)
pick-both false b e = absurd (false≢true e)

-- the same where the choice computes to true
pub pick-head : (a b : Bool) → T (pick a b false) → a ≡ true
pick-head true b h = refl
pick-head false b h = absurd h

pub pick-tail : (a b : Bool) → T (pick a b false) → T b
pick-tail true b h = h
pick-tail false b h = absurd h

pub pick_second : {A : Type 0} (t b : Bool) → pick t false b ≡ true → (t ≡ false → b ≡ true → A) → A
pick_second true b e h = absurd (false≢true e)
pick_second false b e h = h refl e

-- a choice that comes to its test, to its other test, and to one answer
pub pick-self : (b : Bool) → pick b true false ≡ b
pick-self true = refl
pick-self false = refl

pub pick-opposite : (b : Bool) → pick b false true ≡ not b
pick-opposite true = refl
pick-opposite false = refl

pub pick-not : {A : Type 0} (b : Bool) (x y : A) → pick (not b) x y ≡ pick b y x
pick-not true x y = refl
pick-not false x y = refl

pub pick-either : {A : Type 0} (b : Bool) (x : A) → pick b x x ≡ x
pick-either true x = refl
pick-either false x = refl

-- two tests of numbers that follow from each other
pub less-same : (a b c d : ℕ) → (a < b → c < d) → (c < d → a < b) → ltb a b ≡ ltb c d
less-same a b c d f g =
    bool_same (ltb a b) (ltb c d) (λ t. lt→ltb c d (f (ltb→lt a b t))) (λ t. lt→ltb a b (g (ltb→lt c d t)))

pub equal-same : (a b c d : ℕ) → (a ≡ b → c ≡ d) → (c ≡ d → a ≡ b) → eqb a b ≡ eqb c d
equal-same a b c d f g =
    elim (ℕ_discrete a b) [
      | yes e ↦ eq-eqb a b e ∙ sym (eq-eqb c d (f e))
      | no n ↦ ne_eqb a b n ∙ sym (ne_eqb c d (λ e. n (g e)))
    ]

pub not-less : (x y : ℕ) → not (ltb x y) ≡ leb y x
not-less x y =
    elim (dec_lt x y) [
      | yes h ↦ simp (lt-ltb x y h, lt-leb y x h)
      | no h ↦
          let g : y ≤ x = omega arith in
          simp (le-ltb x y g, le-leb y x g)
    ]

pub pick-leb : {A : Type 0} (m n : ℕ) (x y : A) → pick (leb m n) x y ≡ pick (ltb n m) y x
pick-leb m n x y = ap (λ (b : Bool). pick b x y) (sym (not-less n m)) ∙ pick-not (ltb n m) x y

pub less-or-equal : (x y : ℕ) → pick (ltb x y) true (eqb x y) ≡ leb x y
less-or-equal x y =
    elim (dec_lt x y) [
      | yes h ↦
          let g : x ≤ y = omega arith in
          simp (lt-ltb x y h, le-leb x y g)
      | no h ↦
          let k : y ≤ x = omega arith in
          elim (ℕ_discrete x y) [
            | yes e ↦
                let g : x ≤ y = omega arith in
                simp (le-ltb x y k, eq-eqb x y e, le-leb x y g)
            | no e ↦
                let g : y < x = omega arith in
                simp (le-ltb x y k, ne_eqb x y e, lt-leb x y g)
          ]
    ]
