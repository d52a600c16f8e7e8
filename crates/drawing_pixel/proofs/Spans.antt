-- The laws of a strip while it is painted: a span of columns grows by one or by another span, the spans of rows 0 to 7
-- make a whole strip, and strips follow one another. Assumes nothing.
use Prim.Native.Nat.{ℕ, ◌+◌, ◌<◌, ◌≤◌}
use native.Mathlib.Omega.{arith}
use native.Mathlib.Decide.{dec_lt, ℕ_discrete}
use mathlib.Core.Path.{◌≡◌, refl, sym, ap, ◌∙◌}
use mathlib.Core.List.{List}
use lib.ListN.{length, get_or, set, length-set}
use lib.Seq.{get_or-set_same, get_or-set_other}
use Rattle.drawing_pixel.specs.Character.{two_bits_of}
use Rattle.drawing_pixel.specs.inner.Buffer.{repainted_of, Span, Rows, Strip}
use Rattle.drawing_pixel.proofs.Pairs.{pair_lt, pair-repainted-same, pair-repainted-other, repainted-self}

-- no column yet
pub span_none : (r x : ℕ) (f : ℕ → ℕ → ℕ) (a : List ℕ) → Span r x x f a a
span_none r x f a =
    record { size = refl; inside = λ y l h. absurd (omega arith); below = λ y h. refl; above = λ y h. refl }

-- one column more
module _ (r from x : ℕ) (f : ℕ → ℕ → ℕ) (a b : List ℕ) where
  pub span_more : Span r from x f a b → from ≤ x → x < length b → Span r from (x + 1) f a (set b x (repainted_of r (f x) (get_or b x 0)))
  span_more s l h =
      record {
        size = length-set b x _ ∙ s.size;
        inside = inside;
        below = λ y u. get_or-set_other b x y _ 0 (λ e. omega arith) ∙ s.below y u;
        above = λ y u. get_or-set_other b x y _ 0 (λ e. omega arith) ∙ s.above y (omega arith);
      }
    where
      at : (y : ℕ) → y ≡ x → get_or (set b x (repainted_of r (f x) (get_or b x 0))) y 0 ≡ repainted_of r (f y) (get_or a y 0)
      at y e = rw e (get_or-set_same b x _ 0 h ∙ ap (repainted_of r (f x)) (s.above x (omega arith)))

      inside : (y : ℕ) → from ≤ y → y < x + 1 → get_or (set b x (repainted_of r (f x) (get_or b x 0))) y 0 ≡ repainted_of r (f y) (get_or a y 0)
      inside y u v =
          elim (ℕ_discrete y x) [
            | yes e ↦ at y e
            | no n ↦ get_or-set_other b x y _ 0 n ∙ s.inside y u (omega arith)
          ]

-- the next column, by its distance from the first
pub span-next : (r from k : ℕ) (f : ℕ → ℕ → ℕ) (g : ℕ → ℕ) (a b : List ℕ) → Span r from (from + k) f a b → from + k < length b → f (from + k) ≡ g
    → Span r from (from + (k + 1)) f a (set b (from + k) (repainted_of r g (get_or b (from + k) 0)))
span-next r from k f g a b s h e =
    let p : from + (k + 1) ≡ from + k + 1 = omega arith in rw (p, ← e) (span_more r from (from + k) f a b s (omega arith) h)

-- two spans side by side
pub span-join : (r from mid to : ℕ) (f : ℕ → ℕ → ℕ) (a b c : List ℕ) → from ≤ mid → mid ≤ to
    → Span r from mid f a b → Span r mid to f b c → Span r from to f a c
span-join r from mid to f a b c l h s t =
    record {
      size = t.size ∙ s.size;
      inside = inside;
      below = λ y u. t.below y (omega arith) ∙ s.below y u;
      above = λ y u. t.above y u ∙ s.above y (omega arith);
    }
  where
    inside : (y : ℕ) → from ≤ y → y < to → get_or c y 0 ≡ repainted_of r (f y) (get_or a y 0)
    inside y u v =
        elim (dec_lt y mid) [
          | yes e ↦ t.below y e ∙ s.inside y u e
          | no n ↦ t.inside y (omega arith) v ∙ ap (repainted_of r (f y)) (s.above y (omega arith))
        ]

-- the same span by another function that agrees there
pub span-change : (r from to : ℕ) (f g : ℕ → ℕ → ℕ) (a b : List ℕ)
    → ((x v : ℕ) → from ≤ x → x < to → f x v ≡ g x v) → Span r from to f a b → Span r from to g a b
unfolding repainted_of
span-change r from to f g a b e s =
    record {
      size = s.size;
      inside = λ x l h. s.inside x l h ∙ rw (e x (two_bits_of (get_or a x 0) r) l h);
      below = s.below;
      above = s.above;
    }

-- no row yet
pub rows_none : (f : ℕ → ℕ → ℕ → ℕ) (a : List ℕ) → Rows 0 f a a
rows_none f a =
    record { size = refl; done = λ x r u v. absurd (omega arith); rest = λ x r u v w. refl }

-- one row more, whose columns outside the span are to be kept
module _ (n from to : ℕ) (f : ℕ → ℕ → ℕ → ℕ) (a b c : List ℕ) where
  module _ (few : n < 8) (small : (x v : ℕ) → v < 4 → f x n v < 4) (keeps : (x v : ℕ) → x < 384 → (x < from → f x n v ≡ v) × (to ≤ x → f x n v ≡ v)) where
    pub rows_more : Rows n f a b → Span n from to (λ x. f x n) b c → Rows (n + 1) f a c
    rows_more s t = record { size = t.size ∙ s.size; done = done; rest = rest }
      where
        within : (x : ℕ) → from ≤ x → x < to → get_or c x 0 ≡ repainted_of n (f x n) (get_or b x 0)
        within x l h = t.inside x l h

        kept : (x : ℕ) → x < 384 → f x n (two_bits_of (get_or b x 0) n) ≡ two_bits_of (get_or b x 0) n → get_or c x 0 ≡ get_or b x 0
            → get_or c x 0 ≡ repainted_of n (f x n) (get_or b x 0)
        kept x u e k = k ∙ sym (repainted-self n (f x n) (get_or b x 0) few e)

        column : (x : ℕ) → x < 384 → get_or c x 0 ≡ repainted_of n (f x n) (get_or b x 0)
        column x u =
            elim (dec_lt x from) [
              | yes l ↦ kept x u ((keeps x _ u).0 l) (t.below x l)
              | no m ↦ elim (dec_lt x to) [
                | yes h ↦ within x (omega arith) h
                | no h ↦ kept x u ((keeps x _ u).1 (omega arith)) (t.above x (omega arith))
              ]
            ]

        bound : (x : ℕ) → f x n (two_bits_of (get_or b x 0) n) < 4
        bound x = small x _ (pair_lt (get_or b x 0) n)

        same : (x : ℕ) → x < 384 → two_bits_of (get_or c x 0) n ≡ f x n (two_bits_of (get_or a x 0) n)
        same x u =
            ap (λ h. two_bits_of h n) (column x u)
            ∙ (pair-repainted-same n (f x n) (get_or b x 0) few (bound x) ∙ ap (f x n) (s.rest x n u (omega arith) few))

        other : (x r : ℕ) → x < 384 → r < 8 → (r ≡ n → ⊥) → two_bits_of (get_or c x 0) r ≡ two_bits_of (get_or b x 0) r
        other x r u v e =
            ap (λ h. two_bits_of h r) (column x u) ∙ pair-repainted-other n (f x n) (get_or b x 0) r few v e (bound x)

        done : (x r : ℕ) → x < 384 → r < n + 1 → two_bits_of (get_or c x 0) r ≡ f x r (two_bits_of (get_or a x 0) r)
        done x r u v =
            elim (ℕ_discrete r n) [
              | yes e ↦ rw e (same x u)
              | no e ↦ other x r u (omega arith) e ∙ s.done x r u (omega arith)
            ]

        rest : (x r : ℕ) → x < 384 → n + 1 ≤ r → r < 8 → two_bits_of (get_or c x 0) r ≡ two_bits_of (get_or a x 0) r
        rest x r u v w = other x r u w (λ e. omega arith) ∙ s.rest x r u (omega arith) w

-- eight rows are the strip
pub rows_all : (f : ℕ → ℕ → ℕ → ℕ) (a b : List ℕ) → Rows 8 f a b → Strip f a b
rows_all f a b s = record { size = s.size; pixels = s.done }

-- a strip that nothing was painted on
pub strip-kept : (f : ℕ → ℕ → ℕ → ℕ) (a : List ℕ) → ((x r v : ℕ) → x < 384 → r < 8 → f x r v ≡ v) → Strip f a a
strip-kept f a e = record { size = refl; pixels = λ x r u v. sym (e x r _ u v) }

-- the same strip by another function that agrees on it
pub strip-change : (f g : ℕ → ℕ → ℕ → ℕ) (a b : List ℕ) → ((x r v : ℕ) → x < 384 → r < 8 → f x r v ≡ g x r v) → Strip f a b → Strip g a b
strip-change f g a b e s = record { size = s.size; pixels = λ x r u v. s.pixels x r u v ∙ e x r _ u v }

-- one strip over another
pub strip-over : (f g : ℕ → ℕ → ℕ → ℕ) (a b c : List ℕ) → Strip f a b → Strip g b c → Strip (λ x r v. g x r (f x r v)) a c
strip-over f g a b c s t =
    record { size = t.size ∙ s.size; pixels = λ x r u v. t.pixels x r u v ∙ ap (g x r) (s.pixels x r u v) }

-- a span that is to be kept as it is
pub span-kept : (r from to : ℕ) (f : ℕ → ℕ → ℕ) (a : List ℕ) → r < 8 → ((x v : ℕ) → from ≤ x → x < to → f x v ≡ v) → Span r from to f a a
span-kept r from to f a h e =
    record {
      size = refl;
      inside = λ x l u. sym (repainted-self r (f x) (get_or a x 0) h (e x _ l u));
      below = λ x u. refl;
      above = λ x u. refl;
    }
