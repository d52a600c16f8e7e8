-- The laws of a block of columns and rows of a strip while it is painted: it grows by a row, by a block next to it and by a
-- block below it, and is a strip where what is outside of it is to be kept. Assumes nothing.
use Prim.Native.Nat.{ℕ, ◌+◌, ◌<◌, ◌≤◌}
use native.Mathlib.Omega.{arith}
use native.Mathlib.Decide.{dec_lt, ℕ_discrete}
use mathlib.Core.Path.{◌≡◌, refl, sym, ap, ◌∙◌}
use mathlib.Core.List.{List}
use lib.ListN.{get_or}
use Rattle.drawing_pixel.specs.Character.{two_bits_of}
use Rattle.drawing_pixel.specs.inner.Buffer.{Span, Block, Strip}
use Rattle.drawing_pixel.proofs.Pairs.{pair_lt, pair-repainted-same, pair-repainted-other}

-- no row yet
pub block-no-row : (top from to : ℕ) (f : ℕ → ℕ → ℕ → ℕ) (a : List ℕ) → Block top top from to f a a
block-no-row top from to f a =
    record {
      size = refl;
      inside = λ x r l h u v. absurd (omega arith);
      left = λ x u. refl;
      right = λ x u. refl;
      above = λ x r u v. refl;
      below = λ x r u v. refl;
    }

-- no column yet
pub block-no-column : (top bottom from : ℕ) (f : ℕ → ℕ → ℕ → ℕ) (a : List ℕ) → Block top bottom from from f a a
block-no-column top bottom from f a =
    record {
      size = refl;
      inside = λ x r l h u v. absurd (omega arith);
      left = λ x u. refl;
      right = λ x u. refl;
      above = λ x r u v. refl;
      below = λ x r u v. refl;
    }

-- one row more
module _ (top m from to : ℕ) (f : ℕ → ℕ → ℕ → ℕ) (a b c : List ℕ) where
  module _ (high : top ≤ m) (few : m < 8) (small : (x v : ℕ) → v < 4 → f x m v < 4) where
    pub block_row : Block top m from to f a b → Span m from to (λ x. f x m) b c → Block top (m + 1) from to f a c
    block_row s t =
        record {
          size = t.size ∙ s.size;
          inside = inside;
          left = λ x u. t.below x u ∙ s.left x u;
          right = λ x u. t.above x u ∙ s.right x u;
          above = λ x r u v. other x r v (λ e. omega arith) ∙ s.above x r u v;
          below = λ x r u v. other x r v (λ e. omega arith) ∙ s.below x r (omega arith) v;
        }
      where
        bound : (x : ℕ) → f x m (two_bits_of (get_or b x 0) m) < 4
        bound x = small x _ (pair_lt (get_or b x 0) m)

        other : (x r : ℕ) → r < 8 → (r ≡ m → ⊥) → two_bits_of (get_or c x 0) r ≡ two_bits_of (get_or b x 0) r
        other x r v n =
            elim (dec_lt x from) [
              | yes l ↦ ap (λ h. two_bits_of h r) (t.below x l)
              | no l ↦ elim (dec_lt x to) [
                | yes h ↦ ap (λ h. two_bits_of h r) (t.inside x (omega arith) h) ∙ pair-repainted-other m (f x m) (get_or b x 0) r few v n (bound x)
                | no h ↦ ap (λ h. two_bits_of h r) (t.above x (omega arith))
              ]
            ]

        same : (x : ℕ) → from ≤ x → x < to → two_bits_of (get_or c x 0) m ≡ f x m (two_bits_of (get_or a x 0) m)
        same x l h =
            ap (λ h. two_bits_of h m) (t.inside x l h)
            ∙ (pair-repainted-same m (f x m) (get_or b x 0) few (bound x) ∙ ap (f x m) (s.below x m (omega arith) few))

        inside : (x r : ℕ) → from ≤ x → x < to → top ≤ r → r < m + 1 → two_bits_of (get_or c x 0) r ≡ f x r (two_bits_of (get_or a x 0) r)
        inside x r l h u v =
            elim (ℕ_discrete r m) [
              | yes e ↦ rw e (same x l h)
              | no n ↦ other x r (omega arith) n ∙ s.inside x r l h u (omega arith)
            ]

-- two blocks side by side
pub block-beside : (top bottom from mid to : ℕ) (f : ℕ → ℕ → ℕ → ℕ) (a b c : List ℕ) → from ≤ mid → mid ≤ to
    → Block top bottom from mid f a b → Block top bottom mid to f b c → Block top bottom from to f a c
block-beside top bottom from mid to f a b c l h s t =
    record {
      size = t.size ∙ s.size;
      inside = inside;
      left = λ x u. t.left x (omega arith) ∙ s.left x u;
      right = λ x u. t.right x u ∙ s.right x (omega arith);
      above = λ x r u v. t.above x r u v ∙ s.above x r u v;
      below = λ x r u v. t.below x r u v ∙ s.below x r u v;
    }
  where
    inside : (x r : ℕ) → from ≤ x → x < to → top ≤ r → r < bottom → two_bits_of (get_or c x 0) r ≡ f x r (two_bits_of (get_or a x 0) r)
    inside x r m n u v =
        elim (dec_lt x mid) [
          | yes e ↦ ap (λ h. two_bits_of h r) (t.left x e) ∙ s.inside x r m e u v
          | no e ↦ t.inside x r (omega arith) n u v ∙ ap (λ h. f x r (two_bits_of h r)) (s.right x (omega arith))
        ]

-- two blocks one under the other
pub block-under : (top mid bottom from to : ℕ) (f : ℕ → ℕ → ℕ → ℕ) (a b c : List ℕ) → top ≤ mid → mid ≤ bottom → bottom ≤ 8
    → Block top mid from to f a b → Block mid bottom from to f b c → Block top bottom from to f a c
block-under top mid bottom from to f a b c l h few s t =
    record {
      size = t.size ∙ s.size;
      inside = inside;
      left = λ x u. t.left x u ∙ s.left x u;
      right = λ x u. t.right x u ∙ s.right x u;
      above = λ x r u v. t.above x r (omega arith) v ∙ s.above x r u v;
      below = λ x r u v. t.below x r u v ∙ s.below x r (omega arith) v;
    }
  where
    inside : (x r : ℕ) → from ≤ x → x < to → top ≤ r → r < bottom → two_bits_of (get_or c x 0) r ≡ f x r (two_bits_of (get_or a x 0) r)
    inside x r m n u v =
        elim (dec_lt r mid) [
          | yes e ↦ t.above x r e (omega arith) ∙ s.inside x r m n u e
          | no e ↦ t.inside x r m n (omega arith) v ∙ ap (f x r) (s.below x r (omega arith) (omega arith))
        ]

-- the same block by another function that agrees there
pub block-change : (top bottom from to : ℕ) (f g : ℕ → ℕ → ℕ → ℕ) (a b : List ℕ)
    → ((x r v : ℕ) → from ≤ x → x < to → top ≤ r → r < bottom → f x r v ≡ g x r v) → Block top bottom from to f a b → Block top bottom from to g a b
block-change top bottom from to f g a b e s =
    record {
      size = s.size;
      inside = λ x r l h u v. s.inside x r l h u v ∙ e x r _ l h u v;
      left = s.left;
      right = s.right;
      above = s.above;
      below = s.below;
    }

-- a block of all eight rows, by a function that agrees in the rows painted and keeps the others
module _ (top bottom from to : ℕ) (f g : ℕ → ℕ → ℕ → ℕ) (a b : List ℕ) where
  module _ (agrees : (x r v : ℕ) → from ≤ x → x < to → top ≤ r → r < bottom → f x r v ≡ g x r v) (rows :
      (x r v : ℕ) → r < 8 → (r < top → g x r v ≡ v) × (bottom ≤ r → g x r v ≡ v)) where
    pub block-tall : Block top bottom from to f a b → Block 0 8 from to g a b
    block-tall s =
        record {
          size = s.size;
          inside = inside;
          left = s.left;
          right = s.right;
          above = λ x r u v. absurd (omega arith);
          below = λ x r u v. absurd (omega arith);
        }
      where
        inside : (x r : ℕ) → from ≤ x → x < to → 0 ≤ r → r < 8 → two_bits_of (get_or b x 0) r ≡ g x r (two_bits_of (get_or a x 0) r)
        inside x r l h u v =
            elim (dec_lt r top) [
              | yes m ↦ s.above x r m v ∙ sym ((rows x r _ v).0 m)
              | no m ↦ elim (dec_lt r bottom) [
                | no n ↦ s.below x r (omega arith) v ∙ sym ((rows x r _ v).1 (omega arith))
                | yes n ↦ s.inside x r l h (omega arith) n ∙ agrees x r _ l h (omega arith) n
              ]
            ]

-- eight rows that are to be kept as they are
pub block-kept : (from to : ℕ) (g : ℕ → ℕ → ℕ → ℕ) (a : List ℕ) → ((x r v : ℕ) → r < 8 → g x r v ≡ v) → Block 0 8 from to g a a
block-kept from to g a e =
    record {
      size = refl;
      inside = λ x r l h u v. sym (e x r _ v);
      left = λ x u. refl;
      right = λ x u. refl;
      above = λ x r u v. refl;
      below = λ x r u v. refl;
    }

-- a strip, where the columns left and right of such a block are to be kept
module _ (from to : ℕ) (g : ℕ → ℕ → ℕ → ℕ) (a b : List ℕ) where
  module _ (columns : (x r v : ℕ) → x < 384 → (x < from → g x r v ≡ v) × (to ≤ x → g x r v ≡ v)) where
    pub block-strip : Block 0 8 from to g a b → Strip g a b
    block-strip s = record { size = s.size; pixels = pixels }
      where
        pixels : (x r : ℕ) → x < 384 → r < 8 → two_bits_of (get_or b x 0) r ≡ g x r (two_bits_of (get_or a x 0) r)
        pixels x r u v =
            elim (dec_lt x from) [
              | yes l ↦ ap (λ h. two_bits_of h r) (s.left x l) ∙ sym ((columns x r _ u).0 l)
              | no l ↦ elim (dec_lt x to) [
                | no h ↦ ap (λ h. two_bits_of h r) (s.right x (omega arith)) ∙ sym ((columns x r _ u).1 (omega arith))
                | yes h ↦ s.inside x r (omega arith) h (omega arith) v
              ]
            ]
