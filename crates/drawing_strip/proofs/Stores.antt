-- The columns of a strip stored into an image one after the other, two bytes each. Assumes nothing.
use Prim.Native.Nat.{ℕ, ◌+◌, ◌*◌, ◌/◌, ◌%◌, ◌<◌, ◌≤◌}
use native.Mathlib.Omega.{arith}
use native.Mathlib.Decide.{dec_lt, ℕ_discrete}
use mathlib.Core.Path.{◌≡◌, refl, ◌∙◌}
use mathlib.Core.List.{List}
use lib.ListN.{length, get_or, set, length-set}
use lib.Seq.{get_or-set_same, get_or-set_other}
use Rattle.drawing_strip.specs.inner.Stored.{column_byte_of, InStrip, Stored}

pub stored-none : (base strip : ℕ) (columns a : List ℕ) → Stored base strip 0 columns a a
stored-none base strip columns a =
    record {
      size = refl;
      inside = λ o h s. absurd (omega arith);
      beside = λ o h s. refl;
      below = λ i h. refl;
      above = λ i h. refl;
    }

low_byte : (h : ℕ) → h % 256 ≡ column_byte_of h 0
unfolding column_byte_of
low_byte h = omega arith

high_byte : (h : ℕ) → h / 256 % 256 ≡ column_byte_of h 1
unfolding column_byte_of
high_byte h = omega arith

-- two bytes at an address
put : List ℕ → ℕ → ℕ → ℕ → List ℕ
put b i l h = set (set b i l) (i + 1) h

put_other : (b : List ℕ) (i l h j : ℕ) → (j ≡ i → ⊥) → (j ≡ i + 1 → ⊥) → get_or (put b i l h) j 0 ≡ get_or b j 0
unfolding put
put_other b i l h j n m = get_or-set_other (set b i l) (i + 1) j h 0 m ∙ get_or-set_other b i j l 0 n

put_low : (b : List ℕ) (i l h j : ℕ) → j ≡ i → i < length b → get_or (put b i l h) j 0 ≡ l
unfolding put
put_low b i l h j e u = rw e (get_or-set_other (set b i l) (i + 1) i h 0 (λ f. omega arith) ∙ get_or-set_same b i l 0 u)

put-high : (b : List ℕ) (i l h j : ℕ) → j ≡ i + 1 → i + 1 < length b → get_or (put b i l h) j 0 ≡ h
unfolding put
put-high b i l h j e u = rw e (get_or-set_same (set b i l) (i + 1) h 0 (simp length-set u))

module _ (base strip x : ℕ) (columns a b : List ℕ) (few : strip < 32) (room : base + 64 * (x + 1) ≤ length b) where
  module _ (i column : ℕ) (here : i ≡ base + (64 * x + 2 * strip)) (read : column ≡ get_or columns x 0) where
    pub stored_more : Stored base strip x columns a b
        → Stored base strip (x + 1) columns a (set (set b i (column % 256)) (i + 1) (column / 256 % 256))
    unfolding put
    stored_more s =
        record {
          size = length-set (set b i (column % 256)) (i + 1) _ ∙ (length-set b i _ ∙ s.size);
          inside = inside;
          beside = beside;
          below = λ j h. put_other b i _ _ j (λ e. omega arith) (λ e. omega arith) ∙ s.below j h;
          above = λ j h. put_other b i _ _ j (λ e. omega arith) (λ e. omega arith) ∙ s.above j (omega arith);
        }
      where
        after : List ℕ
        after = set (set b i (column % 256)) (i + 1) (column / 256 % 256)

        low : (o : ℕ) → o ≡ 64 * x + 2 * strip → get_or after (base + o) 0 ≡ column_byte_of (get_or columns (o / 64) 0) (o % 2)
        low o e =
            let q : o / 64 ≡ x = omega arith in
            let p : o % 2 ≡ 0 = omega arith in
            put_low b i (column % 256) (column / 256 % 256) (base + o) (omega arith) (omega arith)
            ∙ rw (q, p, ← read) (low_byte column)

        high : (o : ℕ) → o ≡ 64 * x + 2 * strip + 1 → get_or after (base + o) 0 ≡ column_byte_of (get_or columns (o / 64) 0) (o % 2)
        high o e =
            let q : o / 64 ≡ x = omega arith in
            let p : o % 2 ≡ 1 = omega arith in
            put-high b i (column % 256) (column / 256 % 256) (base + o) (omega arith) (omega arith)
            ∙ rw (q, p, ← read) (high_byte column)

        inside : (o : ℕ) → o < 64 * (x + 1) → InStrip strip o → get_or after (base + o) 0 ≡ column_byte_of (get_or columns (o / 64) 0) (o % 2)
        inside o h t =
            elim (dec_lt o (64 * x)) [
              | yes l ↦ put_other b i _ _ (base + o) (λ e. omega arith) (λ e. omega arith) ∙ s.inside o l t
              | no n ↦ elim (ℕ_discrete o (64 * x + 2 * strip)) [
                | yes e ↦ low o e
                | no m ↦ high o (omega arith)
              ]
            ]

        beside : (o : ℕ) → o < 64 * (x + 1) → (InStrip strip o → ⊥) → get_or after (base + o) 0 ≡ get_or a (base + o) 0
        beside o h t =
            put_other b i _ _ (base + o) (λ e. t (omega arith)) (λ e. t (omega arith))
            ∙ elim (dec_lt o (64 * x)) [
              | yes l ↦ s.beside o l t
              | no n ↦ s.above (base + o) (omega arith)
            ]
