-- A strip stored through the part of VRAM that begins at an image is stored into the whole. Assumes nothing.
use Prim.Native.Nat.{ℕ, ◌+◌, ◌-◌, ◌*◌, ◌<◌, ◌≤◌}
use native.Mathlib.Omega.{arith}
use native.Mathlib.Nat.{zero-add}
use mathlib.Core.Path.{◌≡◌, sym, ap, ◌∙◌}
use mathlib.Core.List.{List, ◌++◌, append-nil}
use lib.ListN.{length, get_or, take, drop, length-append, length-drop, drop_of_length-le, get_or-append}
use lib.Seq.{get_or-take, get_or-drop, get_or-append-add, length-take-le, take_all}
use borrow.Rule.Slice.PartMut.{put_mid, mid_of}
use Rattle.drawing_strip.specs.inner.Stored.{Stored}

module _ (base : ℕ) (xs : List ℕ) (within : base ≤ length xs) where
  mid-drop : mid_of base (length xs - base) xs ≡ drop base xs
  mid-drop = take_all (length xs - base) (drop base xs) (simp length-drop (omega arith))

  put_all : (ys : List ℕ) → put_mid base (length xs - base) xs ys ≡ take base xs ++ ys
  put_all ys =
      ap (λ (p : List ℕ). take base xs ++ (ys ++ p)) (drop_of_length-le (drop base xs) {i = length xs - base} (simp length-drop (omega arith)))
      ∙ ap (λ (p : List ℕ). take base xs ++ p) (append-nil ys)

  module _ (ys : List ℕ) where
    at_part : (o : ℕ) → get_or (take base xs ++ ys) (base + o) 0 ≡ get_or ys o 0
    at_part o =
        ap (λ (n : ℕ). get_or (take base xs ++ ys) (n + o) 0) (sym (length-take-le base xs within))
        ∙ get_or-append-add (take base xs) ys o 0

    at_front : (a : ℕ) → a < base → get_or (take base xs ++ ys) a 0 ≡ get_or xs a 0
    at_front a h =
        get_or-append (take base xs) ys 0 a (rw (length-take-le base xs within) h) ∙ get_or-take base xs a 0 h

    module _ (strip n : ℕ) (columns : List ℕ) where
      in_whole : Stored 0 strip n columns (drop base xs) ys → Stored base strip n columns xs (take base xs ++ ys)
      in_whole s =
          record {
            size = size;
            inside = λ o h t. at_part o ∙ (ap (λ (i : ℕ). get_or ys i 0) (sym (zero-add o)) ∙ s.inside o h t);
            beside = λ o h t. at_part o ∙ (ap (λ (i : ℕ). get_or ys i 0) (sym (zero-add o)) ∙ (s.beside o h t ∙ back o));
            below = at_front;
            above = above;
          }
        where
          back : (o : ℕ) → get_or (drop base xs) (0 + o) 0 ≡ get_or xs (base + o) 0
          back o = ap (λ (i : ℕ). get_or (drop base xs) i 0) (zero-add o) ∙ get_or-drop base xs o 0

          size : length (take base xs ++ ys) ≡ length xs
          size =
              length-append (take base xs) ys
              ∙ rw (length-take-le base xs within, s.size, length-drop base xs) (omega arith)

          above : (a : ℕ) → base + 64 * n ≤ a → get_or (take base xs ++ ys) a 0 ≡ get_or xs a 0
          above a h =
              let e : base + (a - base) ≡ a = omega arith in
              rw (← e)
              (at_part (a - base)
              ∙ (s.above (a - base) (omega arith) ∙ get_or-drop base xs (a - base) 0))

      -- what the part's store says, said of the whole
      pub part-stored : Stored 0 strip n columns (mid_of base (length xs - base) xs) ys
          → Stored base strip n columns xs (put_mid base (length xs - base) xs ys)
      part-stored s = rw (put_all ys) (in_whole (rw mid-drop at s))
