-- Bytes put over a part of a buffer: what a copy into the part leaves, lengths, and parts put one after the other. Assumes nothing.
use Prim.Native.Nat.{ℕ, ◌+◌, ◌≤◌}
use native.Mathlib.Omega.{arith}
use mathlib.Core.Path.{◌≡◌, refl, sym, ap, ◌∙◌}
use mathlib.Core.List.{List, ◌++◌, append-nil, append_assoc}
use lib.ListN.{length, take, drop, length-append, length-drop, drop_of_length-le}
use lib.Seq.{paste, take_at, drop_at, drop-drop, take-length, length-take-le}
use borrow.Rule.Slice.PartMut.{put_mid}
use Rattle.saved_bytes.specs.inner.Put.{put_at}

-- what a copy over n bytes from `at` on leaves
pub part-put : (at : ℕ) (xs : List ℕ) (n : ℕ) (bs ys : List ℕ) → n ≡ length bs → ys ≡ bs → put_mid at n xs ys ≡ put_at xs at bs
unfolding put_at
part-put at xs n bs ys e f =
    rw (f, e) (ap (λ (p : List ℕ). take at xs ++ (bs ++ p)) (drop-drop (length bs) at xs) ∙ sym (append_assoc (take at xs) bs (drop (at + length bs) xs)))

-- all of a list pasted
pub paste_all : (d : List ℕ) (at : ℕ) (s : List ℕ) (n : ℕ) → n ≡ length s → paste d at s n ≡ put_at d at s
unfolding put_at
paste_all d at s n e = rw (e, take-length s)

module _ (d : List ℕ) (at : ℕ) (s : List ℕ) (fits : at + length s ≤ length d) where
  head-length : length (take at d ++ s) ≡ at + length s
  head-length = length-append (take at d) s ∙ ap (λ (n : ℕ). n + length s) (length-take-le at d (omega arith))

  pub length-put : length (put_at d at s) ≡ length d
  unfolding put_at
  length-put = simp (length-append, length-drop) (omega (arith, length-take-le at d (omega arith)))

  -- what stands before the end of the part, and behind it
  pub take_put : (n : ℕ) → n ≡ at + length s → take n (put_at d at s) ≡ take at d ++ s
  unfolding put_at
  take_put n e = take_at (take at d ++ s) (drop (at + length s) d) n (head-length ∙ sym e)

  pub drop-put : (n : ℕ) → n ≡ at + length s → drop n (put_at d at s) ≡ drop n d
  unfolding put_at
  drop-put n e =
      drop_at (take at d ++ s) (drop (at + length s) d) n (head-length ∙ sym e) ∙ ap (λ (k : ℕ). drop k d) (sym e)

  put-opened : (e : List ℕ) (n : ℕ) (t : List ℕ) → put_at e n t ≡ take n e ++ t ++ drop (n + length t) e
  unfolding put_at
  put-opened e n t = refl

  -- a part put right behind another
  pub put-put : (t : List ℕ) (n : ℕ) → n ≡ at + length s → put_at (put_at d at s) n t ≡ put_at d at (s ++ t)
  put-put t n e =
      let e1 : n + length t ≡ at + length (s ++ t) = omega (arith, length-append s t) in
      let e2 : drop (n + length t) (put_at d at s) ≡ drop (n + length t) d
      = sym (drop-drop (length t) n (put_at d at s)) ∙ (ap (drop (length t)) (drop-put n e) ∙ drop-drop (length t) n d) in
      put-opened (put_at d at s) n t
      ∙ (ap (λ (p : List ℕ). p ++ t ++ drop (n + length t) (put_at d at s)) (take_put n e)
      ∙ (ap (λ (p : List ℕ). take at d ++ s ++ t ++ p) (e2 ∙ ap (λ (k : ℕ). drop k d) e1)
      ∙ (ap (λ (p : List ℕ). p ++ drop (at + length (s ++ t)) d) (append_assoc (take at d) s t)
      ∙ sym (put-opened d at (s ++ t)))))

-- a part that ends with the buffer
pub put_last : (d : List ℕ) (at : ℕ) (s : List ℕ) → at + length s ≡ length d → put_at d at s ≡ take at d ++ s
unfolding put_at
put_last d at s e =
    ap (λ (p : List ℕ). take at d ++ s ++ p) (drop_of_length-le d {i = at + length s} (omega arith)) ∙ append-nil (take at d ++ s)

-- a part at the start of the buffer
pub put_first : (d s : List ℕ) (n : ℕ) → length s ≡ n → put_at d 0 s ≡ s ++ drop n d
unfolding put_at
put_first d s n e =
    let f : 0 + length s ≡ n = omega arith in
    ap (λ (k : ℕ). s ++ drop k d) f
