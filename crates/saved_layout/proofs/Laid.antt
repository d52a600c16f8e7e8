-- The contents as the code lays them, kind after kind, are the contents of the form. Assumes nothing.
use Prim.Native.Nat.{ℕ, zero, suc, ◌+◌, ◌%◌, ◌/◌, ◌<◌}
use native.Mathlib.Omega.{arith}
use mathlib.Core.Path.{◌≡◌, refl}
use mathlib.Core.List.{List, [], ◌∷◌, ◌++◌, append_assoc}
use lib.Dec.{eqb-suc-zero}
use lib.ListN.{length, get_or, set, take, length-set}
use lib.Seq.{take-suc-set}
use Rattle.saved_bytes.specs.Numbers.{halves_of}
use Rattle.saved_layout.specs.Layout.{part_of, parts_of, leading_of, contents_entry_of, contents_of, body_place_of}
use Rattle.saved_layout.specs.inner.Laid.{last_bytes_of, laid_entry_of}
use Rattle.saved_layout.specs.declared.Form.{Form}
use Rattle.saved_layout.specs.declared.Form.TheVariants.{One, Two}

-- a halfword stored behind the first n
pub half-laid : (xs : List ℕ) (n h : ℕ) → n < length xs → take (n + 1) (set xs n h) ≡ take n xs ++ (h ∷ [])
half-laid xs n h l = let e : n + 1 ≡ suc n = omega arith in rw e (take-suc-set xs n h l)

-- a word
pub word-laid : (xs : List ℕ) (n w : ℕ) → n + 1 < length xs
    → take (n + 2) (set (set xs n (w % 65536)) (n + 1) (w / 65536)) ≡ take n xs ++ halves_of (w ∷ [])
unfolding halves_of
word-laid xs n w l =
    let e : n + 2 ≡ suc (n + 1) = omega arith in
    rw (e, take-suc-set (set xs n (w % 65536)) (n + 1) (w / 65536) (simp length-set (omega arith)), half-laid xs n (w % 65536) (omega arith))
    (append_assoc (take n xs) (w % 65536 ∷ []) (w / 65536 ∷ []))

-- what form 2 has before its first entry
pub leading_two : (xs : List ℕ) (n : ℕ) → 2 < length xs → take 3 (set (set (set xs 0 0) 1 2) 2 n) ≡ 0 ∷ 2 ∷ n ∷ []
leading_two xs n l =
    rw (half-laid (set (set xs 0 0) 1 2) 2 n (simp length-set l), half-laid (set xs 0 0) 1 2 (simp length-set (omega arith)))
    (rw (half-laid xs 0 0 (omega arith)))

-- an entry of a body that is not empty: its kind, its offset, its length, and in form 2 its sum
laid-some : (form : Form) (kind offset size sum : ℕ) → 0 < size
    → laid_entry_of form kind offset size sum ≡ contents_entry_of form (part_of kind size) offset sum
laid-some form kind offset zero sum h = absurd (omega arith)
laid-some form kind offset (suc n) sum h = simp (eqb-suc-zero n)

module _ (form : Form) (t0 t1 t2 t3 : List ℕ) (n kind offset size sum : ℕ) (some : 0 < size)
    (p : take (n + 1) t1 ≡ take n t0 ++ (kind ∷ [])) (q : take (n + 1 + 2) t2 ≡ take (n + 1) t1 ++ halves_of (offset ∷ []))
    (r : take (n + 3 + 2) t3 ≡ take (n + 3) t2 ++ halves_of (size ∷ [])) where
  without-sum : take (n + 5) t3 ≡ take n t0 ++ contents_entry_of One (part_of kind size) offset sum
  unfolding halves_of
  without-sum =
      let e : n + 5 ≡ n + 3 + 2 = omega arith in
      let f : n + 3 ≡ n + 1 + 2 = omega arith in
      rw (e, r, f, q, p) (simp append_assoc)

  pub entry-one : form ≡ One → take (n + 5) t3 ≡ take n t0 ++ laid_entry_of form kind offset size sum
  entry-one e = rw (laid-some form kind offset size sum some, e) without-sum

  pub entry-two : (t4 : List ℕ) → form ≡ Two → take (n + 5 + 2) t4 ≡ take (n + 5) t3 ++ halves_of (sum ∷ [])
      → take (n + 7) t4 ≡ take n t0 ++ laid_entry_of form kind offset size sum
  unfolding halves_of
  entry-two t4 e s =
      let f : n + 7 ≡ n + 5 + 2 = omega arith in
      rw (laid-some form kind offset size sum some, e, f, s, without-sum) (simp append_assoc)

-- the count and six entries behind it
abbrev six_of : (form : Form) (pak count first last : ℕ) (sums : List ℕ) → List ℕ
six_of form pak count first last sums =
    leading_of form ++ (count ∷ [])
    ++ laid_entry_of form 1 first 172 (get_or sums 0 0)
    ++ laid_entry_of form 2 (first + 172) 26 (get_or sums 1 0)
    ++ laid_entry_of form 3 (first + 198) 65536 (get_or sums 2 0)
    ++ laid_entry_of form 4 (first + 65734) 262144 (get_or sums 3 0)
    ++ laid_entry_of form 5 (first + 327878) pak (get_or sums 4 0)
    ++ laid_entry_of form 6 (first + 327878 + pak) last (get_or sums 5 0)

six-laid : (form : Form) (pak : ℕ) (sums : List ℕ)
    → six_of form pak (length (parts_of form pak)) (body_place_of form pak 0) (last_bytes_of form) sums ≡ contents_of form pak sums
unfolding contents_of body_place_of halves_of
six-laid One zero sums = refl
six-laid One (suc p) sums = simp (eqb-suc-zero p)
six-laid Two zero sums = refl
six-laid Two (suc p) sums = simp (eqb-suc-zero p)

pub contents-laid : (form : Form) (pak : ℕ) (sums : List ℕ) {count first last : ℕ} {a b c d e f g : List ℕ}
    → count ≡ length (parts_of form pak) → first ≡ body_place_of form pak 0 → last ≡ last_bytes_of form
    → a ≡ leading_of form ++ (count ∷ [])
    → b ≡ a ++ laid_entry_of form 1 first 172 (get_or sums 0 0)
    → c ≡ b ++ laid_entry_of form 2 (first + 172) 26 (get_or sums 1 0)
    → d ≡ c ++ laid_entry_of form 3 (first + 198) 65536 (get_or sums 2 0)
    → e ≡ d ++ laid_entry_of form 4 (first + 65734) 262144 (get_or sums 3 0)
    → f ≡ e ++ laid_entry_of form 5 (first + 327878) pak (get_or sums 4 0)
    → g ≡ f ++ laid_entry_of form 6 (first + 327878 + pak) last (get_or sums 5 0)
    → g ≡ contents_of form pak sums
contents-laid form pak sums n at l p0 p1 p2 p3 p4 p5 p6 =
    rw (p6, p5, p4, p3, p2, p1, p0, n, at, l) (six-laid form pak sums)
