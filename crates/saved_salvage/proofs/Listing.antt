-- The list of kinds that were replaced, as it is reported. Assumes nothing.
use Prim.Native.Nat.{ℕ, suc, ◌+◌, ◌-◌, ◌<◌, ◌≤◌}
use native.Mathlib.Omega.{arith}
use mathlib.Core.Bool.{Bool, true, false}
use mathlib.Core.List.{List, [], ◌∷◌, ◌++◌, append_assoc}
use mathlib.Core.Path.{◌≡◌, refl, ap, ◌∙◌}
use lib.ListN.{length, replicate, length-append}
use lib.Seq.{set-append_seam}
use Rattle.saved_salvage.specs.declared.Kept.{Kept}
use Rattle.saved_salvage.specs.declared.ListedKinds.{ListedKinds}
use Rattle.saved_salvage.specs.Listed.{with_kind, replaced_of, listed_kinds_of}
use Rattle.saved_salvage.specs.inner.Added.{added_of}

pub none-count : (l : ListedKinds) → l ≡ listed_kinds_of [] → l.count ≡ 0
unfolding listed_kinds_of
none-count l e = ap (λ (m : ListedKinds). m.count) e

zeros-more : (n : ℕ) → n < 6 → replicate {A = ℕ} (6 - n) 0 ≡ 0 ∷ replicate (6 - (n + 1)) 0
zeros-more n h =
    let e : 6 - n ≡ suc (6 - (n + 1)) = omega arith in
    rw e refl

module _ (xs : List ℕ) (kind : ℕ) (few : length xs < 6) where
  more : added_of (listed_kinds_of xs) kind false ≡ listed_kinds_of (xs ++ (kind ∷ []))
  unfolding added_of listed_kinds_of
  more =
      let l : length (xs ++ (kind ∷ [])) ≡ length xs + 1 = simp length-append refl in
      rw (
        l,
        zeros-more (length xs) few,
        set-append_seam xs 0 (replicate (6 - (length xs + 1)) 0) kind,
        append_assoc xs
            (kind ∷ []) (replicate (6 - (length xs + 1)) 0),
      )

  kept_same : added_of (listed_kinds_of xs) kind true ≡ listed_kinds_of xs
  unfolding added_of
  kept_same = refl

  pub added-listed : (kept : Bool) → added_of (listed_kinds_of xs) kind kept ≡ listed_kinds_of (with_kind xs kind kept)
  added-listed true = kept_same
  added-listed false = more

with-length : (xs : List ℕ) (kind : ℕ) (kept : Bool) → length (with_kind xs kind kept) ≤ length xs + 1
with-length xs kind true = omega arith
with-length xs kind false = simp length-append (omega arith)

-- one kind after the other
step : (xs : List ℕ) (kind : ℕ) (kept : Bool) (l m : ListedKinds) (n : ℕ) → n < 6 → length xs ≤ n → l ≡ listed_kinds_of xs → m ≡ added_of l kind kept
    → (m ≡ listed_kinds_of (with_kind xs kind kept)) × (length (with_kind xs kind kept) ≤ n + 1)
step xs kind kept l m n few small e f =
    (f ∙ (ap (λ (x : ListedKinds). added_of x kind kept) e ∙ added-listed xs kind (omega arith) kept), omega (arith, with-length xs kind kept))

pub all_listed : (k : Kept) (l0 l1 l2 l3 l4 l5 l6 : ListedKinds) → l0 ≡ listed_kinds_of [] → l1 ≡ added_of l0 1 k.processor → l2 ≡ added_of l1 2 k.drawing
    → l3 ≡ added_of l2 3 k.wram → l4 ≡ added_of l3 4 k.vram → l5 ≡ added_of l4 5 k.pak → l6 ≡ added_of l5 6 k.hardware
    → l6 ≡ listed_kinds_of (replaced_of k)
unfolding replaced_of
all_listed k l0 l1 l2 l3 l4 l5 l6 e0 e1 e2 e3 e4 e5 e6 =
    let s1 = step [] 1 k.processor l0 l1 0 (omega arith) (omega arith) e0 e1 in
    let s2 = step _ 2 k.drawing l1 l2 1 (omega arith) s1.1 s1.0 e2 in
    let s3 = step _ 3 k.wram l2 l3 2 (omega arith) s2.1 s2.0 e3 in
    let s4 = step _ 4 k.vram l3 l4 3 (omega arith) s3.1 s3.0 e4 in
    let s5 = step _ 5 k.pak l4 l5 4 (omega arith) s4.1 s4.0 e5 in
    (step _ 6 k.hardware l5 l6 5 (omega arith) s5.1 s5.0 e6).0
