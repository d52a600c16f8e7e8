-- The loops over bytes: those summed and zeroed so far. Assumes nothing.
use Prim.Native.Nat.{ℕ, suc, ◌+◌, ◌*◌, ◌<◌, ◌≤◌}
use native.Mathlib.Omega.{arith}
use mathlib.Core.Path.{◌≡◌, sym, ap, ◌∙◌}
use mathlib.Core.List.{List, [], ◌∷◌, ◌++◌}
use lib.ListN.{length, get_or, take, set, length-set, replicate, length-replicate, get_or-replicate}
use lib.Seq.{paste, paste-suc, take-suc, take-length}
use Rattle.saved_bytes.specs.Parts.{total_of, body_sum_of}
use Rattle.saved_bytes.proofs.Filling.{Pasted}

total-append : (xs ys : List ℕ) → total_of (xs ++ ys) ≡ total_of xs + total_of ys
total-append [] ys = omega arith
total-append (x ∷ xs) ys = let e = total-append xs ys in omega (arith, e)

pub total-more : (xs : List ℕ) (k : ℕ) → k < length xs → total_of (take (k + 1) xs) ≡ total_of (take k xs) + get_or xs k 0
total-more xs k h =
    let e : k + 1 ≡ suc k = omega arith in
    rw (e, take-suc xs k 0 h) (total-append (take k xs) (get_or xs k 0 ∷ []) ∙ last)
  where
    last : total_of (take k xs) + total_of (get_or xs k 0 ∷ []) ≡ total_of (take k xs) + get_or xs k 0
    last = omega arith

pub total-all : (xs : List ℕ) (k total : ℕ) → k ≡ length xs → total ≡ total_of (take k xs) → total ≤ 255 * k → k ≤ 16777216 → total ≡ body_sum_of xs
unfolding body_sum_of
total-all xs k total e f small few =
    let g : total ≡ total_of xs = f ∙ (ap (λ (n : ℕ). total_of (take n xs)) e ∙ ap total_of (take-length xs)) in
    omega arith

-- one zero more
module _ (d : List ℕ) (at n k : ℕ) (output : List ℕ) where
  pub zeros-more : Pasted d at (replicate n 0) k output → at + n ≤ length d → k < n → Pasted d at (replicate n 0) (k + 1) (set output (at + k) 0)
  zeros-more s fits few =
      record {
        size = length-set output (at + k) 0 ∙ s.size;
        same =
            let e : k + 1 ≡ suc k = omega arith in
            rw e
            (ap (λ (xs : List ℕ). set xs (at + k) 0) s.same
            ∙ (ap (set (paste d at (replicate n 0) k) (at + k)) (sym (get_or-replicate n k 0 0 few))
            ∙ paste-suc d at (replicate n 0) k 0 (omega arith) (omega (arith, length-replicate {A = ℕ} n 0))));
      }
