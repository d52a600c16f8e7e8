-- Where the bodies of both forms stand, and how long their contents and files are. Assumes nothing.
use Prim.Native.Nat.{ℕ, zero, suc, ◌+◌, ◌*◌, ◌<◌, ◌≤◌}
use native.Mathlib.Omega.{arith}
use mathlib.Core.Path.{◌≡◌, refl}
use mathlib.Core.List.{List}
use lib.Dec.{eqb-suc-zero}
use lib.ListN.{length}
use Rattle.saved_bytes.specs.Numbers.{halves_of}
use Rattle.saved_layout.specs.Layout.{parts_of, entry_bytes_of, contents_of, body_place_of, last_place_of, file_length_of}
use Rattle.saved_layout.specs.inner.Laid.{last_bytes_of}
use Rattle.saved_layout.specs.declared.Form.{Form}
use Rattle.saved_layout.specs.declared.Form.TheVariants.{One, Two}

-- pak RAM that is not empty has one entry more
pub count-some : (form : Form) (p : ℕ) → 0 < p → length (parts_of form p) ≡ suc (length (parts_of form 0))
count-some form zero h = absurd (omega arith)
count-some form (suc p) h = simp (eqb-suc-zero p)

-- the first body starts behind the entries
pub first_one : (p : ℕ) → body_place_of One p 0 ≡ 2 + 10 * length (parts_of One p)
unfolding body_place_of
first_one p = omega arith

pub first_two : (p : ℕ) → body_place_of Two p 0 ≡ 6 + 14 * length (parts_of Two p)
unfolding body_place_of
first_two p = omega arith

pub first_some : (form : Form) (p : ℕ) → 0 < p → body_place_of form p 0 ≡ body_place_of form 0 0 + entry_bytes_of form
first_some One p h = omega (arith, first_one p, first_one 0, count-some One p h)
first_some Two p h = omega (arith, first_two p, first_two 0, count-some Two p h)

pub first_small : (form : Form) (p : ℕ) → (42 ≤ body_place_of form p 0) × (body_place_of form p 0 ≤ 90)
first_small One zero = (omega (arith, first_one 0), omega (arith, first_one 0))
first_small One (suc p) =
    let e = first_some One (suc p) (omega arith) in
    (omega (arith, first_one 0), omega (arith, first_one 0))
first_small Two zero = (omega (arith, first_two 0), omega (arith, first_two 0))
first_small Two (suc p) =
    let e = first_some Two (suc p) (omega arith) in
    (omega (arith, first_two 0), omega (arith, first_two 0))

-- each next body where the one before it ends
module _ (form : Form) (p : ℕ) where
  pub second : body_place_of form p 1 ≡ body_place_of form p 0 + 172
  unfolding body_place_of
  second = refl

  pub third : body_place_of form p 2 ≡ body_place_of form p 0 + 198
  unfolding body_place_of
  third = omega arith

  pub fourth : body_place_of form p 3 ≡ body_place_of form p 0 + 65734
  unfolding body_place_of
  fourth = omega arith

  pub fifth : body_place_of form p 4 ≡ body_place_of form p 0 + 327878
  unfolding body_place_of
  fifth = omega arith

pub last-place : (p : ℕ) → last_place_of p ≡ body_place_of Two p 0 + 327878 + p
unfolding body_place_of last_place_of
last-place zero = refl
last-place (suc p) = simp (eqb-suc-zero p) (omega arith)

pub length-is : (form : Form) (p : ℕ) → file_length_of form p ≡ body_place_of form p 0 + 327878 + p + last_bytes_of form
unfolding body_place_of file_length_of
length-is One zero = refl
length-is One (suc p) = simp (eqb-suc-zero p) (omega arith)
length-is Two zero = refl
length-is Two (suc p) = simp (eqb-suc-zero p) (omega arith)

-- the contents end where the first body starts
pub contents-end : (form : Form) (p : ℕ) (sums : List ℕ) → 2 * length (contents_of form p sums) ≡ body_place_of form p 0
unfolding contents_of body_place_of halves_of
contents-end One zero sums = refl
contents-end One (suc p) sums = simp (eqb-suc-zero p)
contents-end Two zero sums = refl
contents-end Two (suc p) sums = simp (eqb-suc-zero p)
