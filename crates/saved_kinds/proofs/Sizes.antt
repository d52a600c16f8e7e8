-- The form of a file and its pak RAM's length; `fits-exactly`. Assumes nothing.
use Prim.Native.Nat.{ℕ, zero, suc, ◌-◌, ◌<◌, ◌≤◌}
use native.Mathlib.Omega.{arith}
use mathlib.Core.Bool.{true, false}
use mathlib.Core.List.{List, ◌∷◌}
use mathlib.Core.Path.{◌≡◌, sym, ap, ◌∙◌}
use borrow.Author.Tests.{eqb-true, leb-true, eq-eqb, ne_eqb}
use lib.Dec.{eqb, leb}
use lib.ListN.{get_or}
use Rattle.word.specs.LittleEndian.{half_at}
use Rattle.word.proofs.Choices.{pick-both}
use Rattle.word.proofs.Listed.{member-every}
use Rattle.bus.specs.Refusal.{powers_from, pak_ok}
use Rattle.saved_layout.specs.Layout.{file_length_of}
use Rattle.saved_layout.specs.declared.Form.{Form}
use Rattle.saved_layout.specs.declared.Form.TheVariants.{One, Two}
use Rattle.saved_layout.proofs.Positions.{first_some, length-is}
use Rattle.saved_kinds.specs.Fits.{form_of, besides_pak_of, pak_length_of, fits_ok, FitsExactly}

module _ (file : List ℕ) where
  pub form-two : get_or file 0 0 ≡ 0 → get_or file 1 0 ≡ 0 → Two ≡ form_of file
  unfolding form_of
  form-two e f = simp (eq-eqb (half_at file 0) 0 (omega arith))

  pub form-one : (half_at file 0 ≡ 0 → ⊥) → One ≡ form_of file
  unfolding form_of
  form-one n = simp (ne_eqb (half_at file 0) 0 n)

-- no length of pak RAM is above 2 ^ 24
pub pak-small : (n : ℕ) → pak_ok n ≡ true → n ≤ 16777216
unfolding pak_ok
pak-small n e = leb-true n 16777216 (member-every (λ x. leb x 16777216) n (0 ∷ powers_from 0 25) tt e)

-- a file of pak RAM of one byte gives how much stands besides pak RAM
pub one_byte : (form : Form) → 0 < file_length_of form 1
one_byte form = omega (arith, length-is form 1)

pub pak-length-is : (form : Form) (n : ℕ) {m : ℕ} → m ≡ file_length_of form 1 → n - (m - 1) ≡ pak_length_of form n
unfolding pak_length_of besides_pak_of
pak-length-is form n e = rw e

length-again : (form : Form) (p : ℕ) → pak_length_of form (file_length_of form p) ≡ p
unfolding pak_length_of besides_pak_of
length-again form zero = omega (arith, length-is form 0, length-is form 1, first_some form 1 (omega arith))
length-again form (suc p) = omega (arith, length-is form (suc p), length-is form 1, first_some form (suc p) (omega arith), first_some form 1 (omega arith))

module _ (form : Form) (n : ℕ) where
  fits-means : fits_ok form n ≡ true → (pak_ok (pak_length_of form n) ≡ true) × (file_length_of form (pak_length_of form n) ≡ n)
  unfolding fits_ok
  fits-means e =
      let b = pick-both (pak_ok (pak_length_of form n)) (eqb (file_length_of form (pak_length_of form n)) n) e in
      (b.0, eqb-true (file_length_of form (pak_length_of form n)) n b.1)

  means-fits : (p : ℕ) → pak_ok p ≡ true → file_length_of form p ≡ n → (fits_ok form n ≡ true) × (pak_length_of form n ≡ p)
  unfolding fits_ok
  means-fits p ok e =
      let l : pak_length_of form n ≡ p = ap (pak_length_of form) (sym e) ∙ length-again form p in
      (rw (l, ok) (eq-eqb (file_length_of form p) n e), l)

  pub fits-exactly : FitsExactly form n
  fits-exactly = record { fits = fits-means; only = means-fits }

  pub fits_not : pak_ok (pak_length_of form n) ≡ false → false ≡ fits_ok form n
  unfolding fits_ok
  fits_not e = rw e

  pub fits-length : pak_ok (pak_length_of form n) ≡ true → eqb (file_length_of form (pak_length_of form n)) n ≡ fits_ok form n
  unfolding fits_ok
  fits-length e = rw e
