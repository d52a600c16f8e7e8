-- `there_and_back` and `sixteen-exactly`. Assumes nothing.
use Rattle.std.specs.Prelude.{Ok, Err}
use Prim.Native.Nat.{ℕ, zero, suc, ◌<◌}
use native.Mathlib.Omega.{arith}
use mathlib.Core.Bool.{Bool, true, false}
use mathlib.Core.List.{List, ◌++◌}
use mathlib.Core.Path.{◌≡◌, refl, sym, ◌∙◌}
use borrow.Author.Tests.{eqb-true, eq-eqb, ne_eqb}
use lib.ListN.{length, get_or}
use Rattle.word.specs.LittleEndian.{half_at}
use Rattle.word.proofs.Choices.{pick-both, bool-refuted}
use Rattle.refusal.specs.Number.{unless}
use Rattle.refusal.specs.declared.Refusal.TheVariants.{FileLength, FileBytes, NotAtReset}
use Rattle.bus.specs.Refusal.{pak_ok}
use Rattle.bus.proofs.Accepted.{unless-passed}
use Rattle.saved_bytes.specs.Numbers.{bytes_of, same_of}
use Rattle.saved_bytes.proofs.Reading.{same_self, same-equal}
use Rattle.saved_layout.specs.Layout.{other_of, contents_of, file_length_of}
use Rattle.saved_layout.specs.File.{Bodies, sums_of, joined_of, file_of, bodies_in, contents_ok, hardware_reset, SizedBodies, HeldBy}
use Rattle.saved_layout.specs.declared.Form.{Form}
use Rattle.saved_layout.specs.declared.Form.TheVariants.{One, Two}
use Rattle.saved_layout.proofs.Positions.{count-some}
use Rattle.saved_layout.proofs.Files.{file-length, file-held, contents-back, file-again, length-pak-in, sized-in, held_one}
use Rattle.saved_kinds.specs.Fits.{form_of, pak_length_of, fits_ok}
use Rattle.saved_kinds.specs.Kinds.{bodies_ok, file_ok}
use Rattle.saved_kinds.proofs.Sizes.{pak-small, fits-exactly}
use Rattle.saved_move.specs.Move.{pak_in, held_in, lengths_ok, holds_body_ok, move_verdict_of, moved_of}
use Rattle.saved_move.specs.Back.{ThereAndBack, SixteenExactly}
use Rattle.saved_move.proofs.Verdicts.{accepted}

-- the first halfword gives the form of a file that was written
one-first : (p : ℕ) (s rest : List ℕ) → half_at (bytes_of (contents_of One p s) ++ rest) 0 ≡ 0 → ⊥
unfolding bytes_of contents_of
one-first zero s rest e = absurd (omega arith)
one-first (suc p) s rest e = absurd (omega (arith, count-some One (suc p) (omega arith)))

two-first : (p : ℕ) (s rest : List ℕ) → half_at (bytes_of (contents_of Two p s) ++ rest) 0 ≡ 0
unfolding bytes_of contents_of
two-first p s rest = refl

pub form-back : (form : Form) (b : Bodies) → form_of (file_of form b) ≡ form
unfolding form_of file_of
form-back One b = simp (ne_eqb _ _ (one-first (length b.pak) (sums_of b) (joined_of One b)))
form-back Two b = simp (eq-eqb _ _ (two-first (length b.pak) (sums_of b) (joined_of Two b)))

other-other : (form : Form) → other_of (other_of form) ≡ form
other-other One = refl
other-other Two = refl

-- the move of a file that was written
module _ (form : Form) (b : Bodies) (s : SizedBodies b) (h : HeldBy form b) (legal : pak_ok (length b.pak) ≡ true) (ok : bodies_ok b ≡ true) where
  fits : (fits_ok form (length (file_of form b)) ≡ true) × (pak_length_of form (length (file_of form b)) ≡ length b.pak)
  fits = (fits-exactly form (length (file_of form b))).only (length b.pak) legal (sym (file-length b s form))

  pak-back : pak_in (file_of form b) ≡ length b.pak
  unfolding pak_in
  pak-back = rw (form-back form b) fits.1

  held_back : held_in (file_of form b) ≡ b
  unfolding held_in
  held_back = rw (form-back form b, pak-back) (file-held b s form h)

  ok-back : file_ok (form_of (file_of form b)) (pak_in (file_of form b)) (file_of form b) ≡ true
  unfolding file_ok
  ok-back =
      rw (form-back form b, pak-back, contents-back b s form (pak-small (length b.pak) legal), file-held b s form h) ok

  pub moves : (output : List ℕ) → length output ≡ file_length_of (other_of form) (length b.pak) → holds_body_ok (other_of form) b.hardware ≡ true
      → ((Ok tt) ≡ move_verdict_of (file_of form b) output) × (file_of (other_of form) b ≡ moved_of (file_of form b) output)
  moves output due holds =
      accepted (file_of form b) output (rw (form-back form b) fits.0) (rw (form-back form b, pak-back) due) ok-back
      (rw (form-back form b, held_back) holds) (file_of (other_of form) b) (rw (form-back form b, held_back) refl)

opened : (file output : List ℕ)
    → unless (lengths_ok file output) FileLength (unless (file_ok (form_of file) (pak_in file) file) FileBytes (unless
    (holds_body_ok (other_of (form_of file)) (held_in file).hardware) NotAtReset (Ok tt)))
    ≡ move_verdict_of file output
unfolding move_verdict_of
opened file output = refl

module _ (file output : List ℕ) (e : move_verdict_of file output ≡ (Ok tt)) where
  pub all-passed : (lengths_ok file output ≡ true)
      × ((file_ok (form_of file) (pak_in file) file ≡ true) × (holds_body_ok (other_of (form_of file)) (held_in file).hardware ≡ true))
  unfolding move_verdict_of
  all-passed =
      let a = unless-passed (lengths_ok file output) FileLength _ e in
      let b = unless-passed (file_ok (form_of file) (pak_in file) file) FileBytes _ a.1 in
      let c = unless-passed (holds_body_ok (other_of (form_of file)) (held_in file).hardware) NotAtReset (Ok tt) b.1 in
      (a.0, (b.0, c.0))

  pub lengths-passed : (fits_ok (form_of file) (length file) ≡ true) × (length output ≡ file_length_of (other_of (form_of file)) (pak_in file))
  unfolding lengths_ok
  lengths-passed =
      let a = pick-both (fits_ok (form_of file) (length file)) _ all-passed.0 in
      (a.0, eqb-true (length output) (file_length_of (other_of (form_of file)) (pak_in file)) a.1)

  pub left : moved_of file output ≡ file_of (other_of (form_of file)) (held_in file)
  unfolding moved_of
  left = rw e

-- lines and timer that form 1 holds are at reset
holds-reset : (xs : List ℕ) → holds_body_ok One xs ≡ true → xs ≡ hardware_reset
holds-reset xs e = same-equal xs hardware_reset e

held_by : (form : Form) (b : Bodies) → holds_body_ok form b.hardware ≡ true → HeldBy form b
held_by One b e = holds-reset b.hardware e
held_by Two b e = tt

holds_by : (form : Form) (b : Bodies) → HeldBy form b → holds_body_ok form b.hardware ≡ true
holds_by One b h = rw h (same_self hardware_reset)
holds_by Two b h = refl

held-in : (form : Form) (p : ℕ) (file : List ℕ) → HeldBy form (bodies_in form p file)
held-in One p file = held_one p file
held-in Two p file = tt

-- the two moves, by the first file's form and pak RAM
module _ (form : Form) (p : ℕ) (file back : List ℕ) (bytes : (k : ℕ) → get_or file k 0 < 256) (whole : length file ≡ file_length_of form p) where
  module _ (legal : pak_ok p ≡ true) (ok : file_ok form p file ≡ true) (holds : holds_body_ok (other_of form) (bodies_in form p file).hardware ≡ true) where
    tests : (contents_ok form p file ≡ true) × (bodies_ok (bodies_in form p file) ≡ true)
    unfolding file_ok
    tests = pick-both (contents_ok form p file) (bodies_ok (bodies_in form p file)) ok

    returned : length back ≡ length file
        → ((Ok tt) ≡ move_verdict_of (file_of (other_of form) (bodies_in form p file)) back)
        × (file ≡ moved_of (file_of (other_of form) (bodies_in form p file)) back)
    returned l =
        let b = bodies_in form p file in
        let size = length-pak-in p file form whole in
        let due : length back ≡ file_length_of (other_of (other_of form)) (length (bodies_in form p file).pak) = rw (other-other form, size) (l ∙ whole) in
        let again : holds_body_ok (other_of (other_of form)) (bodies_in form p file).hardware ≡ true
        = rw (other-other form) (holds_by form (bodies_in form p file) (held-in form p file)) in
        let m = moves (other_of form) (bodies_in form p file) (sized-in p file form whole) (held_by (other_of form) (bodies_in form p file) holds)
        (rw size legal) tests.1 back due again in
        let same : file_of (other_of (other_of form)) (bodies_in form p file) ≡ file = rw (other-other form) (file-again p file form whole bytes tests.0) in
        (m.0, sym same ∙ m.1)

pub fit-in : (file : List ℕ) → fits_ok (form_of file) (length file) ≡ true → (pak_ok (pak_in file) ≡ true) × (file_length_of (form_of file) (pak_in file) ≡ length file)
unfolding pak_in
fit-in file t = (fits-exactly (form_of file) (length file)).fits t

pub there_and_back : ThereAndBack
unfolding held_in
there_and_back file output back bytes e l =
    let a = all-passed file output e in
    let t = lengths-passed file output e in
    let f = fit-in file t.0 in
    let r = returned (form_of file) (pak_in file) file back bytes (sym f.1) f.0 a.1.0 a.1.1 l in
    (rw (left file output e) (sym r.0), rw (left file output e) (sym r.1))

-- 16
refused-last : (t s u : Bool) → unless t FileLength (unless s FileBytes (unless u NotAtReset (Ok tt))) ≡ Err NotAtReset
    → (t ≡ true) × ((s ≡ true) × (u ≡ false))
refused-last true true false e = (refl, (refl, refl))
refused-last true true true e =
    let z : ◌≡◌ {A = ℕ} 0 1 = cc in
    absurd (omega arith)
refused-last true false u e =
    let z : ◌≡◌ {A = ℕ} 0 1 = cc in
    absurd (omega arith)
refused-last false s u e =
    let z : ◌≡◌ {A = ℕ} 0 1 = cc in
    absurd (omega arith)

not-held : (form : Form) (xs : List ℕ) → holds_body_ok (other_of form) xs ≡ false → (form ≡ Two) × (xs ≡ hardware_reset → ⊥)
not-held One xs e =
    let z : ◌≡◌ {A = ℕ} 0 1 = cc in
    absurd (omega arith)
not-held Two xs e = (refl, λ h. let f : true ≡ false = sym (rw h (same_self hardware_reset)) ∙ e in let z : ◌≡◌ {A = ℕ} 0 1 = cc in absurd (omega arith))

pub sixteen-exactly : (file output : List ℕ) → SixteenExactly file output
sixteen-exactly file output = record { refused = refused; only = only }
  where
    refused : move_verdict_of file output ≡ Err NotAtReset
        → (lengths_ok file output ≡ true)
        × ((file_ok (form_of file) (pak_in file) file ≡ true) × ((form_of file ≡ Two) × ((held_in file).hardware ≡ hardware_reset → ⊥)))
    refused e =
        let a = refused-last (lengths_ok file output) (file_ok (form_of file) (pak_in file) file) (holds_body_ok (other_of
        (form_of file)) (held_in file).hardware) (opened file output ∙ e) in
        (a.0, (a.1.0, not-held (form_of file) (held_in file).hardware a.1.1))

    only : lengths_ok file output ≡ true → file_ok (form_of file) (pak_in file) file ≡ true → form_of file ≡ Two
        → ((held_in file).hardware ≡ hardware_reset → ⊥)
        → move_verdict_of file output ≡ Err NotAtReset
    only t s f n =
        let u : holds_body_ok (other_of (form_of file)) (held_in file).hardware ≡ false
        = rw f (bool-refuted (same_of (held_in file).hardware hardware_reset) (λ e. n (holds-reset (held_in file).hardware e))) in
        sym (opened file output) ∙ rw (t, s, u)
