-- The cases of a move, in the order of its refusals. Assumes nothing.
use Rattle.std.specs.Prelude.{Ok, Err}
use Prim.Native.Nat.{ℕ, ◌≤◌}
use mathlib.Core.Bool.{Bool, true, false}
use mathlib.Core.List.{List}
use mathlib.Core.Path.{◌≡◌, sym, ap, ◌∙◌}
use borrow.Author.Tests.{eq-eqb, ne_eqb}
use lib.ListN.{length}
use Rattle.refusal.specs.Number.{when_accepted, Verdict}
use Rattle.refusal.specs.declared.Refusal.TheVariants.{FileLength, FileBytes, NotAtReset}
use Rattle.bus.specs.Refusal.{pak_ok}
use Rattle.saved_layout.specs.Layout.{other_of, file_length_of}
use Rattle.saved_layout.specs.File.{file_of, bodies_in}
use Rattle.saved_layout.specs.declared.Form.{Form}
use Rattle.saved_kinds.specs.Fits.{form_of, pak_length_of, fits_ok}
use Rattle.saved_kinds.specs.Kinds.{file_ok}
use Rattle.saved_kinds.proofs.Sizes.{pak-small, fits-exactly}
use Rattle.saved_move.specs.Move.{pak_in, held_in, lengths_ok, holds_body_ok, move_verdict_of, moved_of}

-- both clauses of the contract
abbrev pub Leaves : List ℕ → List ℕ → Verdict → List ℕ → Type 0
Leaves file output verdict after = (verdict ≡ move_verdict_of file output) × (after ≡ moved_of file output)

module _ (file output : List ℕ) where
  -- the buffer by the verdict
  by-verdict : (v : Verdict) → v ≡ move_verdict_of file output → Leaves file output v (when_accepted v output (file_of (other_of (form_of file)) (held_in file)))
  unfolding moved_of
  by-verdict v e = (e, ap (λ (w : Verdict). when_accepted w output (file_of (other_of (form_of file)) (held_in file))) e)

  lengths-refused : lengths_ok file output ≡ false → Err FileLength ≡ move_verdict_of file output
  unfolding move_verdict_of
  lengths-refused e = rw e

  length-no : fits_ok (form_of file) (length file) ≡ false → lengths_ok file output ≡ false
  unfolding lengths_ok
  length-no e = rw e

  pub no_length : fits_ok (form_of file) (length file) ≡ false → Leaves file output (Err FileLength) output
  no_length e = by-verdict (Err FileLength) (lengths-refused (length-no e))

  output-no : (length output ≡ file_length_of (other_of (form_of file)) (pak_in file) → ⊥)
      → fits_ok (form_of file) (length file) ≡ true → lengths_ok file output ≡ false
  unfolding lengths_ok
  output-no n e = rw (e, ne_eqb _ _ n)

  pub other_length : fits_ok (form_of file) (length file) ≡ true → (length output ≡ file_length_of (other_of (form_of file)) (pak_in file) → ⊥)
      → Leaves file output (Err FileLength) output
  other_length e n = by-verdict (Err FileLength) (lengths-refused (output-no n e))

  module _ (fits : fits_ok (form_of file) (length file) ≡ true) (due : length output ≡ file_length_of (other_of (form_of file)) (pak_in file)) where
    pub lengths-yes : lengths_ok file output ≡ true
    unfolding lengths_ok
    lengths-yes = rw (fits, eq-eqb _ _ due)

    bytes-refused : file_ok (form_of file) (pak_in file) file ≡ false → Err FileBytes ≡ move_verdict_of file output
    unfolding move_verdict_of
    bytes-refused e = rw (lengths-yes, e)

    pub no_bytes : file_ok (form_of file) (pak_in file) file ≡ false → Leaves file output (Err FileBytes) output
    no_bytes e = by-verdict (Err FileBytes) (bytes-refused e)

    module _ (ok : file_ok (form_of file) (pak_in file) file ≡ true) where
      reset-refused : holds_body_ok (other_of (form_of file)) (held_in file).hardware ≡ false → Err NotAtReset ≡ move_verdict_of file output
      unfolding move_verdict_of
      reset-refused e = rw (lengths-yes, ok, e)

      pub no-reset : holds_body_ok (other_of (form_of file)) (held_in file).hardware ≡ false → Leaves file output (Err NotAtReset) output
      no-reset e = by-verdict (Err NotAtReset) (reset-refused e)

      held-accepted : holds_body_ok (other_of (form_of file)) (held_in file).hardware ≡ true → (Ok tt) ≡ move_verdict_of file output
      unfolding move_verdict_of
      held-accepted e = rw (lengths-yes, ok, e)

      pub accepted : holds_body_ok (other_of (form_of file)) (held_in file).hardware ≡ true → (after : List ℕ)
          → after ≡ file_of (other_of (form_of file)) (held_in file) → Leaves file output (Ok tt) after
      accepted e after f = let l = by-verdict (Ok tt) (held-accepted e) in (l.0, f ∙ l.1)

-- a file whose length fits has it by its pak RAM's
pub fit : (form : Form) (n pak : ℕ) → pak ≡ pak_length_of form n → fits_ok form n ≡ true → (n ≡ file_length_of form pak) × (pak ≤ 16777216)
fit form n pak e t =
    let f = (fits-exactly form n).fits t in
    (sym (ap (file_length_of form) e ∙ f.1), pak-small pak (ap pak_ok e ∙ f.0))

-- the same of what the code has by its own names
pub fits-is : (file : List ℕ) (form : Form) → form ≡ form_of file → (t : Bool) → t ≡ fits_ok form (length file) → (s : Bool) → t ≡ s
    → fits_ok (form_of file) (length file) ≡ s
fits-is file form f t e s g = ap (λ (h : Form). fits_ok h (length file)) (sym f) ∙ (sym e ∙ g)

module _ (file output : List ℕ) (form : Form) (pak : ℕ) (f : form ≡ form_of file) (p : pak ≡ pak_length_of form (length file)) where
  pub pak-is : pak ≡ pak_in file
  unfolding pak_in
  pak-is = p ∙ ap (λ (g : Form). pak_length_of g (length file)) f

  pub held-is : bodies_in form pak file ≡ held_in file
  unfolding held_in
  held-is = rw (f, pak-is)

  pub due-is : (n : ℕ) → n ≡ file_length_of (other_of form) pak → n ≡ file_length_of (other_of (form_of file)) (pak_in file)
  due-is n e = e ∙ (ap (λ (g : Form). file_length_of (other_of g) pak) f ∙ ap (file_length_of (other_of (form_of file))) pak-is)

  pub due-back : (n : ℕ) → n ≡ file_length_of (other_of (form_of file)) (pak_in file) → n ≡ file_length_of (other_of form) pak
  due-back n e = e ∙ sym (ap (λ (g : Form). file_length_of (other_of g) pak) f ∙ ap (file_length_of (other_of (form_of file))) pak-is)

  pub ok-is : (t : Bool) → t ≡ file_ok form pak file → (s : Bool) → t ≡ s → file_ok (form_of file) (pak_in file) file ≡ s
  ok-is t e s g = ap (λ (h : Form). file_ok h (pak_in file) file) (sym f) ∙ (ap (λ (n : ℕ). file_ok form n file) (sym pak-is) ∙ (sym e ∙ g))

  pub wrote-is : (after : List ℕ) → after ≡ file_of (other_of form) (bodies_in form pak file) → after ≡ file_of (other_of (form_of file)) (held_in file)
  wrote-is after e = e ∙ (ap (λ (g : Form). file_of (other_of g) (bodies_in form pak file)) f ∙ ap (file_of (other_of (form_of file))) held-is)

  pub holds-is : (s : Bool) → holds_body_ok (other_of form) (bodies_in form pak file).hardware ≡ s → holds_body_ok (other_of
      (form_of file)) (held_in file).hardware ≡ s
  holds-is s e = ap (λ (g : Form). holds_body_ok (other_of g) (held_in file).hardware) (sym f) ∙ (rw (← held-is) e)
