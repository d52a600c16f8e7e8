-- The cases of a salvage, in the order of its refusals. Assumes nothing.
use Rattle.std.specs.Prelude.{Ok, Err}
use Prim.Native.Nat.{ℕ, ◌≤◌}
use mathlib.Core.Bool.{Bool, true, false}
use mathlib.Core.List.{List, []}
use mathlib.Core.Path.{◌≡◌, sym, ap, ◌∙◌}
use borrow.Author.Tests.{eq-eqb, ne_eqb}
use lib.ListN.{length}
use Rattle.refusal.specs.declared.Refusal as refusal
use Rattle.refusal.specs.declared.Refusal.TheVariants.{FileLength, NoLayout}
use Rattle.bus.specs.Refusal.{pak_ok}
use Rattle.saved_bytes.specs.Numbers.{bytes_of}
use Rattle.saved_bytes.specs.inner.Put.{put_at}
use Rattle.saved_layout.specs.Layout.{body_place_of, file_length_of}
use Rattle.saved_layout.specs.File.{joined_of, file_of, bodies_in, contents_in}
use Rattle.saved_layout.specs.declared.Form.TheVariants.{Two}
use Rattle.saved_layout.proofs.Files.{length-pak-in, sized-in}
use Rattle.saved_kinds.specs.Fits.{pak_length_of, fits_ok}
use Rattle.refusal.specs.Number.{when_accepted, Verdict}
use Rattle.saved_kinds.proofs.Sizes.{pak-small, fits-exactly}
use Rattle.saved_salvage.specs.declared.Kept.{Kept}
use Rattle.saved_salvage.specs.declared.ListedKinds.{ListedKinds}
use Rattle.saved_salvage.specs.declared.Salvaged.{Salvaged}
use Rattle.saved_salvage.specs.Keep.{kept_in, kept_bodies_of}
use Rattle.saved_salvage.specs.Listed.{listed_kinds_of, replaced_of}
use Rattle.saved_salvage.specs.Differ.{contents_differ}
use Rattle.saved_salvage.specs.Salvage.{output_of, pak_in_form_two, salvage_verdict_of, report_of, report_when, salvage_of, salvaged_output_of}
use Rattle.saved_salvage.proofs.Replacing.{kept-sized, kept-pak, output-sealed}

-- both clauses of the contract
abbrev Leaves : List ℕ → List ℕ → Salvaged → List ℕ → Type 0
Leaves file output reported after = (reported ≡ salvage_of file output) × (after ≡ salvaged_output_of file output)

pub fit : (n pak : ℕ) → pak ≡ pak_length_of Two n → fits_ok Two n ≡ true → (n ≡ file_length_of Two pak) × (pak ≤ 16777216)
fit n pak e t =
    let f = (fits-exactly Two n).fits t in
    (sym (ap (file_length_of Two) e ∙ f.1), pak-small pak (ap pak_ok e ∙ f.0))

module _ (file output : List ℕ) where
  pub by-verdict : (v : Verdict) → salvage_verdict_of file output ≡ v
      → (report_when v file ≡ salvage_of file output) × (when_accepted v output (output_of (pak_in_form_two file) file) ≡ salvaged_output_of file output)
  unfolding salvage_of salvaged_output_of
  by-verdict v e = (rw e, rw e)

  length-refused : (length output ≡ length file → ⊥) → salvage_verdict_of file output ≡ Err FileLength
  unfolding salvage_verdict_of
  length-refused n = simp (ne_eqb _ _ n)

  layout-refused : length output ≡ length file → fits_ok Two (length file) ≡ false → salvage_verdict_of file output ≡ Err NoLayout
  unfolding salvage_verdict_of
  layout-refused e f = simp (eq-eqb _ _ e, f)

  pub verdict-accepted : length output ≡ length file → fits_ok Two (length file) ≡ true → salvage_verdict_of file output ≡ (Ok tt)
  unfolding salvage_verdict_of
  verdict-accepted e f = simp (eq-eqb _ _ e, f)

  refused : (n : refusal.Refusal) (l : ListedKinds) → salvage_verdict_of file output ≡ Err n → l ≡ listed_kinds_of [] →
      Leaves file output (report_of (Err n) l false) output
  refused n l e f = let v = by-verdict (Err n) e in (ap (λ (x : ListedKinds). report_of (Err n) x false) f ∙ v.0, v.1)

  pub no_length : (l : ListedKinds) → (length output ≡ length file → ⊥) → l ≡ listed_kinds_of []
      → Leaves file output (report_of (Err FileLength) l false) output
  no_length l n f = refused FileLength l (length-refused n) f

  pub no-layout : (l : ListedKinds) → length output ≡ length file → fits_ok Two (length file) ≡ false → l ≡ listed_kinds_of []
      → Leaves file output (report_of (Err NoLayout) l false) output
  no-layout l e g f = refused NoLayout l (layout-refused e g) f

  module _ (alike : length output ≡ length file) (fits : fits_ok Two (length file) ≡ true) (pak : ℕ)
      (size : pak ≡ pak_length_of Two (length file)) (kept : Kept) (k : kept ≡ kept_in pak file) where
    sealed-output : (f g : List ℕ) → f ≡ put_at output (body_place_of Two pak 0) (joined_of Two (kept_bodies_of kept (bodies_in Two pak file)))
        → g ≡ put_at f 0 (bytes_of (contents_in Two pak f)) → g ≡ output_of pak file
    unfolding output_of
    sealed-output f g p q =
        let whole = (fit (length file) pak size fits).0 in
        let s = sized-in pak file Two whole in
        output-sealed pak (kept_bodies_of kept (bodies_in Two pak file)) (kept-sized kept (bodies_in Two pak file) s)
        (kept-pak kept (bodies_in Two pak file) s ∙ length-pak-in pak file Two whole) output (alike ∙ whole) f g p q
        ∙ ap (λ (x : Kept). file_of Two (kept_bodies_of x (bodies_in Two pak file))) k

    pub accepted : (f g : List ℕ) (l : ListedKinds) (t : Bool) → f ≡ put_at output (body_place_of Two pak 0) (joined_of Two
        (kept_bodies_of kept (bodies_in Two pak file)))
        → g ≡ put_at f 0 (bytes_of (contents_in Two pak f)) → l ≡ listed_kinds_of (replaced_of kept) → t ≡ contents_differ pak kept file g
        → Leaves file output (report_of (Ok tt) l t) g
    accepted f g l t p q r u =
        let v = by-verdict (Ok tt) (verdict-accepted alike fits) in
        let o = sealed-output f g p q in (
          report-same l t (r ∙ ap (λ (x : Kept). listed_kinds_of (replaced_of x)) k ∙ ap (λ (n : ℕ). listed_kinds_of (replaced_of (kept_in n file))) size)
              (u ∙ (ap (contents_differ pak kept file) o ∙ (ap (λ (x : Kept). contents_differ pak x file (output_of pak file)) k
              ∙ ap (λ (n : ℕ). contents_differ n (kept_in n file) file (output_of n file)) size)))
              ∙ v.0,
          o ∙ (ap (λ (n : ℕ). output_of n file) size ∙ v.1),
        )
      where
        report-same : (x : ListedKinds) (y : Bool) → {m : ListedKinds} {n : Bool} → x ≡ m → y ≡ n → report_of (Ok tt) x y ≡ report_of (Ok tt) m n
        report-same x y e f = rw (e, f)
