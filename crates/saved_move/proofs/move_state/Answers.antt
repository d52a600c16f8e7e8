-- `saved_move::move_state` meets its contract. Assumes nothing.
use mathlib.Core.Bool.{true, false}
use mathlib.Core.Path.{refl, sym, ap, ◌∙◌}
use lib.ListN.{length}
use Rattle.saved_layout.specs.Layout.{file_length_of}
use Rattle.saved_layout.specs.declared.Form.{Form}
use Rattle.saved_move.proofs.Verdicts.{no_length, other_length, no_bytes, no-reset, accepted, fit, fits-is, due-is, due-back, ok-is, holds-is, wrote-is}
use Rattle.saved_move.proofs.move_state.Goals as goal

pub returns-then-not-fits : goal.returns-then-not-fits
returns-then-not-fits c =
    let both = no_length (c.args.file.now)
    (c.args.output.now) (fits-is
    (c.args.file.now) (c.form_of-form.result)
    (c.form_of-form.ensures) _ (c.fits.ensures) false ((c.if-not-fits.true))) in
    record { verdict = both.0; output = both.1 }

pub file_length-requires : goal.file_length-requires
file_length-requires c = (fit (c.form_of-form.result) (length
    (c.args.file.now)) (c.pak_length-pak.result)
    (c.pak_length-pak.ensures) (sym (c.fits.ensures) ∙ (c.if-not-fits.false))).1

pub returns-then-output-file_length : goal.returns-then-output-file_length
returns-then-output-file_length c =
    let c3 = c in
    let c6 = c3 in
    let c9 = c6 in
    let file = c9.args.file.now in
    let output-given = c9.args.output.now in
    let both = other_length file output-given (fits-is file c6.form_of-form.result c6.form_of-form.ensures _
    c3.fits.ensures true (c3.if-not-fits.false))
    (λ e. c.if-output-file_length.true (due-back file output-given c6.form_of-form.result c3.pak_length-pak.result
    c6.form_of-form.ensures c3.pak_length-pak.ensures (length output-given) e ∙ sym
    (c.file_length.ensures ∙ ap (λ (g : Form). file_length_of g c3.pak_length-pak.result)
    c.other.ensures))) in
    record { verdict = both.0; output = both.1 }

pub file_ok-requires : goal.file_ok-requires
file_ok-requires c = (fit (c.form_of-form.result) (length
    (c.args.file.now))
    (c.pak_length-pak.result) (c.pak_length-pak.ensures) (sym
    (c.fits.ensures) ∙ (c.if-not-fits.false)))

pub returns-then-not-file_ok : goal.returns-then-not-file_ok
returns-then-not-file_ok c =
    let c5 = c in
    let c8 = c5 in
    let c11 = c8 in
    let file = c11.args.file.now in
    let output = c11.args.output.now in
    let both = no_bytes file output (fits-is file c8.form_of-form.result c8.form_of-form.ensures _ c5.fits.ensures
    true (c5.if-not-fits.false)) (due-is file output c8.form_of-form.result c5.pak_length-pak.result
    c8.form_of-form.ensures c5.pak_length-pak.ensures (length output)
    (c.if-output-file_length.false ∙ (c.file_length.ensures ∙ ap
    (λ (g : Form). file_length_of g c5.pak_length-pak.result) c.other.ensures)))
    (ok-is file output c8.form_of-form.result c5.pak_length-pak.result c8.form_of-form.ensures c5.pak_length-pak.ensures _
    c.file_ok.ensures false (c.if-not-file_ok.true)) in
    record { verdict = both.0; output = both.1 }

pub to_two-requires : goal.to_two-requires
to_two-requires c =
    let c8 = c in
    let c9 = c8 in
    let c10 = c9 in
    let c11 = c10 in
    let c14 = c11 in record {
      file_len = (
        rw c.in-One.is at (fit c11.form_of-form.result (length c14.args.file.now)
            c8.pak_length-pak.result c8.pak_length-pak.ensures (sym c10.fits.ensures ∙ c9.if-not-fits.false)).0,
        (fit c11.form_of-form.result (length c14.args.file.now) c8.pak_length-pak.result c8.pak_length-pak.ensures
            (sym c10.fits.ensures ∙ c9.if-not-fits.false)).1,
      );
      output_len = rw c.in-One.is at
          (c.if-output-file_length.false ∙
          (c.file_length.ensures ∙ ap
          (λ (g : Form). file_length_of g c8.pak_length-pak.result)
          c.other.ensures));
    }

pub at_reset-requires : goal.at_reset-requires
at_reset-requires c =
    let c7 = c in
    let c8 = c7 in
    let c9 = c8 in
    let c10 = c9 in
    let c13 = c10 in (
      rw c.in-Two.is at (fit c10.form_of-form.result (length c13.args.file.now)
          c7.pak_length-pak.result c7.pak_length-pak.ensures (sym c9.fits.ensures ∙ c8.if-not-fits.false)).0,
      (fit c10.form_of-form.result (length c13.args.file.now) c7.pak_length-pak.result c7.pak_length-pak.ensures
          (sym c9.fits.ensures ∙ c8.if-not-fits.false)).1,
    )

pub returns-then-not-at_reset : goal.returns-then-not-at_reset
returns-then-not-at_reset c =
    let c8 = c in
    let c9 = c8 in
    let c10 = c9 in
    let c11 = c10 in
    let c12 = c11 in
    let c15 = c12 in
    let file = c15.args.file.now in
    let output = c15.args.output.now in
    let both = no-reset file output (fits-is file c12.form_of-form.result c12.form_of-form.ensures _ c11.fits.ensures true
    (c10.if-not-fits.false)) (due-is file output c12.form_of-form.result c9.pak_length-pak.result
    c12.form_of-form.ensures c9.pak_length-pak.ensures (length output)
    (c.if-output-file_length.false ∙
    (c.file_length.ensures ∙ ap
    (λ (g : Form). file_length_of g c9.pak_length-pak.result) c8.other.ensures)))
    (ok-is file output c12.form_of-form.result c9.pak_length-pak.result c12.form_of-form.ensures c9.pak_length-pak.ensures _
    c.file_ok.ensures true
    (c.if-not-file_ok.false))
    (holds-is file output c12.form_of-form.result c9.pak_length-pak.result c12.form_of-form.ensures
    c9.pak_length-pak.ensures false (rw c.in-Two.is
    (sym c.at_reset.ensures ∙ c.if-not-at_reset.true))) in
    record { verdict = both.0; output = both.1 }

pub to_one-requires : goal.to_one-requires
to_one-requires c =
    let c3 = c in
    let c8 = c3 in
    let c9 = c8 in
    let c10 = c9 in
    let c11 = c10 in
    let c12 = c11 in
    let c13 = c12 in
    let c16 = c13 in record {
      file_len = (
        rw c3.in-Two.is at (fit c13.form_of-form.result (length c16.args.file.now)
            c10.pak_length-pak.result c10.pak_length-pak.ensures (sym c12.fits.ensures ∙ c11.if-not-fits.false)).0,
        (fit c13.form_of-form.result (length c16.args.file.now) c10.pak_length-pak.result
            c10.pak_length-pak.ensures (sym c12.fits.ensures ∙ c11.if-not-fits.false)).1,
      );
      output_len = rw
          c3.in-Two.is at (c3.if-output-file_length.false ∙
          (c8.file_length.ensures ∙ ap (λ (g : Form). file_length_of g c10.pak_length-pak.result) c9.other.ensures));
    }

pub returns-in-One : goal.returns-in-One
returns-in-One c =
    let c4 = c in
    let c8 = c4 in
    let c9 = c8 in
    let c10 = c9 in
    let c11 = c10 in
    let c12 = c11 in
    let c13 = c12 in
    let c14 = c13 in
    let c17 = c14 in
    let file = c17.args.file.now in
    let output = c17.args.output.now in
    let both = accepted file output (fits-is file c14.form_of-form.result c14.form_of-form.ensures _ c13.fits.ensures true
    (c12.if-not-fits.false)) (due-is file output c14.form_of-form.result c11.pak_length-pak.result
    c14.form_of-form.ensures c11.pak_length-pak.ensures (length output)
    (c8.if-output-file_length.false ∙ (c9.file_length.ensures ∙ ap (λ (g : Form). file_length_of g c11.pak_length-pak.result)
    c10.other.ensures))) (ok-is file output c14.form_of-form.result c11.pak_length-pak.result c14.form_of-form.ensures
    c11.pak_length-pak.ensures _ c4.file_ok.ensures true
    (c4.if-not-file_ok.false)) (holds-is file output c14.form_of-form.result c11.pak_length-pak.result
    c14.form_of-form.ensures c11.pak_length-pak.ensures true (rw c4.in-One.is refl)) _
    (wrote-is file output c14.form_of-form.result c11.pak_length-pak.result c14.form_of-form.ensures
    c11.pak_length-pak.ensures _ (rw c4.in-One.is c.to_two.ensures)) in
    record { verdict = both.0; output = both.1 }

pub returns-else-not-at_reset : goal.returns-else-not-at_reset
returns-else-not-at_reset c =
    let c6 = c in
    let c8 = c6 in
    let c9 = c8 in
    let c10 = c9 in
    let c11 = c10 in
    let c12 = c11 in
    let c13 = c12 in
    let c14 = c13 in
    let c15 = c14 in
    let c16 = c15 in
    let c19 = c16 in
    let file = c19.args.file.now in
    let output = c19.args.output.now in
    let both = accepted file output (fits-is file c16.form_of-form.result c16.form_of-form.ensures _ c15.fits.ensures true
    (c14.if-not-fits.false)) (due-is file output c16.form_of-form.result c13.pak_length-pak.result
    c16.form_of-form.ensures c13.pak_length-pak.ensures (length output)
    (c10.if-output-file_length.false ∙ (c11.file_length.ensures ∙ ap (λ (g : Form). file_length_of g c13.pak_length-pak.result)
    c12.other.ensures))) (ok-is file output c16.form_of-form.result c13.pak_length-pak.result c16.form_of-form.ensures
    c13.pak_length-pak.ensures _ c9.file_ok.ensures true (c8.if-not-file_ok.false))
    (holds-is file output c16.form_of-form.result c13.pak_length-pak.result c16.form_of-form.ensures
    c13.pak_length-pak.ensures true (rw c6.in-Two.is
    (sym c.at_reset.ensures ∙ c.if-not-at_reset.false))) _ (wrote-is file output c16.form_of-form.result
    c13.pak_length-pak.result c16.form_of-form.ensures c13.pak_length-pak.ensures _
    (rw c6.in-Two.is c.to_one.ensures)) in
    record { verdict = both.0; output = both.1 }
