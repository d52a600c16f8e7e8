-- `saved_salvage::salvage_state` meets its contract. Assumes nothing.
use mathlib.Core.Path.{sym, ◌∙◌}
use lib.ListN.{length}
use Rattle.saved_salvage.proofs.Salvaging.{no_length, no-layout, accepted, fit}
use Rattle.saved_salvage.proofs.salvage_state.Goals as goal

pub returns-then-output-file : goal.returns-then-output-file
returns-then-output-file c =
    let both = no_length (c.args.file.now)
    (c.args.output.now) _ (c.if-output-file.true) (c.none.ensures) in
    record { reported = both.0; output = both.1 }

pub returns-then-not-fits : goal.returns-then-not-fits
returns-then-not-fits c =
    let both = no-layout (c.args.file.now)
    (c.args.output.now) _ (c.if-output-file.false)
    (sym (c.fits.ensures) ∙ (c.if-not-fits.true)) (c.none-then-not-fits.ensures) in
    record { reported = both.0; output = both.1 }

pub kept-kept-requires : goal.kept-kept-requires
kept-kept-requires c = (fit (length (c.args.file.now))
    (c.pak_length-pak.result) (c.pak_length-pak.ensures) (sym (c.fits.ensures) ∙ (c.if-not-fits.false)))

pub put_bodies-requires : goal.put_bodies-requires
put_bodies-requires c = record {
  file_len = (fit (length (c.args.file.now)) (c.pak_length-pak.result) (c.pak_length-pak.ensures) (sym
      (c.fits.ensures) ∙ (c.if-not-fits.false)));
  output_len = c.if-output-file.false ∙ (fit (length
      (c.args.file.now))
      (c.pak_length-pak.result) (c.pak_length-pak.ensures) (sym
      (c.fits.ensures) ∙ (c.if-not-fits.false))).0;
}

pub put-requires : goal.put-requires
put-requires c =
    let c6 = c in
    let c7 = c6 in
    let c8 = c7 in
    let c9 = c8 in
    let c12 = c9 in (
      c.output-1.given ∙ (c9.if-output-file.false ∙
          (fit (length c12.args.file.now) c6.pak_length-pak.result c6.pak_length-pak.ensures
          (sym c8.fits.ensures ∙ c7.if-not-fits.false)).0),
      (fit (length c12.args.file.now) c6.pak_length-pak.result c6.pak_length-pak.ensures
          (sym c8.fits.ensures ∙ c7.if-not-fits.false)).1,
    )

pub contents_differ-differ-requires : goal.contents_differ-differ-requires
contents_differ-differ-requires c =
    let c10 = c in
    let c11 = c10 in
    let c12 = c11 in
    let c13 = c12 in
    let c16 = c13 in (
      (fit (length c16.args.file.now) c10.pak_length-pak.result c10.pak_length-pak.ensures
          (sym c12.fits.ensures ∙ c11.if-not-fits.false)).0,
      c.output-2-1.given ∙
          (c.output-1.given ∙
          (c13.if-output-file.false ∙ (fit (length c16.args.file.now) c10.pak_length-pak.result c10.pak_length-pak.ensures
          (sym c12.fits.ensures ∙ c11.if-not-fits.false)).0)),
    )

pub returns : goal.returns
returns c =
    let c9 = c in
    let c11 = c9 in
    let c12 = c11 in
    let c13 = c12 in
    let c14 = c13 in
    let c15 = c14 in
    let c18 = c15 in
    let both = accepted c18.args.file.now c18.args.output.now c15.if-output-file.false
    (sym c14.fits.ensures ∙ c13.if-not-fits.false) c12.pak_length-pak.result c12.pak_length-pak.ensures
    c11.kept-kept.result c11.kept-kept.ensures _ _ _ _ c9.put_bodies.ensures
    c.put.ensures c.replaced.ensures
    c.contents_differ-differ.ensures in
    record { reported = both.0; output = both.1 }
