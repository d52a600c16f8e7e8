-- `saved_kinds::lengths::fits` meets its contract. Assumes nothing.
use mathlib.Core.Path.{sym, ap, ◌∙◌}
use Prim.Native.Nat.{ℕ}
use lib.Dec.{eqb}
use Rattle.bus.specs.Refusal.{pak_ok}
use Rattle.saved_layout.specs.Layout.{file_length_of}
use Rattle.saved_kinds.proofs.Sizes.{pak-small, fits_not, fits-length}
use Rattle.saved_kinds.proofs.lengths.fits.Goals as goal

pub returns-then-not-pak_ok : goal.returns-then-not-pak_ok
returns-then-not-pak_ok c = fits_not (c.args.form) (c.args.length) (ap pak_ok
    (sym (c.pak_length-pak.ensures)) ∙ (sym (c.pak_ok.ensures) ∙ (c.if-not-pak_ok.true)))

pub file_length-requires : goal.file_length-requires
file_length-requires c = pak-small _ (sym (c.pak_ok.ensures) ∙ (c.if-not-pak_ok.false))

pub returns : goal.returns
returns c = ap (λ (n : ℕ). eqb n (c.args.length)) (c.file_length.ensures ∙ ap
    (file_length_of (c.args.form)) (c.pak_length-pak.ensures))
    ∙ fits-length (c.args.form) (c.args.length)
    (ap pak_ok (sym (c.pak_length-pak.ensures)) ∙ (sym (c.pak_ok.ensures)
    ∙ (c.if-not-pak_ok.false)))
