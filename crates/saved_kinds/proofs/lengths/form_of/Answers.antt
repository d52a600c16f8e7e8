-- `saved_kinds::lengths::form_of` meets its contract. Assumes nothing.
use native.Mathlib.Omega.{arith}
use lib.ListN.{get_or-eq_default}
use Rattle.saved_kinds.proofs.Sizes.{form-two, form-one}
use Rattle.saved_kinds.proofs.lengths.form_of.Goals as goal

pub returns-then-file-eq0 : goal.returns-then-file-eq0
returns-then-file-eq0 c = form-two (c.args.file.now) (get_or-eq_default (c.args.file.now) 0
    (omega arith)) (get_or-eq_default (c.args.file.now) 0 (omega arith))

pub returns-then-file-ne0 : goal.returns-then-file-ne0
returns-then-file-ne0 c = form-one (c.args.file.now) (λ e. c.if-file-ne0.true (omega arith))

pub returns-then-file-eq1 : goal.returns-then-file-eq1
returns-then-file-eq1 c = form-two (c.args.file.now) (c.if-file-ne0.false)
    (get_or-eq_default (c.args.file.now) 0 (omega arith))

pub returns-then-file-ne0-2 : goal.returns-then-file-ne0-2
returns-then-file-ne0-2 c = form-one (c.args.file.now) (λ e. c.if-file-ne0-2.true (omega arith))

pub returns : goal.returns
returns c = form-two (c.args.file.now) (c.if-file-ne0.false) (c.if-file-ne0-2.false)
