-- `saved_kinds::bodies::file_ok` meets its contract. Assumes nothing.
use native.Mathlib.Omega.{arith}
use Prim.Native.Nat.{◌+◌, ◌-◌}
use mathlib.Core.Path.{◌≡◌, refl, sym, ap, ◌∙◌}
use lib.ListN.{length}
use Rattle.saved_layout.specs.Layout.{body_place_of, file_length_of}
use Rattle.saved_layout.specs.declared.Form.TheVariants.{One, Two}
use Rattle.saved_layout.proofs.Positions.{length-is}
use Rattle.saved_layout.proofs.Written.{hardware-part}
use Rattle.saved_kinds.specs.Kinds.{hardware_body_ok}
use Rattle.saved_kinds.proofs.Tests.{file-contents, file-records, file-last, one-hardware}
use Rattle.saved_kinds.proofs.bodies.file_ok.Goals as goal

pub returns-then-not-ok : goal.returns-then-not-ok
returns-then-not-ok c = file-contents (c.args.form) (c.args.pak)
    (body_place_of (c.args.form) (c.args.pak) 0)
    (c.args.file.now) refl (sym (c.ok.ensures) ∙ (c.if-not-ok.true))

pub records_ok-requires : goal.records_ok-requires
records_ok-requires c = omega (arith, length-is (c.args.form) (c.args.pak))

pub returns-then-not-records_ok : goal.returns-then-not-records_ok
returns-then-not-records_ok c = file-records (c.args.form)
    (c.args.pak) (c.first-at.result)
    (c.args.file.now) (c.first-at.ensures.0) (sym
    (c.ok.ensures) ∙ (c.if-not-ok.false)) (sym
    (c.records_ok.ensures) ∙ (c.if-not-records_ok.true))

pub slice_bounds-hardware_ok-end : goal.slice_bounds-hardware_ok-end
slice_bounds-hardware_ok-end c = let w : length (c.args.file.now) ≡ file_length_of Two (c.args.pak) = rw
    (c.in-Two.is) at (c.requires.0) in
    let f : c.first-at.result ≡ body_place_of Two
    (c.args.pak) 0 = rw
    (c.in-Two.is) at (c.first-at.ensures.0) in
    omega (arith, w, f, length-is Two (c.args.pak))

pub returns-in-One : goal.returns-in-One
returns-in-One c =
    let c4 = c in
    let c8 = c4 in
    rw c.in-One.is (one-hardware c8.args.pak c8.args.file.now ∙ file-last One c8.args.pak
    c4.first-at.result c8.args.file.now (rw c.in-One.is at c4.first-at.ensures.0)
    (rw c.in-One.is at (sym c4.ok.ensures ∙ c4.if-not-ok.false))
    (sym c.records_ok.ensures ∙ c.if-not-records_ok.false))

pub returns-in-Two : goal.returns-in-Two
returns-in-Two c =
    let c2 = c in
    let c6 = c2 in
    let c8 = c6 in
    let c10 = c8 in
    let pak = c10.args.pak in
    let at = c6.first-at.result in
    let f : c6.first-at.result ≡ body_place_of Two pak 0 = rw c2.in-Two.is at c6.first-at.ensures.0 in rw
    c2.in-Two.is (c.hardware_ok.ensures ∙
    (ap hardware_body_ok (hardware-part pak at c10.args.file.now f (at + 327878 + pak)
    (at + 327878 + pak + 8 - (at + 327878 + pak)) refl (omega arith)) ∙ file-last Two pak c6.first-at.result
    c10.args.file.now f (rw c2.in-Two.is at
    (sym c8.ok.ensures ∙ c6.if-not-ok.false))
    (sym c2.records_ok.ensures ∙ c2.if-not-records_ok.false)))
