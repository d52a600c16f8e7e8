-- `saved_salvage::replace::put_bodies` meets its contract. Assumes nothing.
use native.Mathlib.Omega.{arith}
use Prim.Native.Nat.{ℕ, ◌+◌}
use mathlib.Core.Path.{refl, ap, ◌∙◌}
use Rattle.saved_bytes.specs.inner.Put.{put_at}
use Rattle.saved_layout.specs.File.{bodies_in, joined_of}
use Rattle.saved_layout.specs.declared.Form.TheVariants.{Two}
use Rattle.saved_layout.proofs.Positions.{length-is}
use Rattle.saved_layout.proofs.Files.{length-pak-in, sized-in}
use Rattle.saved_layout.proofs.Written.{processor-part, drawing-part, wram-part, vram-part, pak-part, hardware-part}
use Rattle.saved_salvage.specs.Keep.{kept_bodies_of}
use Rattle.saved_salvage.proofs.Replacing.{bodies-put}
use Rattle.saved_salvage.proofs.replace.put_bodies.Goals as goal

pub put_processor-requires : goal.put_processor-requires
put_processor-requires c =
    let c4 = c in
    (omega (arith, length-is Two c4.args.pak), omega (arith, length-is Two c4.args.pak))

pub put_body-requires : goal.put_body-requires
put_body-requires c =
    let c2 = c in
    let c5 = c2 in
    let c8 = c5 in
    let whole = length-is Two c8.args.pak in
    let file = c8.requires.file_len.0 in
    let output = c8.requires.output_len in
    let first = c5.first-at.ensures.0 in
    let after-1 = c2.output-1.given in
    (omega arith, omega arith)

pub put_body-requires-2 : goal.put_body-requires-2
put_body-requires-2 c =
    let c2 = c in
    let c6 = c2 in
    let c9 = c6 in
    let c12 = c9 in
    let whole = length-is Two c12.args.pak in
    let file = c12.requires.file_len.0 in
    let output = c12.requires.output_len in
    let first = c9.first-at.ensures.0 in
    let after-1 = c6.output-1.given in
    let after-2 = c2.output-2-1.given in
    (omega arith, omega arith)

pub put_body-requires-3 : goal.put_body-requires-3
put_body-requires-3 c =
    let c2 = c in
    let c6 = c2 in
    let c10 = c6 in
    let c13 = c10 in
    let c16 = c13 in
    let whole = length-is Two c16.args.pak in
    let file = c16.requires.file_len.0 in
    let output = c16.requires.output_len in
    let first = c13.first-at.ensures.0 in
    let after-1 = c10.output-1.given in
    let after-2 = c6.output-2-1.given in
    let after-3 = c2.output-3-1.given in
    (omega arith, omega arith)

pub put_body-requires-4 : goal.put_body-requires-4
put_body-requires-4 c =
    let c2 = c in
    let c6 = c2 in
    let c10 = c6 in
    let c14 = c10 in
    let c17 = c14 in
    let c20 = c17 in
    let whole = length-is Two c20.args.pak in
    let file = c20.requires.file_len.0 in
    let output = c20.requires.output_len in
    let first = c17.first-at.ensures.0 in
    let after-1 = c14.output-1.given in
    let after-2 = c10.output-2-1.given in
    let after-3 = c6.output-3-1.given in
    let after-4 = c2.output-4-1.given in
    (omega arith, omega arith)

pub put_body-requires-5 : goal.put_body-requires-5
put_body-requires-5 c =
    let c2 = c in
    let c6 = c2 in
    let c10 = c6 in
    let c14 = c10 in
    let c18 = c14 in
    let c21 = c18 in
    let c24 = c21 in
    let whole = length-is Two c24.args.pak in
    let file = c24.requires.file_len.0 in
    let output = c24.requires.output_len in
    let first = c21.first-at.ensures.0 in
    let after-1 = c18.output-1.given in
    let after-2 = c14.output-2-1.given in
    let after-3 = c10.output-3-1.given in
    let after-4 = c6.output-4-1.given in
    let after-5 = c2.output-5-1.given in
    (omega arith, omega arith)

pub returns : goal.returns
returns c =
    let c10 = c in
    let c14 = c10 in
    let c18 = c14 in
    let c22 = c18 in
    let c24 = c22 in
    let c27 = c24 in
    let file-given = c27.args.file.now in
    let pak = c27.args.pak in
    let at = c24.first-at.result in
    let file = file-given in
    let first = c24.first-at.ensures.0 in
    bodies-put c27.args.kept (bodies_in Two pak file-given) (sized-in pak file-given Two c27.requires.file_len.0) pak
    (length-pak-in pak file-given Two c27.requires.file_len.0) c27.args.output.now at
    (omega (arith, length-is Two pak, c27.requires.output_len, first)) _ _ _ _ _ _ _ _ _ _ _ _
    (processor-part Two pak at file first at 172 refl refl) (drawing-part Two pak at file first (at + 172) 26 refl refl)
    (wram-part Two pak at file first (at + 198) 65536 refl refl)
    (vram-part Two pak at file first (at + 65734) 262144 refl refl)
    (pak-part Two pak at file first (at + 327878) pak refl refl)
    (hardware-part pak at file first (at + 327878 + pak) 8 refl refl) c22.put_processor.ensures
    c18.put_body.ensures c14.put_body-2.ensures c10.put_body-3.ensures
    c.put_body-4.ensures c.put_body-5.ensures ∙ ap
    (λ (n : ℕ). put_at c27.args.output.now n (joined_of Two
    (kept_bodies_of c27.args.kept (bodies_in Two pak file-given)))) first
