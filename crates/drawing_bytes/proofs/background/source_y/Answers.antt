-- `drawing_bytes::background::source_y` meets its contract, by BGM. Assumes nothing.
use mathlib.Core.Path.{◌∙◌}
use Rattle.drawing_bytes.proofs.Sources.{plain-y, affine-y}
use Rattle.drawing_pixel.specs.inner.Halfwords.{halfwords_of}
use Rattle.drawing_bytes.proofs.background.source_y.Goals as goal

pub returns-then-bgm-lt2 : goal.returns-then-bgm-lt2
returns-then-bgm-lt2 c = c.normal_y.ensures.0 ∙ plain-y c.args.vram.now
    (halfwords_of c.args.w) c.args.eye
    c.args.i c.args.j c.if-bgm-lt2.true

pub returns : goal.returns
returns c =
    rw (
      c.affine_floor.ensures,
      c.affine_parameter-3.ensures.0,
      c.affine_parameter-2.ensures.0,
      c.affine_shift.ensures.0,
      c.affine_parameter.ensures.0,
    )
    (affine-y c.args.vram.now
    (halfwords_of c.args.w)
    c.args.eye
    c.args.i
    c.args.j
    c.if-bgm-lt2.false)
