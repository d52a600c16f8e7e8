-- `drawing_bytes::background::source_x` meets its contract, by BGM. Assumes nothing.
use Rattle.drawing_bytes.proofs.Sources.{normal-x, bias-x, affine-x}
use Rattle.drawing_pixel.specs.inner.Halfwords.{halfwords_of}
use Rattle.drawing_bytes.proofs.background.source_x.Goals as goal

pub returns-then-bgm-eq0 : goal.returns-then-bgm-eq0
returns-then-bgm-eq0 c = rw c.plain_left.ensures.0 (normal-x c.args.vram.now
    (halfwords_of c.args.w) c.args.eye
    c.args.i c.args.j c.if-bgm-eq0.true)

pub returns-then-bgm-eq1 : goal.returns-then-bgm-eq1
returns-then-bgm-eq1 c =
    rw (c.plain_left-then-bgm-eq1.ensures.0, c.parameter.ensures.0, c.bias_index.ensures)
    (bias-x c.args.vram.now
    (halfwords_of c.args.w)
    c.args.eye
    c.args.i
    c.args.j c.if-bgm-eq1.true)

pub returns : goal.returns
returns c =
    rw (
      c.affine_floor.ensures,
      c.affine_parameter-3.ensures.0,
      c.affine_parameter-2.ensures.0,
      c.affine_shift.ensures.0,
      c.affine_parameter.ensures.0,
    )
    (affine-x c.args.vram.now
    (halfwords_of c.args.w)
    c.args.eye
    c.args.i
    c.args.j
    c.if-bgm-eq0.false
    c.if-bgm-eq1.false)
