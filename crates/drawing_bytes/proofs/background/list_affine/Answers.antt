-- `drawing_bytes::background::list_affine` meets its contract: five halfwords, one after the other. Assumes nothing.
use Rattle.drawing_bytes.proofs.Sources.{affine-listing}
use Rattle.drawing_pixel.specs.inner.Halfwords.{halfwords_of}
use Rattle.drawing_bytes.proofs.background.list_affine.Goals as goal

pub returns : goal.returns
returns c =
    affine-listing (halfwords_of c.args.w)
    c.args.j _ _ _ _ _ _ _ _ _ _ _ _ _ _ _ _ _
    c.parameter_address.ensures.0
    c.parameter_address-2.ensures.0
    c.parameter_address-3.ensures.0 c.parameter_address-4.ensures.0 c.parameter_address-5.ensures.0
    c.put_half-next.ensures
    c.put_half-next-2.ensures
    c.put_half-next-3.ensures c.put_half-next-4.ensures
    c.put_half.ensures
