-- `drawing_bytes::background::list_parameters` meets its contract, by BGM. Assumes nothing.
use native.Mathlib.Omega.{arith}
use mathlib.Core.Path.{◌≡◌}
use Rattle.drawing_laws.specs.PixelBytes.{half_bytes_of, parameter_bytes_of}
use Rattle.drawing_bytes.proofs.Listings.{listing_none, listing-as}
use Rattle.drawing_bytes.proofs.Sources.{normal-parameters, bias-parameters, affine-parameters, affine-length}
use Rattle.drawing_pixel.specs.inner.Halfwords.{halfwords_of}
use Rattle.drawing_bytes.proofs.background.list_parameters.Goals as goal

pub returns-then-bgm-eq0 : goal.returns-then-bgm-eq0
returns-then-bgm-eq0 c = record {
  lists = listing-as _ _ _ _ _ _ (normal-parameters (halfwords_of c.args.w)
      c.args.eye c.args.j c.if-bgm-eq0.true)
      (listing_none _ _);
  upper_bound = omega arith;
}

pub returns-then-bgm-eq1 : goal.returns-then-bgm-eq1
returns-then-bgm-eq1 c =
    let e : half_bytes_of c.parameter_address.result ≡ parameter_bytes_of
    (halfwords_of c.args.w)
    c.args.eye
    c.args.j =
    rw (
      c.parameter_address.ensures.0,
      c.bias_index.ensures,
    ) (bias-parameters (halfwords_of c.args.w) c.args.eye
    c.args.j
    c.if-bgm-eq1.true) in
    record { lists = listing-as _ _ _ _ _ _ e c.put_half.ensures; upper_bound = omega (arith, c.put_half.ensures.count) }

pub returns : goal.returns
returns c = record {
  lists = listing-as _ _ _ _ _ _ (affine-parameters
      (halfwords_of c.args.w)
      c.args.eye
      c.args.j
      c.if-bgm-eq0.false c.if-bgm-eq1.false)
      c.list_affine.ensures;
  upper_bound = omega (
    arith,
    c.list_affine.ensures.count,
    affine-length
        (halfwords_of c.args.w)
        c.args.j,
  );
}
