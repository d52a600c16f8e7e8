-- `saved_bytes::numbers::put_words` meets its contract: those put so far stand in the buffer. Assumes nothing.
use Prim.Native.Nat.{◌*◌}
use native.Mathlib.Omega.{arith}
use mathlib.Core.Path.{◌≡◌, refl, ◌∙◌}
use lib.ListN.{length}
use Rattle.saved_bytes.specs.Numbers.{halves_of}
use Rattle.saved_bytes.proofs.LittleEndian.{length-bytes, length-halves}
use Rattle.saved_bytes.proofs.Putting.{paste_all}
use Rattle.saved_bytes.proofs.Filling.{pasted-none, pasted-word}
use Rattle.saved_bytes.proofs.numbers.put_words.Goals as goal

pub loop-k-init : goal.loop-k-init
loop-k-init c = (omega arith, pasted-none _ _ _)

pub put_word-requires : goal.put_word-requires
put_word-requires c = omega (arith, c.loop-k.invariant.1.size)

pub loop-k-preserved : goal.loop-k-preserved
loop-k-preserved c = (
  omega arith,
  pasted-word _ _ _ _ _ _ _ c.loop-k.invariant.1
      (omega arith) (omega arith) c.put_word.ensures refl,
)

pub shape_of-output : goal.shape_of-output
shape_of-output c = c.loop-k.invariant.1.size

pub returns : goal.returns
returns c = let e : c.loop-k.k ≡ length c.args.words.now = omega arith in
    c.loop-k.invariant.1.same ∙ paste_all _ _ _ (4 * c.loop-k.k) (omega (
      arith,
      length-bytes (halves_of
          c.args.words.now),
      length-halves
          c.args.words.now,
    ))
