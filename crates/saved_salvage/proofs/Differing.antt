-- The comparison of the contents, entry by entry. Assumes nothing.
use Prim.Native.Nat.{ℕ, ◌<◌}
use native.Mathlib.Omega.{arith}
use mathlib.Core.Bool.{Bool, true, false, not}
use mathlib.Core.List.{List}
use mathlib.Core.Path.{◌≡◌, refl, sym, ◌∙◌}
use borrow.Author.Tests.{ne_eqb}
use lib.ListN.{take, drop}
use Rattle.word.proofs.Choices.{pick-self, pick-opposite}
use Rattle.saved_bytes.specs.Numbers.{same_of}
use Rattle.saved_salvage.specs.declared.Kept.{Kept}
use Rattle.saved_salvage.specs.Differ.{either, part_differs, entry_differs, contents_differ}

pub part-is : (at size n : ℕ) (file output : List ℕ) (t : Bool) → n ≡ size → t ≡ same_of (take n (drop at file)) (take n (drop at output))
    → not t ≡ part_differs at size file output
unfolding part_differs
part-is at size n file output t e f = sym (pick-opposite t) ∙ rw (f, e)

-- tests joined one after the other
either-joined : (a b c : Bool) → either (either a b) c ≡ either a (either b c)
either-joined true b c = refl
either-joined false b c = refl

module _ (pak : ℕ) (k : Kept) (file output : List ℕ) {s a b c d r : Bool} (e0 : s ≡ part_differs 0 6 file output)
    (e1 : a ≡ either s (entry_differs 6 k.processor file output))
    (e2 : b ≡ either a (entry_differs 20 k.drawing file output))
    (e3 : c ≡ either b (entry_differs 34 k.wram file output))
    (e4 : d ≡ either c (entry_differs 48 k.vram file output)) where
  pub differ-empty : pak ≡ 0 → r ≡ either d (entry_differs 62 k.hardware file output) → r ≡ contents_differ pak k file output
  unfolding contents_differ
  differ-empty z e5 = rw (e5, e4, e3, e2, e1, e0, z) (simp (pick-self, either-joined))

  pub differ-some : {e : Bool} → 0 < pak → e ≡ either d (entry_differs 62 k.pak file output)
      → r ≡ either e (entry_differs 76 k.hardware file output) → r ≡ contents_differ pak k file output
  unfolding contents_differ
  differ-some some e5 e6 =
      simp (ne_eqb pak 0 (λ z. omega arith)) (rw (e6, e5, e4, e3, e2, e1, e0) (simp (pick-self, either-joined)))
