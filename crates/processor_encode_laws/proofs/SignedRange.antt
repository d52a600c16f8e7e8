-- `signed_range`: the range of signed words is that of their signed readings. Assumes nothing.
use Prim.Native.Nat.{ℕ, suc, ◌-◌, ◌≤◌, ◌<◌, ◌^◌}
use mathlib.Core.Path.{◌≡◌, sym, ◌∙◌}
use native.Mathlib.Decide.{dec_lt}
use native.Mathlib.Omega.{arith}
use borrow.Author.Tests.{lt-ltb, le-ltb, le-leb, lt-leb}
use lib.Dec.{ltb, leb}
use Rattle.word.proofs.Choices.{pick-self}
use Rattle.word.proofs.Integers.{is_pos, is-negsuc, is-equal}
use Rattle.word.proofs.Readings.{reading-low, reading-high}
use Rattle.processor_encode.specs.Range.{signed_in}
use Rattle.processor_encode_laws.specs.Signed.{SignedRange}

low : (h x : ℕ) → suc h ≤ 2 ^ 31 → x < 2 ^ 31 → signed_in (suc h) x ≡ ltb x (suc h)
unfolding signed_in
low h x small less =
    elim (dec_lt x (suc h)) [
      | yes p ↦ simp (lt-ltb x (suc h) p)
      | no n ↦
          let above : suc h ≤ x = omega arith in
          let under : x < 2 ^ 32 - suc h = omega arith in
          simp (le-ltb x (suc h) above, lt-ltb x (2 ^ 32 - suc h) under)
    ]

high : (h x : ℕ) → suc h ≤ 2 ^ 31 → 2 ^ 31 ≤ x → x < 2 ^ 32 → signed_in (suc h) x ≡ leb (2 ^ 32 - suc x) h
unfolding signed_in
high h x small above wide =
    let from : suc h ≤ x = omega arith in
    elim (dec_lt x (2 ^ 32 - suc h)) [
      | yes p ↦
          let far : h < 2 ^ 32 - suc x = omega arith in
          simp (le-ltb x (suc h) from, lt-ltb x (2 ^ 32 - suc h) p, lt-leb (2 ^ 32 - suc x) h far)
      | no n ↦
          let last : 2 ^ 32 - suc h ≤ x = omega arith in
          let near : 2 ^ 32 - suc x ≤ h = omega arith in
          simp (le-ltb x (suc h) from, le-ltb x (2 ^ 32 - suc h) last, lt-ltb x (2 ^ 32) wide, le-leb (2 ^ 32 - suc x) h near)
    ]

pub signed_range : SignedRange
signed_range h x small wide =
    elim (dec_lt x (2 ^ 31)) [
      | yes p ↦ rw (is-equal (reading-low (2 ^ 31) x p) (is_pos x) (omega arith)) (low h x small p)
      | no n ↦
          let above : 2 ^ 31 ≤ x = omega arith in
          rw (is-equal (reading-high (2 ^ 31) x above) (is-negsuc (2 ^ 32 - suc x)) (omega arith))
          (high h x small above wide ∙ sym (pick-self (leb (2 ^ 32 - suc x) h)))
    ]
