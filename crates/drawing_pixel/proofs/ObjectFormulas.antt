-- The statements of specs/inner/BiasedObject and specs/ObjectFormulas, and `ObjectsInOrder` of specs/Pixel, proved.
use Prim.Native.Nat.{ℕ, zero, suc, ◌+◌, ◌-◌, ◌*◌, ◌%◌, ◌<◌, ◌≤◌}
use native.Mathlib.Nat as NatL
use native.Mathlib.Decide.{dec_lt}
use native.Mathlib.Omega.{arith}
use mathlib.Core.Path.{◌≡◌, refl, sym, ap, ◌∙◌}
use mathlib.Core.Logic.{◌≢◌}
use mathlib.Core.List.{List}
use lib.ListN.{get_or}
use lib.IntN.{pos, ◌-ℤ◌}
use Rattle.bus.specs.Registers.{spt_of}
use Rattle.drawing_pixel.specs.Object.{object_of, object_after_of, group_count_of}
use Rattle.drawing_pixel.specs.inner.BiasedObject.{object_left_biased, object_row_biased, object_column_biased, object_covers_biased}
use Rattle.drawing_pixel.specs.inner.BiasedObject.{ObjectLeft, ObjectRow, ObjectCovers, ObjectColumn}
use Rattle.word.specs.Integers.{above_zero}
use Rattle.word.proofs.Integers.{Is, is_pos, is-difference, is-moved, is_tied, is-natural, le_is, is-above}
use Rattle.word.proofs.Floors.{is-mod}
use Rattle.drawing_pixel.proofs.WindowFormulas.{is-edge, span}
use Rattle.drawing_pixel.specs.ObjectFormulas.{object_left, drawn_of, ObjectDrawn, GroupZero}
use Rattle.drawing_pixel.specs.Pixel.{object_pixel, objects_pixel, ObjectsInOrder}

is-left : (o : List ℕ) (eye : ℕ) → Is (object_left o eye) (object_left_biased o eye) 1024
unfolding object_left_biased
is-left o eye = is-edge eye (get_or o 0 0) (get_or o 1 0)

pub object-left : ObjectLeft
object-left o eye = is_tied (is-left o eye)

pub object-row : ObjectRow
unfolding object_row_biased
object-row o y = is-mod 256 1 (omega arith) (is-moved (is-difference (is_pos y) (is_pos (get_or o 2 0 % 256))) (omega arith))

pub object-covers : ObjectCovers
unfolding object_covers_biased
object-covers o eye x y = rw (← (object-row o y), ← (span 8 x (is-left o eye)))

pub object-column : ObjectColumn
unfolding object_column_biased
object-column o eye x h =
    let l = le_is (is-left o eye) (is_pos x) h in
    is-natural _ (is-difference (is_pos x) (is-left o eye)) (omega arith)

-- the same with no condition: 0 to the left of the object
pub object-offset : (o : List ℕ) (eye x : ℕ) → object_column_biased o eye x ≡ above_zero (pos x -ℤ object_left o eye)
unfolding object_column_biased
object-offset o eye x =
    let e : x + 1024 - object_left_biased o eye ≡ x + 1024 - (0 + object_left_biased o eye) = omega arith in
    e ∙ sym (is-above (is-difference (is_pos x) (is-left o eye)))

drawn-sum : (i k : ℕ) → k < 1024 → drawn_of i k ≡ (k + 1023 * i) % 1024
unfolding drawn_of object_after_of
drawn-sum zero k h = omega arith
drawn-sum (suc i) k h = let e = drawn-sum i k h in omega arith

pub object-drawn : ObjectDrawn
object-drawn i k h = ap pos (drawn-sum i k h) ∙ is-mod 1024 i (omega arith) (is-moved (is-difference (is_pos k) (is_pos i)) (omega arith))

drawn-next : (i k : ℕ) → drawn_of i (object_after_of k) ≡ drawn_of (suc i) k
unfolding drawn_of
drawn-next zero k = refl
drawn-next (suc i) k = ap object_after_of (drawn-next i k)

pub objects-in-order : ObjectsInOrder
unfolding objects_pixel drawn_of
objects-in-order vram regs eye x y zero k before = refl
objects-in-order vram regs eye x y (suc n) k before =
    objects-in-order vram regs eye x y n (object_after_of k) (object_pixel vram regs (object_of vram k) eye x y before)
    ∙ ap (λ m. object_pixel vram regs (object_of vram m) eye x y
    (objects_pixel vram regs eye x y n (object_after_of k) (object_pixel vram regs (object_of vram k) eye x y before))) (drawn-next n k)

-- c objects below a is b, around 1,024 (t is 1) or not
reached : (a b c t : ℕ) → b < 1024 → t ≤ c → a + 1024 * t ≡ b + c → (a + 1023 * c) % 1024 ≡ b
reached a b c t h l e =
    let sum : a + 1023 * c ≡ b + 1024 * (c - t) = omega arith in
    ap (λ v. v % 1024) sum ∙ NatL.add-mul-mod_self_left b 1024 (c - t) ∙ NatL.mod-eq_of_lt h

counted : (a b : ℕ) → a < 1024 → b < 1024 → (a + 1023 * ((a + 1023 - b) % 1024 + 1)) % 1024 ≡ b
counted a b h l =
    elim (dec_lt b a) [
      | yes p ↦ reached a b ((a + 1023 - b) % 1024 + 1) 0 l (omega arith) (omega arith)
      | no q ↦ reached a b ((a + 1023 - b) % 1024 + 1) 1 l (omega arith) (omega arith)
    ]

module _ (regs : List ℕ) (n : ℕ) (upper : spt_of regs (suc n) < 1024) (lower : spt_of regs n < 1024) where
  -- 01: "to just above SPT(n-1)": the object after the group's last is SPT(n-1) ..
  pub group-end : drawn_of (group_count_of regs (suc n)) (spt_of regs (suc n)) ≡ spt_of regs n
  unfolding group_count_of
  group-end = drawn-sum _ _ upper ∙ counted (spt_of regs (suc n)) (spt_of regs n) upper lower

  -- .. and after none of the objects before that one
  pub group-no-earlier : (i : ℕ) → i < group_count_of regs (suc n) → 0 < i → drawn_of i (spt_of regs (suc n)) ≢ spt_of regs n
  unfolding group_count_of
  group-no-earlier i h p e =
      let d = drawn-sum i (spt_of regs (suc n)) upper in
      omega arith

  -- 01: "1,024 objects when equal"
  pub group-equal : spt_of regs (suc n) ≡ spt_of regs n → group_count_of regs (suc n) ≡ 1024
  unfolding group_count_of
  group-equal e = omega arith

-- 01: "group 0 ends at object 0": its objects are SPT0, SPT0 - 1, .., 0
pub group-zero-last : (regs : List ℕ) → group_count_of regs 0 ≡ suc (spt_of regs 0)
unfolding group_count_of
group-zero-last regs = omega arith

pub group-zero : GroupZero
unfolding group_count_of
group-zero regs i h l =
    let d = drawn-sum i (spt_of regs 0) h in
    omega arith
