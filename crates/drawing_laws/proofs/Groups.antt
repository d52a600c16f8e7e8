-- Groups of objects: a group draws the objects that are of it (`among-in-group`, `in-group-among`), and the object counter
-- is the group's number as it is counted from above (`counter-step`); at the end the statements of specs/Groups. Assumes
-- nothing.
use Prim.Native.Nat.{ℕ, zero, suc, ◌+◌, ◌-◌, ◌%◌, ◌<◌, ◌≤◌}
use mathlib.Core.Bool.{Bool, true, false, ◌||◌, false≢true}
use mathlib.Core.List.{List}
use mathlib.Core.Path.{◌≡◌, refl, sym, ◌∙◌}
use native.Mathlib.Omega.{arith}
use lib.Dec.{eqb}
use borrow.Author.Tests.{eqb-true, eqb-false, ltb-true, lt-ltb}
use Rattle.word.specs.Choose.{pick}
use Rattle.bus.specs.Registers.{spt_of}
use Rattle.drawing_pixel.specs.World.{world_of}
use Rattle.drawing_pixel.specs.Object.{object_after_of, group_count_of}
use Rattle.drawing_pixel.specs.Pixel.{counter_after_of, draws_objects_of, counter_of}
use Rattle.drawing_pixel.specs.ObjectFormulas.{drawn_of}
use Rattle.drawing_pixel.proofs.ObjectFormulas.{group-end, group-no-earlier, group-zero-last}
use Rattle.drawing_pixel.proofs.ObjectFormulas as Formulas
use Rattle.drawing_laws.specs.Covers.{group_of, in_group_of}
use Rattle.drawing_laws.specs.Groups.{GroupEnds, GroupEndsFirst, GroupEqual, GroupZeroCount, DrawnInGroup, InGroupDrawn, GroupFirst, GroupNext}
use Rattle.drawing_laws.specs.inner.SourceBytes.{among_of}
use Rattle.word.proofs.Choices.{or_cases}
use Rattle.drawing_laws.proofs.Reached.{object_worlds_of, object-worlds-below, group-is}

among_below : (count j k : ℕ) → k < 1024 → among_of count j k ≡ true → (j + 1024 - k) % 1024 < count
unfolding among_of object_after_of
among_below zero j k h e = absurd (false≢true e)
among_below (suc count) j k h e =
    or_cases (eqb j k) _ e
    (λ q. let same : j ≡ k = eqb-true j k q in omega arith)
    (λ q. let later : ((j + 1023) % 1024 + 1024 - k) % 1024 < count = among_below count ((j + 1023) % 1024) k h q in omega arith)

below-among : (count j k : ℕ) → j < 1024 → k < 1024 → (j + 1024 - k) % 1024 < count → among_of count j k ≡ true
unfolding among_of object_after_of
below-among zero j k a b h = absurd (omega arith)
below-among (suc count) j k a b h = go (eqb j k) refl (below-among count ((j + 1023) % 1024) k (omega arith) b)
  where
    go : (t : Bool) → eqb j k ≡ t
        → (((j + 1023) % 1024 + 1024 - k) % 1024 < count → among_of count ((j + 1023) % 1024) k ≡ true)
        → (t || among_of count ((j + 1023) % 1024) k) ≡ true
    go true e later = refl
    go false e later = let other : j ≡ k → ⊥ = eqb-false j k e in later (omega arith)

pub in-group-among : (regs : List ℕ) (n k : ℕ) → spt_of regs n < 1024 → k < 1024 → in_group_of regs n k ≡ true
    → among_of (group_count_of regs n) (spt_of regs n) k ≡ true
unfolding in_group_of
in-group-among regs n k a b e =
    below-among (group_count_of regs n) (spt_of regs n) k a b
    (ltb-true ((spt_of regs n + 1024 - k) % 1024) (group_count_of regs n) e)

pub among-in-group : (regs : List ℕ) (n k : ℕ) → k < 1024 → among_of (group_count_of regs n) (spt_of regs n) k ≡ true → in_group_of regs n k ≡ true
unfolding in_group_of
among-in-group regs n k h e =
    lt-ltb ((spt_of regs n + 1024 - k) % 1024) (group_count_of regs n) (among_below (group_count_of regs n) (spt_of regs n) k h e)

counter-after : (c : ℕ) → c < 4 → counter_after_of c ≡ (c + 3) % 4
counter-after zero h = refl
counter-after (suc c) h = omega arith

-- the counter after m object worlds, and one more where there is one
pub counter-step : (w : List ℕ) (c m : ℕ) → m ≤ 31 → c ≡ (35 - m) % 4 → counter_of w c ≡ (35 - (pick (draws_objects_of w) 1 0 + m)) % 4
unfolding counter_of
counter-step w c m h e = go (draws_objects_of w)
  where
    go : (b : Bool) → pick b (counter_after_of c) c ≡ (35 - (pick b 1 0 + m)) % 4
    go true = rw (counter-after c (omega arith)) (omega arith)
    go false = omega arith

pub group-ends : GroupEnds
group-ends regs n upper lower = group-end regs n upper lower

pub group-ends-first : GroupEndsFirst
group-ends-first regs n i upper lower p h = group-no-earlier regs n upper lower i h p

pub group-equal : GroupEqual
group-equal regs n upper lower e = Formulas.group-equal regs n upper lower e

pub group-zero-count : GroupZeroCount
group-zero-count regs = group-zero-last regs

-- how far below object k the one is that is drawn i objects after it
drawn-place : (i k : ℕ) → k < 1024 → i < 1024 → (drawn_of i k < 1024) × ((k + 1024 - drawn_of i k) % 1024 ≡ i)
unfolding drawn_of object_after_of
drawn-place zero k h l = (omega arith, omega arith)
drawn-place (suc i) k h l =
    let p = drawn-place i k h (omega arith) in
    (omega arith, omega (arith, p.0, p.1))

count-at-most : (regs : List ℕ) (n : ℕ) → spt_of regs n < 1024 → group_count_of regs n ≤ 1024
unfolding group_count_of
count-at-most regs zero h = omega arith
count-at-most regs (suc n) h = omega arith

pub drawn-in-group : DrawnInGroup
unfolding in_group_of
drawn-in-group regs n i h l =
    let most = count-at-most regs n h in
    let p = drawn-place i (spt_of regs n) h (omega arith) in
    lt-ltb ((spt_of regs n + 1024 - drawn_of i (spt_of regs n)) % 1024) (group_count_of regs n) (omega (arith, p.1))

pub in-group-drawn : InGroupDrawn
unfolding in_group_of
in-group-drawn regs n k h l e =
    let within : (spt_of regs n + 1024 - k) % 1024 < group_count_of regs n =
    ltb-true ((spt_of regs n + 1024 - k) % 1024) (group_count_of regs n) e in
    let p = drawn-place ((spt_of regs n + 1024 - k) % 1024) (spt_of regs n) h (omega arith) in
    record {
      place = (spt_of regs n + 1024 - k) % 1024;
      within = within;
      drawn = omega (arith, p.0, p.1);
    }

pub group-first : GroupFirst
unfolding object_worlds_of
group-first vram = group-is vram 31 0 refl

pub group-next : GroupNext
unfolding object_worlds_of
group-next vram n h =
    let above : object_worlds_of vram (suc (suc n)) (30 - n) ≤ 30 - n = object-worlds-below vram (suc (suc n)) (30 - n) in
    group-is vram n (suc (30 - n)) (omega arith)
    ∙ sym (counter-step (world_of vram (suc n)) (group_of vram (suc n)) (object_worlds_of vram (suc (suc n)) (30 - n)) (omega arith)
    (group-is vram (suc n) (30 - n) (omega arith)))
