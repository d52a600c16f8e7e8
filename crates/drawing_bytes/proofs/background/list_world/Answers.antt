-- `drawing_bytes::background::list_world` meets its contract: skipped and object worlds have no bytes here. Assumes nothing.
use native.Mathlib.Omega.{arith}
use mathlib.Core.List.{List}
use mathlib.Core.Path.{◌≡◌, ap, ◌∙◌}
use Prim.Native.Nat.{ℕ}
use lib.ListN.{get_or}
use Rattle.drawing_pixel.specs.World.{world_of, bgm_of}
use Rattle.drawing_strip.proofs.Worlds.{flags-skipped, flags-shown}
use Rattle.drawing_bytes.proofs.Listings.{listing_none, listing-as}
use Rattle.drawing_bytes.proofs.Sources.{world-skipped, world-objects, world-background}
use Rattle.drawing_bytes.proofs.background.list_world.Goals as goal

pub returns-then-flags-lt16384 : goal.returns-then-flags-lt16384
returns-then-flags-lt16384 c =
    let a = c.args in
    let f : c.wide-flags.result ≡ get_or (world_of a.vram.now a.k) 0 0 = c.wide-flags.ensures.0 ∙ ap (λ
    (w : List ℕ). get_or w 0 0) c.world_at-w.ensures in
    let s = flags-skipped (world_of a.vram.now a.k) (omega arith) in
    record { lists = listing-as _ _ _ _ _ _ (world-skipped a.vram.now (world_of a.vram.now a.k) a.eye a.x a.y s) (listing_none _ _); upper_bound = omega arith }

pub returns-then-flags-eq3 : goal.returns-then-flags-eq3
returns-then-flags-eq3 c =
    let a = c.args in
    let f : c.wide-flags.result ≡ get_or (world_of a.vram.now
    a.k) 0 0 = c.wide-flags.ensures.0 ∙ ap (λ (w : List ℕ). get_or w 0 0)
    c.world_at-w.ensures in
    let s = flags-shown (world_of a.vram.now a.k) (omega arith) (omega arith) in
    let g : bgm_of (world_of a.vram.now a.k) ≡ 3 = omega arith in
    record { lists = listing-as _ _ _ _ _ _ (world-objects a.vram.now (world_of a.vram.now a.k) a.eye a.x a.y s g) (listing_none _ _); upper_bound = omega arith }

pub returns : goal.returns
returns c =
    let a = c.args in
    let f : c.wide-flags.result ≡ get_or (world_of a.vram.now
    a.k) 0 0 = c.wide-flags.ensures.0 ∙ ap (λ
    (w : List ℕ). get_or w 0 0) c.world_at-w.ensures in
    let s = flags-shown (world_of a.vram.now a.k) (omega arith) (omega arith) in
    let g : (bgm_of (world_of a.vram.now a.k) ≡ 3 → ⊥) = (λ e. c.if-flags-eq3.false (omega arith)) in
    let done = rw c.world_at-w.ensures at c.list_background.ensures in
    record { lists = listing-as _ _ _ _ _ _ (world-background a.vram.now (world_of a.vram.now a.k) a.eye a.x a.y s g) done.lists; upper_bound = done.upper_bound }
