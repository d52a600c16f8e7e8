-- `drawing_bytes::objects::list_object` meets its contract: only what covers the pixel and is of a drawn group has bytes.
-- Assumes nothing.
use native.Mathlib.Omega.{arith}
use Prim.Native.Nat.{ℕ}
use mathlib.Core.List.{List}
use mathlib.Core.Path.{sym, ap, ◌∙◌}
use lib.ListN.{get_or}
use Rattle.drawing_pixel.specs.Object.{object_of}
use Rattle.drawing_bytes.proofs.Listings.{listing_none, listing-as}
use Rattle.drawing_pixel.proofs.Windows.{object-covers-row}
use Rattle.drawing_bytes.proofs.Drawn.{object-not-covering, object-not-drawn, object-drawn, object-row-bytes}
use Rattle.drawing_bytes.proofs.objects.list_object.Goals as goal

pub returns-then-not-covers : goal.returns-then-not-covers
returns-then-not-covers c =
    let a = c.args in
    let p = c.requires in
    let f = sym (rw c.object-o.ensures at c.covers.ensures) ∙ c.if-not-covers.true in record {
      lists = listing-as _ _ _ _ _ _ (object-not-covering a.vram.now a.registers.now p.by_index a.pixel.eye
          a.pixel.x a.pixel.y a.k p.vram_len.1.1.0 a.worlds p.worlds_value.0 f) (listing_none _ _);
      upper_bound = omega arith;
    }

pub returns-then-not-in_groups : goal.returns-then-not-in_groups
returns-then-not-in_groups c =
    let a = c.args in
    let p = c.requires in
    let f = sym c.in_groups.ensures ∙ c.if-not-in_groups.true in record {
      lists = listing-as _ _ _ _ _ _ (object-not-drawn a.vram.now a.registers.now p.by_index a.pixel.eye a.pixel.x
          a.pixel.y a.k p.vram_len.1.1.0 a.worlds p.worlds_value.0 f) (listing_none _ _);
      upper_bound = omega arith;
    }

pub row_address-requires : goal.row_address-requires
row_address-requires c =
    let a = c.args in
    let covered = sym c.covers.ensures ∙ c.if-not-covers.false in
    omega (
      arith,
      object-covers-row c.object-o.result a.pixel.eye a.pixel.x a.pixel.y covered,
      c.object_row.ensures,
    )

pub returns : goal.returns
returns c =
    let a = c.args in
    let p = c.requires in
    let covered = sym (rw c.object-o.ensures at c.covers.ensures) ∙ c.if-not-covers.false in
    let drawn = sym c.in_groups.ensures
    ∙ c.if-not-in_groups.false in
    let bytes =
    object-row-bytes (object_of a.vram.now a.k) a.pixel.y
    c.wide.result
    c.object_row.result c.row_address.result
    c.row_address.ensures.0
    (c.wide.ensures.0 ∙ ap (λ (o : List ℕ). get_or o 3 0)
    c.object-o.ensures) (rw c.object-o.ensures at c.object_row.ensures) in record {
      lists = listing-as _ _ _ _ _ _
          (bytes ∙ object-drawn a.vram.now a.registers.now p.by_index a.pixel.eye a.pixel.x a.pixel.y
          a.k p.vram_len.1.1.0 a.worlds p.worlds_value.0 covered drawn)
          c.put_half.ensures;
      upper_bound = omega (arith, c.put_half.ensures.count);
    }
