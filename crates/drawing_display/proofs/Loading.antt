-- The bytes of an entry, and VRAM after the column table was loaded. Assumes nothing.
use Prim.Native.Nat.{ℕ, zero, suc, ◌+◌, ◌-◌, ◌/◌, ◌%◌, ◌<◌, ◌≤◌}
use native.Mathlib.Omega.{arith}
use native.Mathlib.Decide.{dec_lt}
use mathlib.Core.Path.{◌≡◌, refl, sym, ◌∙◌}
use mathlib.Core.Bool.{true, false, and-false}
use mathlib.Core.List.{List}
use lib.ListN.{length, get_or}
use lib.Seq.{ext_get_or}
use borrow.Author.Tests.{lt-ltb, le-ltb, le-leb, lt-leb}
use Rattle.std.specs.Int.{w16, to_le_bytes}
use borrow.Author.Rules.{rules}
use borrow.Rule.Slice.PartMut.{put_mid}
use Rattle.std.proofs.lemmas.List.{places}
use Rattle.drawing_pixel.proofs.Lists.{length-list, get_or-list}
use Rattle.drawing_display.specs.ColumnTable.{column_table, table_byte_of, in_tables_of, loaded_byte_of, table_loaded_of}

-- which addresses lie in the tables
pub in_tables : (a : ℕ) → 252928 ≤ a → a < 253952 → in_tables_of a ≡ true
unfolding in_tables_of
in_tables a l h = simp (le-leb _ _ l, lt-ltb _ _ h)

pub below-tables : (a : ℕ) → a < 252928 → in_tables_of a ≡ false
unfolding in_tables_of
below-tables a h = simp (lt-leb _ _ h)

pub above-tables : (a : ℕ) → 253952 ≤ a → in_tables_of a ≡ false
unfolding in_tables_of
above-tables a h = simp (le-ltb _ _ h, and-false)

-- a byte of an entry as a halfword's bytes, the low one first
pub entry-byte : (e b h : ℕ) → h ≡ get_or column_table e 0 → b < 2 → get_or (to_le_bytes w16 h) b 0 ≡ table_byte_of e b
unfolding table_byte_of
entry-byte e zero h p l = let o : h % 256 ≡ h / 1 % 256 = omega arith in rw (← p) o
entry-byte e (suc zero) h p l = rw (← p) refl
entry-byte e (suc (suc b)) h p l = absurd (omega arith)

-- a list whose k elements from n on were replaced
module _ (n k : ℕ) (a t : List ℕ) (within : n + k ≤ length a) (many : length t ≡ k) where
  replaced-length : length (put_mid n k a t) ≡ length a
  replaced-length = search (rules, places)

  replaced-below : (i : ℕ) → i < n → get_or (put_mid n k a t) i 0 ≡ get_or a i 0
  replaced-below i h = grind (arith, places)

  replaced-inside : (i : ℕ) → n ≤ i → i < n + k → get_or (put_mid n k a t) i 0 ≡ get_or t (i - n) 0
  replaced-inside i l h = grind (arith, places)

  replaced-above : (i : ℕ) → n + k ≤ i → i < length a → get_or (put_mid n k a t) i 0 ≡ get_or a i 0
  replaced-above i l h = grind (arith, places)

-- VRAM whose two tables were replaced by the recommended one
module _ (a t : List ℕ) (within : 252928 + 1024 ≤ length a) (many : length t ≡ 1024) where
  module _ (inside : (j : ℕ) → j < 1024 → get_or t j 0 ≡ table_byte_of (j % 512 / 2) (j % 2)) where
    in_table : (i : ℕ) → 252928 ≤ i → i < 253952 → get_or t (i - 252928) 0 ≡ table_byte_of (i % 512 / 2) (i % 2)
    in_table i u h =
        let p : (i - 252928) % 512 ≡ i % 512 = omega arith in
        let q : (i - 252928) % 2 ≡ i % 2 = omega arith in
        rw (p, q) at (inside (i - 252928) (omega arith))

    each : (i : ℕ) → i < length a → get_or (put_mid 252928 1024 a t) i 0 ≡ loaded_byte_of a i
    unfolding loaded_byte_of
    each i l =
        elim (dec_lt i 252928) [
          | yes u ↦ rw (below-tables i u) (replaced-below 252928 1024 a t within many i u)
          | no u ↦ elim (dec_lt i 253952) [
            | yes h ↦ rw (in_tables i (omega arith) h)
                (replaced-inside 252928 1024 a t within many i (omega arith) h ∙ in_table i (omega arith) h)
            | no h ↦ rw (above-tables i (omega arith)) (replaced-above 252928 1024 a t within many i (omega arith) l)
          ]
        ]

    pub all-loaded : put_mid 252928 1024 a t ≡ table_loaded_of a
    unfolding table_loaded_of
    all-loaded =
        let size = replaced-length 252928 1024 a t within many in
        ext_get_or 0 (put_mid 252928 1024 a t) (table_loaded_of a)
        (size ∙ sym (length-list (length a) 0 (loaded_byte_of a)))
        (λ i h. each i (omega arith) ∙ sym (get_or-list (length a) 0 (loaded_byte_of a) i (omega arith)))
