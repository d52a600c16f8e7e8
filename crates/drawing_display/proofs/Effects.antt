-- The theorems about the display unit's calls: `brightness-at` and `table-loaded`. Assumes nothing.
use Prim.Native.Nat.{ℕ, ◌+◌, ◌-◌, ◌*◌, ◌/◌, ◌%◌, ◌<◌, ◌≤◌}
use native.Mathlib.Omega.{arith}
use mathlib.Core.Bool.{false}
use mathlib.Core.List.{List}
use mathlib.Core.Path.{◌≡◌, sym, ◌∙◌}
use lib.ListN.{length, get_or, get_or-eq_default}
use native.Mathlib.Decide.{dec_lt}
use borrow.Author.Tests.{eq-eqb}
use Rattle.bus.specs.Refusal.{vram_ok}
use Rattle.word.specs.LittleEndian.{half_at}
use Rattle.drawing_pixel.proofs.Lists.{length-list, get_or-list}
use Rattle.drawing_display.specs.Brightness.{table_entry_of, repeats_of, lamp_level_of, column_entry_of, brightness_of}
use Rattle.drawing_display.specs.ColumnTable.{column_table, table_byte_of, in_tables_of, loaded_byte_of, table_loaded_of}
use Rattle.drawing_display.specs.Calls.{shown_of, display_of, load_table_verdict_of, load_table_of}
use Rattle.drawing_display.specs.Shown.{BrightnessAt, TableLoaded}
use Rattle.drawing_display.specs.declared.View.{View}
use Rattle.drawing_display.specs.declared.Durations.{Durations}
use Rattle.drawing_display.proofs.Table.{high-bytes-clear}
use Rattle.drawing_display.proofs.Loading.{in_tables}

-- byte 384y + x of what is shown
shown-at : (vram : List ℕ) (view : View) (d : Durations) (x y : ℕ) → x < 384 → y < 224
    → get_or (shown_of vram view d) (384 * y + x) 0 ≡ brightness_of vram view d x y
unfolding shown_of
shown-at vram view d x y h l =
    let p : (384 * y + x) % 384 ≡ x = omega arith in
    let q : (384 * y + x) / 384 ≡ y = omega arith in
    get_or-list 86016 0 _ (384 * y + x) (omega arith) ∙ rw (p, q)

-- the high byte of an entry
high_byte : (vram : List ℕ) (a i : ℕ) → get_or vram a 0 < 256 → i ≡ a + 1 → half_at vram a / 256 ≡ get_or vram i 0
high_byte vram a i h e = rw e (omega arith)

pub brightness-at : BrightnessAt
unfolding display_of brightness_of lamp_level_of repeats_of table_entry_of column_entry_of
brightness-at vram output view d x y e b h l =
    rw e
    (shown-at vram view d x y h l
    ∙ rw (high_byte vram (0x3DC00 + 0x200 * view.eye + 2 * (view.start - x / 4)) (0x3DC01 + 0x200 * view.eye + 2 *
    (view.start - x / 4)) (b _) (omega arith)))

-- a byte of VRAM after loading
module _ (vram : List ℕ) (l : length vram ≡ 262144) where
  loaded-is : load_table_of vram ≡ table_loaded_of vram
  unfolding load_table_of load_table_verdict_of vram_ok
  loaded-is = simp (eq-eqb _ _ l)

  size : length (table_loaded_of vram) ≡ length vram
  unfolding table_loaded_of
  size = length-list (length vram) 0 (loaded_byte_of vram)

  byte_at : (a : ℕ) → a < 262144 → get_or (table_loaded_of vram) a 0 ≡ loaded_byte_of vram a
  unfolding table_loaded_of
  byte_at a h = get_or-list (length vram) 0 (loaded_byte_of vram) a (omega arith)

  in_table : (a e b : ℕ) → 252928 ≤ a → a < 253952 → a % 512 / 2 ≡ e → a % 2 ≡ b → get_or (table_loaded_of vram) a 0 ≡ table_byte_of e b
  unfolding loaded_byte_of
  in_table a e b u h p q = byte_at a (omega arith) ∙ rw (in_tables a u h, p, q)

  entry : (eye e : ℕ) → eye < 2 → e < 256 → table_entry_of (table_loaded_of vram) eye e ≡ get_or column_table e 0
  unfolding table_entry_of table_byte_of
  entry eye e f h =
      let a : ℕ = 0x3DC00 + 0x200 * eye + 2 * e in
      rw (
        in_table (0x3DC00 + 0x200 * eye + 2 * e) e 0 (omega arith) (omega arith) (omega arith) (omega arith),
        in_table (0x3DC00 + 0x200 * eye + 2 * e + 1) e 1 (omega arith) (omega arith) (omega arith) (omega arith),
      )
      (omega (arith, high-bytes-clear e h))

  kept : (a : ℕ) → in_tables_of a ≡ false → get_or (table_loaded_of vram) a 0 ≡ get_or vram a 0
  unfolding loaded_byte_of
  kept a n =
      elim (dec_lt a 262144) [
        | yes h ↦ byte_at a h ∙ rw n
        | no h ↦
            let p : length (table_loaded_of vram) ≤ a = omega (arith, size) in
            let q : length vram ≤ a = omega arith in
            get_or-eq_default (table_loaded_of vram) 0 p ∙ sym (get_or-eq_default vram 0 q)
      ]

pub table-loaded : TableLoaded
table-loaded vram l =
    record {
      entries = λ eye e f h. rw (loaded-is vram l) (entry vram l eye e f h);
      others = λ a n. rw (loaded-is vram l) (kept vram l a n);
      size = rw (loaded-is vram l) (size vram l);
    }
