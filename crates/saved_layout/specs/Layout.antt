-- The layout of a saved state. Paper 02, W1, form 1: "a halfword count, then per body its kind (halfword), offset from
-- the file's start and length in bytes (words), then the bodies in kind order, no gaps". W12, form 2: it "begins with
-- halfwords 0 and 2, then the count; each contents entry ends with one word more, the sum of the body's bytes", and
-- kind 6 follows the others. All of it goes by the form and by the pak RAM's length. The contents are halfwords.
use Rattle.std.specs.Prelude.{ℕ, ◌+◌, ◌-◌, ◌*◌, List, [], ◌∷◌, ◌++◌, eqb, length, get_or, take}
use Rattle.word.specs.Choose.{pick}
use Rattle.saved_bytes.specs.Numbers.{halves_of}
use Rattle.saved_layout.specs.declared.Form.{Form}
use Rattle.saved_layout.specs.declared.Form.TheVariants.{One, Two}

-- the form that a file is moved to
abbrev pub other_of : Form → Form
other_of One = Two
other_of Two = One

-- what the contents say of a body, its place and its sum aside: its kind and its length in bytes
pub record Part : Type 0 where
  pub kind : ℕ
  pub size : ℕ

abbrev pub part_of : ℕ → ℕ → Part
part_of kind size = record { kind = kind; size = size }

-- the lengths of the bodies but pak RAM's: kind 1 is 43 words, kind 2 is 13 halfwords, kind 6 is 4
abbrev pub processor_bytes : ℕ
processor_bytes = 172

abbrev pub drawing_bytes : ℕ
drawing_bytes = 26

abbrev pub wram_bytes : ℕ
wram_bytes = 65536

abbrev pub vram_bytes : ℕ
vram_bytes = 262144

abbrev pub hardware_bytes : ℕ
hardware_bytes = 8

-- kind 6, the request lines and the timer, is form 2's alone
abbrev pub last_parts_of : Form → List Part
last_parts_of One = []
last_parts_of Two = part_of 6 hardware_bytes ∷ []

-- the bodies of a file, by its form and its pak RAM's length: kinds 1 processor, 2 drawing, 3 WRAM, 4 VRAM, 5 pak RAM,
-- "left out when empty", and 6
abbrev pub parts_of : Form → ℕ → List Part
parts_of form pak =
    part_of 1 processor_bytes
    ∷ part_of 2 drawing_bytes
    ∷ part_of 3 wram_bytes
    ∷ part_of 4 vram_bytes
    ∷ (pick (eqb pak 0) [] (part_of 5 pak ∷ []) ++ last_parts_of form)

-- the halfwords before the count
abbrev pub leading_of : Form → List ℕ
leading_of One = []
leading_of Two = 0 ∷ 2 ∷ []

-- the entry of a body that starts at byte `at`: kind, offset, length, and in form 2 the sum of its bytes
abbrev pub contents_entry_of : Form → Part → ℕ → ℕ → List ℕ
contents_entry_of One part at sum = part.kind ∷ halves_of (at ∷ part.size ∷ [])
contents_entry_of Two part at sum = part.kind ∷ halves_of (at ∷ part.size ∷ sum ∷ [])

-- how many halfwords an entry has
abbrev pub entry_halves_of : Form → ℕ
entry_halves_of One = 5
entry_halves_of Two = 7

-- and bytes
abbrev pub entry_bytes_of : Form → ℕ
entry_bytes_of form = 2 * entry_halves_of form

-- the sum of the body of a kind, among those of kinds 1 to 6
abbrev pub sum_at : List ℕ → ℕ → ℕ
sum_at sums kind = get_or sums (kind - 1) 0

abbrev pub entries_from : Form → ℕ → List Part → List ℕ → List ℕ
entries_from form at [] sums = []
entries_from form at (part ∷ parts) sums =
    contents_entry_of form part at (sum_at sums part.kind) ++ entries_from form (at + part.size) parts sums

-- where the contents end, and the first body starts, with n bodies
abbrev pub contents_end_of : Form → ℕ → ℕ
contents_end_of form n = 2 * (length (leading_of form) + 1 + entry_halves_of form * n)

-- where the sum of entry i of form 2 stands, counted from 0: behind its kind, offset and length, all that form 1 has
abbrev pub sum_place_of : ℕ → ℕ
sum_place_of i = contents_end_of Two i + entry_bytes_of One

-- the contents, as halfwords, by the sums of the bodies of kinds 1 to 6
unfoldable pub contents_of : Form → ℕ → List ℕ → List ℕ
contents_of form pak sums =
    leading_of form
    ++ (length (parts_of form pak)
    ∷ entries_from form (contents_end_of form (length (parts_of form pak))) (parts_of form pak) sums)

-- where bodies that start at byte `at` end
abbrev pub end_from : ℕ → List Part → ℕ
end_from at [] = at
end_from at (part ∷ parts) = end_from (at + part.size) parts

-- where body i starts, counted from 0: each where the one before it ends
unfoldable pub body_place_of : Form → ℕ → ℕ → ℕ
body_place_of form pak i = end_from (contents_end_of form (length (parts_of form pak))) (take i (parts_of form pak))

-- where kind 6 starts, the last body of form 2
unfoldable pub last_place_of : ℕ → ℕ
last_place_of pak = body_place_of Two pak (length (parts_of Two pak) - 1)

-- the length of a file
unfoldable pub file_length_of : Form → ℕ → ℕ
file_length_of form pak = end_from (contents_end_of form (length (parts_of form pak))) (parts_of form pak)
