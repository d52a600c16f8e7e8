-- The contents as the code lays them: one entry for each kind, and none for a body of length 0.
use Rattle.std.specs.Prelude.{ℕ, List, [], eqb}
use Rattle.word.specs.Choose.{pick}
use Rattle.saved_layout.specs.Layout.{part_of, hardware_bytes, contents_entry_of}
use Rattle.saved_layout.specs.declared.Form.{Form}
use Rattle.saved_layout.specs.declared.Form.TheVariants.{One, Two}

abbrev pub last_bytes_of : Form → ℕ
last_bytes_of One = 0
last_bytes_of Two = hardware_bytes

abbrev pub laid_entry_of : (form : Form) (kind offset size sum : ℕ) → List ℕ
laid_entry_of form kind offset size sum = pick (eqb size 0) [] (contents_entry_of form (part_of kind size) offset sum)
