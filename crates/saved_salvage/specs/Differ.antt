-- "whether, sums of replaced bodies aside, any byte before the first body differs in the output" (paper 02, W13): the
-- bytes before the entries, then each entry, whose last word is its sum.
use Rattle.std.specs.Prelude.{ℕ, ◌+◌, Bool, true, false, List, [], ◌∷◌, ◌++◌, eqb, take, drop}
use Rattle.word.specs.Choose.{pick}
use Rattle.saved_bytes.specs.Numbers.{same_of}
use Rattle.saved_layout.specs.Layout.{entry_bytes_of, contents_end_of}
use Rattle.saved_layout.specs.declared.Form.TheVariants.{One, Two}
use Rattle.saved_salvage.specs.declared.Kept.{Kept}

abbrev pub either : Bool → Bool → Bool
either a b = pick a true b

-- whether `size` bytes from byte `at` on differ
unfoldable pub part_differs : ℕ → ℕ → List ℕ → List ℕ → Bool
part_differs at size file output = pick (same_of (take size (drop at file)) (take size (drop at output))) false true

-- an entry, its sum left out where its body is replaced: what is left is an entry of form 1
unfoldable pub entry_differs : ℕ → Bool → List ℕ → List ℕ → Bool
entry_differs at kept file output =
    pick kept (part_differs at (entry_bytes_of Two) file output) (part_differs at (entry_bytes_of One) file output)

-- the entries from byte `at` on
abbrev pub entries_differ : ℕ → List Bool → List ℕ → List ℕ → Bool
entries_differ at [] file output = false
entries_differ at (kept ∷ more) file output =
    either (entry_differs at kept file output) (entries_differ (at + entry_bytes_of Two) more file output)

-- which of the bodies that have an entry are kept
abbrev pub entries_kept : ℕ → Kept → List Bool
entries_kept pak k =
    k.processor ∷ k.drawing ∷ k.wram ∷ k.vram ∷ (pick (eqb pak 0) [] (k.pak ∷ []) ++ (k.hardware ∷ []))

unfoldable pub contents_differ : ℕ → Kept → List ℕ → List ℕ → Bool
contents_differ pak k file output =
    let start = contents_end_of Two 0 in
    either (part_differs 0 start file output) (entries_differ start (entries_kept pak k) file output)
