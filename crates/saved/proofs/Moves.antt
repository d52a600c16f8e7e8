-- `move-writes`. Assumes nothing.
use Prim.Native.Nat.{ℕ}
use mathlib.Core.Bool.{true}
use mathlib.Core.List.{List}
use mathlib.Core.Path.{◌≡◌, sym, ap, ◌∙◌}
use lib.ListN.{length}
use Rattle.bus.specs.Memory.{Memory}
use Rattle.saved_layout.specs.Layout.{other_of, file_length_of}
use Rattle.saved_layout.specs.File.{file_of, bodies_in}
use Rattle.saved_kinds.specs.Fits.{form_of, pak_length_of}
use Rattle.saved_kinds.specs.Kinds.{file_ok}
use Rattle.saved_move.specs.Move.{pak_in, held_in}
use Rattle.saved_move.proofs.Returning.{all-passed, lengths-passed, left, fit-in}
use Rattle.saved.specs.Calls.{state_file_of, held_bodies_of, held_processor_of, held_memory_of}
use Rattle.saved.specs.Exactly.{MoveWrites}
use Rattle.saved.proofs.Made.{bodies-are}

module _ (file : List ℕ) (n : Memory) (e : length n.pak ≡ pak_length_of (form_of file) (length file)) where
  held_same : bodies_in (form_of file) (length n.pak) file ≡ held_in file
  unfolding held_in pak_in
  held_same = rw e

  due : length file ≡ file_length_of (form_of file) (pak_in file) → length file ≡ file_length_of (form_of file) (length n.pak)
  unfolding pak_in
  due w = rw e w

  ok_same : file_ok (form_of file) (pak_in file) file ≡ true → file_ok (form_of file) (length n.pak) file ≡ true
  unfolding pak_in
  ok_same o = rw e o

pub move-writes : MoveWrites
unfolding state_file_of held_processor_of held_memory_of held_bodies_of
move-writes file output n bytes accepted e =
    let a = all-passed file output accepted in
    let f = fit-in file (lengths-passed file output accepted).0 in
    left file output accepted
    ∙ ap (file_of (other_of (form_of file)))
    (sym (held_same file n e)
    ∙ sym (bodies-are (form_of file) (length n.pak) file (due file n e (sym f.1)) bytes (ok_same file n e a.1.0) n.rom))
