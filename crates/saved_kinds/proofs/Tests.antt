-- The tests of bodies and of a file, taken apart. Assumes nothing.
use Prim.Native.Nat.{ℕ, ◌+◌, ◌<◌, ◌≤◌}
use mathlib.Core.Bool.{true, false}
use mathlib.Core.List.{List}
use mathlib.Core.Path.{◌≡◌, refl, sym, ◌∙◌}
use borrow.Author.Tests.{le-leb, lt-leb}
use lib.ListN.{get_or}
use Rattle.processor.specs.Acceptance.{both, state_ok}
use Rattle.bus_timer.specs.Ports.{control_bits_of, hardware_ok}
use Rattle.saved_bytes.specs.Numbers.{words_from}
use Rattle.saved_layout.specs.Layout.{body_place_of}
use Rattle.saved_layout.specs.File.{bodies_in, contents_ok, hardware_reset}
use Rattle.saved_layout.specs.declared.Form.{Form}
use Rattle.saved_layout.specs.declared.Form.TheVariants.{One}
use Rattle.saved_layout.proofs.Written.{processor-part, drawing-part}
use Rattle.saved_kinds.specs.Kinds.{general_from, rest_from, system_from, words_ok, processor_body_ok, drawing_body_ok}
use Rattle.saved_kinds.specs.Kinds.{hardware_from, hardware_body_ok, bodies_ok, file_ok}
use Rattle.saved_kinds.specs.inner.Records.{records_ok}

module _ (body general rest : List ℕ) (g : general ≡ words_from body 0 32) (r : rest ≡ words_from body 128 11) where
  opened : words_ok general rest ≡ processor_body_ok body
  unfolding processor_body_ok general_from rest_from
  opened = rw (g, r)

  mode-opened : 2 < get_or rest 10 0 → false ≡ words_ok general rest
  unfolding words_ok
  mode-opened h = simp (lt-leb (get_or rest 10 0) 2 h)

  pub mode-none : 2 < get_or rest 10 0 → false ≡ processor_body_ok body
  mode-none h = mode-opened h ∙ opened

  state-opened : get_or rest 10 0 ≤ 2 → state_ok general (system_from rest) (get_or rest 0 0) (get_or rest 6 0) ≡ words_ok general rest
  unfolding words_ok
  state-opened h = simp (le-leb (get_or rest 10 0) 2 h)

  pub state-decides : get_or rest 10 0 ≤ 2 → state_ok general (system_from rest) (get_or rest 0 0) (get_or rest 6 0) ≡ processor_body_ok body
  state-decides h = state-opened h ∙ opened

-- lines and timer at reset can be made
pub reset-ok : hardware_body_ok hardware_reset ≡ true
unfolding hardware_body_ok hardware_from hardware_ok control_bits_of
reset-ok = refl

-- the records of a file where they stand
module _ (form : Form) (p at : ℕ) (file : List ℕ) (e : at ≡ body_place_of form p 0) where
  records-are : records_ok at file ≡ both (processor_body_ok (bodies_in form p file).processor) (drawing_body_ok (bodies_in form p file).drawing)
  records-are =
      rw (processor-part form p at file e at 172 refl refl, drawing-part form p at file e (at + 172) 26 refl refl)

  pub file-contents : contents_ok form p file ≡ false → false ≡ file_ok form p file
  unfolding file_ok
  file-contents c = rw c

  module _ (c : contents_ok form p file ≡ true) where
    pub file-records : records_ok at file ≡ false → false ≡ file_ok form p file
    unfolding file_ok bodies_ok
    file-records r = rw (c, sym records-are ∙ r)

    pub file-last : records_ok at file ≡ true → hardware_body_ok (bodies_in form p file).hardware ≡ file_ok form p file
    unfolding file_ok bodies_ok
    file-last r = rw (c, sym records-are ∙ r)

pub one-hardware : (p : ℕ) (file : List ℕ) → true ≡ hardware_body_ok (bodies_in One p file).hardware
unfolding bodies_in
one-hardware p file = sym reset-ok
