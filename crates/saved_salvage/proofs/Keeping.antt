-- Which bodies are kept, from what the code found. Assumes nothing.
use Prim.Native.Nat.{ℕ, ◌<◌}
use native.Mathlib.Omega.{arith}
use mathlib.Core.Bool.{Bool, true}
use mathlib.Core.List.{List}
use mathlib.Core.Path.{◌≡◌, ◌∙◌}
use borrow.Author.Tests.{eq-eqb, ne_eqb}
use lib.Dec.{eqb}
use lib.ListN.{get_or}
use Rattle.word.specs.LittleEndian.{word_at}
use Rattle.processor.specs.Acceptance.{both}
use Rattle.saved_bytes.specs.Parts.{body_sum_of}
use Rattle.saved_layout.specs.File.{Bodies, sums_of, bodies_in}
use Rattle.saved_layout.specs.declared.Form.TheVariants.{Two}
use Rattle.saved_kinds.specs.Kinds.{processor_body_ok, drawing_body_ok, hardware_body_ok}
use Rattle.saved_salvage.specs.Keep.{keeps_of, kept_from, kept_in}

-- one body
pub keeps-is : {r : Bool} {stored sum : ℕ} {made : Bool} (word : ℕ) (body : List ℕ) (m : Bool)
    → r ≡ both (eqb stored sum) made → stored ≡ word → sum ≡ body_sum_of body → made ≡ m → r ≡ keeps_of word body m
keeps-is word body m e f g h = e ∙ rw (f, g, h)

-- the sums by kind
module _ (xs : List ℕ) (b : Bodies) (e : xs ≡ sums_of b) where
  pub sum-1 : get_or xs 0 0 ≡ body_sum_of b.processor
  unfolding sums_of
  sum-1 = rw e

  pub sum-2 : get_or xs 1 0 ≡ body_sum_of b.drawing
  unfolding sums_of
  sum-2 = rw e

  pub sum-3 : get_or xs 2 0 ≡ body_sum_of b.wram
  unfolding sums_of
  sum-3 = rw e

  pub sum-4 : get_or xs 3 0 ≡ body_sum_of b.vram
  unfolding sums_of
  sum-4 = rw e

  pub sum-5 : get_or xs 4 0 ≡ body_sum_of b.pak
  unfolding sums_of
  sum-5 = rw e

  pub sum-6 : get_or xs 5 0 ≡ body_sum_of b.hardware
  unfolding sums_of
  sum-6 = rw e

-- all of them
module _ (pak : ℕ) (file : List ℕ) {k1 k2 k3 k4 : Bool}
    (e1 : k1 ≡ keeps_of (word_at file 16) (bodies_in Two pak file).processor (processor_body_ok (bodies_in Two pak file).processor))
    (e2 : k2 ≡ keeps_of (word_at file 30) (bodies_in Two pak file).drawing (drawing_body_ok (bodies_in Two pak file).drawing))
    (e3 : k3 ≡ keeps_of (word_at file 44) (bodies_in Two pak file).wram true)
    (e4 : k4 ≡ keeps_of (word_at file 58) (bodies_in Two pak file).vram true) where
  pub kept-empty : {k6 : Bool} → pak ≡ 0 → k6 ≡ keeps_of (word_at file 72) (bodies_in Two pak file).hardware (hardware_body_ok (bodies_in Two pak file).hardware)
      → record { processor = k1; drawing = k2; wram = k3; vram = k4; pak = true; hardware = k6 } ≡ kept_in pak file
  unfolding kept_in kept_from
  kept-empty z e6 = simp (eq-eqb pak 0 z) (rw (e1, e2, e3, e4, e6))

  pub kept-some : {k5 k6 : Bool} → 0 < pak → k5 ≡ keeps_of (word_at file 72) (bodies_in Two pak file).pak true
      → k6 ≡ keeps_of (word_at file 86) (bodies_in Two pak file).hardware (hardware_body_ok (bodies_in Two pak file).hardware)
      → record { processor = k1; drawing = k2; wram = k3; vram = k4; pak = k5; hardware = k6 } ≡ kept_in pak file
  unfolding kept_in kept_from
  kept-some some e5 e6 = simp (ne_eqb pak 0 (λ z. omega arith)) (rw (e1, e2, e3, e4, e5, e6))
