-- A whole file (paper 02, W1 and W12), and what stands in one: the bytes of the processor, the drawing registers, WRAM,
-- VRAM, pak RAM and the request lines with the timer, each at the place that the form and the pak RAM's length give it.
use Rattle.std.specs.Prelude.{ℕ, Bool, List, [], ◌∷◌, ◌++◌, ◌≡◌, length, take, drop, replicate}
use Rattle.saved_bytes.specs.Numbers.{bytes_of, halves_from, same_of}
use Rattle.saved_bytes.specs.Parts.{body_sum_of}
use Rattle.saved_layout.specs.Layout.{processor_bytes, drawing_bytes, wram_bytes, vram_bytes, hardware_bytes}
use Rattle.saved_layout.specs.Layout.{contents_of, body_place_of, last_place_of}
use Rattle.saved_layout.specs.declared.Form.{Form}
use Rattle.saved_layout.specs.declared.Form.TheVariants.{One, Two}

-- the bodies of kinds 1 to 6, as bytes
pub record Bodies : Type 0 where
  pub processor : List ℕ
  pub drawing : List ℕ
  pub wram : List ℕ
  pub vram : List ℕ
  pub pak : List ℕ
  pub hardware : List ℕ

abbrev pub bodies_of : (processor drawing wram vram pak hardware : List ℕ) → Bodies
bodies_of processor drawing wram vram pak hardware =
    record { processor = processor; drawing = drawing; wram = wram; vram = vram; pak = pak; hardware = hardware }

-- the sums of kinds 1 to 6
unfoldable pub sums_of : Bodies → List ℕ
sums_of b =
    body_sum_of b.processor
    ∷ body_sum_of b.drawing
    ∷ body_sum_of b.wram
    ∷ body_sum_of b.vram
    ∷ body_sum_of b.pak
    ∷ body_sum_of b.hardware
    ∷ []

-- kind 6 is left out of form 1
abbrev pub last_of : Form → List ℕ → List ℕ
last_of One hardware = []
last_of Two hardware = hardware

-- the bodies in kind order, no gaps
unfoldable pub joined_of : Form → Bodies → List ℕ
joined_of form b =
    b.processor ++ (b.drawing ++ (b.wram ++ (b.vram ++ (b.pak ++ last_of form b.hardware))))

-- the contents, then the bodies
unfoldable pub file_of : Form → Bodies → List ℕ
file_of form b = bytes_of (contents_of form (length b.pak) (sums_of b)) ++ joined_of form b

-- lines and timer at reset
abbrev pub hardware_reset : List ℕ
hardware_reset = replicate hardware_bytes 0

-- kind 6 of a file; a file in form 1 holds lines and timer at reset
abbrev pub hardware_bytes_in : Form → ℕ → List ℕ → List ℕ
hardware_bytes_in One pak file = hardware_reset
hardware_bytes_in Two pak file = take hardware_bytes (drop (last_place_of pak) file)

-- what stands in a file, by the form and the pak RAM's length
unfoldable pub bodies_in : Form → ℕ → List ℕ → Bodies
bodies_in form pak file =
    bodies_of (take processor_bytes (drop (body_place_of form pak 0) file))
    (take drawing_bytes (drop (body_place_of form pak 1) file))
    (take wram_bytes (drop (body_place_of form pak 2) file))
    (take vram_bytes (drop (body_place_of form pak 3) file))
    (take pak (drop (body_place_of form pak 4) file))
    (hardware_bytes_in form pak file)

-- the contents that the bodies of a file ask for
unfoldable pub contents_in : Form → ℕ → List ℕ → List ℕ
contents_in form pak file = contents_of form pak (sums_of (bodies_in form pak file))

-- whether everything before the first body is what the form, the pak RAM's length and, in form 2, the bodies' sums make
-- it
unfoldable pub contents_ok : Form → ℕ → List ℕ → Bool
contents_ok form pak file = same_of (halves_from file 0 (length (contents_in form pak file))) (contents_in form pak file)

-- the lengths of the bodies
pub record SizedBodies (b : Bodies) : Type 0 where
  pub processor : length b.processor ≡ processor_bytes
  pub drawing : length b.drawing ≡ drawing_bytes
  pub wram : length b.wram ≡ wram_bytes
  pub vram : length b.vram ≡ vram_bytes
  pub hardware : length b.hardware ≡ hardware_bytes

-- what a form can hold: form 1 has lines and timer at reset
abbrev pub HeldBy : Form → Bodies → Type 0
HeldBy One b = b.hardware ≡ hardware_reset
HeldBy Two b = Unit
