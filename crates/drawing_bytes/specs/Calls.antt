-- What the call that lists a pixel's bytes answers and leaves, for every input (paper 01, "The bytes a pixel answers
-- to" and "Refusal numbers"). The list is demand 3's own, `pixel_bytes_of`. The specification has no such
-- call, so a pixel that no image has gets no refusal number; refusals 3 and 5 come before it. Refused, nothing changes.
use Rattle.std.specs.Prelude.{ℕ, Bool, true, false, ◌&&◌, List, ◌++◌, length, take, drop, ltb, Option, Some, None, Result, Ok, Err}
use Rattle.refusal.specs.Number.{unless, Verdict}
use Rattle.refusal.specs.declared.Refusal.{Refusal}
use Rattle.refusal.specs.declared.Refusal.TheVariants.{VramLength, State}
use Rattle.bus.specs.Refusal.{vram_ok}
use Rattle.bus.specs.Registers.{drawing_ok}
use Rattle.drawing_laws.specs.PixelBytes.{pixel_bytes_of}

-- whether an image has the pixel: two eyes, 384 columns, 224 rows
unfoldable pub in_image_of : ℕ → ℕ → ℕ → Bool
in_image_of eye x y = ltb eye 2 && (ltb x 384 && ltb y 224)

-- the call's refusals: 3, 5
unfoldable pub bytes_verdict_of : List ℕ → List ℕ → Verdict
bytes_verdict_of vram regs = unless (vram_ok (length vram)) VramLength (unless (drawing_ok regs) State (Ok tt))

-- an answer by the verdict and by whether an image has the pixel: how many addresses the list has, or that no image has it
abbrev pub answer_of : Verdict → Bool → ℕ → Result (Option ℕ) Refusal
answer_of (Err n) inside count = Err n
answer_of (Ok tt) false count = Ok None
answer_of (Ok tt) true count = Ok (Some count)

-- the answer: how many addresses demand 3's list has
unfoldable pub listed_of : (vram regs : List ℕ) (eye x y : ℕ) → Result (Option ℕ) Refusal
listed_of vram regs eye x y =
    answer_of (bytes_verdict_of vram regs) (in_image_of eye x y) (length (pixel_bytes_of vram regs eye x y))

-- an output buffer whose first words are a list, as far as it reaches; the words after the list are kept
abbrev pub filled_of : List ℕ → List ℕ → List ℕ
filled_of list output = take (length output) list ++ drop (length list) output

-- the output buffer by the answer: filled where there is a count, else as it was
abbrev pub when_listed : Result (Option ℕ) Refusal → List ℕ → List ℕ → List ℕ
when_listed (Ok (Some n)) output filled = filled
when_listed (Ok None) output filled = output
when_listed (Err n) output filled = output

-- the output buffer after the call
unfoldable pub output_of : (vram regs : List ℕ) (eye x y : ℕ) (output : List ℕ) → List ℕ
output_of vram regs eye x y output =
    when_listed (listed_of vram regs eye x y) output (filled_of (pixel_bytes_of vram regs eye x y) output)
