-- What the C boundary gives for the bytes that a pixel answers to (include/vb.h): how many there are, the
-- refusal's number, or VB_MISUSE for a pixel outside the image, for which the specification has no number.
use Rattle.refusal.specs.Number.{number_of}
use Rattle.std.specs.Prelude.{ℕ, Option, Some, None, Result, Ok, Err}
use Rattle.refusal.specs.declared.Refusal.{Refusal}
use Rattle.capi_drawing.specs.declared.pixel_bytes.VbListed.{VbListed}

abbrev pub listed_at : Result (Option ℕ) Refusal → VbListed
listed_at (Ok (Some n)) = record { refusal = 0; count = n }
listed_at (Ok None) = record { refusal = 255; count = 0 }
listed_at (Err n) = record { refusal = number_of n; count = 0 }
