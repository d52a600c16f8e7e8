-- Whether the records of a file, its kinds 1 and 2, are ones that a writer makes.
use Rattle.std.specs.Prelude.{ℕ, ◌+◌, Bool, List, take, drop}
use Rattle.processor.specs.Acceptance.{both}
use Rattle.saved_layout.specs.Layout.{processor_bytes, drawing_bytes}
use Rattle.saved_kinds.specs.Kinds.{processor_body_ok, drawing_body_ok}

-- kinds 1 and 2 that start at byte `at` of a file
abbrev pub records_ok : ℕ → List ℕ → Bool
records_ok at file =
    both (processor_body_ok (take processor_bytes (drop at file)))
    (drawing_body_ok (take drawing_bytes (drop (at + processor_bytes) file)))
