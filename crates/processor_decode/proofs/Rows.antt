-- The row of an opcode in each part of the list by opcode.
use Rattle.std.specs.Prelude.{Some, None}
use Prim.Native.Nat.{ℕ, ◌+◌, ◌-◌, ◌≤◌, ◌<◌, ◌/◌}
use mathlib.Core.Path.{◌≡◌, sym, ◌∙◌, ap}
use mathlib.Core.List.{◌++◌}
use native.Mathlib.Omega.{arith}
use lib.ListN.{get_or, get_or-append, get_or-eq_default, get_or-replicate}
use lib.Seq.{get_or-append-add}
use Rattle.processor_decode.specs.Format.{branch}
use Rattle.processor_decode.specs.Opcode.{decode_of, short_rows, branch_rows, long_rows}
use Rattle.processor_decode.specs.declared.Instruction.TheVariants.{Illegal}
use Rattle.processor_decode.specs.SubOpcode.{sub_rows, extended_of}

pub short_row : (f s : ℕ) → f / 1024 < 32 → decode_of f s ≡ get_or (short_rows f) (f / 1024) None
unfolding decode_of short_rows
short_row f s h = get_or-append (short_rows f) (branch_rows f ++ long_rows f s) None (f / 1024) h

-- past the first part
rest-row : (f s k : ℕ) → 32 + k ≡ f / 1024 → decode_of f s ≡ get_or (branch_rows f ++ long_rows f s) k None
unfolding decode_of short_rows
rest-row f s k e =
    ap (λ (i : ℕ). get_or (short_rows f ++ (branch_rows f ++ long_rows f s)) i None) (sym e)
    ∙ get_or-append-add (short_rows f) (branch_rows f ++ long_rows f s) k None

branch-at : (f k : ℕ) → k < 8 → get_or (branch_rows f) k None ≡ branch f
unfolding branch_rows
branch-at f k h = get_or-replicate 8 k (branch f) None h

pub branch_row : (f s : ℕ) → 32 ≤ f / 1024 → f / 1024 < 40 → decode_of f s ≡ branch f
unfolding branch_rows
branch_row f s h k =
    rest-row f s (f / 1024 - 32) (omega arith)
    ∙ get_or-append (branch_rows f) (long_rows f s) None (f / 1024 - 32) (omega arith)
    ∙ branch-at f (f / 1024 - 32) (omega arith)

pub long-row : (f s : ℕ) → 40 ≤ f / 1024 → decode_of f s ≡ get_or (long_rows f s) (f / 1024 - 40) None
unfolding branch_rows
long-row f s h =
    rest-row f s (8 + (f / 1024 - 40)) (omega arith)
    ∙ get_or-append-add (branch_rows f) (long_rows f s) (f / 1024 - 40) None

-- a sub-opcode past the listed ones
pub unlisted : (f s : ℕ) → 13 ≤ s / 1024 → extended_of f s ≡ Some Illegal
unfolding sub_rows extended_of
unlisted f s h = get_or-eq_default (sub_rows f) (Some Illegal) h
