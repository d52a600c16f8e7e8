-- What the C boundary gives for a list of accesses (include/vb.h): the papers' refusal number, or VB_MISUSE, after 1 to
-- 5 and before 11, where the list's length is not a multiple of 20; memory, registers and the list afterwards.
use Rattle.std.specs.Prelude.{ℕ, ◌%◌, List, eqb, length}
use Rattle.word.specs.Choose.{pick}
use Rattle.refusal.specs.Number.{verdict_number}
use Rattle.bus.specs.Memory.{Memory, verdict_of}
use Rattle.bus_list.specs.List.{Made, made_of}
use Rattle.bus_list.specs.Calls.{list_verdict_of, access_list_of}
use Rattle.capi_bus.specs.Misuse.{misuse_number}

unfoldable pub list_number_at : Memory → List ℕ → ℕ
list_number_at m xs =
    pick (eqb (length xs % 20) 0) (verdict_number (list_verdict_of m xs)) (misuse_number (verdict_of m))

unfoldable pub list_left_at : Memory → List ℕ → Made
list_left_at m xs = pick (eqb (length xs % 20) 0) (access_list_of m xs) (made_of m xs)
