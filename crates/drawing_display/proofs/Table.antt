-- The rules of the recommended column table, at all of its entries by one test that antt computes, one entry after the other:
-- `table-mirrored`, `table-falls` and `high-bytes-clear`. Assumes nothing.
use mathlib.Core.Path.{◌∙◌, subst, sym}
use mathlib.Core.Bool.{Bool, true, false}
use mathlib.Core.List.{List, [], ◌∷◌}
use Prim.Native.Nat.{ℕ, zero, suc, ◌+◌, ◌-◌, ◌/◌, ◌<◌}
use native.Mathlib.Nat.{add-zero, zero-add, add-suc, suc-add, le_of_suc-le-suc, not-suc-le-zero}
use native.Mathlib.Omega.{arith}
use lib.Dec.{T, eqb, leb, eqb→eq, leb→le}
use borrow.Author.Tests.{lt-leb}
use lib.ListN.{length, get_or}
use Rattle.word.specs.Choose.{pick}
use Rattle.drawing_display.specs.ColumnTable.{joined_rows, printed_rows, column_table}
use Rattle.drawing_display.specs.Shown.{TableMirrored, TableFalls, HighBytesClear}

abbrev pub both : Bool → Bool → Bool
both true b = b
both false b = false

both_left : (a b : Bool) → T (both a b) → T a
both_left true b t = tt
both_left false b t = t

both_right : (a b : Bool) → T (both a b) → T b
both_right true b t = t
both_right false b t = absurd t

-- the test f passes at each entry of the list and its place, counted from i
abbrev pub every : (ℕ → ℕ → Bool) → ℕ → List ℕ → Bool
every f i [] = true
every f i (x ∷ xs) = both (f i x) (every f (suc i) xs)

from : (f : ℕ → ℕ → Bool) (xs : List ℕ) (i : ℕ) → T (every f i xs) → (k : ℕ) → k < length xs → T (f (i + k) (get_or xs k 0))
from f [] i t k h = absurd (not-suc-le-zero h)
from f (x ∷ xs) i t zero h = subst (λ (m : ℕ). T (f m x)) (sym (add-zero i)) (both_left (f i x) (every f (suc i) xs) t)
from f (x ∷ xs) i t (suc k) h =
    subst (λ (m : ℕ). T (f m (get_or xs k 0))) (suc-add i k ∙ sym (add-suc i k))
    (from f xs (suc i) (both_right (f i x) (every f (suc i) xs) t) k (le_of_suc-le-suc h))

pub at : (f : ℕ → ℕ → Bool) (xs : List ℕ) → T (every f 0 xs) → (k : ℕ) → k < length xs → T (f k (get_or xs k 0))
at f xs t k h = subst (λ (m : ℕ). T (f m (get_or xs k 0))) (zero-add k) (from f xs 0 t k h)

-- the three rules at entry i, which is x
mirrored : ℕ → ℕ → Bool
unfolding joined_rows printed_rows column_table
mirrored i x = eqb x (get_or column_table (255 - i) 0)

falls : ℕ → ℕ → Bool
unfolding joined_rows printed_rows column_table
falls i x = pick (leb 127 i) true (leb (get_or column_table (i + 1) 0) x)

clear : ℕ → ℕ → Bool
clear i x = eqb (x / 256) 0

rules : ℕ → ℕ → Bool
rules i x = both (mirrored i x) (both (falls i x) (clear i x))

all : (i : ℕ) → i < 256 → T (rules i (get_or column_table i 0))
unfolding joined_rows printed_rows column_table mirrored falls clear rules
all i h = at rules column_table tt i h

pub table-mirrored : TableMirrored
unfolding mirrored rules
table-mirrored i h =
    eqb→eq (get_or column_table i 0) (get_or column_table (255 - i) 0) (both_left (mirrored i (get_or column_table i 0)) _ (all i h))

pub high-bytes-clear : HighBytesClear
unfolding clear rules
high-bytes-clear i h =
    eqb→eq (get_or column_table i 0 / 256) 0
    (both_right (falls i (get_or column_table i 0)) _ (both_right (mirrored i (get_or column_table i 0)) _ (all i h)))

not-past : (i : ℕ) (b : Bool) → i < 127 → T (pick (leb 127 i) true b) → T b
not-past i b h t = rw (lt-leb 127 i h) at t

pub table-falls : TableFalls
unfolding falls rules
table-falls i h =
    leb→le (get_or column_table (i + 1) 0) (get_or column_table i 0)
    (not-past i _ h (both_left (falls i (get_or column_table i 0)) _ (both_right (mirrored i (get_or column_table i 0)) _ (all i (omega arith)))))
