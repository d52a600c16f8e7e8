-- A list against single calls (paper 02, W7: "One call over the list leaves the same memory, registers and answers as
-- the accesses made one by one, in order"): the statements. Their proofs are `one_by_one` and `none-refused` in
-- proofs/Singles.
use Rattle.std.specs.Prelude.{ℕ, zero, suc, ◌+◌, List, ◌≡◌, eqb, Result, Ok, Err}
use Rattle.word.specs.Choose.{pick}
use Rattle.bus.specs.Memory.{Memory, verdict_of, store_of}
use Rattle.bus_calls.specs.Access.{checked_load_of, checked_store_of}
use Rattle.bus_calls.specs.declared.Reading.{Reading}
use Rattle.refusal.specs.declared.Refusal.{Refusal}
use Rattle.bus_list.specs.List.{count_of, address_at, size_at, write_at, value_at, answered_of, Made, made_of}
use Rattle.bus_list.specs.Calls.{list_verdict_of, access_list_of}

-- the list with the answer of a load of the bus in access k; a refused load would answer nothing
abbrev pub answered_by : Result Reading Refusal → List ℕ → ℕ → List ℕ
answered_by (Ok r) xs k = answered_of xs k r.value r.undefined
answered_by (Err n) xs k = xs

-- access k, made by the bus's call for its size, which tests refusals 1 to 5 by itself
unfoldable pub single_of : ℕ → Memory → List ℕ → Made
single_of k m xs =
    let a = address_at xs k in
    let size = size_at xs k in
    pick (eqb (write_at xs k) 0) (made_of m (answered_by (checked_load_of m size a) xs k))
    (made_of (checked_store_of m (store_of m size a (value_at xs k))) xs)

-- n such calls, from access k on, each given the memory and registers that the one before left
unfoldable pub singles_of : ℕ → ℕ → Memory → List ℕ → Made
singles_of zero k m xs = made_of m xs
singles_of (suc n) k m xs =
    let t = single_of k m xs in
    singles_of n (k + 1) t.memory t.list

-- an accepted list leaves what its accesses leave one by one
abbrev pub OneByOne : Type 0
OneByOne =
    (m : Memory) (xs : List ℕ) → list_verdict_of m xs ≡ (Ok tt) → access_list_of m xs ≡ singles_of (count_of xs) 0 m xs

-- and none of those is refused: the machine that each is given passes 1 to 5
abbrev pub NoneRefused : Type 0
NoneRefused =
    (m : Memory) (xs : List ℕ) → list_verdict_of m xs ≡ (Ok tt)
    → (n : ℕ) → verdict_of (singles_of n 0 m xs).memory ≡ (Ok tt)
