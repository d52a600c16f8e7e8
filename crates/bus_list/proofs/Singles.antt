-- `one_by_one` and `none-refused`: a store keeps an accepted machine accepted, so that no single call of an accepted list is
-- refused, and each does what the list's access does. Assumes nothing.
use Rattle.std.specs.Prelude.{Ok}
use Prim.Native.Nat.{ℕ, zero, suc, ◌+◌}
use mathlib.Core.List.{List}
use mathlib.Core.Path.{◌≡◌, refl, sym, ◌∙◌}
use lib.Dec.{eqb}
use Rattle.word.proofs.Choices.{pick-each}
use Rattle.bus.specs.Memory.{Memory, verdict_of, load_of, store_of}
use Rattle.bus.proofs.Kept.{store-shape, shape-accepted}
use Rattle.bus_defined.specs.Defined.{undefined_of}
use Rattle.bus_calls.specs.Access.{checked_load_of, checked_store_of}
use Rattle.bus_list.specs.List.{count_of, address_at, size_at, write_at, value_at, answered_of, Made, made_of, access_of, accesses_of}
use Rattle.bus_list.specs.Calls.{list_verdict_of}
use Rattle.bus_list.specs.OneByOne.{single_of, singles_of, OneByOne, NoneRefused}
use Rattle.bus_list.proofs.Tested.{bus-passed, list_left}

module _ (k : ℕ) (m : Memory) (xs : List ℕ) (h : verdict_of m ≡ (Ok tt)) where
  access-kept : verdict_of (access_of k m xs).memory ≡ (Ok tt)
  unfolding access_of
  access-kept =
      let a = address_at xs k in
      let size = size_at xs k in
      let n = store_of m size a (value_at xs k) in
      pick-each (λ (t : Made). verdict_of t.memory ≡ (Ok tt)) (eqb (write_at xs k) 0)
      (made_of m (answered_of xs k (load_of m size a) (undefined_of m size a)))
      (made_of n xs) h
      (shape-accepted m n (store-shape m size a (value_at xs k)) h)

  single-access : single_of k m xs ≡ access_of k m xs
  unfolding single_of access_of checked_load_of checked_store_of
  single-access = rw h

singles-accesses : (n k : ℕ) (m : Memory) (xs : List ℕ) → verdict_of m ≡ (Ok tt) → singles_of n k m xs ≡ accesses_of n k m xs
unfolding singles_of accesses_of
singles-accesses zero k m xs h = refl
singles-accesses (suc n) k m xs h =
    rw (single-access k m xs h)
    (singles-accesses n (k + 1) (access_of k m xs).memory (access_of k m xs).list (access-kept k m xs h))

accesses-kept : (n k : ℕ) (m : Memory) (xs : List ℕ) → verdict_of m ≡ (Ok tt) → verdict_of (accesses_of n k m xs).memory ≡ (Ok tt)
unfolding accesses_of
accesses-kept zero k m xs h = h
accesses-kept (suc n) k m xs h =
    accesses-kept n (k + 1) (access_of k m xs).memory (access_of k m xs).list (access-kept k m xs h)

pub one_by_one : OneByOne
one_by_one m xs e =
    sym (list_left m xs (list_verdict_of m xs) refl e (accesses_of (count_of xs) 0 m xs) refl)
    ∙ sym (singles-accesses (count_of xs) 0 m xs (bus-passed m xs (list_verdict_of m xs) refl e))

pub none-refused : NoneRefused
none-refused m xs e n =
    let h = bus-passed m xs (list_verdict_of m xs) refl e in
    rw (singles-accesses n 0 m xs h) (accesses-kept n 0 m xs h)
