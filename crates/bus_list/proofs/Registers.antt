-- Accesses keep the number of device registers. Assumes nothing.
use Prim.Native.Nat.{ℕ, zero, suc, ◌+◌}
use mathlib.Core.Bool.{Bool, true, false}
use mathlib.Core.List.{List}
use mathlib.Core.Path.{◌≡◌, refl, ◌∙◌}
use lib.Dec.{eqb}
use lib.ListN.{length}
use Rattle.word.specs.Choose.{pick}
use Rattle.bus.specs.Memory.{Memory, load_of, store_of}
use Rattle.bus.proofs.Kept.{store-shape}
use Rattle.bus_defined.specs.Defined.{undefined_of}
use Rattle.bus_list.specs.List.{address_at, size_at, write_at, value_at, answered_of, made_of, access_of, accesses_of}

made-registers : (b : Bool) (k : ℕ) (m n : Memory) (xs ys : List ℕ) → length m.regs ≡ k → length n.regs ≡ k
    → length (pick b (made_of m xs) (made_of n ys)).memory.regs ≡ k
made-registers true k m n xs ys p q = p
made-registers false k m n xs ys p q = q

access-registers : (k : ℕ) (m : Memory) (xs : List ℕ) → length (access_of k m xs).memory.regs ≡ length m.regs
unfolding access_of
access-registers k m xs =
    let a = address_at xs k in
    let size = size_at xs k in
    made-registers (eqb (write_at xs k) 0) (length m.regs) m (store_of m size a (value_at xs k)) (answered_of xs k
    (load_of m size a) (undefined_of m size a)) xs refl
    (store-shape m size a (value_at xs k)).same_regs

pub accesses-registers : (n k : ℕ) (m : Memory) (xs : List ℕ) → length (accesses_of n k m xs).memory.regs ≡ length m.regs
unfolding accesses_of
accesses-registers zero k m xs = refl
accesses-registers (suc n) k m xs =
    accesses-registers n (k + 1) (access_of k m xs).memory (access_of k m xs).list ∙ access-registers k m xs
