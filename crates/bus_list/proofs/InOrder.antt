-- Accesses in order: in the middle of a list what is left, made from here, is what all of
-- them leave from the start. Assumes nothing.
use Prim.Native.Nat.{ℕ, suc, ◌+◌, ◌-◌, ◌<◌, ◌≤◌}
use mathlib.Core.Bool.{true}
use mathlib.Core.List.{List}
use mathlib.Core.Path.{◌≡◌, refl, sym}
use native.Mathlib.Omega.{arith}
use lib.Dec.{eqb}
use Rattle.word.proofs.Choices.{pick-each}
use Rattle.bus.specs.Memory.{Memory, size_ok, load_of, store_of}
use Rattle.bus_defined.specs.Defined.{undefined_of}
use Rattle.bus_list.specs.List.{address_at, size_at, write_at, value_at, Made, made_of, access_of, accesses_of}
use Rattle.bus_list.proofs.Sizes.{answer-size}

-- an access leaves every size as it is
access-size : (k : ℕ) (m : Memory) (xs : List ℕ) (j : ℕ) → size_at (access_of k m xs).list j ≡ size_at xs j
unfolding access_of
access-size k m xs j =
    let a = address_at xs k in
    let size = size_at xs k in
    pick-each (λ (t : Made). size_at t.list j ≡ size_at xs j) (eqb (write_at xs k) 0) _ (made_of (store_of m size a (value_at xs k)) xs)
    (answer-size xs k (load_of m size a) (undefined_of m size a) j) refl

-- the first k of n accesses are made, and every size is right
pub record Follows (n : ℕ) (m₀ : Memory) (xs₀ : List ℕ) (k : ℕ) (m : Memory) (xs : List ℕ) : Type 0 where
  pub within : k ≤ n
  pub rest : accesses_of n 0 m₀ xs₀ ≡ accesses_of (n - k) k m xs
  pub sizes : (j : ℕ) → j < n → size_ok (size_at xs j) ≡ true

pub follows-start : (n : ℕ) (m : Memory) (xs : List ℕ) → ((j : ℕ) → j < n → size_ok (size_at xs j) ≡ true) → Follows n m xs 0 m xs
follows-start n m xs good =
    let e : n - 0 ≡ n = omega arith in
    record { within = omega arith; rest = rw e; sizes = good }

module _ (n : ℕ) (m₀ : Memory) (xs₀ : List ℕ) (k : ℕ) (m : Memory) (xs : List ℕ) (before : Follows n m₀ xs₀ k m xs) where
  pub follows_next : k < n → (t : Made) → t ≡ access_of k m xs → Follows n m₀ xs₀ (k + 1) t.memory t.list
  unfolding accesses_of
  follows_next h t e =
      let f : n - k ≡ suc (n - (k + 1)) = omega arith in
      record {
        within = omega arith;
        rest = rw e (rw f at before.rest);
        sizes = λ j less. rw (e, access-size k m xs j) (before.sizes j less);
      }

  pub follows-finished : n ≤ k → made_of m xs ≡ accesses_of n 0 m₀ xs₀
  unfolding accesses_of
  follows-finished h =
      let f : n - k ≡ 0 = omega arith in
      sym (rw f at before.rest)
