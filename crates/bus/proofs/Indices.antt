-- The index of a drawing register by its address: the addresses stand in two runs of halfwords. Assumes nothing.
use Prim.Native.Nat.{ℕ, ◌+◌, ◌-◌, ◌*◌, ◌/◌, ◌%◌, ◌<◌, ◌≤◌}
use mathlib.Core.Bool.{true}
use mathlib.Core.Path.{◌≡◌}
use native.Mathlib.Omega.{arith}
use borrow.Author.Tests.{le-ltb, lt-leb, eqb-true}
use lib.Dec.{ltb, leb, eqb}
use Rattle.word.specs.Choose.{pick, index_of}
use Rattle.bus.specs.Registers.{drawing_addresses}
use Rattle.word.proofs.Listed.{index-apart, below-test}

module _ (h : ℕ) where
  pub index-before : h < 0x5F848 → index_of h drawing_addresses ≡ 13
  index-before less = index-apart (λ (x : ℕ). leb 0x5F848 x) h drawing_addresses tt (lt-leb 0x5F848 h less)

  pub index-first : h % 2 ≡ 0 → 0x5F848 ≤ h → h < 0x5F850 → index_of h drawing_addresses ≡ (h - 0x5F848) / 2
  index-first even from less =
      let q = (h - 0x5F848) / 2 in
      let e : 0x5F848 + 2 * ((h - 0x5F848) / 2) ≡ h = omega arith in
      let small : (h - 0x5F848) / 2 < 4 = omega arith in
      rw e at (eqb-true (index_of (0x5F848 + 2 * q) drawing_addresses) q (below-test (λ (k : ℕ). eqb (index_of
      (0x5F848 + 2 * k) drawing_addresses) k) 4 q tt small))

  pub index-between : 0x5F850 ≤ h → h < 0x5F860 → index_of h drawing_addresses ≡ 13
  index-between from less =
      index-apart (λ (x : ℕ). pick (ltb x 0x5F850) true (leb 0x5F860 x)) h drawing_addresses tt (simp (le-ltb h 0x5F850 from, lt-leb 0x5F860 h less))

  pub index-second : h % 2 ≡ 0 → 0x5F860 ≤ h → h < 0x5F872 → index_of h drawing_addresses ≡ (h - 0x5F860) / 2 + 4
  index-second even from less =
      let q = (h - 0x5F860) / 2 in
      let e : 0x5F860 + 2 * ((h - 0x5F860) / 2) ≡ h = omega arith in
      let small : (h - 0x5F860) / 2 < 9 = omega arith in
      rw e at (eqb-true (index_of (0x5F860 + 2 * q) drawing_addresses) (q + 4) (below-test (λ (k : ℕ). eqb (index_of
      (0x5F860 + 2 * k) drawing_addresses) (k + 4)) 9 q tt small))

  pub index-after : 0x5F872 ≤ h → index_of h drawing_addresses ≡ 13
  index-after from = index-apart (λ (x : ℕ). ltb x 0x5F872) h drawing_addresses tt (le-ltb h 0x5F872 from)
