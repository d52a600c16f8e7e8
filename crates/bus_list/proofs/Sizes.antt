-- The sizes of a list's accesses: what the tests of them tell, and that no answer in the list changes one. Assumes nothing.
use Prim.Native.Nat.{ℕ, zero, suc, ◌+◌, ◌-◌, ◌*◌, ◌/◌, ◌%◌, ◌<◌, ◌≤◌}
use mathlib.Core.Bool.{true, false, true≢false, false≢true}
use mathlib.Core.List.{List}
use mathlib.Core.Path.{◌≡◌, ◌∙◌}
use native.Mathlib.Decide.{ℕ_discrete}
use native.Mathlib.Omega.{arith}
use borrow.Author.Tests.{ne_eqb}
use lib.Dec.{leb}
use lib.ListN.{length, get_or, set}
use lib.Seq.{get_or-set_other}
use Rattle.std.specs.Prelude.{Result, Ok, Err}
use Rattle.std.specs.Result.{is_err}
use Rattle.word.specs.Width.{Decodes}
use Rattle.word.specs.declared.width.Width.{Width}
use Rattle.word.specs.declared.width.Width.TheVariants.{Byte, Half, Word}
use Rattle.word.specs.declared.width.NoWidth.{NoWidth}
use Rattle.word.specs.LittleEndian.{put_half, put_word}
use Rattle.bus.specs.Memory.{size_ok}
use Rattle.word.proofs.Choices.{pick-both}
use Rattle.bus_list.specs.List.{count_of, size_at, answered_of, sizes_ok, list_ok}

-- a size by its width
pub sized : (size : ℕ) (r : Result Width NoWidth) → Decodes size r → is_err r ≡ false → size_ok size ≡ true
sized size (Ok Byte) d e = rw (← d)
sized size (Ok Half) d e = rw (← d)
sized size (Ok Word) d e = rw (← d)
sized size (Err n) d e = absurd (true≢false e)

pub not_sized : (size : ℕ) (r : Result Width NoWidth) → Decodes size r → is_err r ≡ true → size_ok size ≡ false
not_sized size (Ok width) d e = absurd (false≢true e)
not_sized size (Err n) d e = simp (ne_eqb size 1 d.1.0, ne_eqb size 2 d.1.1.0, ne_eqb size 4 d.1.1.1)

-- one size of those from access k on, and the rest
pub sizes-next : (n k : ℕ) (xs : List ℕ) → k < n → size_ok (size_at xs k) ≡ true → sizes_ok (n - k) k xs ≡ sizes_ok (n - (k + 1)) (k + 1) xs
unfolding sizes_ok
sizes-next n k xs h good =
    let e : n - k ≡ suc (n - (k + 1)) = omega arith in
    rw (e, good)

pub sizes-not : (n k : ℕ) (xs : List ℕ) → k < n → size_ok (size_at xs k) ≡ false → sizes_ok (n - k) k xs ≡ false
unfolding sizes_ok
sizes-not n k xs h bad =
    let e : n - k ≡ suc (n - (k + 1)) = omega arith in
    rw (e, bad)

pub sizes-none : (n k : ℕ) (xs : List ℕ) → n ≤ k → sizes_ok (n - k) k xs ≡ true
unfolding sizes_ok
sizes-none n k xs h =
    let e : n - k ≡ 0 = omega arith in
    rw e

-- each size of a list that passed
sizes-each : (n k : ℕ) (xs : List ℕ) → sizes_ok n k xs ≡ true → (j : ℕ) → k ≤ j → j < k + n → size_ok (size_at xs j) ≡ true
unfolding sizes_ok
sizes-each zero k xs h j low high = absurd (omega arith)
sizes-each (suc n) k xs h j low high =
    let p = pick-both (size_ok (size_at xs k)) (sizes_ok n (k + 1) xs) h in
    elim (ℕ_discrete j k) [
      | yes e ↦ rw e p.0
      | no ne ↦ sizes-each n (k + 1) xs p.1 j (omega arith) (omega arith)
    ]

pub list-sizes : (xs : List ℕ) → list_ok xs ≡ true → (j : ℕ) → j < length xs / 20 → size_ok (size_at xs j) ≡ true
unfolding list_ok count_of
list-sizes xs h j less =
    sizes-each (length xs / 20) 0 xs (pick-both (leb (length xs / 20) 256) (sizes_ok (length xs / 20) 0 xs) h).1 j (omega arith) (omega arith)

-- an answer changes no byte of an access's first three words
other : (xs : List ℕ) (i v b : ℕ) → (b ≡ i → ⊥) → (b ≡ i + 1 → ⊥) → (b ≡ i + 2 → ⊥) → (b ≡ i + 2 + 1 → ⊥) → get_or (put_word xs i v) b 0 ≡ get_or xs b 0
other xs i v b p q r s =
    let first = set xs i (v % 256) in
    let second = put_half xs i v in
    let third = set second (i + 2) (v / 65536 % 256) in
    get_or-set_other third (i + 2 + 1) b (v / 65536 / 256 % 256) 0 s
    ∙ get_or-set_other second (i + 2) b (v / 65536 % 256) 0 r
    ∙ get_or-set_other first (i + 1) b (v / 256 % 256) 0 q
    ∙ get_or-set_other xs i b (v % 256) 0 p

answer-other : (xs : List ℕ) (k v u b : ℕ) → b % 20 < 12 → get_or (answered_of xs k v u) b 0 ≡ get_or xs b 0
unfolding answered_of
answer-other xs k v u b h =
    other (put_word xs (20 * k + 12) v) (20 * k + 16) u b (λ e. omega arith) (λ e. omega arith) (λ e. omega arith) (λ e. omega arith)
    ∙ other xs (20 * k + 12) v b (λ e. omega arith) (λ e. omega arith) (λ e. omega arith) (λ e. omega arith)

pub answer-size : (xs : List ℕ) (k v u j : ℕ) → size_at (answered_of xs k v u) j ≡ size_at xs j
answer-size xs k v u j =
    rw (
      answer-other xs k v u (20 * j + 4) (omega arith),
      answer-other xs k v u (20 * j + 4 + 1) (omega arith),
      answer-other xs k v u (20 * j + 4 + 2) (omega arith),
      answer-other xs k v u (20 * j + 4 + 2 + 1) (omega arith),
    )
