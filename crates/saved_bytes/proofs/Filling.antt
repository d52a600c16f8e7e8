-- The loops over halfwords and words: those put so far are pasted into the buffer, those taken so far stand in the array.
-- Assumes nothing.
use Prim.Native.Nat.{ℕ, suc, ◌+◌, ◌*◌, ◌/◌, ◌%◌, ◌<◌, ◌≤◌}
use native.Mathlib.Omega.{arith}
use native.Mathlib.Decide.{ℕ_discrete}
use mathlib.Core.Path.{◌≡◌, refl, sym, ap, ◌∙◌}
use mathlib.Core.List.{List}
use lib.ListN.{length, get_or, set, length-set}
use lib.Seq.{paste, paste-zero, paste-suc, get_or-set_same, get_or-set_other, ext_get_or}
use Rattle.word.specs.LittleEndian.{half_at, word_at, put_half, put_word}
use Rattle.saved_bytes.specs.Numbers.{bytes_of, halves_of, halves_from, words_from}
use Rattle.saved_bytes.proofs.LittleEndian.{length-bytes, length-halves, byte_low, byte_high, half-low}
use Rattle.saved_bytes.proofs.LittleEndian.{half_high, length-halves-from, get_or-halves-from, length-words-from}
use Rattle.saved_bytes.proofs.LittleEndian.{get_or-words-from}

-- one halfword more is put: a number whose two low bytes are the halfword's
module _ (d : List ℕ) (at : ℕ) (hs : List ℕ) (k v : ℕ) (output : at + 2 * k + 1 < length d) (few : k < length hs) where
  pub put-more : v % 256 ≡ get_or hs k 0 % 256 → v / 256 % 256 ≡ get_or hs k 0 / 256 % 256
      → put_half (paste d at (bytes_of hs) (2 * k)) (at + 2 * k) v ≡ paste d at (bytes_of hs) (2 * (k + 1))
  put-more p q =
      let e : at + 2 * k + 1 ≡ at + (2 * k + 1) = omega arith in
      let n : 2 * (k + 1) ≡ suc (2 * k + 1) = omega arith in
      let m : suc (2 * k) ≡ 2 * k + 1 = omega arith in
      rw (p ∙ sym (byte_low hs k few), q ∙ sym (byte_high hs k few), e, n)
      (ap (λ (xs : List ℕ). set xs (at + (2 * k + 1)) (get_or (bytes_of hs) (2 * k + 1) 0))
      (paste-suc d at (bytes_of hs) (2 * k) 0 (omega arith) (omega (arith, length-bytes hs)) ∙ ap (paste d at (bytes_of hs)) m)
      ∙ paste-suc d at (bytes_of hs) (2 * k + 1) 0 (omega arith) (omega (arith, length-bytes hs)))

-- one word more
module _ (d : List ℕ) (at : ℕ) (ws : List ℕ) (k v : ℕ) (output : at + 4 * k + 3 < length d) (few : k < length ws) where
  low-bytes : (w h : ℕ) → h ≡ w % 65536 → (w % 256 ≡ h % 256) × (w / 256 % 256 ≡ h / 256 % 256)
  low-bytes w h e = (omega arith, omega arith)

  pub put-word-more : v ≡ get_or ws k 0 → put_word (paste d at (bytes_of (halves_of ws)) (4 * k)) (at + 4 * k) v ≡ paste d at (bytes_of (halves_of ws)) (4 * (k + 1))
  put-word-more e =
      let hs : List ℕ = halves_of ws in
      let a : 4 * k ≡ 2 * (2 * k) = omega arith in
      let b : 4 * (k + 1) ≡ 2 * (2 * k + 1 + 1) = omega arith in
      let c : at + 2 * (2 * k) + 2 ≡ at + 2 * (2 * k + 1) = omega arith in
      let low = low-bytes v (get_or (halves_of ws) (2 * k) 0) (half-low ws k few ∙ ap (λ (n : ℕ). n % 65536) (sym e)) in
      let f : get_or (halves_of ws) (2 * k + 1) 0 ≡ v / 65536 = half_high ws k few ∙ ap (λ (n : ℕ). n / 65536) (sym e) in
      rw (a, b, put-more d at (halves_of ws) (2 * k) v (omega arith) (omega (arith, length-halves ws)) low.0 low.1, c)
      (put-more d at (halves_of ws) (2 * k + 1) (v / 65536) (omega arith) (omega (arith, length-halves ws))
      (ap (λ (n : ℕ). n % 256) (sym f)) (ap (λ (n : ℕ). n / 256 % 256) (sym f)))

-- the first n bytes of s stand in the buffer from `at` on
pub record Pasted (d : List ℕ) (at : ℕ) (s : List ℕ) (n : ℕ) (output : List ℕ) : Type 0 where
  pub size : length output ≡ length d
  pub same : output ≡ paste d at s n

pub pasted-none : (d : List ℕ) (at : ℕ) (s : List ℕ) → Pasted d at s 0 d
pasted-none d at s = record { size = refl; same = paste-zero d at s }

module _ (d : List ℕ) (at : ℕ) (output after : List ℕ) (k v : ℕ) where
  pub pasted-half : (hs : List ℕ) → Pasted d at (bytes_of hs) (2 * k) output → at + 2 * length hs ≤ length d → k < length hs
      → after ≡ put_half output (at + 2 * k) v → v ≡ get_or hs k 0 → Pasted d at (bytes_of hs) (2 * (k + 1)) after
  pasted-half hs s r few e f =
      record {
        size = ap length e ∙ simp length-set s.size;
        same =
            e ∙ (ap (λ (xs : List ℕ). put_half xs (at + 2 * k) v) s.same
            ∙ put-more d at hs k v (omega arith) few (ap (λ (n : ℕ). n % 256) f) (ap (λ (n : ℕ). n / 256 % 256) f));
      }

  pub pasted-word : (ws : List ℕ) → Pasted d at (bytes_of (halves_of ws)) (4 * k) output → at + 4 * length ws ≤ length d → k < length ws
      → after ≡ put_word output (at + 4 * k) v → v ≡ get_or ws k 0 → Pasted d at (bytes_of (halves_of ws)) (4 * (k + 1)) after
  pasted-word ws s r few e f =
      record {
        size = ap length e ∙ simp length-set s.size;
        same = e ∙ (ap (λ (xs : List ℕ). put_word xs (at + 4 * k) v) s.same ∙ put-word-more d at ws k v (omega arith) few f);
      }

-- the first n elements of an array are those of f
pub record Filled (f : ℕ → ℕ) (size n : ℕ) (xs : List ℕ) : Type 0 where
  pub whole : length xs ≡ size
  pub each : (k : ℕ) → k < n → get_or xs k 0 ≡ f k

pub filled_none : (f : ℕ → ℕ) (xs : List ℕ) → Filled f (length xs) 0 xs
filled_none f xs = record { whole = refl; each = λ k h. absurd (omega arith) }

module _ (f : ℕ → ℕ) (size n : ℕ) (xs : List ℕ) (v : ℕ) where
  pub filled_more : Filled f size n xs → n < size → v ≡ f n → Filled f size (n + 1) (set xs n v)
  filled_more s h e = record { whole = length-set xs n v ∙ s.whole; each = each }
    where
      last : (k : ℕ) → k ≡ n → get_or (set xs n v) k 0 ≡ f k
      last k p = rw p (get_or-set_same xs n v 0 (omega (arith, s.whole)) ∙ e)

      each : (k : ℕ) → k < n + 1 → get_or (set xs n v) k 0 ≡ f k
      each k l =
          elim (ℕ_discrete k n) [
            | yes p ↦ last k p
            | no p ↦ get_or-set_other xs n k v 0 p ∙ s.each k (omega arith)
          ]

pub filled-halves : (file : List ℕ) (at n : ℕ) (xs : List ℕ) → Filled (λ k. half_at file (at + 2 * k)) n n xs → xs ≡ halves_from file at n
filled-halves file at n xs s =
    ext_get_or 0 xs (halves_from file at n) (s.whole ∙ sym (length-halves-from file at n))
    (λ k h. let l : k < n = omega (arith, s.whole) in s.each k l ∙ sym (get_or-halves-from file at n k l))

pub filled-words : (file : List ℕ) (at n : ℕ) (xs : List ℕ) → Filled (λ k. word_at file (at + 4 * k)) n n xs → xs ≡ words_from file at n
filled-words file at n xs s =
    ext_get_or 0 xs (words_from file at n) (s.whole ∙ sym (length-words-from file at n))
    (λ k h. let l : k < n = omega (arith, s.whole) in s.each k l ∙ sym (get_or-words-from file at n k l))
