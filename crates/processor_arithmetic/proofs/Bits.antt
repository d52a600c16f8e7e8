-- The laws of specs/Bit, proved.
use Rattle.std.proofs.Common.{◌≡◌, ℕ, ◌+◌, ◌-◌, ◌*◌, ◌/◌, ◌%◌, ◌^◌, ◌<◌, ◌≤◌, Bool, true, false, ◌≢◌, sym, ap, ◌∙◌, mod-lt, arith, pow_pos, shr-shr}
use native.Mathlib.Decide.{dec_lt}
use lib.Pow.{field, mod-mod-pow, high, low}
use Rattle.word.specs.Bit.{bit_at}
use Rattle.processor_arithmetic.specs.Flag.{bit_of}

pub bit-small : (b : Bool) → bit_of b < 2
bit-small true = omega arith
bit-small false = omega arith

-- bits above a place, by what stands above it
pub same_above : (m n j k : ℕ) → m / 2 ^ j ≡ n / 2 ^ j → j ≤ k → bit_at k m ≡ bit_at k n
same_above m n j k e h =
    let s : j + (k - j) ≡ k = omega arith in
    ap (λ (i : ℕ). m / 2 ^ i % 2) (sym s)
    ∙ ap (λ (x : ℕ). x % 2) (sym (shr-shr m j (k - j)) ∙ ap (λ (x : ℕ). x / 2 ^ (k - j)) e ∙ shr-shr n j (k - j))
    ∙ ap (λ (i : ℕ). n / 2 ^ i % 2) s

-- bits below a place, by what stands below it
pub same-below : (m n j k : ℕ) → m % 2 ^ k ≡ n % 2 ^ k → j < k → bit_at j m ≡ bit_at j n
same-below m n j k e h =
    let s : k - (1 + j) + (1 + j) ≡ k = omega arith in
    let d = k - (1 + j) in
    sym (field m 1 j)
    ∙ ap (λ (x : ℕ). x / 2 ^ j)
    (sym (mod-mod-pow m d (1 + j))
    ∙ ap (λ (x : ℕ). x % 2 ^ (1 + j)) (rw s e)
    ∙ mod-mod-pow n d (1 + j))
    ∙ field n 1 j

-- a number whose bits from k on are those of m, and whose bits below k are those of n
pub above-below : (k m n : ℕ) → ((m * 2 ^ k + n % 2 ^ k) / 2 ^ k ≡ m) × ((m * 2 ^ k + n % 2 ^ k) % 2 ^ k ≡ n % 2 ^ k)
above-below k m n = (high m k (mod-lt n (pow_pos k)), low m k (mod-lt n (pow_pos k)))

-- only bit k changes: the bits from k on are those of m, which differs from n's in its lowest alone
pub other-bits : (k m n : ℕ) → m / 2 ≡ n / 2 ^ k / 2 → (j : ℕ) → j ≢ k → bit_at j (m * 2 ^ k + n % 2 ^ k) ≡ bit_at j n
other-bits k m n e j d =
    elim (dec_lt j k) [
      | yes h ↦ same-below (m * 2 ^ k + n % 2 ^ k) n j k (above-below k m n).1 h
      | no h ↦
          same_above (m * 2 ^ k + n % 2 ^ k) n (k + 1) j
          (sym (shr-shr (m * 2 ^ k + n % 2 ^ k) k 1)
          ∙ ap (λ (x : ℕ). x / 2) (above-below k m n).0 ∙ e ∙ shr-shr n k 1) (omega arith)
    ]
