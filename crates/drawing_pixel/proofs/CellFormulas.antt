-- The statements of specs/inner/BiasedCell about a source pixel, and `MapsAcross` of specs/Background, proved.
use Prim.Native.Nat.{ℕ, zero, suc, ◌+◌, ◌-◌, ◌*◌, ◌/◌, ◌%◌, ◌^◌, ◌<◌, min}
use native.Mathlib.Omega.{arith}
use mathlib.Core.Path.{◌≡◌, refl, sym, ap, ◌∙◌}
use lib.Dec.{leb, ltb, leb→le, le→leb}
use lib.IntN.{ℤ, pos}
use lib.Signed.{le_z, lt_z}
use Rattle.word.specs.Choose.{pick}
use Rattle.drawing_pixel.specs.World.{scx_of, scy_of}
use Rattle.drawing_pixel.specs.Background.{maps_across_of, MapsAcross}
use Rattle.drawing_pixel.specs.inner.BiasedCell.{inside_biased, map_cell_address_biased, SourceWraps, SourceWrapsDown, SourceInCell, SourceInside, MapCell}
use Rattle.word.proofs.Choices.{bool_same, less-same}
use Rattle.word.proofs.Integers.{Is, is-of, is_pos, is-le-test, is-lt-test}
use Rattle.word.specs.Floors.{mod_z}
use Rattle.word.proofs.Floors.{is-mod}

-- a claim about SCX or SCY, by its four values
four : (P : ℕ → Type 0) → P 0 → P 1 → P 2 → P 3 → (c : ℕ) → c < 4 → P c
four P a b d e zero h = a
four P a b d e (suc zero) h = b
four P a b d e (suc (suc zero)) h = d
four P a b d e (suc (suc (suc zero))) h = e
four P a b d e (suc (suc (suc (suc c)))) h = let z : ⊥ = omega arith in absurd z

wraps : (c : ℕ) → c < 4 → (x : ℤ) (a : ℕ) → Is x a 8388608 → pos (8 * (a / 8 % 2 ^ (6 + c)) + a % 8) ≡ mod_z x (512 * 2 ^ c)
wraps =
    four (λ c. (x : ℤ) (a : ℕ) → Is x a 8388608 → pos (8 * (a / 8 % 2 ^ (6 + c)) + a % 8) ≡ mod_z x (512 * 2 ^ c))
    (λ x a i. let e : 8 * (a / 8 % 64) + a % 8 ≡ a % 512 = omega arith in ap pos e ∙ is-mod 512 16384 (omega arith) i)
    (λ x a i. let e : 8 * (a / 8 % 128) + a % 8 ≡ a % 1024 = omega arith in ap pos e ∙ is-mod 1024 8192 (omega arith) i)
    (λ x a i. let e : 8 * (a / 8 % 256) + a % 8 ≡ a % 2048 = omega arith in ap pos e ∙ is-mod 2048 4096 (omega arith) i)
    (λ x a i. let e : 8 * (a / 8 % 512) + a % 8 ≡ a % 4096 = omega arith in ap pos e ∙ is-mod 4096 2048 (omega arith) i)

pub source-wraps : SourceWraps
source-wraps w x sx e = wraps (scx_of w) (omega arith) x sx (is-of e)

pub source-wraps-down : SourceWrapsDown
source-wraps-down w y sy e = wraps (scy_of w) (omega arith) y sy (is-of e)

pub source-in-cell : SourceInCell
source-in-cell x sx e = is-mod 8 1048576 (omega arith) (is-of e)

low : (x : ℤ) (a : ℕ) → Is x a 8388608 → leb 1048576 (a / 8) ≡ le_z (pos 0) x
low x a i =
    bool_same _ _
    (λ t. let l = leb→le 1048576 (a / 8) t in le→leb (0 + 8388608) (a + 0) (omega arith))
    (λ t. let l = leb→le (0 + 8388608) (a + 0) t in le→leb 1048576 (a / 8) (omega arith))
    ∙ sym (is-le-test (is_pos 0) i)

eighth : (a k : ℕ) → ltb (a / 8) (1048576 + k) ≡ ltb (a + 0) (8 * k + 8388608)
eighth a k = less-same (a / 8) (1048576 + k) (a + 0) (8 * k + 8388608) (λ l. omega arith) (λ l. omega arith)

high : (c : ℕ) → c < 4 → (x : ℤ) (a : ℕ) → Is x a 8388608 → ltb (a / 8) (1048576 + 2 ^ (6 + c)) ≡ lt_z x (pos (512 * 2 ^ c))
high =
    four (λ c. (x : ℤ) (a : ℕ) → Is x a 8388608 → ltb (a / 8) (1048576 + 2 ^ (6 + c)) ≡ lt_z x (pos (512 * 2 ^ c)))
    (λ x a i. eighth a 64 ∙ sym (is-lt-test i (is_pos 512)))
    (λ x a i. eighth a 128 ∙ sym (is-lt-test i (is_pos 1024)))
    (λ x a i. eighth a 256 ∙ sym (is-lt-test i (is_pos 2048)))
    (λ x a i. eighth a 512 ∙ sym (is-lt-test i (is_pos 4096)))

pub source-inside : SourceInside
unfolding inside_biased
source-inside w x y sx sy e f =
    rw (low x sx (is-of e), high (scx_of w) (omega arith) x sx (is-of e), low y sy (is-of f), high (scy_of w) (omega arith) y sy (is-of f))

across : (c : ℕ) → c < 4 → (r : ℕ) → r < 4 → 2 ^ min c (3 - r) ≡ pick (leb (2 ^ c * 2 ^ r) 8) (2 ^ c) (8 / 2 ^ r)
across =
    four (λ c. (r : ℕ) → r < 4 → 2 ^ min c (3 - r) ≡ pick (leb (2 ^ c * 2 ^ r) 8) (2 ^ c) (8 / 2 ^ r))
    (four (λ r. 2 ^ min 0 (3 - r) ≡ pick (leb (2 ^ 0 * 2 ^ r) 8) (2 ^ 0) (8 / 2 ^ r)) refl refl refl refl)
    (four (λ r. 2 ^ min 1 (3 - r) ≡ pick (leb (2 ^ 1 * 2 ^ r) 8) (2 ^ 1) (8 / 2 ^ r)) refl refl refl refl)
    (four (λ r. 2 ^ min 2 (3 - r) ≡ pick (leb (2 ^ 2 * 2 ^ r) 8) (2 ^ 2) (8 / 2 ^ r)) refl refl refl refl)
    (four (λ r. 2 ^ min 3 (3 - r) ≡ pick (leb (2 ^ 3 * 2 ^ r) 8) (2 ^ 3) (8 / 2 ^ r)) refl refl refl refl)

pub maps-across : MapsAcross
unfolding maps_across_of
maps-across w = across (scx_of w) (omega arith) (scy_of w) (omega arith)

same-cell : (c : ℕ) → c < 4 → (a : ℕ) → a / 8 % 2 ^ (6 + c) % 64 ≡ a / 8 % 64
same-cell =
    four (λ c. (a : ℕ) → a / 8 % 2 ^ (6 + c) % 64 ≡ a / 8 % 64)
    (λ a. omega arith)
    (λ a. omega arith)
    (λ a. omega arith)
    (λ a. omega arith)

map-column : (c : ℕ) → c < 4 → (x : ℤ) (a s : ℕ) → Is x a 8388608 → pos s ≡ mod_z x (512 * 2 ^ c) → a / 8 % 2 ^ (6 + c) / 64 ≡ s / 512
map-column c h x a s i e =
    let same : s ≡ 8 * (a / 8 % 2 ^ (6 + c)) + a % 8 = cc (wraps c h x a i) in
    omega arith

cell-column : (c : ℕ) → c < 4 → (x : ℤ) (a s : ℕ) → Is x a 8388608 → pos s ≡ mod_z x (512 * 2 ^ c) → a / 8 % 64 ≡ s % 512 / 8
cell-column c h x a s i e =
    let same : s ≡ 8 * (a / 8 % 2 ^ (6 + c)) + a % 8 = cc (wraps c h x a i) in
    let inner = same-cell c h a in
    omega arith

pub map-cell : MapCell
unfolding map_cell_address_biased
map-cell w x y sx sy s t e f g h =
    let mc = map-column (scx_of w) (omega arith) x sx s (is-of e) g in
    let mr = map-column (scy_of w) (omega arith) y sy t (is-of f) h in
    let cc' = cell-column (scx_of w) (omega arith) x sx s (is-of e) g in
    let cr = cell-column (scy_of w) (omega arith) y sy t (is-of f) h in
    rw (mc, mr, cc', cr)
