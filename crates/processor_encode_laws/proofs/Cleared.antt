-- Clearing keeps the opcode and the sub-opcode, so the operation and its format, and clears once for all:
-- `cleared-twice`. What clearing gives for each kind of opcode. Assumes nothing.
use Rattle.std.specs.Prelude.{Ok}
use Prim.Native.Nat.{ℕ, ◌+◌, ◌/◌, ◌≤◌, ◌<◌}
use mathlib.Core.Bool.{true, false}
use mathlib.Core.Path.{◌≡◌, refl, sym, ◌∙◌, ap}
use native.Mathlib.Decide.{ℕ_discrete, dec_lt}
use native.Mathlib.Omega.{arith}
use borrow.Author.Tests.{lt-ltb, le-ltb, eq-eqb, ne_eqb}
use Rattle.processor_decode.specs.Format.{two_of}
use Rattle.processor_encode.specs.Format.{format_of, long_formats}
use Rattle.processor_encode.specs.Unused.{operation_at, first_without, second_without, cleared_first, cleared_second, cleared_of}
use Rattle.processor_encode.specs.declared.Halfwords.TheVariants.{One, Two}
use Rattle.processor_encode.specs.declared.format.Format as format
use Rattle.processor_encode.specs.declared.format.Format.TheVariants.{Registers, Target, SignedImmediate}
use Rattle.processor_encode.specs.declared.format.Format.TheVariants.{UnsignedImmediate, Condition, Vector, Bare}
use Rattle.processor_encode.specs.declared.format.Format.TheVariants.{SystemRegister, Branch, Jump, SignedLong}
use Rattle.processor_encode.specs.declared.format.Format.TheVariants.{UnsignedLong, Extended, Exchange, Unlisted}
use Rattle.processor_encode_laws.specs.Clearing.{ClearedTwice}

opcode-kept : (t : format.Format) (f : ℕ) → first_without t f / 1024 ≡ f / 1024
opcode-kept Registers f = refl
opcode-kept Target f = omega arith
opcode-kept SignedImmediate f = refl
opcode-kept UnsignedImmediate f = refl
opcode-kept Condition f = omega arith
opcode-kept Vector f = omega arith
opcode-kept Bare f = omega arith
opcode-kept SystemRegister f = refl
opcode-kept Branch f = omega arith
opcode-kept Jump f = refl
opcode-kept SignedLong f = refl
opcode-kept UnsignedLong f = refl
opcode-kept Extended f = refl
opcode-kept Exchange f = omega arith
opcode-kept Unlisted f = refl

sub-opcode-kept : (t : format.Format) (s : ℕ) → second_without t s / 1024 ≡ s / 1024
sub-opcode-kept Registers s = refl
sub-opcode-kept Target s = refl
sub-opcode-kept SignedImmediate s = refl
sub-opcode-kept UnsignedImmediate s = refl
sub-opcode-kept Condition s = refl
sub-opcode-kept Vector s = refl
sub-opcode-kept Bare s = refl
sub-opcode-kept SystemRegister s = refl
sub-opcode-kept Branch s = refl
sub-opcode-kept Jump s = omega arith
sub-opcode-kept SignedLong s = refl
sub-opcode-kept UnsignedLong s = refl
sub-opcode-kept Extended s = omega arith
sub-opcode-kept Exchange s = omega arith
sub-opcode-kept Unlisted s = refl

first-twice : (t : format.Format) (f : ℕ) → first_without t (first_without t f) ≡ first_without t f
first-twice Registers f = refl
first-twice Target f = omega arith
first-twice SignedImmediate f = refl
first-twice UnsignedImmediate f = refl
first-twice Condition f = omega arith
first-twice Vector f = omega arith
first-twice Bare f = omega arith
first-twice SystemRegister f = refl
first-twice Branch f = omega arith
first-twice Jump f = refl
first-twice SignedLong f = refl
first-twice UnsignedLong f = refl
first-twice Extended f = refl
first-twice Exchange f = omega arith
first-twice Unlisted f = refl

second-twice : (t : format.Format) (s : ℕ) → second_without t (second_without t s) ≡ second_without t s
second-twice Registers s = refl
second-twice Target s = refl
second-twice SignedImmediate s = refl
second-twice UnsignedImmediate s = refl
second-twice Condition s = refl
second-twice Vector s = refl
second-twice Bare s = refl
second-twice SystemRegister s = refl
second-twice Branch s = refl
second-twice Jump s = omega arith
second-twice SignedLong s = refl
second-twice UnsignedLong s = refl
second-twice Extended s = omega arith
second-twice Exchange s = omega arith
second-twice Unlisted s = refl

operation-kept : (f s : ℕ) → operation_at (cleared_first f s) (cleared_second f s) ≡ operation_at f s
unfolding operation_at cleared_first cleared_second
operation-kept f s =
    let t = format_of (operation_at f s) in
    rw (opcode-kept t f, sub-opcode-kept t s)

pub cleared-twice : ClearedTwice
unfolding cleared_first cleared_second
cleared-twice f s =
    let t = format_of (operation_at f s) in
    (rw (operation-kept f s) (first-twice t f), rw (operation-kept f s) (second-twice t s))

-- the operation of each kind of opcode
pub operation-short : (n f s : ℕ) → f / 1024 ≡ n → n < 32 → operation_at f s ≡ n
unfolding operation_at
operation-short n f s e h =
    let k : f / 1024 < 32 = omega arith in
    simp (lt-ltb (f / 1024) 32 k) e

pub operation-branch : (f s : ℕ) → 32 ≤ f / 1024 → f / 1024 < 40 → operation_at f s ≡ 32
unfolding operation_at
operation-branch f s h k = simp (le-ltb (f / 1024) 32 h, lt-ltb (f / 1024) 40 k)

pub operation-long : (n f s : ℕ) → f / 1024 ≡ n → 40 ≤ n → (n ≡ 62 → ⊥) → operation_at f s ≡ n
unfolding operation_at
operation-long n f s e h ne =
    let a : 32 ≤ f / 1024 = omega arith in
    let b : 40 ≤ f / 1024 = omega arith in
    let d : f / 1024 ≡ 62 → ⊥ = λ q. ne (sym e ∙ q) in
    simp (le-ltb (f / 1024) 32 a, le-ltb (f / 1024) 40 b, ne_eqb (f / 1024) 62 d) e

pub operation-extended : (m f s : ℕ) → f / 1024 ≡ 62 → s / 1024 ≡ m → operation_at f s ≡ 64 + m
unfolding operation_at
operation-extended m f s e h =
    let a : 32 ≤ f / 1024 = omega arith in
    let b : 40 ≤ f / 1024 = omega arith in
    simp (le-ltb (f / 1024) 32 a, le-ltb (f / 1024) 40 b, eq-eqb (f / 1024) 62 e) (ap (λ (k : ℕ). 64 + k) h)

-- so an operation is one of these
pub operation-view : (P : ℕ → Type 0) (f s : ℕ) → (f / 1024 < 32 → P (f / 1024)) → (32 ≤ f / 1024 → f / 1024 < 40 → P 32) →
    (40 ≤ f / 1024 → (f / 1024 ≡ 62 → ⊥) → P (f / 1024)) → (f / 1024 ≡ 62 → P (64 + s / 1024)) → P (operation_at f s)
operation-view P f s short branch long extended =
    elim (dec_lt (f / 1024) 32) [
      | yes h ↦ rw (operation-short (f / 1024) f s refl h) (short h)
      | no a ↦ elim (dec_lt (f / 1024) 40) [
        | yes h ↦
            let from : 32 ≤ f / 1024 = omega arith in
            rw (operation-branch f s from h) (branch from h)
        | no b ↦
            let from : 40 ≤ f / 1024 = omega arith in
            elim (ℕ_discrete (f / 1024) 62) [
              | yes e ↦ rw (operation-extended (s / 1024) f s e refl) (extended e)
              | no ne ↦ rw (operation-long (f / 1024) f s refl from ne) (long from ne)
            ]
      ]
    ]

-- how many halfwords
pub two-short : (f : ℕ) → f / 1024 < 40 → two_of f ≡ false
two-short f h = simp (lt-ltb (f / 1024) 40 h)

pub two-long : (n f : ℕ) → f / 1024 ≡ n → 40 ≤ n → (n ≡ 50 → ⊥) → (n ≡ 54 → ⊥) → two_of f ≡ true
two-long n f e h a b =
    let k : 40 ≤ f / 1024 = omega arith in
    simp (le-ltb (f / 1024) 40 k, ne_eqb (f / 1024) 50 (λ q. a (sym e ∙ q)), ne_eqb (f / 1024) 54 (λ q. b (sym e ∙ q)))

-- the cleared halfwords, by their format
module _ (t : format.Format) (n f s : ℕ) (known : format_of n ≡ t) (at : operation_at f s ≡ n) where
  pub cleared-first : cleared_first f s ≡ first_without t f
  unfolding cleared_first
  cleared-first = rw (at, known)

  pub cleared-second : cleared_second f s ≡ second_without t s
  unfolding cleared_second
  cleared-second = rw (at, known)

  cleared-one : two_of f ≡ false → cleared_of f s ≡ Ok (One (first_without t f))
  unfolding cleared_of
  cleared-one two = rw (two, cleared-first)

  cleared-two : two_of f ≡ true → cleared_of f s ≡ Ok (Two (first_without t f) (second_without t s))
  unfolding cleared_of
  cleared-two two = rw (two, cleared-first, cleared-second)

pub cleared-short : (t : format.Format) (n f s : ℕ) → format_of n ≡ t → f / 1024 ≡ n → n < 32 → cleared_of f s ≡ Ok (One (first_without t f))
cleared-short t n f s known e h = cleared-one t n f s known (operation-short n f s e h) (two-short f (omega arith))

branch-format : format_of 32 ≡ Branch
unfolding format_of long_formats
branch-format = refl

pub cleared-branch : (f s : ℕ) → 32 ≤ f / 1024 → f / 1024 < 40 → cleared_of f s ≡ Ok (One (first_without Branch f))
cleared-branch f s h k = cleared-one Branch 32 f s branch-format (operation-branch f s h k) (two-short f k)

pub cleared-long : (t : format.Format) (n f s : ℕ) → format_of n ≡ t → f / 1024 ≡ n → 40 ≤ n → (n ≡ 50 → ⊥) →
    (n ≡ 54 → ⊥) → (n ≡ 62 → ⊥) → cleared_of f s ≡ Ok (Two (first_without t f) (second_without t s))
cleared-long t n f s known e h a b d = cleared-two t n f s known (operation-long n f s e h d) (two-long n f e h a b)

pub cleared-extended : (t : format.Format) (m f s : ℕ) → format_of
    (64 + m) ≡ t → f / 1024 ≡ 62 → s / 1024 ≡ m → cleared_of f s ≡ Ok (Two (first_without t f) (second_without t s))
cleared-extended t m f s known e h =
    cleared-two t (64 + m) f s known (operation-extended m f s e h) (two-long 62 f e (omega arith) (λ q. absurd (omega arith)) (λ q. absurd (omega arith)))
