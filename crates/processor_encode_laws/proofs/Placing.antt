-- The law of the formats. Fields in the ranges of their format, put in their places, are read from there: `decodes-placed`. Fields that are read from
-- halfwords are in range, `read_fits`, and in their places give the halfwords without unused bits, `placed-read`. Assumes nothing.
use Rattle.std.specs.Prelude.{Some, Ok}
use Prim.Native.Nat.{ℕ, ◌+◌, ◌*◌, ◌/◌, ◌%◌, ◌≤◌, ◌<◌}
use mathlib.Core.Bool.{Bool, true, false, true≢false}
use mathlib.Core.Path.{◌≡◌, refl, sym, ◌∙◌, ap}
use native.Mathlib.Omega.{arith}
use borrow.Author.Tests.{lt-ltb, ltb-true, ltb-false, eqb-true, ne_eqb, eqb-false}
use lib.Dec.{ltb, eqb}
use Rattle.word.specs.Choose.{pick}
use Rattle.word.specs.Extend.{extend_of}
use Rattle.word.proofs.Choices.{pick_second}
use Rattle.processor_decode.specs.Opcode.{decode_of}
use Rattle.processor_encode.specs.Format.{format_of}
use Rattle.processor_encode.specs.Fields.{numbers}
use Rattle.processor_encode.specs.Range.{within, even_in, fits_of}
use Rattle.processor_encode.specs.Place.{placed, branch_placed, jump_placed, low_half, sub_opcode, halfwords_of}
use Rattle.processor_encode.specs.Unused.{without, operation_at, first_without, second_without, cleared_of}
use Rattle.processor_encode.specs.declared.Fields.{Fields}
use Rattle.processor_encode.specs.declared.Halfwords.TheVariants.{One, Two}
use Rattle.processor_encode.specs.declared.format.Format as format
use Rattle.processor_encode.specs.declared.format.Format.TheVariants.{Registers, Target, SignedImmediate}
use Rattle.processor_encode.specs.declared.format.Format.TheVariants.{UnsignedImmediate, Condition, Vector, Bare}
use Rattle.processor_encode.specs.declared.format.Format.TheVariants.{SystemRegister, Branch, Jump, SignedLong}
use Rattle.processor_encode.specs.declared.format.Format.TheVariants.{UnsignedLong, Extended, Exchange, Unlisted}
use Rattle.processor_encode_laws.specs.RoundTrip.{DecodesTo}
use Rattle.processor_encode_laws.proofs.Extending.{five, nine, sixteen, twenty-six, extend-word, extended-in, extended-low}
use Rattle.processor_encode_laws.proofs.Fitting.{within-facts, within-true, even-facts, even-true, system-facts, system-true}
use Rattle.processor_encode_laws.proofs.Places.{placed-opcode, placed-middle, placed-low, placed-half, placed-again, condition-again}
use Rattle.processor_encode_laws.proofs.Places.{branch-opcode, branch-condition, branch-offset, branch-again}
use Rattle.processor_encode_laws.proofs.Places.{jump-opcode, jump-offset, jump-first, jump-second, sub-again}
use Rattle.processor_encode_laws.proofs.Cleared.{operation-view, operation-short, operation-branch, operation-long, operation-extended}
use Rattle.processor_encode_laws.proofs.Cleared.{two-short, two-long, cleared-short, cleared-branch, cleared-long, cleared-extended}
use Rattle.processor_encode_laws.proofs.Instructions.{instruction_of}
use Rattle.processor_encode_laws.proofs.Formats.{fields_at, absent, having, number_fits, long_number, decode-row}

-- fields that are read are in range
fit : (x : Fields) (reg1 reg2 condition : ℕ) (immediate : Bool) → x.reg1 < reg1 → x.reg2 < reg2 → x.condition < condition → immediate ≡ true →
    within x reg1 reg2 condition immediate ≡ true
fit x reg1 reg2 condition immediate a b c d = within-true x reg1 reg2 condition immediate (record { first = a; second = b; third = c; last = d })

module _ (n f s : ℕ) (hs : s < 65536) where
  branch_fits : even_in 256 (extend_of 256 (f % 512 / 2 * 2)) ≡ true
  branch_fits =
      let d = extend_of 256 (f % 512 / 2 * 2) in
      let back : d % 512 ≡ f % 512 / 2 * 2 = extended-low 256 nine (f % 512 / 2 * 2) (omega arith) in
      even-true 256 d (omega arith) (extended-in 256 nine (f % 512 / 2 * 2) (omega arith))

  jump_fits : even_in 33554432 (extend_of 33554432 (f % 1024 * 65536 + s / 2 * 2)) ≡ true
  jump_fits =
      let d = extend_of 33554432 (f % 1024 * 65536 + s / 2 * 2) in
      let small : f % 1024 * 65536 + s / 2 * 2 < 67108864 = omega arith in
      let back : d % 67108864 ≡ f % 1024 * 65536 + s / 2 * 2 = extended-low 33554432 twenty-six (f % 1024 * 65536 + s / 2 * 2) small in
      even-true 33554432 d (omega arith) (extended-in 33554432 twenty-six (f % 1024 * 65536 + s / 2 * 2) small)

  pub read_fits : (t : format.Format) → absent t f ≡ false → fits_of t (fields_at t n f s) ≡ true
  read_fits Registers e = fit _ 32 32 1 _ (omega arith) (omega arith) (omega arith) refl
  read_fits Target e = fit _ 32 1 1 _ (omega arith) (omega arith) (omega arith) refl
  read_fits SignedImmediate e = fit _ 1 32 1 _ (omega arith) (omega arith) (omega arith) (extended-in 16 five (f % 32) (omega arith))
  read_fits UnsignedImmediate e = fit _ 1 32 1 _ (omega arith) (omega arith) (omega arith) (lt-ltb (f % 32) 32 (omega arith))
  read_fits Condition e = fit _ 1 32 16 _ (omega arith) (omega arith) (omega arith) refl
  read_fits Vector e = fit _ 1 1 1 _ (omega arith) (omega arith) (omega arith) (lt-ltb (f % 32) 32 (omega arith))
  read_fits Bare e = fit _ 1 1 1 _ (omega arith) (omega arith) (omega arith) refl
  read_fits SystemRegister e = fit _ 1 32 1 _ (omega arith) (omega arith) (omega arith) (system-true (f % 32) (omega arith) (eqb-false (f % 32) 24 e))
  read_fits Branch e = fit _ 1 1 16 _ (omega arith) (omega arith) (omega arith) branch_fits
  read_fits Jump e = fit _ 1 1 1 _ (omega arith) (omega arith) (omega arith) jump_fits
  read_fits SignedLong e = fit _ 32 32 1 _ (omega arith) (omega arith) (omega arith) (extended-in 32768 sixteen s hs)
  read_fits UnsignedLong e = fit _ 32 32 1 _ (omega arith) (omega arith) (omega arith) (lt-ltb s 65536 hs)
  read_fits Extended e = fit _ 32 32 1 _ (omega arith) (omega arith) (omega arith) refl
  read_fits Exchange e = fit _ 1 32 1 _ (omega arith) (omega arith) (omega arith) refl
  read_fits Unlisted e = absurd (true≢false e)

-- the opcode of an operation, by its number
opcode-short : (n f s : ℕ) → operation_at f s ≡ n → n < 32 → f / 1024 ≡ n
opcode-short n f s at h =
    operation-view (λ (k : ℕ). k ≡ n → f / 1024 ≡ n) f s (λ a e. e) (λ a b e. absurd (omega arith)) (λ a ne e. e)
    (λ a e. absurd (omega arith)) at

opcode-branch : (f s : ℕ) → operation_at f s ≡ 32 → (32 ≤ f / 1024) × (f / 1024 < 40)
opcode-branch f s at =
    operation-view (λ (k : ℕ). k ≡ 32 → (32 ≤ f / 1024) × (f / 1024 < 40)) f s (λ a e. absurd (omega arith)) (λ a b e. (a, b))
    (λ a ne e. absurd (omega arith)) (λ a e. absurd (omega arith)) at

opcode-long : (n f s : ℕ) → operation_at f s ≡ n → 40 ≤ n → n < 64 → f / 1024 ≡ n
opcode-long n f s at h to =
    operation-view (λ (k : ℕ). k ≡ n → f / 1024 ≡ n) f s (λ a e. e) (λ a b e. absurd (omega arith)) (λ a ne e. e)
    (λ a e. absurd (omega arith)) at

opcode-extended : (n f s : ℕ) → f < 65536 → operation_at f s ≡ n → 64 ≤ n → (f / 1024 ≡ 62) × (64 + s / 1024 ≡ n)
opcode-extended n f s hf at h =
    operation-view (λ (k : ℕ). k ≡ n → (f / 1024 ≡ 62) × (64 + s / 1024 ≡ n)) f s (λ a e. absurd (omega arith)) (λ a b e. absurd (omega arith))
    (λ a ne e. absurd (omega arith)) (λ a e. (a, e)) at

-- the numbers of operations of two halfwords
record Long (n : ℕ) : Type 0 where
  from : 40 ≤ n
  to : n < 64
  not-50 : n ≡ 50 → ⊥
  not-54 : n ≡ 54 → ⊥
  not-62 : n ≡ 62 → ⊥

long-number : (n : ℕ) → long_number n ≡ true → Long n
long-number n h =
    pick_second (ltb n 40) _ h
    (λ a p.
    pick_second (eqb n 50) _ p
    (λ b q.
    pick_second (eqb n 54) _ q
    (λ c r.
    pick_second (eqb n 62) _ r
    (λ d s.
    record {
      from = ltb-false n 40 a;
      to = ltb-true n 64 s;
      not-50 = eqb-false n 50 b;
      not-54 = eqb-false n 54 c;
      not-62 = eqb-false n 62 d;
    }))))

extended-number : (n : ℕ) → pick (ltb n 64) false (ltb n 128) ≡ true → (64 ≤ n) × (n < 128)
extended-number n h = pick_second (ltb n 64) (ltb n 128) h (λ a b. (ltb-false n 64 a, ltb-true n 128 b))

-- fields that are read, in their places, are the halfwords without unused bits
module _ (n f s : ℕ) (hf : f < 65536) (hs : s < 65536) (at : operation_at f s ≡ n) where
  short-read : (t : format.Format) (b a : ℕ) → format_of n ≡ t → ltb n 32 ≡ true → (f / 1024 ≡ n → n < 64 → placed n b a ≡ first_without t f) →
      Ok (One (placed n b a)) ≡ cleared_of f s
  short-read t b a known fits same =
      let small = ltb-true n 32 fits in
      let e = opcode-short n f s at small in
      ap (λ (g : ℕ). Ok (One g)) (same e (omega arith)) ∙ sym (cleared-short t n f s known e small)

  long-read : (t : format.Format) (g u : ℕ) → format_of n ≡ t → long_number n ≡ true
      → (f / 1024 ≡ n → n < 64 → (g ≡ first_without t f) × (u ≡ second_without t s)) →
      Ok (Two g u) ≡ cleared_of f s
  long-read t g u known fits same =
      let l = long-number n fits in
      let e = opcode-long n f s at l.from l.to in
      let q = same e l.to in
      rw (q.0, q.1) (sym (cleared-long t n f s known e l.from l.not-50 l.not-54 l.not-62))

  extended-read : (t : format.Format) (b a : ℕ) → format_of n ≡ t → pick (ltb n 64) false (ltb n 128) ≡ true → second_without t s ≡ without 0 10 s →
      (f / 1024 ≡ 62 → placed 62 b a ≡ first_without t f) → Ok (Two (placed 62 b a) (sub_opcode n)) ≡ cleared_of f s
  extended-read t b a known fits second same =
      let r = extended-number n fits in
      let from = r.0 in
      let e = opcode-extended n f s hf at r.0 in
      let q = e.1 in
      let low : sub_opcode n ≡ without 0 10 s = ap sub_opcode (sym q) ∙ sub-again (s / 1024) s (omega arith) refl in
      rw (same e.0, low, sym second) (sym (cleared-extended t (s / 1024) f s (ap format_of q ∙ known) e.0 refl))

  branch_read : format_of n ≡ Branch → eqb n 32 ≡ true → Ok (One (branch_placed (f / 512 % 16) (extend_of 256 (f % 512 / 2 * 2)))) ≡ cleared_of f s
  branch_read known fits =
      let r = opcode-branch f s (at ∙ eqb-true n 32 fits) in
      let back = extended-low 256 nine (f % 512 / 2 * 2) (omega arith) in
      ap (λ (g : ℕ). Ok (One g)) (branch-again f (extend_of 256 (f % 512 / 2 * 2)) r.0 r.1 back) ∙ sym (cleared-branch f s r.0 r.1)

  jump-read : f / 1024 ≡ n → n < 64 → (jump_placed n (extend_of 33554432 (f % 1024 * 65536 + s / 2 * 2)) ≡ f)
      × (low_half (extend_of 33554432 (f % 1024 * 65536 + s / 2 * 2)) ≡ without 0 1 s)
  jump-read e to =
      let d = extend_of 33554432 (f % 1024 * 65536 + s / 2 * 2) in
      let small : f % 1024 * 65536 + s / 2 * 2 < 67108864 = omega arith in
      let back = extended-low 33554432 twenty-six (f % 1024 * 65536 + s / 2 * 2) small in
      (jump-first n d f s to hs e back, jump-second d f s hs back)

  signed-read : f / 1024 ≡ n → n < 64 → placed n (f / 32 % 32) (extend_of 16 (f % 32)) ≡ f
  signed-read e wide =
      let back : extend_of 16 (f % 32) % 32 ≡ f % 32 = extended-low 16 five (f % 32) (omega arith) in
      omega arith

  pub placed-read : (t : format.Format) → format_of n ≡ t → number_fits n t ≡ true → absent t f ≡ false → halfwords_of t (fields_at t n f s) ≡ cleared_of f s
  placed-read Registers known fits p = short-read Registers _ _ known fits (λ e wide. placed-again n f wide e)
  placed-read Target known fits p = short-read Target 0 (f % 32) known fits (λ e wide. omega arith)
  placed-read SignedImmediate known fits p = short-read SignedImmediate _ _ known fits signed-read
  placed-read UnsignedImmediate known fits p = short-read UnsignedImmediate _ _ known fits (λ e wide. placed-again n f wide e)
  placed-read Condition known fits p = short-read Condition _ _ known fits (λ e wide. condition-again n f wide e)
  placed-read Vector known fits p = short-read Vector 0 (f % 32) known fits (λ e wide. omega arith)
  placed-read Bare known fits p = short-read Bare 0 0 known fits (λ e wide. omega arith)
  placed-read SystemRegister known fits p = short-read SystemRegister _ _ known fits (λ e wide. placed-again n f wide e)
  placed-read Branch known fits p = branch_read known fits
  placed-read Jump known fits p = long-read Jump _ _ known fits jump-read
  placed-read SignedLong known fits p = long-read SignedLong _ _ known fits (λ e wide. (placed-again n f wide e, extended-low 32768 sixteen s hs))
  placed-read UnsignedLong known fits p = long-read UnsignedLong _ (low_half s) known fits (λ e wide. (placed-again n f wide e, omega arith))
  placed-read Extended known fits p = extended-read Extended _ _ known fits refl (λ e. placed-again 62 f (omega arith) e)
  placed-read Exchange known fits p = extended-read Exchange (f / 32 % 32) 0 known fits refl (λ e. omega arith)
  placed-read Unlisted known fits p = absurd (true≢false p)

-- where there is no instruction, no bit is unused
pub absent-kept : (t : format.Format) (f s : ℕ) → absent t f ≡ true → (first_without t f ≡ f) × (second_without t s ≡ s)
absent-kept Registers f s e = absurd (true≢false (sym e))
absent-kept Target f s e = absurd (true≢false (sym e))
absent-kept SignedImmediate f s e = absurd (true≢false (sym e))
absent-kept UnsignedImmediate f s e = absurd (true≢false (sym e))
absent-kept Condition f s e = absurd (true≢false (sym e))
absent-kept Vector f s e = absurd (true≢false (sym e))
absent-kept Bare f s e = absurd (true≢false (sym e))
absent-kept SystemRegister f s e = (refl, refl)
absent-kept Branch f s e = absurd (true≢false (sym e))
absent-kept Jump f s e = absurd (true≢false (sym e))
absent-kept SignedLong f s e = absurd (true≢false (sym e))
absent-kept UnsignedLong f s e = absurd (true≢false (sym e))
absent-kept Extended f s e = absurd (true≢false (sym e))
absent-kept Exchange f s e = absurd (true≢false (sym e))
absent-kept Unlisted f s e = (refl, refl)

-- fields in range are those that their format has
none : (n : ℕ) → ltb n 1 ≡ true → 0 ≡ n
none n h =
    let k = ltb-true n 1 h in
    omega arith

gone : (n : ℕ) → n < 1 → 0 ≡ n
gone n h = omega arith

module _ (x : Fields) where
  -- by the limits of registers and condition, of which 1 says that the format does not have the field
  kept : (reg1 reg2 condition : ℕ) (immediate : Bool) (a b c d : ℕ) → within x reg1 reg2 condition immediate ≡ true →
      (x.reg1 < reg1 → a ≡ x.reg1) → (x.reg2 < reg2 → b ≡ x.reg2) → (x.condition < condition → c ≡ x.condition) →
      (immediate ≡ true → d ≡ x.immediate) → numbers x.operation a b c d ≡ x
  kept reg1 reg2 condition immediate a b c d h p q r s =
      let w = within-facts x reg1 reg2 condition immediate h in
      rw (p w.first, q w.second, r w.third, s w.last)

  same : {A : Type 0} {k : ℕ} → A → k ≡ k
  same h = refl

  pub having-all : (t : format.Format) → fits_of t x ≡ true → having t x.operation x ≡ x
  having-all Registers h = kept 32 32 1 _ _ _ _ _ h same same (gone _) (none _)
  having-all Target h = kept 32 1 1 _ _ _ _ _ h same (gone _) (gone _) (none _)
  having-all SignedImmediate h = kept 1 32 1 _ _ _ _ _ h (gone _) same (gone _) same
  having-all UnsignedImmediate h = kept 1 32 1 _ _ _ _ _ h (gone _) same (gone _) same
  having-all Condition h = kept 1 32 16 _ _ _ _ _ h (gone _) same same (none _)
  having-all Vector h = kept 1 1 1 _ _ _ _ _ h (gone _) (gone _) (gone _) same
  having-all Bare h = kept 1 1 1 _ _ _ _ _ h (gone _) (gone _) (gone _) (none _)
  having-all SystemRegister h = kept 1 32 1 _ _ _ _ _ h (gone _) same (gone _) same
  having-all Branch h = kept 1 1 16 _ _ _ _ _ h (gone _) (gone _) same same
  having-all Jump h = kept 1 1 1 _ _ _ _ _ h (gone _) (gone _) (gone _) same
  having-all SignedLong h = kept 32 32 1 _ _ _ _ _ h same same (gone _) same
  having-all UnsignedLong h = kept 32 32 1 _ _ _ _ _ h same same (gone _) same
  having-all Extended h = kept 32 32 1 _ _ _ _ _ h same same (gone _) (none _)
  having-all Exchange h = kept 1 32 1 _ _ _ _ _ h same same (gone _) (none _)
  having-all Unlisted h = absurd (true≢false (sym h))

-- fields in range, in their places, are read from there
module _ (x : Fields) (t : format.Format) (known : format_of x.operation ≡ t) (fits : fits_of t x ≡ true) where
  read : (f s : ℕ) → f < 65536 → operation_at f s ≡ x.operation → absent t f ≡ false → fields_at t x.operation f s ≡ having t x.operation x →
      decode_of f s ≡ Some (instruction_of x)
  read f s wide at present e = decode-row f s wide ∙ rw (at, known, present, e, having-all x t fits)

  short-placed : (b a : ℕ) → ltb x.operation 32 ≡ true → b < 32 → absent t (placed x.operation b a) ≡ false →
      ((f s : ℕ) → f % 32 ≡ a % 32 → f / 32 % 32 ≡ b → fields_at t x.operation f s ≡ having t x.operation x) →
      DecodesTo (instruction_of x) (Ok (One (placed x.operation b a)))
  short-placed b a fit hb present e =
      let n = x.operation in
      let g = placed n b a in
      let small = ltb-true n 32 fit in
      let wide : n < 64 = omega arith in
      let at = placed-opcode n b a wide hb in
      let half = placed-half n b a wide hb in (
        half,
        two-short g (omega arith),
        λ s. read g s half (operation-short n g s at small) present (e g s (placed-low n b a wide hb) (placed-middle n b a wide hb)),
      )

  long-placed : (b a u : ℕ) → long_number x.operation ≡ true → b < 32 → u < 65536 → ((f : ℕ) → absent t f ≡ false) →
      ((f : ℕ) → f % 32 ≡ a % 32 → f / 32 % 32 ≡ b → fields_at t x.operation f u ≡ having t x.operation x) →
      DecodesTo (instruction_of x) (Ok (Two (placed x.operation b a) u))
  long-placed b a u fit hb hu present e =
      let n = x.operation in
      let g = placed n b a in
      let l = long-number n fit in
      let at = placed-opcode n b a l.to hb in
      let half = placed-half n b a l.to hb in (
        half,
        hu,
        two-long n g at l.from l.not-50 l.not-54,
        read g u half (operation-long n g u at l.from l.not-62) (present g)
            (e g (placed-low n b a l.to hb) (placed-middle n b a l.to hb)),
      )

  extended-placed : (b a : ℕ) → pick (ltb x.operation 64) false (ltb x.operation 128) ≡ true → b < 32 → ((f : ℕ) → absent t f ≡ false) →
      ((f s : ℕ) → f % 32 ≡ a % 32 → f / 32 % 32 ≡ b → fields_at t x.operation f s ≡ having t x.operation x) →
      DecodesTo (instruction_of x) (Ok (Two (placed 62 b a) (sub_opcode x.operation)))
  extended-placed b a fit hb present e =
      let n = x.operation in
      let g = placed 62 b a in
      let r = extended-number n fit in
      let to : 62 < 64 = omega arith in
      let at = placed-opcode 62 b a to hb in
      let from = r.0 in
      let below = r.1 in
      let whole : 64 + sub_opcode n / 1024 ≡ n = omega arith in
      let half = placed-half 62 b a to hb in (
        half,
        omega arith,
        two-long 62 g at (omega arith) (λ q. absurd (omega arith)) (λ q. absurd (omega arith)),
        read g (sub_opcode n) half (operation-extended (sub_opcode n / 1024) g (sub_opcode n) at refl ∙ whole) (present g)
            (e g (sub_opcode n) (placed-low 62 b a to hb) (placed-middle 62 b a to hb)),
      )

  branch-placed : eqb x.operation 32 ≡ true → x.condition < 16 → even_in 256 x.immediate ≡ true → ((f : ℕ) → absent t f ≡ false) →
      ((f s : ℕ) → f / 512 % 16 ≡ x.condition → extend_of 256 (f % 512 / 2 * 2) ≡ x.immediate → fields_at t x.operation f s ≡ having t x.operation x) →
      DecodesTo (instruction_of x) (Ok (One (branch_placed x.condition x.immediate)))
  branch-placed fit hc even present e =
      let c = x.condition in
      let d = x.immediate in
      let g = branch_placed c d in
      let r = even-facts 256 d even in
      let at = branch-opcode c d hc in
      let wide : branch_placed c d < 65536 = omega arith in (
        wide,
        two-short g at.1,
        λ s.
            read g s wide (operation-branch g s at.0 at.1 ∙ sym (eqb-true x.operation 32 fit)) (present g)
            (e g s (branch-condition c d hc) (ap (extend_of 256) (branch-offset c d hc r.0) ∙ extend-word 256 nine d r.1)),
      )

  jump-placed : long_number x.operation ≡ true → even_in 33554432 x.immediate ≡ true → ((f : ℕ) → absent t f ≡ false) →
      ((f s : ℕ) → extend_of 33554432 (f % 1024 * 65536 + s / 2 * 2) ≡ x.immediate → fields_at t x.operation f s ≡ having t x.operation x) →
      DecodesTo (instruction_of x) (Ok (Two (jump_placed x.operation x.immediate) (low_half x.immediate)))
  jump-placed fit even present e =
      let n = x.operation in
      let d = x.immediate in
      let g = jump_placed n d in
      let r = even-facts 33554432 d even in
      let l = long-number n fit in
      let at = jump-opcode n d l.to in
      let wide : jump_placed n d < 65536 = omega arith in (
        wide,
        omega arith,
        two-long n g at l.from l.not-50 l.not-54,
        read g (low_half d) wide (operation-long n g (low_half d) at l.from l.not-62) (present g)
            (e g (low_half d) (ap (extend_of 33554432) (jump-offset n d l.to r.0) ∙ extend-word 33554432 twenty-six d r.1)),
      )

-- a field below its limit is its own low bits
low_bits : (f a : ℕ) → a < 32 → f % 32 ≡ a % 32 → f % 32 ≡ a
low_bits f a h e = omega arith

low-condition : (f a : ℕ) → a < 16 → f % 32 ≡ a % 32 → f % 16 ≡ a
low-condition f a h e = omega arith

pub decodes-placed : (x : Fields) (t : format.Format) → format_of x.operation ≡ t → number_fits x.operation t ≡ true → fits_of t x ≡ true →
    DecodesTo (instruction_of x) (halfwords_of t x)
decodes-placed x Registers known number h =
    let w = within-facts x 32 32 1 _ h in
    short-placed x Registers known h _ _ number w.second refl (λ f s low middle. rw (low_bits f x.reg1 w.first low, middle))
decodes-placed x Target known number h =
    let w = within-facts x 32 1 1 _ h in
    short-placed x Target known h 0 x.reg1 number (omega arith) refl (λ f s low middle. rw (low_bits f x.reg1 w.first low))
decodes-placed x SignedImmediate known number h =
    let w = within-facts x 1 32 1 _ h in
    short-placed x SignedImmediate known h _ _ number w.second refl
    (λ f s low middle. rw (low, middle, extend-word 16 five x.immediate w.last))
decodes-placed x UnsignedImmediate known number h =
    let w = within-facts x 1 32 1 _ h in
    short-placed x UnsignedImmediate known h _ _ number w.second refl
    (λ f s low middle. rw (low_bits f x.immediate (ltb-true x.immediate 32 w.last) low, middle))
decodes-placed x Condition known number h =
    let w = within-facts x 1 32 16 _ h in
    short-placed x Condition known h _ _ number w.second refl (λ f s low middle. rw (low-condition f x.condition w.third low, middle))
decodes-placed x Vector known number h =
    let w = within-facts x 1 1 1 _ h in
    short-placed x Vector known h 0 x.immediate number (omega arith) refl
    (λ f s low middle. rw (low_bits f x.immediate (ltb-true x.immediate 32 w.last) low))
decodes-placed x Bare known number h = short-placed x Bare known h 0 0 number (omega arith) refl (λ f s low middle. refl)
decodes-placed x SystemRegister known number h =
    let w = within-facts x 1 32 1 _ h in
    let r = system-facts x.immediate w.last in
    let small = ltb-true x.operation 32 number in
    let wide : x.operation < 64 = omega arith in
    let low = low_bits (placed x.operation x.reg2 x.immediate) x.immediate r.0
    (placed-low x.operation x.reg2 x.immediate wide w.second) in
    short-placed x SystemRegister known h x.reg2 x.immediate number w.second (rw low (ne_eqb x.immediate 24 r.1))
    (λ f s low middle. rw (low_bits f x.immediate r.0 low, middle))
decodes-placed x Branch known number h =
    let w = within-facts x 1 1 16 _ h in
    branch-placed x Branch known h number w.third w.last (λ f. refl) (λ f s condition offset. rw (condition, offset))
decodes-placed x Jump known number h =
    let w = within-facts x 1 1 1 _ h in
    jump-placed x Jump known h number w.last (λ f. refl) (λ f s offset. rw offset)
decodes-placed x SignedLong known number h =
    let w = within-facts x 32 32 1 _ h in
    long-placed x SignedLong known h x.reg2 x.reg1 (low_half x.immediate) number w.second (omega arith) (λ f. refl)
    (λ f low middle. rw (low_bits f x.reg1 w.first low, middle, extend-word 32768 sixteen x.immediate w.last))
decodes-placed x UnsignedLong known number h =
    let w = within-facts x 32 32 1 _ h in
    let small = ltb-true x.immediate 65536 w.last in
    let same : low_half x.immediate ≡ x.immediate = omega arith in
    long-placed x UnsignedLong known h x.reg2 x.reg1 (low_half x.immediate) number w.second (omega arith) (λ f. refl)
    (λ f low middle. rw (low_bits f x.reg1 w.first low, middle, same))
decodes-placed x Extended known number h =
    let w = within-facts x 32 32 1 _ h in
    extended-placed x Extended known h _ _ number w.second (λ f. refl) (λ f s low middle. rw (low_bits f x.reg1 w.first low, middle))
decodes-placed x Exchange known number h =
    let w = within-facts x 1 32 1 _ h in
    extended-placed x Exchange known h x.reg2 0 number w.second (λ f. refl) (λ f s low middle. rw (middle, gone x.reg1 w.first))
decodes-placed x Unlisted known number h = absurd (true≢false (sym h))
