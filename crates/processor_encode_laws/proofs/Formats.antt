-- What each format reads from its halfwords, and the tables of formats, instructions and decoded rows compared: the decoder's row is the instruction
-- of the fields that its format reads, `decode-row`, and an instruction's fields are those that its format has, `instruction-fields`. Assumes nothing.
use Rattle.std.specs.Prelude.{Option, Some, None}
use Prim.Native.Nat.{ℕ, ◌+◌, ◌-◌, ◌*◌, ◌/◌, ◌%◌, ◌≤◌, ◌<◌}
use mathlib.Core.Bool.{Bool, true, false}
use mathlib.Core.List.{List, map}
use mathlib.Core.Path.{◌≡◌, refl, sym, ◌∙◌, ap}
use native.Mathlib.Decide.{dec_lt}
use native.Mathlib.Omega.{arith}
use borrow.Author.Tests.{lt-ltb, le-ltb, ne_eqb}
use lib.Dec.{ltb, eqb}
use lib.ListN.{get_or, length, drop, replicate, get_or-eq_default, get_or-map, get_or-replicate}
use lib.Seq.{get_or-drop}
use Rattle.word.specs.Choose.{pick}
use Rattle.word.specs.Extend.{extend_of}
use Rattle.processor_decode.specs.Format.{disp_of}
use Rattle.processor_decode.specs.Opcode.{decode_of, short_rows, long_rows}
use Rattle.processor_decode.specs.SubOpcode as sub
use Rattle.processor_decode.proofs.Rows.{short_row, branch_row, long-row, unlisted}
use Rattle.processor_decode.specs.declared.Instruction.{Instruction}
use Rattle.processor_decode.specs.declared.Instruction.TheVariants.{Illegal}
use Rattle.processor_encode.specs.Format.{format_of, short_formats, long_formats, extended_formats}
use Rattle.processor_encode.specs.Fields.{fields_of, numbers}
use Rattle.processor_encode.specs.Unused.{operation_at}
use Rattle.processor_encode.specs.declared.Fields.{Fields}
use Rattle.processor_encode.specs.declared.format.Format as format
use Rattle.processor_encode.specs.declared.format.Format.TheVariants.{Registers, Target, SignedImmediate}
use Rattle.processor_encode.specs.declared.format.Format.TheVariants.{UnsignedImmediate, Condition, Vector, Bare}
use Rattle.processor_encode.specs.declared.format.Format.TheVariants.{SystemRegister, Branch, Jump, SignedLong}
use Rattle.processor_encode.specs.declared.format.Format.TheVariants.{UnsignedLong, Extended, Exchange, Unlisted}
use Rattle.processor_encode_laws.proofs.Rows.{numbered, numbered-at}
use Rattle.processor_encode_laws.proofs.Cleared.{operation-view}
use Rattle.processor_encode_laws.proofs.Instructions.{short_of, long_of, extended_of, instruction_at}

-- the fields that the decoder reads from halfwords f and s of operation n
abbrev pub fields_at : format.Format → ℕ → ℕ → ℕ → Fields
fields_at Registers n f s = numbers n (f % 32) (f / 32 % 32) 0 0
fields_at Target n f s = numbers n (f % 32) 0 0 0
fields_at SignedImmediate n f s = numbers n 0 (f / 32 % 32) 0 (extend_of 16 (f % 32))
fields_at UnsignedImmediate n f s = numbers n 0 (f / 32 % 32) 0 (f % 32)
fields_at Condition n f s = numbers n 0 (f / 32 % 32) (f % 16) 0
fields_at Vector n f s = numbers n 0 0 0 (f % 32)
fields_at Bare n f s = numbers n 0 0 0 0
fields_at SystemRegister n f s = numbers n 0 (f / 32 % 32) 0 (f % 32)
fields_at Branch n f s = numbers n 0 0 (f / 512 % 16) (extend_of 256 (f % 512 / 2 * 2))
fields_at Jump n f s = numbers n 0 0 0 (disp_of f s)
fields_at SignedLong n f s = numbers n (f % 32) (f / 32 % 32) 0 (extend_of 32768 s)
fields_at UnsignedLong n f s = numbers n (f % 32) (f / 32 % 32) 0 s
fields_at Extended n f s = numbers n (f % 32) (f / 32 % 32) 0 0
fields_at Exchange n f s = numbers n 0 (f / 32 % 32) 0 0
fields_at Unlisted n f s = numbers n 0 0 0 0

pub read-operation : (t : format.Format) (n f s : ℕ) → (fields_at t n f s).operation ≡ n
read-operation Registers n f s = refl
read-operation Target n f s = refl
read-operation SignedImmediate n f s = refl
read-operation UnsignedImmediate n f s = refl
read-operation Condition n f s = refl
read-operation Vector n f s = refl
read-operation Bare n f s = refl
read-operation SystemRegister n f s = refl
read-operation Branch n f s = refl
read-operation Jump n f s = refl
read-operation SignedLong n f s = refl
read-operation UnsignedLong n f s = refl
read-operation Extended n f s = refl
read-operation Exchange n f s = refl
read-operation Unlisted n f s = refl

-- where a halfword of the format has no instruction
abbrev pub absent : format.Format → ℕ → Bool
absent Registers f = false
absent Target f = false
absent SignedImmediate f = false
absent UnsignedImmediate f = false
absent Condition f = false
absent Vector f = false
absent Bare f = false
absent SystemRegister f = eqb (f % 32) 24
absent Branch f = false
absent Jump f = false
absent SignedLong f = false
absent UnsignedLong f = false
absent Extended f = false
absent Exchange f = false
absent Unlisted f = true

-- what the decoder gives there: LDSR and STSR of register 24, bit strings and CAXI are not modelled
unfoldable pub other_of : ℕ → Option Instruction
other_of n =
    pick (ltb n 64)
    (pick (eqb n 28) None (pick (eqb n 29) None (pick (eqb n 31) None (pick (eqb n 58) None (Some Illegal)))))
    (Some Illegal)

abbrev pub row_of : ℕ → ℕ → ℕ → format.Format → Option Instruction
row_of f s n t = pick (absent t f) (other_of n) (Some (instruction_at (fields_at t n f s) n))

-- x without the fields that the format does not have
abbrev pub having : format.Format → ℕ → Fields → Fields
having Registers n x = numbers n x.reg1 x.reg2 0 0
having Target n x = numbers n x.reg1 0 0 0
having SignedImmediate n x = numbers n 0 x.reg2 0 x.immediate
having UnsignedImmediate n x = numbers n 0 x.reg2 0 x.immediate
having Condition n x = numbers n 0 x.reg2 x.condition 0
having Vector n x = numbers n 0 0 0 x.immediate
having Bare n x = numbers n 0 0 0 0
having SystemRegister n x = numbers n 0 x.reg2 0 x.immediate
having Branch n x = numbers n 0 0 x.condition x.immediate
having Jump n x = numbers n 0 0 0 x.immediate
having SignedLong n x = numbers n x.reg1 x.reg2 0 x.immediate
having UnsignedLong n x = numbers n x.reg1 x.reg2 0 x.immediate
having Extended n x = numbers n x.reg1 x.reg2 0 0
having Exchange n x = numbers n x.reg1 x.reg2 0 0
having Unlisted n x = numbers 255 0 0 0 0

-- whether n is the number of an operation of two halfwords, but for those by sub-opcode
abbrev pub long_number : ℕ → Bool
long_number n =
    pick (ltb n 40) false (pick (eqb n 50) false (pick (eqb n 54) false (pick (eqb n 62) false (ltb n 64))))

-- whether n is the number of an operation of the format
abbrev pub number_fits : ℕ → format.Format → Bool
number_fits n Registers = ltb n 32
number_fits n Target = ltb n 32
number_fits n SignedImmediate = ltb n 32
number_fits n UnsignedImmediate = ltb n 32
number_fits n Condition = ltb n 32
number_fits n Vector = ltb n 32
number_fits n Bare = ltb n 32
number_fits n SystemRegister = ltb n 32
number_fits n Branch = eqb n 32
number_fits n Jump = long_number n
number_fits n SignedLong = long_number n
number_fits n UnsignedLong = long_number n
number_fits n Extended = pick (ltb n 64) false (ltb n 128)
number_fits n Exchange = pick (ltb n 64) false (ltb n 128)
number_fits n Unlisted = true

-- a number is in one of the three parts of the tables
module _ (P : ℕ → Type 0) where
  number-view : ((k : ℕ) → k < 32 → P k) → ((k : ℕ) → k < 32 → P (32 + k)) → ((k : ℕ) → P (64 + k)) → (n : ℕ) → P n
  number-view short long extended n =
      elim (dec_lt n 32) [
        | yes a ↦ short n a
        | no a ↦ elim (dec_lt n 64) [
          | yes b ↦
              let at : 32 + (n - 32) ≡ n = omega arith in
              rw at at (long (n - 32) (omega arith))
          | no b ↦
              let at : 64 + (n - 64) ≡ n = omega arith in
              rw at at (extended (n - 64))
        ]
      ]

module _ (k : ℕ) where
  short-format : k < 32 → format_of k ≡ get_or short_formats k Unlisted
  unfolding format_of
  short-format h = simp (lt-ltb k 32 h)

  long-format : k < 32 → format_of (32 + k) ≡ get_or long_formats k Unlisted
  unfolding format_of
  long-format h =
      let from : 32 ≤ 32 + k = omega arith in
      let to : 32 + k < 64 = omega arith in
      let at : 32 + k - 32 ≡ k = omega arith in
      simp (le-ltb (32 + k) 32 from, lt-ltb (32 + k) 64 to, at)

  extended-format : format_of (64 + k) ≡ get_or extended_formats k Unlisted
  unfolding format_of
  extended-format =
      let from : 32 ≤ 64 + k = omega arith in
      let high : 64 ≤ 64 + k = omega arith in
      let at : 64 + k - 64 ≡ k = omega arith in
      simp (le-ltb (64 + k) 32 from, le-ltb (64 + k) 64 high, at)

  past-format : 13 ≤ k → format_of (64 + k) ≡ Unlisted
  unfolding extended_formats
  past-format h = extended-format ∙ get_or-eq_default extended_formats Unlisted h

short-numbers : numbered number_fits 0 short_formats ≡ replicate 32 true
unfolding short_formats
short-numbers = refl

long-numbers : numbered number_fits 32 long_formats ≡ replicate 32 true
unfolding long_formats
long-numbers = refl

extended-numbers : numbered number_fits 64 extended_formats ≡ replicate 13 true
unfolding extended_formats
extended-numbers = refl

number_at : (m : ℕ) (formats : List format.Format) (count k : ℕ) → numbered number_fits m formats ≡ replicate count true → count ≤ length formats → k < count →
    (n : ℕ) → n ≡ m + k → number_fits n (get_or formats k Unlisted) ≡ true
number_at m formats count k e long h n q =
    sym (numbered-at number_fits m formats k Unlisted false (omega arith) n q) ∙ ap (λ (l : List Bool). get_or l k false) e
    ∙ get_or-replicate count k true false h

pub number-fits : (n : ℕ) → number_fits n (format_of n) ≡ true
unfolding short_formats long_formats extended_formats
number-fits =
    number-view (λ (n : ℕ). number_fits n (format_of n) ≡ true)
    (λ k h. rw (short-format k h) (number_at 0 short_formats 32 k short-numbers (omega arith) h k (omega arith)))
    (λ k h. rw (long-format k h) (number_at 32 long_formats 32 k long-numbers (omega arith) h (32 + k) refl))
    (λ k. elim (dec_lt k 13) [
      | yes h ↦ rw (extended-format k) (number_at 64 extended_formats 13 k extended-numbers (omega arith) h (64 + k) refl)
      | no h ↦ rw (past-format k (omega arith))
    ])

-- the table of instructions against that of formats
module _ (x : Fields) where
  abbrev has : ℕ → format.Format → Fields
  has n t = having t n x

  short-fields : map fields_of (short_of x) ≡ numbered has 0 short_formats
  unfolding short_of short_formats
  short-fields = refl

  long-fields : map fields_of (long_of x) ≡ numbered has 32 long_formats
  unfolding long_of long_formats
  long-fields = refl

  extended-fields : map fields_of (extended_of x) ≡ numbered has 64 extended_formats
  unfolding extended_of extended_formats
  extended-fields = refl

  fields-at : (m : ℕ) (formats : List format.Format) (instructions : List Instruction) (k : ℕ) → map fields_of instructions ≡ numbered has m formats →
      k < length formats → (n : ℕ) → n ≡ m + k → fields_of (get_or instructions k Illegal) ≡ has n (get_or formats k Unlisted)
  fields-at m formats instructions k e h n q =
      sym (get_or-map fields_of instructions k Illegal) ∙ ap (λ (l : List Fields). get_or l k (fields_of Illegal)) e
      ∙ numbered-at has m formats k Unlisted (fields_of Illegal) h n q

  short-instruction : (k : ℕ) → k < 32 → fields_of (instruction_at x k) ≡ has k (format_of k)
  unfolding instruction_at short_formats
  short-instruction k h = rw (short-format k h) (simp (lt-ltb k 32 h) (fields-at 0 short_formats (short_of x) k short-fields h k (omega arith)))

  long-instruction : (k : ℕ) → k < 32 → fields_of (instruction_at x (32 + k)) ≡ has (32 + k) (format_of (32 + k))
  unfolding instruction_at long_formats
  long-instruction k h =
      let from : 32 ≤ 32 + k = omega arith in
      let to : 32 + k < 64 = omega arith in
      let at : 32 + k - 32 ≡ k = omega arith in
      rw (long-format k h)
      (simp (le-ltb (32 + k) 32 from, lt-ltb (32 + k) 64 to, at) (fields-at 32 long_formats (long_of x) k long-fields h (32 + k) refl))

  extended-entry : (k : ℕ) → instruction_at x (64 + k) ≡ get_or (extended_of x) k Illegal
  unfolding instruction_at
  extended-entry k =
      let from : 32 ≤ 64 + k = omega arith in
      let high : 64 ≤ 64 + k = omega arith in
      let at : 64 + k - 64 ≡ k = omega arith in
      simp (le-ltb (64 + k) 32 from, le-ltb (64 + k) 64 high, at)

  extended-instruction : (k : ℕ) → fields_of (instruction_at x (64 + k)) ≡ has (64 + k) (format_of (64 + k))
  unfolding extended_formats extended_of
  extended-instruction k =
      elim (dec_lt k 13) [
        | yes h ↦ rw (extended-format k, extended-entry k) (fields-at 64 extended_formats (extended_of x) k extended-fields h (64 + k) refl)
        | no h ↦
            let past : 13 ≤ k = omega arith in
            rw (past-format k past, extended-entry k) (ap fields_of (get_or-eq_default (extended_of x) Illegal past))
      ]

  -- an instruction of an operation has the fields that the operation's format has
  pub instruction-fields : (n : ℕ) → fields_of (instruction_at x n) ≡ has n (format_of n)
  instruction-fields =
      number-view (λ (n : ℕ). fields_of (instruction_at x n) ≡ has n (format_of n)) short-instruction long-instruction extended-instruction

-- the decoder's rows against the table of formats
module _ (f s : ℕ) where
  -- opcode 62 is decoded by its sub-opcode
  abbrev long_row : ℕ → format.Format → Option Instruction
  long_row n t = pick (eqb n 62) (sub.extended_of f s) (row_of f s n t)

  short-rows : short_rows f ≡ numbered (row_of f s) 0 short_formats
  unfolding short_rows short_formats instruction_at short_of other_of
  short-rows = refl

  long-rows : long_rows f s ≡ numbered long_row 40 (drop 8 long_formats)
  unfolding long_rows long_formats instruction_at long_of other_of
  long-rows = refl

  extended-rows : sub.sub_rows f ≡ numbered (row_of f s) 64 extended_formats
  unfolding sub.sub_rows extended_formats instruction_at extended_of other_of
  extended-rows = refl

  short-decoded : f / 1024 < 32 → decode_of f s ≡ row_of f s (f / 1024) (format_of (f / 1024))
  unfolding short_formats
  short-decoded h =
      rw (short-format (f / 1024) h)
      (short_row f s h ∙ ap (λ (l : List (Option Instruction)). get_or l (f / 1024) None) short-rows
      ∙ numbered-at (row_of f s) 0 short_formats (f / 1024) Unlisted None h (f / 1024) (omega arith))

  branch-decoded : 32 ≤ f / 1024 → f / 1024 < 40 → decode_of f s ≡ row_of f s 32 (format_of 32)
  unfolding format_of long_formats instruction_at long_of
  branch-decoded h k = branch_row f s h k

  long-decoded : f / 1024 < 64 → 40 ≤ f / 1024 → (f / 1024 ≡ 62 → ⊥) → decode_of f s ≡ row_of f s (f / 1024) (format_of (f / 1024))
  unfolding long_formats
  long-decoded wide h ne =
      let k = f / 1024 - 40 in
      let to : f / 1024 - 40 < 24 = omega arith in
      let at : 32 + (8 + (f / 1024 - 40)) ≡ f / 1024 = omega arith in
      let known : format_of (f / 1024) ≡ get_or (drop 8 long_formats) (f / 1024 - 40) Unlisted =
      ap format_of (sym at) ∙ long-format (8 + (f / 1024 - 40)) (omega arith) ∙ sym (get_or-drop 8 long_formats (f / 1024 - 40) Unlisted) in
      rw known
      (long-row f s h ∙ ap (λ (l : List (Option Instruction)). get_or l (f / 1024 - 40) None) long-rows
      ∙ numbered-at long_row 40 (drop 8 long_formats) (f / 1024 - 40) Unlisted None to (f / 1024) (omega arith)
      ∙ simp (ne_eqb (f / 1024) 62 ne))

  by-sub-opcode : f / 1024 ≡ 62 → decode_of f s ≡ sub.extended_of f s
  unfolding long_rows
  by-sub-opcode e = long-row f s (omega arith) ∙ ap (λ (k : ℕ). get_or (long_rows f s) (k - 40) None) e

  unlisted-other : (k : ℕ) → other_of (64 + k) ≡ Some Illegal
  unfolding other_of
  unlisted-other k =
      let high : 64 ≤ 64 + k = omega arith in
      simp (le-ltb (64 + k) 64 high)

  extended-decoded : f / 1024 ≡ 62 → decode_of f s ≡ row_of f s (64 + s / 1024) (format_of (64 + s / 1024))
  unfolding sub.extended_of extended_formats
  extended-decoded e =
      elim (dec_lt (s / 1024) 13) [
        | yes h ↦
            rw (extended-format (s / 1024))
            (by-sub-opcode e ∙ ap (λ (l : List (Option Instruction)). get_or l (s / 1024) (Some Illegal)) extended-rows
            ∙ numbered-at (row_of f s) 64 extended_formats (s / 1024) Unlisted (Some Illegal) h (64 + s / 1024) refl)
        | no h ↦
            let past : 13 ≤ s / 1024 = omega arith in
            rw (past-format (s / 1024) past) (by-sub-opcode e ∙ unlisted f s past ∙ sym (unlisted-other (s / 1024)))
      ]

  -- the decoder gives the instruction of the fields that its operation's format reads
  pub decode-row : f < 65536 → decode_of f s ≡ row_of f s (operation_at f s) (format_of (operation_at f s))
  decode-row h =
      operation-view (λ (n : ℕ). decode_of f s ≡ row_of f s n (format_of n)) f s short-decoded branch-decoded (long-decoded (omega arith)) extended-decoded
