-- Every instruction leaves an accepted machine of the right sizes.
use Prim.Native.Nat.{ℕ, ◌%◌, ◌^◌, ◌<◌}
use mathlib.Core.List.{List}
use mathlib.Core.Path.{refl}
use mathlib.Core.Bool.{true, false}
use native.Mathlib.Omega.{arith}
use lib.Dec.{eqb}
use lib.ListN.{get_or}
use lib.Ieee.{binary32, to_bits}
use Rattle.word.proofs.Choices.{pick-each}
use Rattle.word.specs.Bit.{bit_at}
use Rattle.processor_arithmetic.specs.declared.Outcome.{Outcome}
use Rattle.processor_arithmetic.specs.declared.Pair.{Pair}
use Rattle.processor_arithmetic.specs.Flag.{bit_of, set_id_of, clear_id_of, np_flag}
use Rattle.processor_arithmetic.proofs.Bits.{bit-small}
use Rattle.processor_arithmetic.specs.Product.{multiply_of, multiply_unsigned_of}
use Rattle.processor_arithmetic.specs.Quotient.{divide_of, divide_unsigned_of}
use Rattle.processor_arithmetic.specs.Condition.{condition_of}
use Rattle.bus.specs.Memory.{Memory}
use Rattle.processor_decode.specs.declared.Instruction.{Instruction}
use Rattle.processor_decode.specs.declared.Instruction.TheVariants.{Register, Mul, Div, Mulu, Divu, Jmp, Immediate}
use Rattle.processor_decode.specs.declared.Instruction.TheVariants.{Setf, Cli, Sei, Trap, Reti, Halt, Ldsr, Stsr}
use Rattle.processor_decode.specs.declared.Instruction.TheVariants.{Bcond, Jr, Jal, Long, Load, In, Store, Out}
use Rattle.processor_decode.specs.declared.Instruction.TheVariants.{Illegal, Cmpf, Floating, Nintendo}
use Rattle.processor_float.specs.Comparison.{comparison_of}
use Rattle.processor_float.specs.Flag.{order_flags_of, number_flags_of, conversion_flags_of}
use Rattle.processor_float.specs.declared.Compared.{Compared}
use Rattle.processor_float.specs.declared.FloatOutcome.{FloatOutcome}
use Rattle.processor_float.specs.declared.FloatOutcome.TheVariants.{Number, Word, Reserved, Invalid, ZeroDivide, Overflow}
use Rattle.processor_machine.specs.State.{State, reg_of, put_of, even_of}
use Rattle.processor_machine.specs.System.{system_of}
use Rattle.processor_machine.specs.Exception.{raise_of}
use Rattle.processor_execute.specs.Floating.{floating_of, nintendo_of}
use Rattle.processor_execute.specs.Operation.{register_of, immediate_of, long_of}
use Rattle.processor_execute.specs.Transfer.{loaded_of, input_of, stored_of}
use Rattle.processor_execute.specs.Result.{goes_on, gives_of, result_of, pair_of}
use Rattle.processor_execute.specs.Floating.{settles_of, compares_of}
use Rattle.processor_execute.specs.Execute.{divides_of, jumps_of, plus_of, execute_of}
use Rattle.processor_machine.specs.declared.Cause as cause
use Rattle.processor_machine.specs.declared.floating.FloatCause.{FloatCause}
use Rattle.processor_laws.proofs.Invariant.{Format, Generals, Address, Memories, Good}
use Rattle.processor_laws.proofs.Psw.{order-format, number-format, conversion-format, set-id-format, clear-id-format}
use Rattle.processor_laws.proofs.Floats.{Kept, number_word, floating-kept, nintendo-word}
use Rattle.processor_laws.proofs.Results.{Result, Results, register-result, immediate-result, long-result}
use Rattle.processor_laws.proofs.Results.{multiply-results, multiply-unsigned-results, divide-results}
use Rattle.processor_laws.proofs.Results.{divide-unsigned-results}
use Rattle.processor_laws.proofs.Stores.{stored-memories, loaded_word, input-word}
use Rattle.processor_laws.proofs.Immediates.{Fine}
use Rattle.processor_laws.proofs.Registers.{put-generals, system-word, written}
use Rattle.processor_laws.proofs.Exceptions.{Left, raise-left}

-- an address without its bit 0
even-address : (a : ℕ) → a < 2 ^ 32 → Address (even_of a)
even-address a h = record { word = omega arith; even = omega arith }

module _ (s : State) (m : Memory) (g : Good s m) where
  reg-word : (n : ℕ) → reg_of s n < 2 ^ 32
  reg-word n = (g.generals.each (n % 32)).0

  goes-on : (regs : List ℕ) (pc psw : ℕ) (n : Memory) → Generals regs → Address pc → Format psw → Memories n → Left (goes_on regs pc psw s n)
  goes-on regs pc psw n hr hp hf hm =
      record { generals = hr; systems = g.systems; address = hp; format = hf; memories = hm }

  gives : (n v next : ℕ) → v < 2 ^ 32 → Address next → Left (gives_of n v next s m)
  gives n v next hv hn =
      goes-on (put_of s.regs n v) next s.psw m (put-generals s.regs n v hv g.generals) hn g.format g.memories

  result : (n : ℕ) (o : Outcome) (next : ℕ) → Result o → Address next → Left (result_of n o next s m)
  result n o next r hn =
      goes-on (put_of s.regs n o.value) next o.psw m (put-generals s.regs n o.value r.word g.generals) hn
      r.format g.memories

  pair : (n : ℕ) (p : Pair) (next : ℕ) → Results p → Address next → Left (pair_of n p next s m)
  pair n p next r hn =
      goes-on (put_of (put_of s.regs 30 p.r30) n p.reg2) next p.psw m
      (put-generals (put_of s.regs 30 p.r30) n p.reg2 r.low (put-generals s.regs 30 p.r30 r.high g.generals))
      hn r.format g.memories

  divides : (divisor n : ℕ) (p : Pair) (next : ℕ) → Results p → Address next → Left (divides_of divisor n p next s m)
  divides divisor n p next r hn =
      pick-each Left (eqb divisor 0) (raise_of cause.TheVariants.ZeroDivision next s m) (pair_of n p next s m)
      (raise-left cause.TheVariants.ZeroDivision next s m hn g) (pair n p next r hn)

  settles : (n : ℕ) (o : FloatOutcome) (next : ℕ) → Kept o → Address next → Left (settles_of n o next s m)
  settles n (Number v underflowed) next k hn =
      let w = to_bits binary32 v in
      goes-on (put_of s.regs n w) next (number_flags_of s.psw w underflowed) m
      (put-generals s.regs n w (number_word v k) g.generals) hn (number-format s.psw w underflowed g.format) g.memories
  settles n (Word w) next k hn =
      goes-on (put_of s.regs n w) next (conversion_flags_of s.psw w) m (put-generals s.regs n w k g.generals) hn
      (conversion-format s.psw w g.format k) g.memories
  settles n Reserved next k hn = raise-left (cause.TheVariants.Float FloatCause.Reserved) next s m hn g
  settles n Invalid next k hn = raise-left (cause.TheVariants.Float FloatCause.Invalid) next s m hn g
  settles n ZeroDivide next k hn = raise-left (cause.TheVariants.Float FloatCause.ZeroDivide) next s m hn g
  settles n Overflow next k hn = raise-left (cause.TheVariants.Float FloatCause.Overflow) next s m hn g

  compares : (c : Compared) (next : ℕ) → Address next → Left (compares_of c next s m)
  compares Compared.Lower next hn =
      goes-on s.regs next (order_flags_of s.psw false true) m g.generals hn (order-format s.psw false true g.format) g.memories
  compares Compared.Equal next hn =
      goes-on s.regs next (order_flags_of s.psw true false) m g.generals hn (order-format s.psw true false g.format) g.memories
  compares Compared.Higher next hn =
      goes-on s.regs next (order_flags_of s.psw false false) m g.generals hn (order-format s.psw false false g.format) g.memories
  compares Compared.Reserved next hn = raise-left (cause.TheVariants.Float FloatCause.Reserved) next s m hn g

  jumps : (pc : ℕ) → pc < 2 ^ 32 → Left (jumps_of pc s m)
  jumps pc h = goes-on s.regs (even_of pc) s.psw m g.generals (even-address pc h) g.format g.memories

  stays : (next psw : ℕ) → Address next → Format psw → Left (goes_on s.regs next psw s m)
  stays next psw hn hf = goes-on s.regs next psw m g.generals hn hf g.memories

  plus-word : (a disp : ℕ) → plus_of a disp < 2 ^ 32
  plus-word a disp = omega arith

  returns : (next : ℕ) → Left (execute_of Reti next s m)
  unfolding execute_of
  returns next =
      let q = g.systems in
      pick-each Left (eqb (bit_at np_flag s.psw) 1) (goes_on s.regs (get_or s.sys 2 0) (get_or s.sys 3 0) s m)
      (goes_on s.regs (get_or s.sys 0 0) (get_or s.sys 1 0) s m)
      (stays (get_or s.sys 2 0) (get_or s.sys 3 0) record { word = (q.each 2).word; even = (q.each 2).fepc refl } ((q.each 3).fepsw refl))
      (stays (get_or s.sys 0 0) (get_or s.sys 1 0) record { word = (q.each 0).word; even = (q.each 0).eipc refl } ((q.each 1).eipsw refl))

  module _ (next : ℕ) (hn : Address next) where
    pub execute-left : (i : Instruction) → Fine i → Left (execute_of i next s m)
    unfolding execute_of
    execute-left (Register op reg1 reg2) f =
        result reg2 (register_of op (reg_of s reg2) (reg_of s reg1) s.psw) next
        (register-result (reg_of s reg2) (reg_of s reg1) s.psw (reg-word reg2) (reg-word reg1) g.format op) hn
    execute-left (Immediate op imm reg2) f =
        result reg2 (immediate_of op (reg_of s reg2) imm s.psw) next
        (immediate-result (reg_of s reg2) imm s.psw (reg-word reg2) f g.format op) hn
    execute-left (Long op imm reg1 reg2) f =
        result reg2 (long_of op (reg_of s reg1) imm s.psw) next
        (long-result (reg_of s reg1) imm s.psw (reg-word reg1) f g.format op) hn
    execute-left (Mul reg1 reg2) f =
        pair reg2 (multiply_of (reg_of s reg2) (reg_of s reg1) s.psw) next
        (multiply-results (reg_of s reg2) (reg_of s reg1) s.psw (reg-word reg2) (reg-word reg1) g.format) hn
    execute-left (Mulu reg1 reg2) f =
        pair reg2 (multiply_unsigned_of (reg_of s reg2) (reg_of s reg1) s.psw) next
        (multiply-unsigned-results (reg_of s reg2) (reg_of s reg1) s.psw (reg-word reg2) (reg-word reg1) g.format) hn
    execute-left (Div reg1 reg2) f =
        divides (reg_of s reg1) reg2 (divide_of (reg_of s reg2) (reg_of s reg1) s.psw) next
        (divide-results (reg_of s reg2) (reg_of s reg1) s.psw (reg-word reg2) (reg-word reg1) g.format) hn
    execute-left (Divu reg1 reg2) f =
        divides (reg_of s reg1) reg2 (divide_unsigned_of (reg_of s reg2) (reg_of s reg1) s.psw) next
        (divide-unsigned-results (reg_of s reg2) (reg_of s reg1) s.psw (reg-word reg2) (reg-word reg1) g.format) hn
    execute-left (Setf cond reg2) f =
        gives reg2 (bit_of (condition_of cond s.psw)) next (omega (arith, bit-small (condition_of cond s.psw))) hn
    execute-left (Load width disp reg1 reg2) f =
        gives reg2 (loaded_of m width (plus_of (reg_of s reg1) disp)) next
        (loaded_word m width (plus_of (reg_of s reg1) disp) g.memories.bytes) hn
    execute-left (In width disp reg1 reg2) f =
        gives reg2 (input_of m width (plus_of (reg_of s reg1) disp)) next
        (input-word m width (plus_of (reg_of s reg1) disp) g.memories.bytes) hn
    execute-left (Store width disp reg1 reg2) f =
        goes-on s.regs next s.psw (stored_of m width (plus_of (reg_of s reg1) disp) (reg_of s reg2)) g.generals hn g.format
        (stored-memories m width (plus_of (reg_of s reg1) disp) (reg_of s reg2) g.memories)
    execute-left (Out width disp reg1 reg2) f =
        goes-on s.regs next s.psw (stored_of m width (plus_of (reg_of s reg1) disp) (reg_of s reg2)) g.generals hn g.format
        (stored-memories m width (plus_of (reg_of s reg1) disp) (reg_of s reg2) g.memories)
    execute-left (Bcond cond disp) f =
        pick-each Left (condition_of cond s.psw) (jumps_of (plus_of s.pc disp) s m) (goes_on s.regs next s.psw s m)
        (jumps (plus_of s.pc disp) (plus-word s.pc disp)) (stays next s.psw hn g.format)
    execute-left (Jmp reg1) f = jumps (reg_of s reg1) (reg-word reg1)
    execute-left (Jr disp) f = jumps (plus_of s.pc disp) (plus-word s.pc disp)
    execute-left (Jal disp) f =
        goes-on (put_of s.regs 31 (plus_of s.pc 4)) (even_of (plus_of s.pc disp)) s.psw m
        (put-generals s.regs 31 (plus_of s.pc 4) (plus-word s.pc 4) g.generals)
        (even-address (plus_of s.pc disp) (plus-word s.pc disp)) g.format g.memories
    execute-left (Trap vector) f = raise-left (cause.TheVariants.Trap vector) next s m hn g
    execute-left Reti f = returns next
    execute-left Halt f =
        record {
          generals = g.generals;
          systems = g.systems;
          address = hn;
          format = g.format;
          memories = g.memories;
        }
    execute-left (Ldsr reg2 id) f =
        let w = written s.sys s.psw id (reg_of s reg2) (reg-word reg2) g.systems g.format in
        record {
          generals = g.generals;
          systems = w.systems;
          address = hn;
          format = w.format;
          memories = g.memories;
        }
    execute-left (Stsr id reg2) f =
        gives reg2 (system_of s.sys s.psw id) next (system-word s.sys s.psw id g.systems g.format) hn
    execute-left Cli f = stays next (clear_id_of s.psw) hn (clear-id-format s.psw g.format)
    execute-left Sei f = stays next (set_id_of s.psw) hn (set-id-format s.psw g.format)
    execute-left Illegal f = raise-left cause.TheVariants.Illegal next s m hn g
    execute-left (Cmpf reg1 reg2) f = compares (comparison_of (reg_of s reg2) (reg_of s reg1)) next hn
    execute-left (Floating op reg1 reg2) f =
        settles reg2 (floating_of op (reg_of s reg2) (reg_of s reg1)) next (floating-kept op (reg_of s reg2) (reg_of s reg1)) hn
    execute-left (Nintendo op reg1 reg2) f =
        gives reg2 (nintendo_of op (reg_of s reg2) (reg_of s reg1)) next (nintendo-word op (reg_of s reg2) (reg_of s reg1) (reg-word reg2)) hn
