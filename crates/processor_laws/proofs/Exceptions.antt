-- An exception leaves an accepted machine, by its three entries: fatal, duplexed and regular; and so does an interrupt.
use Prim.Native.Nat.{ℕ, ◌+◌, ◌-◌, ◌*◌, ◌/◌, ◌%◌, ◌^◌, ◌<◌}
use mathlib.Core.Path.{refl}
use native.Mathlib.Omega.{arith}
use lib.Dec.{ltb, eqb}
use lib.ListN.{get_or, set}
use Rattle.word.proofs.Choices.{pick-each}
use Rattle.word.specs.Bit.{bit_at, with_bit}
use Rattle.processor_arithmetic.specs.Flag.{regular_of, ep_flag, np_flag}
use Rattle.processor_arithmetic.specs.FloatFlag.{fov_flag, fzd_flag, fiv_flag, fro_flag}
use Rattle.bus.specs.Memory.{Memory}
use Rattle.processor_machine.specs.State.{State, Stepped, stepped_of}
use Rattle.processor_machine.specs.Exception.{code_of, handler_of, restore_of, fatal_of, duplexed_entry_of, regular_entry_of, enter_of, raise_of}
use Rattle.processor_machine.specs.FloatCause.{float_code_of, float_flag_of, saved_of}
use Rattle.processor_machine.specs.declared.Cause.{Cause}
use Rattle.processor_machine.specs.declared.Cause.TheVariants.{ZeroDivision, Illegal, Trap, Float}
use Rattle.processor_machine.specs.declared.floating.FloatCause.{FloatCause}
use Rattle.processor_machine.specs.declared.Answer.TheVariants.{Interrupted}
use Rattle.processor_interrupt.specs.Interrupt.{interrupt_code_of, interrupt_handler_of, interrupted_of}
use Rattle.processor_laws.proofs.Invariant.{Format, Systems, Address, Good}
use Rattle.processor_laws.proofs.Psw.{low-format, regular-format, duplexed-format, level-format}
use Rattle.processor_laws.proofs.Registers.{set-systems, eipc-system, eipsw-system, fepc-system, fepsw-system, ecr-system}

-- the machine after a step
abbrev pub Left : Stepped → Type 0
Left t = Good t.state t.memory

float-code-small : (c : FloatCause) → float_code_of c < 65536
float-code-small FloatCause.Reserved = omega arith
float-code-small FloatCause.Invalid = omega arith
float-code-small FloatCause.ZeroDivide = omega arith
float-code-small FloatCause.Overflow = omega arith

pub code-small : (c : Cause) → code_of c < 65536
code-small ZeroDivision = omega arith
code-small Illegal = omega arith
code-small (Trap vector) = omega arith
code-small (Float cause) = float-code-small cause

handler-address : (c : Cause) → Address (handler_of c)
handler-address ZeroDivision = record { word = omega arith; even = refl }
handler-address Illegal = record { word = omega arith; even = refl }
handler-address (Trap vector) =
    pick-each Address (ltb (vector % 32) 16) 0xFFFFFFA0 0xFFFFFFB0
    record { word = omega arith; even = refl } record { word = omega arith; even = refl }
handler-address (Float cause) = record { word = omega arith; even = refl }

restore-address : (c : Cause) (pc next : ℕ) → Address pc → Address next → Address (restore_of c pc next)
restore-address ZeroDivision pc next p q = p
restore-address Illegal pc next p q = p
restore-address (Trap vector) pc next p q = q
restore-address (Float cause) pc next p q = p

flagged-format : (c : FloatCause) (psw : ℕ) → Format psw → Format (with_bit (float_flag_of c) psw)
flagged-format FloatCause.Reserved psw h = low-format psw (with_bit fro_flag psw) (psw % 1024 - psw / 512 % 2 * 512 + 512) h (omega arith) (omega arith)
flagged-format FloatCause.Invalid psw h = low-format psw (with_bit fiv_flag psw) (psw % 1024 - psw / 256 % 2 * 256 + 256) h (omega arith) (omega arith)
flagged-format FloatCause.ZeroDivide psw h = low-format psw (with_bit fzd_flag psw) (psw % 1024 - psw / 128 % 2 * 128 + 128) h (omega arith) (omega arith)
flagged-format FloatCause.Overflow psw h = low-format psw (with_bit fov_flag psw) (psw % 1024 - psw / 64 % 2 * 64 + 64) h (omega arith) (omega arith)

-- the PSW that is saved is a PSW format
saved-format : (c : Cause) (psw : ℕ) → Format psw → Format (saved_of c psw)
saved-format ZeroDivision psw h = h
saved-format Illegal psw h = h
saved-format (Trap vector) psw h = h
saved-format (Float cause) psw h = flagged-format cause psw h

module _ (c : Cause) (s : State) (m : Memory) (g : Good s m) where
  fatal-left : Left (fatal_of c s m)
  fatal-left =
      record {
        generals = g.generals;
        systems = g.systems;
        address = g.address;
        format = g.format;
        memories = g.memories;
      }

  module _ (code handler restore saved : ℕ) (hc : code < 65536) (hh : Address handler) (hr : Address restore) (hs : Format saved) where
    duplexed-left : Left (duplexed_entry_of c code restore saved s m)
    duplexed-left =
        let sys = set (set s.sys 2 restore) 3 saved in
        let h : Systems sys = set-systems (set s.sys 2 restore) 3 saved (fepsw-system saved hs) (set-systems
        s.sys 2 restore (fepc-system restore hr.word hr.even) g.systems) in
        let e : get_or sys 4 0 % 65536 + code * 65536 < 2 ^ 32 = omega arith in
        record {
          generals = g.generals;
          systems = set-systems sys 4 (get_or sys 4 0 % 65536 + code * 65536) (ecr-system (get_or sys 4 0 % 65536 + code * 65536) e) h;
          address = record { word = omega arith; even = refl };
          format = duplexed-format saved hs;
          memories = g.memories;
        }

    pub regular-left : Left (regular_entry_of c code handler restore saved s m)
    regular-left =
        let sys = set (set s.sys 0 restore) 1 saved in
        let h : Systems sys = set-systems (set s.sys 0 restore) 1 saved (eipsw-system saved hs) (set-systems
        s.sys 0 restore (eipc-system restore hr.word hr.even) g.systems) in
        let w : get_or sys 4 0 < 2 ^ 32 = (h.each 4).word in
        let e : get_or sys 4 0 / 65536 * 65536 + code < 2 ^ 32 = omega arith in
        record {
          generals = g.generals;
          systems = set-systems sys 4 (get_or sys 4 0 / 65536 * 65536 + code) (ecr-system (get_or sys 4 0 / 65536 * 65536 + code) e) h;
          address = hh;
          format = regular-format saved hs;
          memories = g.memories;
        }

    enter-left : Left (enter_of c code handler restore saved s m)
    unfolding enter_of
    enter-left =
        pick-each Left (eqb (bit_at np_flag s.psw) 1) (fatal_of c s m) _ fatal-left
        (pick-each Left (eqb (bit_at ep_flag s.psw) 1) (duplexed_entry_of c code restore saved s m)
        (regular_entry_of c code handler restore saved s m) duplexed-left regular-left)

-- an exception leaves an accepted machine
pub raise-left : (c : Cause) (next : ℕ) (s : State) (m : Memory) → Address next → Good s m → Left (raise_of c next s m)
unfolding raise_of
raise-left c next s m hn g =
    enter-left c s m g (code_of c) (handler_of c) (restore_of c s.pc next) (saved_of c s.psw) (code-small c) (handler-address c)
    (restore-address c s.pc next g.address hn) (saved-format c s.psw g.format)

-- an interrupt too: its entry is a regular exception's, with I replaced
pub interrupt-left : (level : ℕ) (s : State) (m : Memory) → level < 5 → Good s m
    → Left (stepped_of (Interrupted level) (interrupted_of level s) m)
unfolding interrupted_of
interrupt-left level s m hl g =
    let code : interrupt_code_of level < 65536 = omega arith in
    let handler : Address (interrupt_handler_of level) = record { word = omega arith; even = omega arith } in
    let r = regular-left Illegal s m g (interrupt_code_of level) (interrupt_handler_of level) s.pc s.psw code handler g.address g.format in
    record {
      generals = r.generals;
      systems = r.systems;
      address = r.address;
      format = level-format (level + 1) (regular_of s.psw) (omega arith) r.format;
      memories = r.memories;
    }
