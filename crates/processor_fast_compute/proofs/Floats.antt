-- The flags of the floating instructions, put over those that are kept.
use Rattle.std.proofs.Common.{◌≡◌, ℕ, ◌+◌, ◌*◌, ◌/◌, ◌%◌, ◌^◌, Bool, true, false, eqb, ltb, List, sym, refl, ap, ◌∙◌}
use Rattle.bus.specs.Memory.{Memory}
use Rattle.processor_arithmetic.specs.Bitwise.{bits_of}
use Rattle.processor_execute.specs.Result.{goes_on}
use Rattle.processor_float.specs.Flag.{order_flags_of, underflow_of, number_flags_of, conversion_flags_of}
use Rattle.processor_lazy_flags.specs.inner.Packed.{packed_of, ordered_of, Gives}
use Rattle.processor_lazy_flags.specs.declared.Flags.{Flags}
use Rattle.processor_lazy_flags.proofs.Kept.{packed-high}
use Rattle.processor_machine.specs.State.{put_of}
use Rattle.processor_fast_compute.specs.inner.Fast.{address_of, machine_of, Does}
use Rattle.processor_fast_compute.specs.declared.Fast.TheVariants.{Done}

pub order-over : (psw : ℕ) (g : Flags) (zero negative : Bool) → order_flags_of (packed_of psw g) zero negative ≡ ordered_of psw zero negative
unfolding order_flags_of
order-over psw g zero negative = rw (packed-high psw g)

pub number-over : (psw : ℕ) (g : Flags) (w : ℕ) → number_flags_of (packed_of psw g) w false ≡ ordered_of psw (eqb (w % 2 ^ 31) 0) (ltb (2 ^ 31) w)
unfolding number_flags_of underflow_of
number-over psw g w = order-over psw g (eqb (w % 2 ^ 31) 0) (ltb (2 ^ 31) w)

module _ (base x psw : ℕ) (regs₀ regs sys : List ℕ) (g : Flags) (m : Memory) (to next : ℕ) (on : address_of base to ≡ next) (even : to % 2 ≡ 0) where
  -- an instruction that goes on with these registers and this PSW
  pub goes-on : (r : Flags) (p : ℕ) (rs : List ℕ) → packed_of psw r ≡ p → regs ≡ rs
      → Does (Done to r.addition r.value) base psw regs₀ m regs m sys (goes_on rs next p (machine_of regs₀ sys base x psw g) m)
  goes-on r p rs e h = (rw (on, e, h), even)
