-- `processor_fast::system::ldsr`: its own case, but for registers 24 and 5, PSW.
use Rattle.std.proofs.Common.{refl, ne_eqb, arith}
use Rattle.processor_fast_compute.proofs.Results.{after_one, one-even}
use Rattle.processor_fast.proofs.Written.{written-does}
use Rattle.processor_fast.proofs.system.ldsr.Goals as goal

pub returns-then-id-eq24 : goal.returns-then-id-eq24
returns-then-id-eq24 c = λ lines m base aligned. (refl, refl, refl)

pub returns : goal.returns
returns c = λ lines m base aligned.
    let a = c.args in (
      rw (ne_eqb _ _ c.if-id-eq24.false, c.after_one.ensures, after_one base a.x)
          (written-does _ _ _ _ _ _ _ _ _ m (omega arith) (rw
          (c.reg2-v.ensures, c.packed.ensures) at
          c.write.ensures)),
      rw c.after_one.ensures (one-even a.x aligned),
    )
