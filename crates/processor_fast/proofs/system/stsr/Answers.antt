-- `processor_fast::system::stsr`: its own case, but for register 24.
use Rattle.std.proofs.Common.{refl, rules, ne_eqb}
use Rattle.processor_execute.specs.Execute.{execute_of}
use Rattle.processor_fast_compute.proofs.Results.{after_one, one-even}
use Rattle.processor_fast.proofs.system.stsr.Goals as goal

pub returns-then-id-eq24 : goal.returns-then-id-eq24
returns-then-id-eq24 c = λ lines m base aligned. (refl, refl, refl)

pub returns : goal.returns
unfolding execute_of
returns c = λ lines m base aligned.
    let a = c.args in (
      rw (
        ne_eqb _ _ c.if-id-eq24.false,
        c.after_one.ensures,
        after_one base
            a.x,
        c.put.ensures,
        c.read-v.ensures,
        c.packed.ensures,
      ),
      rw c.after_one.ensures (one-even a.x aligned),
    )
