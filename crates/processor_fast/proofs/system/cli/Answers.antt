-- `processor_fast::system::cli`: its own case, where nothing is accepted after it.
use Rattle.std.proofs.Common.{sym, refl, ◌∙◌, rules}
use Rattle.processor_execute.specs.Execute.{execute_of}
use Rattle.processor_fast_compute.proofs.Results.{after_one}
use Rattle.processor_fast.proofs.Turning.{packed-clear}
use Rattle.processor_fast.proofs.system.cli.Goals as goal

pub returns-then-accepts : goal.returns-then-accepts
returns-then-accepts c = λ regs sys m base aligned. (refl, refl, refl)

pub returns : goal.returns
unfolding execute_of
returns c = λ regs sys m base aligned.
    let a = c.args in (
      rw (c.clear_id-p.ensures, packed-clear a.psw a.flags, after_one base a.x),
      λ u. sym c.accepts.ensures ∙ c.if-accepts.false,
    )
