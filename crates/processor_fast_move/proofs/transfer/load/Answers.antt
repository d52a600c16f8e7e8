-- `processor_fast_move::transfer::load`: its own case.
use Rattle.std.proofs.Common.{true}
use Rattle.processor_execute.specs.Execute.{execute_of}
use Rattle.processor_fast_compute.proofs.Results.{value-does}
use Rattle.processor_fast_move.proofs.transfer.load.Goals as goal

pub returns : goal.returns
unfolding execute_of
returns c = λ base psw sys even aligned.
    let a = c.args in
    value-does true base a.x psw _ _ _ sys a.flags _ _ _ aligned c.after_two.ensures _
    (rw (c.extended-v.ensures, c.address-a.ensures) at c.loaded.ensures)
