-- `processor_fast_move::branch::jmp`: its own case.
use Rattle.std.proofs.Common.{◌≡◌, ℕ, ◌-◌, ◌%◌, get_or, sym, refl, ap, ◌∙◌, arith, rules}
use Rattle.processor_execute.specs.Execute.{execute_of}
use Rattle.processor_machine.specs.State.{even_of}
use Rattle.processor_fast_compute.specs.inner.Fast.{address_of}
use Rattle.processor_fast_move.proofs.Branches.{address-jump, address-even}
use Rattle.processor_fast_move.proofs.branch.jmp.Goals as goal

pub returns : goal.returns
unfolding execute_of
returns c = λ m psw sys even aligned.
    let a = c.args in
    let t = c.reg1-t in
    let w = c.wrapping_sub_u32-to in
    let e : address_of a.base w.result ≡ even_of (get_or a.regs.now (a.f % 32 % 32) 0) =
    address-jump (even_of t.result) a.base w.result (omega arith) (omega arith) w.ensures.value ∙ ap even_of t.ensures in
    (rw e, address-even t.result a.base w.result (omega arith) even w.ensures.value)
