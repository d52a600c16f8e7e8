-- `processor_fast_move::branch::conditional`: the two conditions of its opcode.
use Rattle.std.proofs.Common.{◌<◌, arith, rules}
use Rattle.processor_fast_move.proofs.Branches.{branch-does, pair-first, pair-second}
use Rattle.processor_fast_move.proofs.branch.conditional.Goals as goal

pub returns-then-f-eq0 : goal.returns-then-f-eq0
returns-then-f-eq0 c = λ regs m base psw sys even aligned.
    let b = c in
    let a = b.args in
    rw c.branch-holds.ensures
    (branch-does base a.x psw a.f _ regs sys a.flags m _ even aligned
    (pair-first a.f a.k b.requires.1 c.if-f-eq0.true b.requires.0) (c.holds.ensures psw))

pub returns : goal.returns
returns c = λ regs m base psw sys even aligned.
    let b = c in
    let a = b.args in
    rw c.branch-holds-2.ensures
    (branch-does base a.x psw a.f _ regs sys a.flags m _ even aligned
    (pair-second a.f a.k b.requires.1 c.if-f-eq0.false b.requires.0) (c.holds-2.ensures psw))
