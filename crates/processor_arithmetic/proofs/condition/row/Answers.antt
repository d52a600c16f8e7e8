-- `processor_arithmetic::condition::row`: each row's bits, which antt computes for all sixteen.
use Rattle.std.proofs.Common.{◌≡◌, arith}
use Rattle.processor_arithmetic.proofs.Table.{rows, row-bits, past, at_last}
use Rattle.processor_arithmetic.proofs.condition.row.Goals as goal

pub returns-in-0 : goal.returns-in-0
unfolding rows
returns-in-0 c = rw c.in-0.is (row-bits 0 (omega arith))

pub returns-in-1 : goal.returns-in-1
unfolding rows
returns-in-1 c = rw c.in-1.is (row-bits 1 (omega arith))

pub returns-in-2 : goal.returns-in-2
unfolding rows
returns-in-2 c = rw c.in-2.is (row-bits 2 (omega arith))

pub returns-in-3 : goal.returns-in-3
unfolding rows
returns-in-3 c = rw c.in-3.is (row-bits 3 (omega arith))

pub returns-in-4 : goal.returns-in-4
unfolding rows
returns-in-4 c = rw c.in-4.is (row-bits 4 (omega arith))

pub returns-in-5 : goal.returns-in-5
unfolding rows
returns-in-5 c = rw c.in-5.is (row-bits 5 (omega arith))

pub returns-in-6 : goal.returns-in-6
unfolding rows
returns-in-6 c = rw c.in-6.is (row-bits 6 (omega arith))

pub returns-in-7 : goal.returns-in-7
unfolding rows
returns-in-7 c = rw c.in-7.is (row-bits 7 (omega arith))

pub returns-in-8 : goal.returns-in-8
unfolding rows
returns-in-8 c = rw c.in-8.is (row-bits 8 (omega arith))

pub returns-in-9 : goal.returns-in-9
unfolding rows
returns-in-9 c = rw c.in-9.is (row-bits 9 (omega arith))

pub returns-in-10 : goal.returns-in-10
unfolding rows
returns-in-10 c = rw c.in-10.is (row-bits 10 (omega arith))

pub returns-in-11 : goal.returns-in-11
unfolding rows
returns-in-11 c = rw c.in-11.is (row-bits 11 (omega arith))

pub returns-in-12 : goal.returns-in-12
unfolding rows
returns-in-12 c = rw c.in-12.is (row-bits 12 (omega arith))

pub returns-in-13 : goal.returns-in-13
unfolding rows
returns-in-13 c = rw c.in-13.is (row-bits 13 (omega arith))

pub returns-in-14 : goal.returns-in-14
unfolding rows
returns-in-14 c = rw c.in-14.is (row-bits 14 (omega arith))

pub returns-in_default : goal.returns-in_default
unfolding rows
returns-in_default c =
    let last : c.args.c ≡ 15 = omega arith in
    rw last (row-bits 15 (omega arith))
