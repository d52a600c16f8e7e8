-- `processor_fast::dispatch::dispatch`: each arm is the row of its opcode.
use Rattle.std.proofs.Common.{refl, arith, rules}
use Rattle.processor_decode.specs.Opcode.{short_rows, branch_rows, long_rows}
use Rattle.processor_fast.proofs.Rows.{row, control-row}
use Rattle.processor_fast.proofs.dispatch.dispatch.Goals as goal

pub returns-in-0-clause-turns : goal.returns-in-0-clause-turns
unfolding short_rows branch_rows long_rows
returns-in-0-clause-turns c = row 0 c.mov.result _ _ _ _ _ _ _ _ _ _ _ _ c.in-0.is (c.mov.ensures _ _)

pub returns-in-1-clause-turns : goal.returns-in-1-clause-turns
unfolding short_rows branch_rows long_rows
returns-in-1-clause-turns c = row 1 c.add.result _ _ _ _ _ _ _ _ _ _ _ _ c.in-1.is (c.add.ensures _ _)

pub returns-in-2-clause-turns : goal.returns-in-2-clause-turns
unfolding short_rows branch_rows long_rows
returns-in-2-clause-turns c = row 2 c.sub.result _ _ _ _ _ _ _ _ _ _ _ _ c.in-2.is (c.sub.ensures _ _)

pub returns-in-3-clause-turns : goal.returns-in-3-clause-turns
unfolding short_rows branch_rows long_rows
returns-in-3-clause-turns c = row 3 c.cmp.result _ _ _ _ _ _ _ _ _ _ _ _ c.in-3.is (c.cmp.ensures _ _)

pub returns-in-4-clause-turns : goal.returns-in-4-clause-turns
unfolding short_rows branch_rows long_rows
returns-in-4-clause-turns c = row 4 c.shl.result _ _ _ _ _ _ _ _ _ _ _ _ c.in-4.is (c.shl.ensures _ _)

pub returns-in-5-clause-turns : goal.returns-in-5-clause-turns
unfolding short_rows branch_rows long_rows
returns-in-5-clause-turns c = row 5 c.shr.result _ _ _ _ _ _ _ _ _ _ _ _ c.in-5.is (c.shr.ensures _ _)

pub returns-in-6-clause-turns : goal.returns-in-6-clause-turns
unfolding short_rows branch_rows long_rows
returns-in-6-clause-turns c = row 6 c.jmp.result _ _ _ _ _ _ _ _ _ _ _ _ c.in-6.is (c.jmp.ensures _)

pub returns-in-7-clause-turns : goal.returns-in-7-clause-turns
unfolding short_rows branch_rows long_rows
returns-in-7-clause-turns c = row 7 c.sar.result _ _ _ _ _ _ _ _ _ _ _ _ c.in-7.is (c.sar.ensures _ _)

pub returns-in-8-clause-turns : goal.returns-in-8-clause-turns
unfolding short_rows branch_rows long_rows
returns-in-8-clause-turns c = row 8 c.mul.result _ _ _ _ _ _ _ _ _ _ _ _ c.in-8.is (c.mul.ensures _ _)

pub returns-in-9-clause-turns : goal.returns-in-9-clause-turns
unfolding short_rows branch_rows long_rows
returns-in-9-clause-turns c = row 9 c.div.result _ _ _ _ _ _ _ _ _ _ _ _ c.in-9.is (c.div.ensures _ _)

pub returns-in-10-clause-turns : goal.returns-in-10-clause-turns
unfolding short_rows branch_rows long_rows
returns-in-10-clause-turns c = row 10 c.mulu.result _ _ _ _ _ _ _ _ _ _ _ _ c.in-10.is (c.mulu.ensures _ _)

pub returns-in-11-clause-turns : goal.returns-in-11-clause-turns
unfolding short_rows branch_rows long_rows
returns-in-11-clause-turns c = row 11 c.divu.result _ _ _ _ _ _ _ _ _ _ _ _ c.in-11.is (c.divu.ensures _ _)

pub returns-in-12-clause-turns : goal.returns-in-12-clause-turns
unfolding short_rows branch_rows long_rows
returns-in-12-clause-turns c = row 12 c.or.result _ _ _ _ _ _ _ _ _ _ _ _ c.in-12.is (c.or.ensures _ _)

pub returns-in-13-clause-turns : goal.returns-in-13-clause-turns
unfolding short_rows branch_rows long_rows
returns-in-13-clause-turns c = row 13 c.and.result _ _ _ _ _ _ _ _ _ _ _ _ c.in-13.is (c.and.ensures _ _)

pub returns-in-14-clause-turns : goal.returns-in-14-clause-turns
unfolding short_rows branch_rows long_rows
returns-in-14-clause-turns c = row 14 c.xor.result _ _ _ _ _ _ _ _ _ _ _ _ c.in-14.is (c.xor.ensures _ _)

pub returns-in-15-clause-turns : goal.returns-in-15-clause-turns
unfolding short_rows branch_rows long_rows
returns-in-15-clause-turns c = row 15 c.not.result _ _ _ _ _ _ _ _ _ _ _ _ c.in-15.is (c.not.ensures _ _)

pub returns-in-16-clause-turns : goal.returns-in-16-clause-turns
unfolding short_rows branch_rows long_rows
returns-in-16-clause-turns c = row 16 c.mov_immediate.result _ _ _ _ _ _ _ _ _ _ _ _ c.in-16.is (c.mov_immediate.ensures _ _)

pub returns-in-17-clause-turns : goal.returns-in-17-clause-turns
unfolding short_rows branch_rows long_rows
returns-in-17-clause-turns c = row 17 c.add_immediate.result _ _ _ _ _ _ _ _ _ _ _ _ c.in-17.is (c.add_immediate.ensures _ _)

pub returns-in-18-clause-turns : goal.returns-in-18-clause-turns
unfolding short_rows branch_rows long_rows
returns-in-18-clause-turns c = row 18 c.setf.result _ _ _ _ _ _ _ _ _ _ _ _ c.in-18.is (c.setf.ensures _ _)

pub returns-in-19-clause-turns : goal.returns-in-19-clause-turns
unfolding short_rows branch_rows long_rows
returns-in-19-clause-turns c = row 19 c.cmp_immediate.result _ _ _ _ _ _ _ _ _ _ _ _ c.in-19.is (c.cmp_immediate.ensures _ _)

pub returns-in-20-clause-turns : goal.returns-in-20-clause-turns
unfolding short_rows branch_rows long_rows
returns-in-20-clause-turns c = row 20 c.shl_immediate.result _ _ _ _ _ _ _ _ _ _ _ _ c.in-20.is (c.shl_immediate.ensures _ _)

pub returns-in-21-clause-turns : goal.returns-in-21-clause-turns
unfolding short_rows branch_rows long_rows
returns-in-21-clause-turns c = row 21 c.shr_immediate.result _ _ _ _ _ _ _ _ _ _ _ _ c.in-21.is (c.shr_immediate.ensures _ _)

pub returns-in-22-clause-turns : goal.returns-in-22-clause-turns
unfolding short_rows branch_rows long_rows
returns-in-22-clause-turns c = control-row 22 c.cli.result _ _ _ _ _ _ _ _ _ _ _ _ c.in-22.is refl (c.cli.ensures _ _)

pub returns-in-23-clause-turns : goal.returns-in-23-clause-turns
unfolding short_rows branch_rows long_rows
returns-in-23-clause-turns c = row 23 c.sar_immediate.result _ _ _ _ _ _ _ _ _ _ _ _ c.in-23.is (c.sar_immediate.ensures _ _)

pub returns-in-28-clause-turns : goal.returns-in-28-clause-turns
unfolding short_rows branch_rows long_rows
returns-in-28-clause-turns c = control-row 28 c.ldsr.result _ _ _ _ _ _ _ _ _ _ _ _ c.in-28.is refl (c.ldsr.ensures _)

pub returns-in-29-clause-turns : goal.returns-in-29-clause-turns
unfolding short_rows branch_rows long_rows
returns-in-29-clause-turns c = control-row 29 c.stsr.result _ _ _ _ _ _ _ _ _ _ _ _ c.in-29.is refl (c.stsr.ensures _)

pub returns-in-30-clause-turns : goal.returns-in-30-clause-turns
unfolding short_rows branch_rows long_rows
returns-in-30-clause-turns c = control-row 30 c.sei.result _ _ _ _ _ _ _ _ _ _ _ _ c.in-30.is refl (c.sei.ensures _ _ _)

pub returns-in-32-clause-turns : goal.returns-in-32-clause-turns
unfolding short_rows branch_rows long_rows
returns-in-32-clause-turns c = row 32 c.conditional.result _ _ _ _ _ _ _ _ _ _ _ _ c.in-32.is (c.conditional.ensures _ _ _)

pub returns-in-33-clause-turns : goal.returns-in-33-clause-turns
unfolding short_rows branch_rows long_rows
returns-in-33-clause-turns c = row 33 c.conditional-in-33.result _ _ _ _ _ _ _ _ _ _ _ _ c.in-33.is (c.conditional-in-33.ensures _ _ _)

pub returns-in-34-clause-turns : goal.returns-in-34-clause-turns
unfolding short_rows branch_rows long_rows
returns-in-34-clause-turns c = row 34 c.conditional-in-34.result _ _ _ _ _ _ _ _ _ _ _ _ c.in-34.is (c.conditional-in-34.ensures _ _ _)

pub returns-in-35-clause-turns : goal.returns-in-35-clause-turns
unfolding short_rows branch_rows long_rows
returns-in-35-clause-turns c = row 35 c.conditional-in-35.result _ _ _ _ _ _ _ _ _ _ _ _ c.in-35.is (c.conditional-in-35.ensures _ _ _)

pub returns-in-36-clause-turns : goal.returns-in-36-clause-turns
unfolding short_rows branch_rows long_rows
returns-in-36-clause-turns c = row 36 c.conditional-in-36.result _ _ _ _ _ _ _ _ _ _ _ _ c.in-36.is (c.conditional-in-36.ensures _ _ _)

pub returns-in-37-clause-turns : goal.returns-in-37-clause-turns
unfolding short_rows branch_rows long_rows
returns-in-37-clause-turns c = row 37 c.conditional-in-37.result _ _ _ _ _ _ _ _ _ _ _ _ c.in-37.is (c.conditional-in-37.ensures _ _ _)

pub returns-in-38-clause-turns : goal.returns-in-38-clause-turns
unfolding short_rows branch_rows long_rows
returns-in-38-clause-turns c = row 38 c.conditional-in-38.result _ _ _ _ _ _ _ _ _ _ _ _ c.in-38.is (c.conditional-in-38.ensures _ _ _)

pub returns-in-39-clause-turns : goal.returns-in-39-clause-turns
unfolding short_rows branch_rows long_rows
returns-in-39-clause-turns c = row 39 c.conditional-in-39.result _ _ _ _ _ _ _ _ _ _ _ _ c.in-39.is (c.conditional-in-39.ensures _ _ _)

pub returns-in-40-clause-turns : goal.returns-in-40-clause-turns
unfolding short_rows branch_rows long_rows
returns-in-40-clause-turns c = row 40 c.movea.result _ _ _ _ _ _ _ _ _ _ _ _ c.in-40.is (c.movea.ensures _ _)

pub returns-in-41-clause-turns : goal.returns-in-41-clause-turns
unfolding short_rows branch_rows long_rows
returns-in-41-clause-turns c = row 41 c.addi.result _ _ _ _ _ _ _ _ _ _ _ _ c.in-41.is (c.addi.ensures _ _)

pub returns-in-42-clause-turns : goal.returns-in-42-clause-turns
unfolding short_rows branch_rows long_rows
returns-in-42-clause-turns c = row 42 c.jr.result _ _ _ _ _ _ _ _ _ _ _ _ c.in-42.is (c.jr.ensures _ _ _)

pub returns-in-43-clause-turns : goal.returns-in-43-clause-turns
unfolding short_rows branch_rows long_rows
returns-in-43-clause-turns c = row 43 c.jal.result _ _ _ _ _ _ _ _ _ _ _ _ c.in-43.is (c.jal.ensures _)

pub returns-in-44-clause-turns : goal.returns-in-44-clause-turns
unfolding short_rows branch_rows long_rows
returns-in-44-clause-turns c = row 44 c.ori.result _ _ _ _ _ _ _ _ _ _ _ _ c.in-44.is (c.ori.ensures _ _)

pub returns-in-45-clause-turns : goal.returns-in-45-clause-turns
unfolding short_rows branch_rows long_rows
returns-in-45-clause-turns c = row 45 c.andi.result _ _ _ _ _ _ _ _ _ _ _ _ c.in-45.is (c.andi.ensures _ _)

pub returns-in-46-clause-turns : goal.returns-in-46-clause-turns
unfolding short_rows branch_rows long_rows
returns-in-46-clause-turns c = row 46 c.xori.result _ _ _ _ _ _ _ _ _ _ _ _ c.in-46.is (c.xori.ensures _ _)

pub returns-in-47-clause-turns : goal.returns-in-47-clause-turns
unfolding short_rows branch_rows long_rows
returns-in-47-clause-turns c = row 47 c.movhi.result _ _ _ _ _ _ _ _ _ _ _ _ c.in-47.is (c.movhi.ensures _ _)

pub returns-in-48-clause-turns : goal.returns-in-48-clause-turns
unfolding short_rows branch_rows long_rows
returns-in-48-clause-turns c = row 48 c.load.result _ _ _ _ _ _ _ _ _ _ _ _ c.in-48.is (c.load.ensures _)

pub returns-in-49-clause-turns : goal.returns-in-49-clause-turns
unfolding short_rows branch_rows long_rows
returns-in-49-clause-turns c = row 49 c.load-in-49.result _ _ _ _ _ _ _ _ _ _ _ _ c.in-49.is (c.load-in-49.ensures _)

pub returns-in-51-clause-turns : goal.returns-in-51-clause-turns
unfolding short_rows branch_rows long_rows
returns-in-51-clause-turns c = row 51 c.load-in-51.result _ _ _ _ _ _ _ _ _ _ _ _ c.in-51.is (c.load-in-51.ensures _)

pub returns-in-52-clause-turns : goal.returns-in-52-clause-turns
unfolding short_rows branch_rows long_rows
returns-in-52-clause-turns c = row 52 c.store.result _ _ _ _ _ _ _ _ _ _ _ _ c.in-52.is (c.store.ensures.stores _)

pub returns-in-53-clause-turns : goal.returns-in-53-clause-turns
unfolding short_rows branch_rows long_rows
returns-in-53-clause-turns c = row 53 c.store-in-53.result _ _ _ _ _ _ _ _ _ _ _ _ c.in-53.is (c.store-in-53.ensures.stores _)

pub returns-in-55-clause-turns : goal.returns-in-55-clause-turns
unfolding short_rows branch_rows long_rows
returns-in-55-clause-turns c = row 55 c.store-in-55.result _ _ _ _ _ _ _ _ _ _ _ _ c.in-55.is (c.store-in-55.ensures.stores _)

pub returns-in-56-clause-turns : goal.returns-in-56-clause-turns
unfolding short_rows branch_rows long_rows
returns-in-56-clause-turns c = row 56 c.input.result _ _ _ _ _ _ _ _ _ _ _ _ c.in-56.is (c.input.ensures _)

pub returns-in-57-clause-turns : goal.returns-in-57-clause-turns
unfolding short_rows branch_rows long_rows
returns-in-57-clause-turns c = row 57 c.input-in-57.result _ _ _ _ _ _ _ _ _ _ _ _ c.in-57.is (c.input-in-57.ensures _)

pub returns-in-59-clause-turns : goal.returns-in-59-clause-turns
unfolding short_rows branch_rows long_rows
returns-in-59-clause-turns c = row 59 c.input-in-59.result _ _ _ _ _ _ _ _ _ _ _ _ c.in-59.is (c.input-in-59.ensures _)

pub returns-in-60-clause-turns : goal.returns-in-60-clause-turns
unfolding short_rows branch_rows long_rows
returns-in-60-clause-turns c = row 60 c.store-in-60.result _ _ _ _ _ _ _ _ _ _ _ _ c.in-60.is (c.store-in-60.ensures.outputs _)

pub returns-in-61-clause-turns : goal.returns-in-61-clause-turns
unfolding short_rows branch_rows long_rows
returns-in-61-clause-turns c = row 61 c.store-in-61.result _ _ _ _ _ _ _ _ _ _ _ _ c.in-61.is (c.store-in-61.ensures.outputs _)

pub returns-in-62-clause-turns : goal.returns-in-62-clause-turns
unfolding short_rows branch_rows long_rows
returns-in-62-clause-turns c = row 62 c.extended.result _ _ _ _ _ _ _ _ _ _ _ _ c.in-62.is (c.extended.ensures _ _)

pub returns-in-63-clause-turns : goal.returns-in-63-clause-turns
unfolding short_rows branch_rows long_rows
returns-in-63-clause-turns c = row 63 c.store-in-63.result _ _ _ _ _ _ _ _ _ _ _ _ c.in-63.is (c.store-in-63.ensures.outputs _)
