-- `processor_fast_compute::floating::extended`: each arm is the row of its sub-opcode.
use Rattle.processor_decode.specs.SubOpcode.{extended_of, sub_rows}
use Rattle.std.proofs.Common.{rules}
use Rattle.processor_fast_compute.proofs.floating.extended.Goals as goal

pub returns-in-0 : goal.returns-in-0
unfolding extended_of sub_rows
returns-in-0 c = rw c.in-0.is c.cmpf.ensures

pub returns-in-2 : goal.returns-in-2
unfolding extended_of sub_rows
returns-in-2 c = rw c.in-2.is c.cvt_ws.ensures

pub returns-in-3 : goal.returns-in-3
unfolding extended_of sub_rows
returns-in-3 c = rw c.in-3.is c.cvt_sw.ensures

pub returns-in-4 : goal.returns-in-4
unfolding extended_of sub_rows
returns-in-4 c = rw c.in-4.is c.addf.ensures

pub returns-in-5 : goal.returns-in-5
unfolding extended_of sub_rows
returns-in-5 c = rw c.in-5.is c.subf.ensures

pub returns-in-6 : goal.returns-in-6
unfolding extended_of sub_rows
returns-in-6 c = rw c.in-6.is c.mulf.ensures

pub returns-in-7 : goal.returns-in-7
unfolding extended_of sub_rows
returns-in-7 c = rw c.in-7.is c.divf.ensures

pub returns-in-11 : goal.returns-in-11
unfolding extended_of sub_rows
returns-in-11 c = rw c.in-11.is c.trnc_sw.ensures
