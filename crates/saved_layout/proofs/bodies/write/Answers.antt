-- `saved_layout::bodies::write` meets its contract. Assumes nothing.
use native.Mathlib.Omega.{arith}
use mathlib.Core.Path.{◌≡◌}
use lib.ListN.{length}
use Rattle.saved_layout.specs.Layout.{body_place_of, file_length_of}
use Rattle.saved_layout.specs.declared.Form.TheVariants.{Two}
use Rattle.saved_layout.proofs.Positions.{length-is}
use Rattle.saved_layout.proofs.Written.{wrote_one, wrote-two}
use Rattle.saved_layout.proofs.bodies.write.Goals as goal

pub put_records-requires : goal.put_records-requires
put_records-requires c =
    let c6 = c in
    record { regs_len = c6.requires.regs_len; at_in_bounds = omega (arith, length-is c6.args.form (length c6.args.pak.now)) }

pub put_memories-requires : goal.put_memories-requires
put_memories-requires c =
    let c10 = c in
    omega (arith, length-is c10.args.form (length c10.args.pak.now), c.output-1.given)

pub put_halves-requires : goal.put_halves-requires
put_halves-requires c =
    let c2 = c in
    let c9 = c2 in
    let c12 = c9 in
    let c17 = c12 in
    let pak = c17.args.pak.now in
    let p = length pak in
    let w : length c17.args.output.now ≡ file_length_of Two (length pak) = rw c2.in-Two.is at
    c17.requires.hardware_len.1 in let f : c12.first-at.result ≡ body_place_of Two (length pak) 0 = rw c2.in-Two.is
    at c12.first-at.ensures.0 in omega (
      arith,
      w,
      f,
      length-is Two p,
      c.output-2-1.given,
      c9.output-1.given,
    )

pub returns-in-One : goal.returns-in-One
returns-in-One c =
    let c4 = c in
    let c8 = c4 in
    let c12 = c8 in
    let c14 = c12 in
    let c19 = c14 in
    let a = c19.args in
    rw c4.in-One.is (wrote_one a.regs.now a.rest.now a.halves.now a.wram.now a.vram.now
    a.pak.now a.hardware.now a.output.now c19.requires.regs_len.0 c19.requires.regs_len.1.0 c19.requires.regs_len.1.1
    c19.requires.wram_len.0 c19.requires.wram_len.1.0 c19.requires.hardware_len.0 _ _ _ c14.first-at.result
    (rw c4.in-One.is at c14.first-at.ensures.0) (rw c4.in-One.is at c19.requires.hardware_len.1)
    c12.put_records.ensures c8.put_memories.ensures c.put.ensures)

pub returns-in-Two : goal.returns-in-Two
returns-in-Two c =
    let c9 = c in
    let c13 = c9 in
    let c17 = c13 in
    let c19 = c17 in
    let c24 = c19 in
    let a = c24.args in
    rw c9.in-Two.is (wrote-two a.regs.now a.rest.now a.halves.now a.wram.now
    a.vram.now a.pak.now a.hardware.now a.output.now c24.requires.regs_len.0 c24.requires.regs_len.1.0
    c24.requires.regs_len.1.1 c24.requires.wram_len.0 c24.requires.wram_len.1.0 c24.requires.hardware_len.0 _ _ _ _ c19.first-at.result
    (rw c9.in-Two.is at c19.first-at.ensures.0) (rw c9.in-Two.is at c24.requires.hardware_len.1)
    c17.put_records.ensures c13.put_memories.ensures
    c.put_halves.ensures c.put-in-Two.ensures)
