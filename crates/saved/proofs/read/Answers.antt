-- `saved::read` meets its contract. Assumes nothing.
use mathlib.Core.Bool.{true, false}
use mathlib.Core.Path.{sym, ◌∙◌}
use Rattle.bus.specs.Memory.{memory_of}
use lib.ListN.{length}
use Rattle.saved.proofs.Accepting.{passed, small}
use Rattle.saved.proofs.Verdicts.{read-refused, read_length, read-bytes, read-accepted, restored-held, due-held, due-form, ok-held}
use Rattle.saved.proofs.read.Goals as goal

pub file_length-requires : goal.file_length-requires
file_length-requires c =
    let c12 = c in
    small c12.args.processor (memory_of c12.args.rom.now c12.args.wram.now c12.args.vram.now
    c12.args.pak.now c12.args.drawing.regs) (sym c.verdict.ensures ∙
    c.in-Ok.is)

pub returns-then-file-file_length : goal.returns-then-file-file_length
returns-then-file-file_length c =
    let c2 = c in
    let c14 = c2 in
    let file = c14.args.file.now in
    read_length c14.args.processor (memory_of c14.args.rom.now c14.args.wram.now c14.args.vram.now
    c14.args.pak.now c14.args.drawing.regs) file
    (sym c2.verdict.ensures ∙ c2.in-Ok.is)
    (λ e. c.if-file-file_length.true (due-form (memory_of c14.args.rom.now c14.args.wram.now c14.args.vram.now
    c14.args.pak.now c14.args.drawing.regs) file c2.form_of-form.result c2.form_of-form.ensures (length file) e
    ∙ sym c.file_length.ensures))

pub file_ok-requires : goal.file_ok-requires
file_ok-requires c =
    let c14 = c in (
      (c.if-file-file_length.false ∙ c.file_length.ensures),
      small c14.args.processor
          (memory_of c14.args.rom.now c14.args.wram.now c14.args.vram.now c14.args.pak.now
          c14.args.drawing.regs) (sym c.verdict.ensures ∙
          c.in-Ok.is),
    )

pub returns-then-not-file_ok : goal.returns-then-not-file_ok
returns-then-not-file_ok c =
    let c4 = c in
    let c16 = c4 in
    let wram = c16.args.wram.now in
    let vram = c16.args.vram.now in
    let file = c16.args.file.now in
    let rom = c16.args.rom.now in
    let pak = c16.args.pak.now in
    let drawing = c16.args.drawing in
    read-bytes c16.args.processor (memory_of rom wram vram pak c16.args.drawing.regs) file
    (sym c4.verdict.ensures ∙ c4.in-Ok.is)
    (due-held (memory_of rom wram vram pak c16.args.drawing.regs) file c4.form_of-form.result c4.form_of-form.ensures
    (length file) (c.if-file-file_length.false ∙ c.file_length.ensures))
    (ok-held (memory_of rom wram vram pak c16.args.drawing.regs) file c4.form_of-form.result c4.form_of-form.ensures _
    false c.file_ok.ensures (c.if-not-file_ok.true))

pub held-state-requires : goal.held-state-requires
held-state-requires c =
    let c16 = c in (
      (c.if-file-file_length.false ∙ c.file_length.ensures),
      small c16.args.processor
          (memory_of c16.args.rom.now c16.args.wram.now c16.args.vram.now c16.args.pak.now
          c16.args.drawing.regs) (sym c.verdict.ensures ∙
          c.in-Ok.is),
    )

pub drawing-halves-requires : goal.drawing-halves-requires
drawing-halves-requires c =
    let c8 = c in
    let c17 = c8 in (
      (c.if-file-file_length.false ∙ c.file_length.ensures),
      small
          c17.args.processor (memory_of c17.args.rom.now c17.args.wram.now c17.args.vram.now
          c17.args.pak.now c17.args.drawing.regs) (sym c8.verdict.ensures ∙
          c.in-Ok.is),
    )

pub take_memories-requires : goal.take_memories-requires
take_memories-requires c =
    let c8 = c in
    let c10 = c8 in
    let c12 = c10 in
    let c21 = c12 in
    let l = (passed c21.args.processor (memory_of c21.args.rom.now c21.args.wram.now c21.args.vram.now
    c21.args.pak.now c21.args.drawing.regs) (sym c12.verdict.ensures ∙
    c10.in-Ok.is)).lengths in record {
      wram_len = (l.wram-ok, l.vram-ok);
      file_len = (
        (c.if-file-file_length.false ∙
            c8.file_length.ensures),
        small c21.args.processor
            (memory_of c21.args.rom.now c21.args.wram.now c21.args.vram.now c21.args.pak.now
            c21.args.drawing.regs) (sym c12.verdict.ensures ∙ c10.in-Ok.is),
      );
    }

pub returns-in-Err : goal.returns-in-Err
returns-in-Err c =
    let c12 = c in
    read-refused c12.args.processor (memory_of c12.args.rom.now c12.args.wram.now c12.args.vram.now
    c12.args.pak.now c12.args.drawing.regs) c12.args.file.now _
    (sym c.verdict.ensures ∙ c.in-Err.is)

pub returns-else-not-file_ok : goal.returns-else-not-file_ok
returns-else-not-file_ok c =
    let c10 = c in
    let c11 = c10 in
    let c12 = c11 in
    let c13 = c12 in
    let c14 = c13 in
    let c15 = c14 in
    let c16 = c15 in
    let c17 = c16 in
    let c19 = c17 in
    let c28 = c19 in
    let wram = c28.args.wram.now in
    let vram = c28.args.vram.now in
    let file = c28.args.file.now in
    let rom = c28.args.rom.now in
    let pak = c28.args.pak.now in
    let drawing = c28.args.drawing in
    let t = c.take_memories.ensures in
    restored-held (memory_of rom wram vram pak c28.args.drawing.regs) file c16.form_of-form.result
    c16.form_of-form.ensures _ _ _ _ _ c11.held-state.ensures t.wram_after t.vram_after t.pak_after c10.drawing-halves.ensures ∙
    read-accepted c28.args.processor (memory_of rom wram vram pak c28.args.drawing.regs) file
    (sym c19.verdict.ensures ∙ c17.in-Ok.is)
    (due-held (memory_of rom wram vram pak c28.args.drawing.regs) file c16.form_of-form.result
    c16.form_of-form.ensures (length file) (c14.if-file-file_length.false ∙ c15.file_length.ensures))
    (ok-held (memory_of rom wram vram pak c28.args.drawing.regs) file c16.form_of-form.result c16.form_of-form.ensures
    _ true c13.file_ok.ensures (c12.if-not-file_ok.false))
