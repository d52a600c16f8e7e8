-- `saved::write_form` meets its contract. Assumes nothing.
use mathlib.Core.Path.{sym, ap, ◌∙◌}
use Rattle.bus.specs.Memory.{memory_of}
use Rattle.saved.specs.Calls.{form_holds}
use Rattle.saved.proofs.Accepting.{passed, small}
use Rattle.saved.proofs.Verdicts.{write-refused, write-length, write-reset, write-accepted, file-without-rom}
use Rattle.saved.proofs.write_form.Goals as goal

pub file_length-requires : goal.file_length-requires
file_length-requires c =
    let c8 = c in
    small c8.args.processor (memory_of c8.args.rom.now c8.args.wram.now c8.args.vram.now
    c8.args.pak.now c8.args.drawing.regs) (sym c.verdict.ensures ∙
    c.in-Ok.is)

pub returns-then-output-file_length : goal.returns-then-output-file_length
returns-then-output-file_length c =
    let c10 = c in
    let both = write-length c10.args.form c10.args.processor
    (memory_of c10.args.rom.now c10.args.wram.now c10.args.vram.now c10.args.pak.now
    c10.args.drawing.regs) c10.args.output.now (sym c.verdict.ensures ∙
    c.in-Ok.is) (λ e. c.if-output-file_length.true (e ∙ sym c.file_length.ensures)) in
    record { verdict = both.0; output = both.1 }

pub returns-then-not-holds : goal.returns-then-not-holds
returns-then-not-holds c =
    let c13 = c
    in
    let both = write-reset c13.args.form c13.args.processor (memory_of c13.args.rom.now c13.args.wram.now
    c13.args.vram.now c13.args.pak.now c13.args.drawing.regs) c13.args.output.now
    (sym c.verdict.ensures ∙
    c.in-Ok.is)
    (c.if-output-file_length.false ∙ c.file_length.ensures)
    (ap (form_holds c13.args.form) (sym c.lines.ensures) ∙
    (sym c.holds.ensures ∙ c.if-not-holds.true)) in
    record { verdict = both.0; output = both.1 }

pub put-requires : goal.put-requires
put-requires c =
    let c6 = c in
    let c8 = c6 in
    let c14 = c8 in
    let l = (passed c14.args.processor (memory_of c14.args.rom.now c14.args.wram.now c14.args.vram.now
    c14.args.pak.now c14.args.drawing.regs) (sym c8.verdict.ensures ∙ c6.in-Ok.is)).lengths
    in record {
      wram_len = (
        l.wram-ok,
        (
          l.vram-ok,
          small c14.args.processor
              (memory_of c14.args.rom.now c14.args.wram.now c14.args.vram.now c14.args.pak.now
              c14.args.drawing.regs) (sym c8.verdict.ensures ∙ c6.in-Ok.is),
        ),
      );
      output_len = c.if-output-file_length.false ∙ c.file_length.ensures;
    }

pub returns-in-Err : goal.returns-in-Err
returns-in-Err c =
    let c9 = c in
    let both = write-refused c9.args.form c9.args.processor (memory_of c9.args.rom.now c9.args.wram.now
    c9.args.vram.now c9.args.pak.now c9.args.drawing.regs) c9.args.output.now _
    (sym c.verdict.ensures ∙ c.in-Err.is) in
    record { verdict = both.0; output = both.1 }

pub returns-else-not-holds : goal.returns-else-not-holds
returns-else-not-holds c =
    let c8 = c in
    let c9 = c8 in
    let c11 = c9 in
    let c17 = c11 in
    let form = c17.args.form in
    let w = write-accepted form c17.args.processor (memory_of c17.args.rom.now c17.args.wram.now
    c17.args.vram.now c17.args.pak.now c17.args.drawing.regs) c17.args.output.now
    (sym c11.verdict.ensures ∙ c9.in-Ok.is)
    (c.if-output-file_length.false ∙ c8.file_length.ensures)
    (ap (form_holds form) (sym c.lines.ensures) ∙
    (sym c.holds.ensures ∙ c.if-not-holds.false)) in record {
      verdict = w.0;
      output = c.put.ensures ∙ (file-without-rom form c17.args.processor
          (memory_of c17.args.rom.now c17.args.wram.now c17.args.vram.now c17.args.pak.now
          c17.args.drawing.regs) ∙ w.1);
    }
