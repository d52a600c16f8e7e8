-- `saved::put` meets its contract. Assumes nothing.
use mathlib.Core.List.{[]}
use mathlib.Core.Path.{◌∙◌}
use Rattle.bus.specs.Memory.{memory_of}
use Rattle.saved.proofs.Verdicts.{file-of-records}
use borrow.Author.Rules.{rules}
use Rattle.saved.proofs.put.Goals as goal

pub write-requires : goal.write-requires
write-requires c =
    let c13 = c
    in
    record { regs_len = (search rules, (search rules, search rules)); wram_len = c13.requires.wram_len; hardware_len = (search rules, c13.requires.output_len) }

pub returns : goal.returns
returns c =
    let c8 = c in
    let c10 = c8 in
    let c16 = c10 in
    c.write.ensures ∙ file-of-records c16.args.form c16.args.processor
    (memory_of [] c16.args.wram.now c16.args.vram.now c16.args.pak.now c16.args.drawing.regs) _ _
    c10.rest-rest.ensures c8.lines-lines.ensures
