-- `drawing_bytes::pixel_bytes` meets its contract: an image's pixel is listed. Assumes nothing.
use native.Mathlib.Omega.{arith}
use Rattle.drawing.proofs.Widths.{spt-within}
use Rattle.drawing_bytes.proofs.Answers.{list_done, state-registers}
use Rattle.drawing_bytes.proofs.pixel_bytes.Goals as goal

pub list-requires : goal.list-requires
list-requires c =
    let p = state-registers c.args.vram.now c.args.drawing.regs c.in_ok-state.ensures in
    record { vram_len = (p.0, (omega arith, omega arith)); by_index = spt-within _ p.1 }

pub returns : goal.returns
returns c =
    let a = c.args in
    let p = state-registers c.args.vram.now c.args.drawing.regs c.in_ok-state.ensures in
    let q = list_done a.vram.now a.drawing.regs a.eye a.x a.y a.output.now p.0 p.1 (omega arith) (omega arith) (omega arith) _ _ c.list.ensures in
    record { answer = q.0; output = q.1 }
