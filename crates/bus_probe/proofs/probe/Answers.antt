-- `bus_probe::probe` meets its contract: a target in the ranges leaves room for a word. Assumes nothing.
use mathlib.Core.Bool.{true}
use mathlib.Core.Path.{◌≡◌, sym, ◌∙◌}
use native.Mathlib.Omega.{arith}
use Rattle.word.specs.Width.{bytes_of}
use Rattle.bus.proofs.Sizes.{size-range, width_ok}
use Rattle.bus_probe.specs.Probe.{in_ranges_of}
use Rattle.bus_probe.proofs.Verdicts.{vram-passed, room}
use Rattle.bus_probe.proofs.probe.Goals as goal

pub put_number-requires : goal.put_number-requires
put_number-requires c =
    let b = c in
    let found = rw b.in_ok-target.ensures.ok_part at (b.target.ensures 0 0) in
    let inside : in_ranges_of b.in_ok-target.target ≡ true = rw found.0 found.1 in
    let r = room _ _ (record { vram-ok = vram-passed _ _ _ _ (sym b.lengths.ensures ∙ b.in_ok-lengths.was); target_ok = inside }) in
    let small = (size-range (bytes_of b.args.width) (width_ok b.args.width)).1 in
    omega arith
