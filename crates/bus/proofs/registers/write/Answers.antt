-- `bus::registers::write` meets its contract: one register, or the two of a word. Assumes nothing.
use mathlib.Core.Path.{◌≡◌, ◌∙◌}
use borrow.Author.Rules.{rules}
use native.Mathlib.Omega.{arith}
use Rattle.word.specs.declared.width.Width.TheVariants.{Word}
use Rattle.bus.proofs.Sizes.{width_ok, short_width}
use Rattle.bus.proofs.VipAccess.{one_written, two-written}
use Rattle.bus.proofs.registers.write.Goals as goal

pub returns-then-eq : goal.returns-then-eq
returns-then-eq c =
    let b = c in
    let e : b.args.width ≡ Word = search rules in
    λ rom wram vram pak.
    rw (c.put_half-then-eq.ensures rom wram vram pak, c.put_half.ensures rom wram vram pak)
    (two-written b.args.v b.requires.0 _ _ b.args.value (width_ok b.args.width) b.requires.1 (rw e (omega arith)))

pub returns-else-eq : goal.returns-else-eq
returns-else-eq c =
    let b = c in
    let e : b.args.width ≡ Word → ⊥ = search rules in
    λ rom wram vram pak.
    c.put_half.ensures rom wram vram pak
    ∙ one_written b.args.v b.requires.0 _ _ b.args.value (width_ok b.args.width) b.requires.1 (short_width b.args.width e)
