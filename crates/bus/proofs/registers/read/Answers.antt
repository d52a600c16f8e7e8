-- `bus::registers::read` meets its contract: a byte of the halfword that holds it, the halfword, or two of these.
-- Assumes nothing.
use mathlib.Core.List.{[]}
use mathlib.Core.Path.{ap}
use native.Mathlib.Omega.{arith}
use Rattle.word.specs.Width.{bytes_of}
use Rattle.bus.proofs.VipAccess.{between_start, between-high, read_low, read-high, read-half, read_word}
use Rattle.bus.proofs.registers.read.Goals as goal

pub half-low-requires : goal.half-low-requires
half-low-requires c = (between_start c.args.v c.requires.0, omega arith)

pub half-high-requires : goal.half-high-requires
half-high-requires c = between-high c.args.v c.requires.0

pub returns-in-Byte : goal.returns-in-Byte
returns-in-Byte c =
    let b = c in
    λ rom wram vram pak.
    read_low b.args.v b.requires.0 _ _ _ (c.half-low.ensures rom wram vram pak) (ap bytes_of c.in-Byte.is) c.if-v-eq0.true

pub returns-in-Byte-2 : goal.returns-in-Byte-2
returns-in-Byte-2 c =
    let b = c in
    λ rom wram vram pak.
    read-high b.args.v b.requires.0 _ _ _ (c.half-low.ensures rom wram vram pak) (ap bytes_of c.in-Byte-2.is) c.if-v-eq0.false

pub returns-in-Half : goal.returns-in-Half
returns-in-Half c =
    let b = c in
    λ rom wram vram pak.
    read-half b.args.v b.requires.0 _ _ _ (c.half-low.ensures rom wram vram pak) (ap bytes_of c.in-Half.is)

pub overflow_mul-result : goal.overflow_mul-result
overflow_mul-result c = omega (arith, (c.half-high.ensures [] [] [] []).fits)

pub overflow_add-result : goal.overflow_add-result
overflow_add-result c =
    omega (arith, (c.half-high.ensures [] [] [] []).fits, (c.half-low.ensures [] [] [] []).fits)

pub returns-in-Word : goal.returns-in-Word
returns-in-Word c =
    let b = c in
    λ rom wram vram pak.
    read_word b.args.v b.requires.0 _ _ _ (c.half-low.ensures rom wram vram pak) (ap bytes_of c.in-Word.is) b.requires.1 _
    (c.half-high.ensures rom wram vram pak)
