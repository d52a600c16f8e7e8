-- `drawing_bytes::objects::draws_objects` meets its contract. Assumes nothing.
use native.Mathlib.Omega.{arith}
use Rattle.drawing_strip.proofs.Worlds.{flags-skipped, flags-shown}
use Rattle.drawing_bytes.proofs.Worlds.{draws-skipped, draws-objects, draws-background}
use Rattle.drawing_bytes.proofs.objects.draws_objects.Goals as goal

pub returns-then-flags-lt16384 : goal.returns-then-flags-lt16384
returns-then-flags-lt16384 c = (λ w e. draws-skipped w (flags-skipped w (omega arith)), omega arith)

pub returns-then-flags-eq3 : goal.returns-then-flags-eq3
returns-then-flags-eq3 c = (λ w e. draws-objects w (flags-shown w (omega arith) (omega arith)) (omega arith), omega arith)

pub returns : goal.returns
returns c = (λ w e. draws-background w (flags-shown w (omega arith) (omega arith)) (λ f. c.if-flags-eq3.false (omega arith)), omega arith)
