-- The probe's definitions over the memories that a call borrows, for its contract.
use Rattle.refusal.specs.Number.{Verdict}
use Rattle.std.specs.Prelude.{ℕ, List}
use Rattle.bus.specs.Lent.{Lent}
use Rattle.bus_probe.specs.Probe.{probe_verdict_of, probed_of}

abbrev pub lent_verdict_of : ℕ → Lent → Lent → Lent → Lent → ℕ → Verdict
lent_verdict_of size rom wram vram pak a = probe_verdict_of size rom wram vram pak a

abbrev pub vram_of : ℕ → Lent → Lent → Lent → Lent → ℕ → ℕ → List ℕ
vram_of size rom wram vram pak a v = probed_of size rom wram vram pak a v
