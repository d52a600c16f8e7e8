-- `tlr-reads`, `thr-reads`, `tcr-reads`, `rest-reads`, `half-reads` and `word-reads`: the statements of specs/Reading.
-- Assumes nothing.
use mathlib.Core.Path.{refl, ◌∙◌}
use borrow.Author.Tests.{ne_eqb}
use Rattle.bus_timer.specs.Ports.{tlr, thr, tcr, hardware_offset_of, port_byte_of}
use Rattle.bus_timer.proofs.Accepting.{ok-fits}
use Rattle.bus.specs.TimerLines.{hardware_in}
use Rattle.bus.proofs.Kept.{registers-both}
use Rattle.bus.proofs.Aligned.{region-aligned}
use Rattle.bus.proofs.PortAccess.{port-byte, port-load}
use Rattle.bus_timer_laws.specs.Reading.{TlrReads, ThrReads, TcrReads, RestReads, HalfReads, WordReads}

pub tlr-reads : TlrReads
unfolding port_byte_of
tlr-reads m a here = port-byte m a here.0 ∙ rw here.1

pub thr-reads : ThrReads
unfolding port_byte_of
thr-reads m a here = port-byte m a here.0 ∙ rw here.1

pub tcr-reads : TcrReads
unfolding port_byte_of
tcr-reads m a here ok =
    port-byte m a here.0
    ∙ rw (here.1, (ok-fits (hardware_in m.regs) (registers-both m.regs ok).1).control)

pub rest-reads : RestReads
unfolding port_byte_of
rest-reads m a here low high control =
    let o = hardware_offset_of a in
    port-byte m a here
    ∙ simp (ne_eqb o tlr (λ e. low (here, e)), ne_eqb o thr (λ e. high (here, e)), ne_eqb o tcr (λ e. control (here, e)))

pub half-reads : HalfReads
half-reads m a here = port-load m 2 a refl (region-aligned 2 a refl ∙ here)

pub word-reads : WordReads
word-reads m a here = port-load m 4 a refl (region-aligned 4 a refl ∙ here)
