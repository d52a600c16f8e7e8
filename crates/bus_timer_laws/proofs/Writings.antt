-- `tlr-stores`, `thr-stores`, `tcr-stores`, `rest-stores`, `half-stores`, `word-stores` and `timed-hardware`: the statements
-- of specs/Writing. Assumes nothing.
use mathlib.Core.Path.{refl, ◌∙◌}
use borrow.Author.Tests.{ne_eqb}
use Rattle.bus_timer.specs.Ports.{tlr, thr, tcr, hardware_offset_of, port_written_of}
use Rattle.bus.proofs.Devices.{hardware-with, with-same}
use Rattle.bus.proofs.Aligned.{region-aligned}
use Rattle.bus.proofs.PortAccess.{port-store, port-stores}
use Rattle.bus_timer_laws.specs.Writing.{TlrStores, ThrStores, TcrStores, RestStores, HalfStores, WordStores, TimedHardware}

pub tlr-stores : TlrStores
unfolding port_written_of
tlr-stores m a v here = port-store m a here.0 v ∙ rw here.1

pub thr-stores : ThrStores
unfolding port_written_of
thr-stores m a v here = port-store m a here.0 v ∙ rw here.1

pub tcr-stores : TcrStores
unfolding port_written_of
tcr-stores m a v here = port-store m a here.0 v ∙ rw here.1

pub rest-stores : RestStores
unfolding port_written_of
rest-stores m a v here low high control =
    let o = hardware_offset_of a in
    port-store m a here v
    ∙ simp (ne_eqb o tlr (λ e. low (here, e)), ne_eqb o thr (λ e. high (here, e)), ne_eqb o tcr (λ e. control (here, e)), with-same m.regs)

pub half-stores : HalfStores
half-stores m a v here = port-stores m 2 a refl (region-aligned 2 a refl ∙ here) v

pub word-stores : WordStores
word-stores m a v here = port-stores m 4 a refl (region-aligned 4 a refl ∙ here) v

pub timed-hardware : TimedHardware
timed-hardware m h l = hardware-with m.regs h l
