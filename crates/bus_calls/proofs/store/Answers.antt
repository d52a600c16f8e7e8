-- `bus_calls::store` meets its contract: an accepted verdict says the lengths. Assumes nothing.
use mathlib.Core.Path.{sym, ◌∙◌}
use Rattle.bus.proofs.Accepted.{accepted-lengths}
use Rattle.bus_calls.proofs.store.Goals as goal

pub write-requires : goal.write-requires
write-requires c =
    let b = c in
    let h = accepted-lengths _ _ _ _ _ (sym b.call_verdict.ensures ∙ b.in_ok-call_verdict.was) in
    (h.wram-ok, h.vram-ok, h.pak-ok)
