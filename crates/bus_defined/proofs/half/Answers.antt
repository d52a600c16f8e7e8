-- `bus_defined::half` meets its contract: the place of the address says what its halfword is. Assumes nothing.
use mathlib.Core.Path.{sym, subst, ◌∙◌}
use native.Mathlib.Omega.{arith}
use Rattle.bus.specs.inner.LeadsTo.{LeadsTo}
use Rattle.bus.proofs.Led.{no_register}
use Rattle.bus_defined.proofs.Addresses.{led-register, led-defined}
use Rattle.bus_defined.proofs.Masks.{half-defined, half-not-defined}
use Rattle.bus_defined.proofs.half.Goals as goal

pub returns-then-listed : goal.returns-then-listed
returns-then-listed c =
    let a = c.args.address in
    let d = led-register a _ (subst (LeadsTo a) c.in-Register.is c.place_of.ensures) in
    (λ m. sym (half-defined m a (d ∙ (sym c.listed.ensures ∙ c.if-listed.true))), omega arith)

pub returns-else-listed : goal.returns-else-listed
returns-else-listed c =
    let a = c.args.address in
    let d = led-register a _ (subst (LeadsTo a) c.in-Register.is c.place_of.ensures) in
    (λ m. sym (half-not-defined m a (d ∙ (sym c.listed.ensures ∙ c.if-listed.false))), omega arith)

pub returns-in_default : goal.returns-in_default
returns-in_default c =
    let a = c.args.address in
    let p = c.place_of.result in
    (λ m. sym (half-defined m a (led-defined a p (no_register p c.in_default.not-Register) c.place_of.ensures)), omega arith)
