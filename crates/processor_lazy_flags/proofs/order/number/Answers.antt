-- `processor_lazy_flags::order::number`: a zero is not negative.
use Rattle.std.proofs.Common.{◌≡◌, ◌+◌, ◌-◌, ◌*◌, ◌/◌, ◌%◌, ◌^◌, ◌<◌, sym, refl, ap, ◌∙◌, arith, rules, le-ltb, lt-ltb, eq-eqb, ne_eqb}
use Rattle.processor_lazy_flags.proofs.order.number.Goals as goal

pub returns-then-w-eq0 : goal.returns-then-w-eq0
returns-then-w-eq0 c = λ psw. simp (eq-eqb _ _ c.if-w-eq0.true, le-ltb 2147483648 c.args.w (omega arith)) (c.equal.ensures psw)

pub returns-then-w-gt2147483648 : goal.returns-then-w-gt2147483648
returns-then-w-gt2147483648 c = λ psw. simp (ne_eqb _ _ c.if-w-eq0.false, lt-ltb _ _ c.if-w-gt2147483648.true) (c.lower.ensures psw)

pub returns : goal.returns
returns c = λ psw. simp (ne_eqb _ _ c.if-w-eq0.false, le-ltb _ _ c.if-w-gt2147483648.false) (c.higher.ensures psw)
