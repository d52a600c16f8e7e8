-- No two refusals have one number, and no refusal has that of an accepted call: so a number at the C boundary says
-- which case of the enum it was. The proofs are `Numbers-apart` and `verdicts-apart` in proofs/Numbers.
use Rattle.std.specs.Prelude.{◌≡◌}
use Rattle.refusal.specs.declared.Refusal.{Refusal}
use Rattle.refusal.specs.Number.{number_of, verdict_number, Verdict}

abbrev pub NumbersApart : Type 0
NumbersApart = (a b : Refusal) → number_of a ≡ number_of b → a ≡ b

abbrev pub VerdictsApart : Type 0
VerdictsApart = (a b : Verdict) → verdict_number a ≡ verdict_number b → a ≡ b
