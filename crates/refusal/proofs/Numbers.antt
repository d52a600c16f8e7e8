-- `numbers_apart` and `verdicts-apart`: a number leads back to its refusal, by the list of them in order.
use Prim.Native.Nat.{ℕ}
use mathlib.Core.List.{List, [], ◌∷◌}
use mathlib.Core.Path.{◌≡◌, refl, sym, ap, ◌∙◌}
use lib.ListN.{get_or}
use Rattle.refusal.specs.declared.Refusal.{Refusal}
use Rattle.refusal.specs.declared.Refusal.TheVariants.{RomLength, WramLength, VramLength, PakLength, State}
use Rattle.refusal.specs.declared.Refusal.TheVariants.{NotModelled, Frame, Index, FileLength, FileBytes}
use Rattle.refusal.specs.declared.Refusal.TheVariants.{AccessList, Encoding, ProbeTarget, TraceLength, Display}
use Rattle.refusal.specs.declared.Refusal.TheVariants.{NotAtReset, NoLayout}
use Rattle.std.specs.Prelude.{Ok, Err}
use Rattle.refusal.specs.Number.{number_of, verdict_number, Verdict}
use Rattle.refusal.specs.Apart.{NumbersApart, VerdictsApart}

-- the verdicts in the order of their numbers
verdicts : List Verdict
verdicts =
    Ok tt
    ∷ Err RomLength
    ∷ Err WramLength
    ∷ Err VramLength
    ∷ Err PakLength
    ∷ Err State
    ∷ Err NotModelled
    ∷ Err Frame
    ∷ Err Index
    ∷ Err FileLength
    ∷ Err FileBytes
    ∷ Err AccessList
    ∷ Err Encoding
    ∷ Err ProbeTarget
    ∷ Err TraceLength
    ∷ Err Display
    ∷ Err NotAtReset
    ∷ Err NoLayout
    ∷ []

-- the verdict of a number
abbrev numbered : ℕ → Verdict
numbered n = get_or verdicts n (Ok tt)

back : (r : Refusal) → numbered (number_of r) ≡ Err r
unfolding verdicts
back RomLength = refl
back WramLength = refl
back VramLength = refl
back PakLength = refl
back State = refl
back NotModelled = refl
back Frame = refl
back Index = refl
back FileLength = refl
back FileBytes = refl
back AccessList = refl
back Encoding = refl
back ProbeTarget = refl
back TraceLength = refl
back Display = refl
back NotAtReset = refl
back NoLayout = refl

back-verdict : (v : Verdict) → numbered (verdict_number v) ≡ v
unfolding verdicts
back-verdict (Ok tt) = refl
back-verdict (Err r) = back r

refusal_in : Verdict → Refusal → Refusal
refusal_in (Ok tt) other = other
refusal_in (Err r) other = r

pub verdicts-apart : VerdictsApart
verdicts-apart a b e = sym (back-verdict a) ∙ ap numbered e ∙ back-verdict b

pub numbers_apart : NumbersApart
unfolding refusal_in
numbers_apart a b e = ap (λ (v : Verdict). refusal_in v a) (verdicts-apart (Err a) (Err b) e)
