-- Each refusal's number (paper 01, "Refusal numbers"; paper 02), 0 for an accepted call, and "Lowest number first".
-- The conditions stand with what they test: lengths and registers in the bus, records and calls above it.
use Rattle.std.specs.Prelude.{ℕ, Bool, true, false, List, Result, Ok, Err, ⊤}
use Rattle.refusal.specs.declared.Refusal as refusal
use Rattle.refusal.specs.declared.Refusal.TheVariants.{RomLength, WramLength, VramLength, PakLength, State}
use Rattle.refusal.specs.declared.Refusal.TheVariants.{NotModelled, Frame, Index, FileLength, FileBytes}
use Rattle.refusal.specs.declared.Refusal.TheVariants.{AccessList, Encoding, ProbeTarget, TraceLength, Display}
use Rattle.refusal.specs.declared.Refusal.TheVariants.{NotAtReset, NoLayout}

-- the papers' number of a refusal
abbrev pub number_of : refusal.Refusal → ℕ
number_of RomLength = 1
number_of WramLength = 2
number_of VramLength = 3
number_of PakLength = 4
number_of State = 5
number_of NotModelled = 6
number_of Frame = 7
number_of Index = 8
number_of FileLength = 9
number_of FileBytes = 10
number_of AccessList = 11
number_of Encoding = 12
number_of ProbeTarget = 13
number_of TraceLength = 14
number_of Display = 15
number_of NotAtReset = 16
number_of NoLayout = 17

-- what a call that tests its arguments answers where it has nothing else to say
abbrev pub Verdict : Type 0
Verdict = Result ⊤ refusal.Refusal

-- 0 for a call that was accepted, else the refusal's number
abbrev pub verdict_number : Verdict → ℕ
verdict_number (Ok tt) = 0
verdict_number (Err n) = number_of n

-- the refusal unless its subject is right, and then what the later conditions say: the lowest number comes first
abbrev pub unless : Bool → refusal.Refusal → Verdict → Verdict
unless true n later = later
unless false n later = Err n

-- a later verdict, asked only where the one before accepts
abbrev pub then_of : Verdict → Verdict → Verdict
then_of (Ok tt) later = later
then_of (Err n) later = Err n

-- the caller's bytes after a call: the first where it is refused, else the second
abbrev pub when_accepted : Verdict → List ℕ → List ℕ → List ℕ
when_accepted (Ok tt) refused accepted = accepted
when_accepted (Err n) refused accepted = refused
