-- `regular-entry` and `duplexed-entry`: the statements of specs/Entry, one argument for both.
use Rattle.std.proofs.Common.{ℕ, ◌^◌, ◌≢◌, ◌∙◌, arith}
use Rattle.word.specs.Bit.{without_bit, with_bit}
use Rattle.processor_arithmetic.specs.Flag.{regular_of, duplexed_of}
use Rattle.processor_arithmetic.specs.Entry.{Enters, RegularEntry, DuplexedEntry}
use Rattle.processor_arithmetic.proofs.Places.{set-flag, set-flag-others, clear-flag, clear-flag-others}

-- the bit is neither ID's nor AE's
enters : (b psw : ℕ) → b ≢ 12 → b ≢ 13 → Enters b psw (without_bit 13 (with_bit 12 (with_bit b psw)))
enters b psw i a =
    let own = with_bit b psw in
    let id = with_bit 12 own in
    record {
      own_set = clear-flag-others b 13 id a ∙ set-flag-others b 12 own i ∙ set-flag b psw;
      id_set = clear-flag-others 12 13 id (λ e. omega (arith, e)) ∙ set-flag 12 own;
      ae_clear = clear-flag 13 id;
      others = λ k o j m. clear-flag-others k 13 id m ∙ set-flag-others k 12 own j ∙ set-flag-others k b psw o;
    }

pub regular-entry : RegularEntry
unfolding regular_of
regular-entry psw = enters 14 psw (λ e. omega (arith, e)) (λ e. omega (arith, e))

pub duplexed-entry : DuplexedEntry
unfolding duplexed_of
duplexed-entry psw = enters 15 psw (λ e. omega (arith, e)) (λ e. omega (arith, e))
