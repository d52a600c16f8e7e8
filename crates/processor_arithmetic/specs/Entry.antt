-- PSW as an exception enters (paper 01: "EP and ID set, AE cleared", duplexed "NP and ID set, AE cleared"): exactly
-- these bits change. The proofs are `regular-entry` and `duplexed-entry` in proofs/Entering.
use Rattle.std.specs.Prelude.{◌≡◌, ℕ, ◌≢◌}
use Rattle.word.specs.Bit.{bit_at}
use Rattle.processor_arithmetic.specs.Flag.{id_flag, ae_flag, ep_flag, np_flag, regular_of, duplexed_of}

-- PSW before and after: the bit given is set, ID is set, AE is clear, every other bit is as it was
pub record Enters (bit psw after : ℕ) : Type 0 where
  pub own_set : bit_at bit after ≡ 1
  pub id_set : bit_at id_flag after ≡ 1
  pub ae_clear : bit_at ae_flag after ≡ 0
  pub others : (k : ℕ) → k ≢ bit → k ≢ id_flag → k ≢ ae_flag → bit_at k after ≡ bit_at k psw

abbrev pub RegularEntry : Type 0
RegularEntry = (psw : ℕ) → Enters ep_flag psw (regular_of psw)

abbrev pub DuplexedEntry : Type 0
DuplexedEntry = (psw : ℕ) → Enters np_flag psw (duplexed_of psw)
