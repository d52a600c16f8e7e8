-- PSW's flags (document 000, "PSW"): where each stands, and what a result leaves there.
use Rattle.std.specs.Prelude.{ℕ, ◌+◌, ◌*◌, ◌/◌, ◌^◌, Bool, true, false, ◌==◌}
use Rattle.word.specs.Bit.{without_bit, with_bit}

-- the places of the flags: Z, S, OV and CY of every result
abbrev pub z_flag : ℕ
z_flag = 0

abbrev pub s_flag : ℕ
s_flag = 1

abbrev pub ov_flag : ℕ
ov_flag = 2

abbrev pub cy_flag : ℕ
cy_flag = 3

-- ID, AE, EP and NP of interrupts and exceptions
abbrev pub id_flag : ℕ
id_flag = 12

abbrev pub ae_flag : ℕ
ae_flag = 13

abbrev pub ep_flag : ℕ
ep_flag = 14

abbrev pub np_flag : ℕ
np_flag = 15

-- 1 for true and 0 for false
abbrev pub bit_of : Bool → ℕ
bit_of true = 1
bit_of false = 0

-- S: "a copy of the highest-order bit of the result"
abbrev pub sign_of : ℕ → ℕ
sign_of v = v / 2 ^ 31

-- Z: "set when the result of any operation is zero"
abbrev pub zero_of : ℕ → ℕ
zero_of v = bit_of (v == 0)

-- PSW after a result v with a carry and an overflow: the bits above CY stay
unfoldable pub flags_of : ℕ → ℕ → ℕ → ℕ → ℕ
flags_of psw cy ov v = psw / 2 ^ 4 * 2 ^ 4 + cy * 2 ^ cy_flag + ov * 2 ^ ov_flag + sign_of v * 2 ^ s_flag + zero_of v

-- the same where 000's column for CY is "-": CY and the bits above stay
unfoldable pub keep_carry_of : ℕ → ℕ → ℕ → ℕ
keep_carry_of psw ov v = psw / 2 ^ 3 * 2 ^ 3 + ov * 2 ^ ov_flag + sign_of v * 2 ^ s_flag + zero_of v

-- SEI sets ID, CLI clears it
unfoldable pub set_id_of : ℕ → ℕ
set_id_of psw = with_bit id_flag psw

unfoldable pub clear_id_of : ℕ → ℕ
clear_id_of psw = without_bit id_flag psw

-- PSW as a regular exception enters: "EP and ID set, AE cleared"
unfoldable pub regular_of : ℕ → ℕ
regular_of psw = without_bit ae_flag (with_bit id_flag (with_bit ep_flag psw))

-- PSW as a duplexed exception enters: "NP and ID set, AE cleared"
unfoldable pub duplexed_of : ℕ → ℕ
duplexed_of psw = without_bit ae_flag (with_bit id_flag (with_bit np_flag psw))
