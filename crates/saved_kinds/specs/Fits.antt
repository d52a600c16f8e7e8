-- The form of a file (paper 02, W12: "a file whose first halfword is 0 for form 2, any other for form 1"), and the pak
-- RAM's length, which follows from the file's: "its file's length fits no pak RAM size in that form". The statement
-- `FitsExactly` says that the test is that; its proof is `fits-exactly` in proofs/.
use Rattle.std.specs.Prelude.{ℕ, ◌-◌, Bool, true, false, List, ◌≡◌, eqb}
use Rattle.word.specs.Choose.{pick}
use Rattle.word.specs.LittleEndian.{half_at}
use Rattle.bus.specs.Refusal.{pak_ok}
use Rattle.saved_layout.specs.Layout.{file_length_of}
use Rattle.saved_layout.specs.declared.Form.{Form}
use Rattle.saved_layout.specs.declared.Form.TheVariants.{One, Two}

unfoldable pub form_of : List ℕ → Form
form_of file = pick (eqb (half_at file 0) 0) Two One

-- a file is this much longer than its pak RAM, where that is not empty
unfoldable pub besides_pak_of : Form → ℕ
besides_pak_of form = file_length_of form 1 - 1

-- the only length of pak RAM that a file of n bytes can have; 0 where it is no longer than what stands besides pak RAM
unfoldable pub pak_length_of : Form → ℕ → ℕ
pak_length_of form n = n - besides_pak_of form

-- whether some legal length of pak RAM makes files of n bytes
unfoldable pub fits_ok : Form → ℕ → Bool
fits_ok form n = pick (pak_ok (pak_length_of form n)) (eqb (file_length_of form (pak_length_of form n)) n) false

-- the test holds exactly where a legal length has files of n bytes, and `pak_length_of` gives that length
pub record FitsExactly (form : Form) (n : ℕ) : Type 0 where
  pub fits : fits_ok form n ≡ true → (pak_ok (pak_length_of form n) ≡ true) × (file_length_of form (pak_length_of form n) ≡ n)
  pub only : (p : ℕ) → pak_ok p ≡ true → file_length_of form p ≡ n → (fits_ok form n ≡ true) × (pak_length_of form n ≡ p)
