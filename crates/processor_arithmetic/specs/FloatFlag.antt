-- PSW's flags of the floating instructions (document 000, "PSW"; paper 02, W4): where each stands.
use Rattle.std.specs.Prelude.{ℕ}

abbrev pub fud_flag : ℕ
fud_flag = 5

abbrev pub fov_flag : ℕ
fov_flag = 6

abbrev pub fzd_flag : ℕ
fzd_flag = 7

abbrev pub fiv_flag : ℕ
fiv_flag = 8

abbrev pub fro_flag : ℕ
fro_flag = 9
