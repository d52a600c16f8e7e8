-- Paper 01, "Refusal numbers": the conditions of 1 to 4. The numbers and "Lowest number first" are those of the crate
-- refusal. The condition of 5 that concerns the drawing registers is `drawing_ok` of Registers; `registers_ok` is that
-- with the request lines and the timer (paper 02, W6).
use Rattle.std.specs.Prelude.{ℕ, zero, suc, ◌^◌, Bool, List, [], ◌∷◌, eqb}
use Rattle.word.specs.Choose.{member}

-- n powers of two, from 2 ^ k on
abbrev pub powers_from : ℕ → ℕ → List ℕ
powers_from k zero = []
powers_from k (suc n) = 2 ^ k ∷ powers_from (suc k) n

-- 1: ROM length, a power of two from 2 ^ 10 = 1,024 to 2 ^ 24 = 16,777,216
unfoldable pub rom_ok : ℕ → Bool
rom_ok n = member n (powers_from 10 15)

-- 2: WRAM length
abbrev pub wram_bytes : ℕ
wram_bytes = 65536

unfoldable pub wram_ok : ℕ → Bool
wram_ok n = eqb n wram_bytes

-- 3: VRAM length
abbrev pub vram_bytes : ℕ
vram_bytes = 262144

unfoldable pub vram_ok : ℕ → Bool
vram_ok n = eqb n vram_bytes

-- 4: pak RAM length, 0 or a power of two from 1 to 2 ^ 24
unfoldable pub pak_ok : ℕ → Bool
pak_ok n = member n (0 ∷ powers_from 0 25)
