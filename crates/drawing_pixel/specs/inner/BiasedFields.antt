-- Inner: signed fields as natural numbers, so that code and definitions share one arithmetic: a field is kept as its
-- signed value plus half its range, its bias. `half` is 2 ^ (bits - 1): 512 for 10 bits, 4096 for 13, 16384 for 15,
-- 32768 for 16. The statement is proved in proofs/Fields.
use Rattle.std.specs.Prelude.{ℕ, ◌+◌, ◌-◌, ◌*◌, ◌%◌, ◌<◌, ◌≡◌, List, get_or, eqb, pos, ◌+ℤ◌}
use Rattle.word.specs.Choose.{pick}
use Rattle.word.specs.Extend.{signed_of}

-- a signed field of a halfword, plus half
abbrev pub biased_of : ℕ → ℕ → ℕ
biased_of half h = (h + half) % (2 * half)

-- a biased field is the field's signed value plus half its range, at every width
abbrev pub BiasedField : Type 0
BiasedField =
    (half h : ℕ) → 0 < half → pos (biased_of half h) ≡ signed_of half (h % (2 * half)) +ℤ pos half

-- GX and GP, 10 bits signed; GY, 16; MX and MY, 13; MP, 15
abbrev pub gx_biased : List ℕ → ℕ
gx_biased w = biased_of 512 (get_or w 1 0)

abbrev pub gp_biased : List ℕ → ℕ
gp_biased w = biased_of 512 (get_or w 2 0)

abbrev pub gy_biased : List ℕ → ℕ
gy_biased w = biased_of 32768 (get_or w 3 0)

abbrev pub mx_biased : List ℕ → ℕ
mx_biased w = biased_of 4096 (get_or w 4 0)

abbrev pub mp_biased : List ℕ → ℕ
mp_biased w = biased_of 16384 (get_or w 5 0)

abbrev pub my_biased : List ℕ → ℕ
my_biased w = biased_of 4096 (get_or w 6 0)

-- the left edge of a window or an object, plus 1,024: position minus parallax left, plus parallax right (both biased by
-- 512)
unfoldable pub edge_biased : ℕ → ℕ → ℕ → ℕ
edge_biased eye position parallax = pick (eqb eye 0) (position + 1024 - parallax) (position + parallax)
