-- The record of a world (paper 01, "World n"): the list of its eleven halfwords, and the fields of the first.
use Rattle.std.specs.Prelude.{ℕ, ◌+◌, ◌*◌, ◌/◌, ◌%◌, Bool, ◌||◌, not, List, get_or}
use Rattle.word.specs.LittleEndian.{half_at}
use Rattle.drawing_pixel.specs.Lists.{list_of}
use Rattle.drawing_pixel.specs.Flags.{eye_flag_of}
use Rattle.word.specs.Bit.{is_set}

-- where the 32 worlds' records begin in VRAM
abbrev pub world_table : ℕ
world_table = 0x3D800

-- world n: 32 bytes at 0x3D800 + 32n, halfwords 0 to 10 of 16
unfoldable pub world_of : List ℕ → ℕ → List ℕ
world_of vram n = list_of 11 0 (λ k. half_at vram (world_table + 32 * n + 2 * k))

-- LON or RON, whichever is the eye's
unfoldable pub world_shown_of : List ℕ → ℕ → Bool
world_shown_of w eye = eye_flag_of eye (get_or w 0 0)

-- LON and RON both clear: the world is skipped
unfoldable pub skipped_of : List ℕ → Bool
skipped_of w = not (is_set 15 (get_or w 0 0) || is_set 14 (get_or w 0 0))

-- BGM: 0 normal, 1 H-bias, 2 affine, 3 objects
abbrev pub bgm_of : List ℕ → ℕ
bgm_of w = get_or w 0 0 / 4096 % 4

abbrev pub scx_of : List ℕ → ℕ
scx_of w = get_or w 0 0 / 1024 % 4

abbrev pub scy_of : List ℕ → ℕ
scy_of w = get_or w 0 0 / 256 % 4

abbrev pub over_of : List ℕ → Bool
over_of w = is_set 7 (get_or w 0 0)

abbrev pub end_of : List ℕ → Bool
end_of w = is_set 6 (get_or w 0 0)

abbrev pub base_of : List ℕ → ℕ
base_of w = get_or w 0 0 % 16
