-- A character's address and the bus's character mirror: byte i of character c is at 0x78000 + 16c + i. Assumes nothing.
use Prim.Native.Nat.{ℕ, ◌+◌, ◌*◌, ◌<◌}
use mathlib.Core.Path.{◌≡◌}
use Rattle.bus.specs.Place.{place_of, vram_at}
use Rattle.bus.proofs.Mapped.{character-mirror}
use Rattle.drawing_pixel.specs.Character.{character_address_of}

pub character-mirrored : (romLength pakLength c i : ℕ) → c < 2048 → i < 16
    → place_of romLength pakLength (0x78000 + 16 * c + i) ≡ vram_at (character_address_of c + i)
unfolding character_address_of
character-mirrored romLength pakLength c i h l = character-mirror romLength pakLength c i h l
