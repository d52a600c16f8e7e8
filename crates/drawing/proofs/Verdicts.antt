-- What an accepted lookup of a character is given and gives. Assumes nothing.
use Rattle.std.specs.Prelude.{Ok}
use Prim.Native.Nat.{ℕ, ◌<◌}
use native.Mathlib.Omega.{arith}
use mathlib.Core.Path.{◌≡◌}
use mathlib.Core.List.{List}
use lib.ListN.{length}
use Rattle.std.proofs.lemmas.Grind.{common_steps}
use lib.Dec.{ltb}
use borrow.Author.Tests.{ltb-true}
use Rattle.bus.specs.Refusal.{vram_ok}
use Rattle.bus.proofs.Accepted.{unless-passed}
use Rattle.refusal.specs.Number.{unless}
use Rattle.refusal.specs.declared.Refusal.TheVariants.{VramLength, Index}
use Rattle.drawing_pixel.specs.Character.{character_address_of}
use Rattle.drawing.specs.Calls.{character_verdict_of, character_of}

module _ (v : List ℕ) (c : ℕ) where
  -- an accepted lookup's character is below 2,048
  pub character-small : character_verdict_of v c ≡ (Ok tt) → c < 2048
  unfolding character_verdict_of
  character-small e =
      let later = unless (ltb c 2048) Index (Ok tt) in
      let p = unless-passed (vram_ok (length v)) VramLength later e in
      ltb-true c 2048 (unless-passed (ltb c 2048) Index (Ok tt) p.1).0

  -- an accepted lookup gives 16 bytes
  pub character-sixteen : character_verdict_of v c ≡ (Ok tt) → length (character_of v c) ≡ 16
  unfolding character_of character_verdict_of vram_ok character_address_of
  character-sixteen e = grind (arith, common_steps)
