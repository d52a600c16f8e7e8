-- `characters-in`, `maps-in`, `ranges-only` and `ranges-each`: the probe's ranges by characters and by background maps.
-- Assumes nothing.
use Prim.Native.Nat.{ℕ, ◌+◌, ◌-◌, ◌*◌, ◌/◌, ◌%◌, ◌≤◌, ◌<◌}
use mathlib.Core.Logic.{inl, inr, ⊎_elim}
use mathlib.Core.Path.{sym, ◌∙◌}
use native.Mathlib.Decide.{dec_lt}
use native.Mathlib.Omega.{arith}
use borrow.Author.Tests.{le-leb, lt-leb, lt-ltb}
use Rattle.drawing_pixel.specs.Character.{character_address_of}
use Rattle.bus_probe.proofs.Ranges.{before-characters, in-characters, before-maps, from-maps, in-ranges}
use Rattle.drawing_overlay.specs.Ranges.{CharactersIn, MapsIn, CharacterByte, MapByte, RangesOnly, RangesEach}

pub characters-in : CharactersIn
unfolding character_address_of
characters-in c k h b =
    elim (dec_lt c 1536) [
      | yes l ↦ before-characters _ (omega arith) ∙ sym (lt-leb 1536 c l)
      | no l ↦ in-characters _ (omega arith) (omega arith) ∙ sym (le-leb 1536 c (omega arith))
    ]

pub maps-in : MapsIn
maps-in m k h b =
    elim (dec_lt m 12) [
      | yes l ↦ before-maps _ (omega arith) (omega arith) ∙ sym (lt-leb 12 m l)
      | no l ↦
          from-maps _ (omega arith) ∙ lt-ltb (0x20000 + 8192 * m + k) 0x3C000 (omega arith) ∙ sym (le-leb 12 m (omega arith))
    ]

in-character : (i : ℕ) → 0x1E000 ≤ i → i < 0x20000 → CharacterByte i
unfolding character_address_of
in-character i l h =
    record {
      character = 1536 + (i - 0x1E000) / 16;
      byte = (i - 0x1E000) % 16;
      first = omega arith;
      last = omega arith;
      inside = omega arith;
      is = omega arith;
    }

in_map : (i : ℕ) → 0x38000 ≤ i → i < 0x3C000 → MapByte i
in_map i l h =
    record {
      map = 12 + (i - 0x38000) / 8192;
      byte = (i - 0x38000) % 8192;
      first = omega arith;
      last = omega arith;
      inside = omega arith;
      is = omega arith;
    }

pub ranges-only : RangesOnly
ranges-only i e = ⊎_elim (λ c. inl (in-character i c.0 c.1)) (λ c. inr (in_map i c.0 c.1)) (in-ranges i e)

pub ranges-each : RangesEach
ranges-each i =
    ⊎_elim
    (λ b. rw b.is (characters-in b.character b.byte b.last b.inside ∙ le-leb 1536 b.character b.first))
    (λ b. rw b.is (maps-in b.map b.byte b.last b.inside ∙ le-leb 12 b.map b.first))
