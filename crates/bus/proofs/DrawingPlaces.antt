-- A place of a drawing register is that of one of the thirteen. Assumes nothing.
use Prim.Native.Nat.{ℕ, zero, suc, ◌-◌, ◌%◌, ◌^◌, ◌<◌}
use mathlib.Core.List.{List, [], ◌∷◌}
use borrow.Author.Tests.{ltb-true}
use lib.Dec.{ltb, eqb}
use lib.ListN.{get_or}
use Rattle.word.specs.Choose.{member, index_of}
use Rattle.bus_timer.specs.Ports.{hardware_offset_of}
use Rattle.word.proofs.Choices.{pick-each, pick-cases}
use Rattle.bus.specs.Registers.{drawing_addresses, silent_addresses, version_address}
use Rattle.bus.specs.Place.{Place, vram_at, wram_at, pak_at, rom_at, drawing_at, version_at, silent}
use Rattle.bus.specs.Place.{unmapped, hardware_at, mirror_of, vip_place}
use Rattle.bus.specs.Place.{register_place, region_of, place_of}

abbrev pub Proper : Place → Type 0
Proper (drawing_at k b) = k < 13
Proper (vram_at i) = Unit {0}
Proper (wram_at i) = Unit {0}
Proper (pak_at i) = Unit {0}
Proper (rom_at i) = Unit {0}
Proper (version_at b) = Unit {0}
Proper (hardware_at o) = Unit {0}
Proper silent = Unit {0}
Proper unmapped = Unit {0}

register-proper : (v : ℕ) → Proper (register_place v)
unfolding register_place
register-proper v =
    let h = v - v % 2 in
    let k = index_of h drawing_addresses in
    pick-cases Proper (ltb k 13) (drawing_at k (v % 2)) _ (λ e. ltb-true k 13 e)
    (λ _. pick-each Proper (eqb h version_address) (version_at (v % 2)) _ tt
    (pick-each Proper (member h silent_addresses) silent unmapped tt tt))

vip-proper : (v : ℕ) → Proper (vip_place v)
unfolding vip_place
vip-proper v =
    pick-each Proper (ltb v 0x40000) (vram_at v) _ tt
    (pick-each Proper (ltb v 0x5E000) unmapped _ tt
    (pick-each Proper (ltb v 0x60000) (register_place v) _ (register-proper v)
    (pick-each Proper (ltb v 0x78000) unmapped (vram_at (mirror_of (v - 0x78000))) tt tt)))

-- an entry of a list has what all its entries have
abbrev Each : (Place → Type 0) → List Place → Type 0
Each P [] = Unit {0}
Each P (x ∷ xs) = P x × Each P xs

each-entry : (P : Place → Type 0) (xs : List Place) (z : Place) → P z → Each P xs → (i : ℕ) → P (get_or xs i z)
each-entry P [] z last all i = last
each-entry P (x ∷ xs) z last all zero = all.0
each-entry P (x ∷ xs) z last all (suc i) = each-entry P xs z last all.1 i

pub place-proper : (romLength pakLength a : ℕ) → Proper (place_of romLength pakLength a)
unfolding place_of
place-proper romLength pakLength a =
    let b = a % 2 ^ 27 in
    each-entry Proper
    (vip_place (b % 2 ^ 19)
    ∷ silent
    ∷ hardware_at (hardware_offset_of a)
    ∷ silent
    ∷ silent
    ∷ wram_at (b % 65536)
    ∷ pak_at (b % pakLength)
    ∷ rom_at (b % romLength)
    ∷ [])
    silent tt (vip-proper (b % 2 ^ 19), (tt, (tt, (tt, (tt, (tt, (tt, (tt, tt)))))))) (region_of a)
