-- `stored-elsewhere`: the statement of specs/Writing about stores outside region 2. Only a byte put in region 2 reaches the
-- lines and the timer, and an access does not leave its region. Assumes nothing.
use Prim.Native.Nat.{ℕ, zero, suc, ◌-◌, ◌%◌, ◌^◌}
use mathlib.Core.Bool.{true}
use mathlib.Core.List.{[], ◌∷◌}
use mathlib.Core.Path.{◌≡◌, refl, sym, ◌∙◌}
use native.Mathlib.Omega.{arith}
use lib.Dec.{ltb, eqb}
use lib.ListN.{length, get_or}
use Rattle.word.specs.Choose.{member, index_of}
use Rattle.bus_timer.specs.Ports.{hardware_offset_of}
use Rattle.word.proofs.Choices.{pick-each}
use Rattle.bus.specs.Registers.{drawing_addresses, silent_addresses, version_address, kept_of}
use Rattle.bus.specs.Place.{Place, vram_at, wram_at, pak_at, rom_at, drawing_at, version_at, silent, unmapped}
use Rattle.bus.specs.Place.{hardware_at, register_place, mirror_of, vip_place, region_of}
use Rattle.bus.specs.Place.{place_of}
use Rattle.bus.specs.Memory.{Memory, put_place, put_drawing, place_in, put_byte, put_register, size_ok, store_of}
use Rattle.bus.proofs.Devices.{set-hardware}
use Rattle.bus.proofs.DrawingPlaces.{Proper, place-proper}
use Rattle.bus.proofs.Aligned.{region-aligned, region-within}
use Rattle.bus.proofs.Steps.{store-steps-at}
use Rattle.bus_timer_laws.specs.Writing.{timer_in, StoredElsewhere}

-- a place outside region 2
abbrev Off : Place → Type 0
Off (hardware_at o) = ⊥
Off (vram_at i) = Unit {0}
Off (wram_at i) = Unit {0}
Off (pak_at i) = Unit {0}
Off (rom_at i) = Unit {0}
Off (drawing_at k b) = Unit {0}
Off (version_at b) = Unit {0}
Off silent = Unit {0}
Off unmapped = Unit {0}

vip-off : (v : ℕ) → Off (vip_place v)
unfolding vip_place register_place
vip-off v =
    let h = v - v % 2 in
    let k = index_of h drawing_addresses in
    pick-each Off (ltb v 0x40000) (vram_at v) _ tt
    (pick-each Off (ltb v 0x5E000) unmapped _ tt
    (pick-each Off (ltb v 0x60000) (register_place v) _
    (pick-each Off (ltb k 13) (drawing_at k (v % 2)) _ tt
    (pick-each Off (eqb h version_address) (version_at (v % 2)) _ tt
    (pick-each Off (member h silent_addresses) silent unmapped tt tt)))
    (pick-each Off (ltb v 0x78000) unmapped (vram_at (mirror_of (v - 0x78000))) tt tt)))

place-off : (romLength pakLength a : ℕ) → (region_of a ≡ 2 → ⊥) → Off (place_of romLength pakLength a)
unfolding place_of
place-off romLength pakLength a other = go (region_of a) other
  where
    go : (r : ℕ) → (r ≡ 2 → ⊥)
        → Off
        (get_or (vip_place (a % 2 ^ 27 % 2 ^ 19)
        ∷ silent
        ∷ hardware_at (hardware_offset_of a)
        ∷ silent
        ∷ silent
        ∷ wram_at (a % 2 ^ 27 % 65536)
        ∷ pak_at (a % 2 ^ 27 % pakLength)
        ∷ rom_at (a % 2 ^ 27 % romLength)
        ∷ []) r silent)
    go zero n = vip-off (a % 2 ^ 27 % 2 ^ 19)
    go (suc zero) n = tt
    go (suc (suc zero)) n = n refl
    go (suc (suc (suc zero))) n = tt
    go (suc (suc (suc (suc zero)))) n = tt
    go (suc (suc (suc (suc (suc zero))))) n = tt
    go (suc (suc (suc (suc (suc (suc zero)))))) n = tt
    go (suc (suc (suc (suc (suc (suc (suc zero))))))) n = tt
    go (suc (suc (suc (suc (suc (suc (suc (suc r)))))))) n = tt

place-timer : (m : Memory) (p : Place) (b : ℕ) → Off p → timer_in (put_place m p b) ≡ timer_in m
place-timer m (vram_at i) b off = refl
place-timer m (wram_at i) b off = refl
place-timer m (pak_at i) b off = refl
place-timer m (rom_at i) b off = refl
place-timer m (drawing_at k x) b off = refl
place-timer m (version_at x) b off = refl
place-timer m (hardware_at o) b off = absurd off
place-timer m silent b off = refl
place-timer m unmapped b off = refl

drawing-timer : (m : Memory) (p : Place) (v : ℕ) → Proper p → timer_in (put_drawing m p v) ≡ timer_in m
drawing-timer m (vram_at i) v less = refl
drawing-timer m (wram_at i) v less = refl
drawing-timer m (pak_at i) v less = refl
drawing-timer m (rom_at i) v less = refl
drawing-timer m (drawing_at k x) v less = set-hardware m.regs k (kept_of k v) less
drawing-timer m (version_at x) v less = refl
drawing-timer m (hardware_at o) v less = refl
drawing-timer m silent v less = refl
drawing-timer m unmapped v less = refl

-- a drawing register that is written
pub register-timer : (m : Memory) (a v : ℕ) → timer_in (put_register m a v) ≡ timer_in m
unfolding put_register
register-timer m a v = drawing-timer m (place_in m a) (v % 65536) (place-proper (length m.rom) (length m.pak) a)

byte-timer : (m : Memory) (a v : ℕ) → (region_of a ≡ 2 → ⊥) → timer_in (put_byte m a v) ≡ timer_in m
unfolding put_byte
byte-timer m a v other = place-timer m (place_in m a) (v % 256) (place-off (length m.rom) (length m.pak) a other)

pub stored_at : (m : Memory) (size a v : ℕ) → size_ok size ≡ true → (region_of a ≡ 2 → ⊥) → timer_in (store_of m size a v) ≡ timer_in m
stored_at m size a v ok other =
    store-steps-at (λ before after. timer_in after ≡ timer_in before) (λ m. refl) (λ m n o p q. q ∙ p) (λ b. region_of b ≡ 2 → ⊥)
    (λ m b w off. byte-timer m b w off) (λ m b w off. register-timer m b w) m size a v
    (λ j h e. other (sym (region-aligned size a ok) ∙ (sym (region-within size a ok j h) ∙ e)))

pub stored-elsewhere : StoredElsewhere
stored-elsewhere m zero a v less other = stored_at m 1 a v refl other
stored-elsewhere m (suc zero) a v less other = stored_at m 2 a v refl other
stored-elsewhere m (suc (suc zero)) a v less other = stored_at m 4 a v refl other
stored-elsewhere m (suc (suc (suc k))) a v less other = absurd (omega arith)
