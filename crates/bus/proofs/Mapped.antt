-- What the byte at a mapped address reads, per region; and the character mirror by character. Assumes nothing.
use Prim.Native.Nat.{ℕ, ◌+◌, ◌-◌, ◌*◌, ◌/◌, ◌%◌, ◌<◌, ◌≤◌}
use mathlib.Core.Bool.{true}
use mathlib.Core.Path.{◌≡◌, sym, ap, ◌∙◌}
use native.Mathlib.Omega.{arith}
use lib.ListN.{length, get_or}
use Rattle.bus.specs.Refusal.{rom_ok, pak_ok}
use Rattle.bus.specs.Place.{vram_at, mirror_of, region_of}
use Rattle.bus.specs.Memory.{Memory, byte_of}
use Rattle.bus.specs.Mapped.{EachMapped, CharacterMirror}
use Rattle.bus.proofs.Places.{place-wram, place-rom, place-vip}
use Rattle.bus.proofs.Halfwords.{byte-load}
use Rattle.bus.proofs.VipPlaces.{vip-low, vip-mirror}
use Rattle.bus.proofs.PakRam.{pak-read, pak-read-empty}

module _ (m : Memory) (a : ℕ) where
  pub wram-mapped : region_of a ≡ 5 → byte_of m a ≡ get_or m.wram (a % 65536) 0
  unfolding byte_of
  wram-mapped here = rw (place-wram (length m.rom) (length m.pak) a here)

  pub rom-mapped : region_of a ≡ 7 → rom_ok (length m.rom) ≡ true → byte_of m a ≡ get_or m.rom (a % length m.rom) 0
  unfolding byte_of
  rom-mapped here ok = rw (place-rom (length m.rom) (length m.pak) a here ok)

  pub pak-mapped : region_of a ≡ 6 → pak_ok (length m.pak) ≡ true → 0 < length m.pak → byte_of m a ≡ get_or m.pak (a % length m.pak) 0
  pak-mapped here ok filled = sym (byte-load m a) ∙ pak-read m a here ok filled

  pub pak_empty : region_of a ≡ 6 → length m.pak ≡ 0 → byte_of m a ≡ 0
  pak_empty here none = sym (byte-load m a) ∙ pak-read-empty m a here none

  pub vram-mapped : region_of a ≡ 0 → a % 524288 < 262144 → byte_of m a ≡ get_or m.vram (a % 524288) 0
  unfolding byte_of
  vram-mapped here low = rw (place-vip (length m.rom) (length m.pak) a here, vip-low (a % 524288) low)

  pub mirror-mapped : region_of a ≡ 0 → 491520 ≤ a % 524288 → byte_of m a ≡ get_or m.vram (mirror_of (a % 524288 - 491520)) 0
  unfolding byte_of
  mirror-mapped here high = rw (place-vip (length m.rom) (length m.pak) a here, vip-mirror (a % 524288) high)

pub each-mapped : EachMapped
each-mapped m a =
    record {
      wram = wram-mapped m a;
      rom = rom-mapped m a;
      pak = pak-mapped m a;
      pak_empty = pak_empty m a;
      vram = vram-mapped m a;
      mirror = mirror-mapped m a;
    }

pub character-mirror : CharacterMirror
unfolding region_of mirror_of
character-mirror romLength pakLength c i small byte =
    let a = 0x78000 + 16 * c + i in
    let here : region_of (0x78000 + 16 * c + i) ≡ 0 = omega arith in
    let e : (0x78000 + 16 * c + i) % 524288 ≡ 0x78000 + 16 * c + i = omega arith in
    let q : (0x78000 + 16 * c + i - 491520) / 0x2000 ≡ c / 512 = omega arith in
    let r : (0x78000 + 16 * c + i - 491520) % 0x2000 ≡ 16 * (c % 512) + i = omega arith in
    place-vip romLength pakLength a here
    ∙ rw e (vip-mirror a (omega arith) ∙ ap vram_at (rw (q, r) (omega arith)))
