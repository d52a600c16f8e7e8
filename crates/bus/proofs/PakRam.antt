-- Region 6: what a byte of pak RAM reads and takes, empty or not. Assumes nothing.
use Prim.Native.Nat.{ℕ, ◌+◌, ◌-◌, ◌/◌, ◌%◌, ◌<◌}
use mathlib.Core.Bool.{true}
use mathlib.Core.Path.{◌≡◌, sym, ap, ◌∙◌}
use native.Mathlib.Omega.{arith}
use lib.ListN.{length, get_or, set, get_or-eq_default}
use lib.Seq.{set_out}
use Rattle.bus.specs.Place.{region_of}
use Rattle.bus.specs.Refusal.{pak_ok}
use Rattle.bus.specs.Memory.{Memory, byte_of, load_of, put_byte, store_of, put_halfword, with_pak}
use Rattle.bus.proofs.Power.{pak-power, power-low}
use Rattle.bus.proofs.Places.{place-pak, register-elsewhere, region-half, region-half-start}
use Rattle.bus.proofs.Halfwords.{byte-load, byte-store}

module _ (m : Memory) (a : ℕ) (here : region_of a ≡ 6) where
  -- a byte of pak RAM
  pub pak-read : pak_ok (length m.pak) ≡ true → 0 < length m.pak → load_of m 1 a ≡ get_or m.pak (a % length m.pak) 0
  unfolding byte_of
  pak-read ok filled =
      byte-load m a
      ∙ rw (place-pak (length m.rom) (length m.pak) a here, power-low 0 (length m.pak) (pak-power (length m.pak) ok filled) a)

  -- empty pak RAM reads 0
  pub pak-read-empty : length m.pak ≡ 0 → load_of m 1 a ≡ 0
  unfolding byte_of
  pak-read-empty none =
      byte-load m a
      ∙ rw (place-pak (length m.rom) (length m.pak) a here) (get_or-eq_default m.pak 0 (omega arith))

  not-vip : region_of a ≡ 0 → ⊥
  not-vip e = omega arith

  pub pak-put : (v : ℕ) → pak_ok (length m.pak) ≡ true → 0 < length m.pak → store_of m 1 a v ≡ with_pak m (set m.pak (a % length m.pak) (v % 256))
  unfolding put_byte
  pak-put v ok filled =
      byte-store m a v
      ∙ register-elsewhere _ a v not-vip
      ∙ rw (place-pak (length m.rom) (length m.pak) a here, power-low 0 (length m.pak) (pak-power (length m.pak) ok filled) a)

  -- empty pak RAM takes nothing
  pub pak-put-empty : (v : ℕ) → length m.pak ≡ 0 → store_of m 1 a v ≡ m
  unfolding put_byte
  pak-put-empty v none =
      byte-store m a v
      ∙ register-elsewhere _ a v not-vip
      ∙ rw (place-pak (length m.rom) (length m.pak) a here) (ap (with_pak m) (set_out m.pak _ (v % 256) (omega arith)))

  -- a halfword store is two byte stores
  pub pak-half : (v : ℕ) → store_of m 2 a v ≡ store_of (store_of m 1 (a - a % 2) v) 1 (a - a % 2 + 1) (v / 256)
  unfolding store_of put_halfword
  pak-half v =
      let n0 : region_of (a - a % 2) ≡ 0 → ⊥ = λ e. not-vip (sym (region-half-start a) ∙ e) in
      let n1 : region_of (a - a % 2 + 1) ≡ 0 → ⊥ = λ e. not-vip (sym (region-half a 1 (omega arith)) ∙ e) in
      register-elsewhere _ (a - a % 2) v n0
      ∙ sym (byte-store _ (a - a % 2 + 1) (v / 256)
      ∙ register-elsewhere _ (a - a % 2 + 1) (v / 256) n1
      ∙ ap (λ (x : Memory). put_byte x (a - a % 2 + 1) (v / 256)) (byte-store m (a - a % 2) v ∙ register-elsewhere _ (a - a % 2) v n0))
