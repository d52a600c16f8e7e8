-- An access by the place that the code finds for its aligned address: where there is room for it, what it reads and
-- what it leaves, for every size. Assumes nothing.
use Prim.Native.Nat.{ℕ, ◌+◌, ◌-◌, ◌%◌, ◌^◌, ◌<◌, ◌≤◌}
use mathlib.Core.Bool.{Bool, true, false, true≢false, false≢true}
use mathlib.Core.List.{[], ◌∷◌}
use mathlib.Core.Path.{◌≡◌, refl, sym, subst, ◌∙◌}
use native.Mathlib.Omega.{arith}
use lib.ListN.{length}
use types.Run.{OneOf, miss}
use denote.Enum.Declared.{tag_of}
use Rattle.word.specs.LittleEndian.{put_bytes}
use Rattle.bus_timer.specs.Ports.{port_byte_of, port_written_of}
use Rattle.bus.specs.contracts.Place.{the_type}
use Rattle.bus.specs.TimerLines.{hardware_in, with_hardware}
use Rattle.bus.specs.Place.{region_of}
use Rattle.bus.specs.Refusal.{rom_ok, vram_bytes}
use Rattle.bus.specs.Memory.{Memory, Reads, store_of, with_wram, with_vram, with_regs, aligned_of, size_ok}
use Rattle.bus.specs.inner.Numbers.{number_at}
use Rattle.bus.specs.inner.Finds.{Stores}
use Rattle.bus.specs.inner.LeadsTo.{LeadsTo, Between, Outside, OutsideRam}
use Rattle.bus.specs.declared.Place.{Place}
use Rattle.bus.specs.declared.Place.TheVariants.{Wram, Vram, Rom, Pak, Register, Port, Nothing}
use Rattle.bus.proofs.Power.{rom-power, power-room}
use Rattle.bus.proofs.Sizes.{in_word, size-range}
use Rattle.bus.proofs.Numbers.{byte_power, byte_fits}
use Rattle.bus.proofs.Aligned.{multiple, low-multiple, region-within, aligned-reads, aligned_store, vip-reads, vip-stored}
use Rattle.bus.proofs.Accesses.{Quiet, Inert, nothing_read, nothing_stored}
use Rattle.bus.proofs.PortAccess.{port-byte, port-store, port-load, port-stores}
use Rattle.bus.proofs.Spans.{wram-span, vram-span, rom-span, wram-number, vram-number, rom-number, wram-stored, vram-stored}

-- what the code knows of the place that its own address led to
pub led : (s t : ℕ) (p q : Place) → s ≡ t → p ≡ q → LeadsTo s p → LeadsTo t q
led s t p q e f l = subst (λ (x : ℕ). LeadsTo x q) e (subst (LeadsTo s) f l)

module _ (size a : ℕ) (ok : size_ok size ≡ true) where
  near : aligned_of size a % 4 + size ≤ 4
  near = in_word size a ok

  pub wram-room : (i : ℕ) → LeadsTo (aligned_of size a) (Wram i) → i + size ≤ 65536
  wram-room i (here, e) =
      let n = near in
      let f : i % 4 ≡ aligned_of size a % 4 = rw e (omega arith) in
      let g : i < 65536 = rw e (omega arith) in
      omega (arith, n, f, g)

  pub vram-room : (i : ℕ) → LeadsTo (aligned_of size a) (Vram i) → i + size ≤ vram_bytes
  vram-room i (here, e) =
      let n = near in
      let f : i % 4 ≡ aligned_of size a % 4 = e.in_word ∙ omega arith in
      let g : i < 262144 = e.within in
      omega (arith, n, f, g)

  pub rom-room : (n i : ℕ) → rom_ok n ≡ true → i ≡ aligned_of size a % n → i + size ≤ n
  rom-room n i h e =
      let q = (size-range size ok).0 in
      let p = near in
      let r : aligned_of size a % n + (size - 1) < n = power-room n (rom-power n h) (aligned_of size a) (size - 1) (omega (arith, q, p)) in
      rw e (omega (arith, q, r))

  pub pak-at : (x : ℕ) → LeadsTo (aligned_of size a) (Pak x) → (region_of x ≡ 6) × (x % size ≡ 0)
  pak-at x (here, e) = (rw e here, rw e (multiple size a ok))

  pub register-at : (v : ℕ) → LeadsTo (aligned_of size a) (Register v) → Between v × (v % size ≡ 0)
  register-at v (here, (e, b)) = (rw e b, rw e (low-multiple size (aligned_of size a) ok (multiple size a ok)))

  module _ (m : Memory) where
    pub wram-reads : (i r : ℕ) → LeadsTo (aligned_of size a) (Wram i) → r ≡ number_at m.wram size i → r < 256 ^ size → Reads m size a r
    wram-reads i r (here, e) f small =
        record { means = f ∙ sym (rw e (wram-number m size a _ (wram-span m (aligned_of size a) size near here))); fits = small }

    pub vram-reads : (i r : ℕ) → LeadsTo (aligned_of size a) (Vram i) → r ≡ number_at m.vram size i → r < 256 ^ size → Reads m size a r
    vram-reads i r (here, e) f small =
        record { means = f ∙ sym (vram-number m size a i (vram-span m (aligned_of size a) size near i here e.each)); fits = small }

    pub rom-reads : (x i r : ℕ) → rom_ok (length m.rom) ≡ true → LeadsTo (aligned_of size a) (Rom x) → i ≡ x % length m.rom
        → r ≡ number_at m.rom size i → r < 256 ^ size → Reads m size a r
    rom-reads x i r h (here, e) k f small =
        record { means = f ∙ sym (rw (k, e) (rom-number m size a _ (rom-span m (aligned_of size a) size near here h))); fits = small }

    pub register-reads : (v r : ℕ) → LeadsTo (aligned_of size a) (Register v) → v % size ≡ 0 → Reads m size v r → Reads m size a r
    register-reads v r (here, (e, b)) w p =
        aligned-reads size a ok m r (vip-reads size (aligned_of size a) v near here e (multiple size a ok) w m r p)

    pub port-reads-at : (o r : ℕ) → LeadsTo (aligned_of size a) (Port o) → r ≡ port_byte_of (hardware_in m.regs) o → r < 256 → Reads m size a r
    port-reads-at o r (here, e) f small =
        record {
          means = (rw e at f) ∙ sym (port-load m size a ok here ∙ port-byte m (aligned_of size a) here);
          fits = byte_fits size r (size-range size ok).0 small;
        }

    pub pak-reads : (x r : ℕ) → LeadsTo (aligned_of size a) (Pak x) → Reads m size x r → Reads m size a r
    pak-reads x r (here, e) p = aligned-reads size a ok m r (rw e at p)

    pub pak-puts : (x v : ℕ) → LeadsTo (aligned_of size a) (Pak x) → store_of m size x v ≡ store_of m size a v
    pak-puts x v (here, e) = rw e (aligned_store size a ok m v)

    pub wram-puts : (i v : ℕ) → LeadsTo (aligned_of size a) (Wram i) → with_wram m (put_bytes size m.wram i v) ≡ store_of m size a v
    wram-puts i v (here, e) = rw e (sym (wram-stored m size a _ v (wram-span m (aligned_of size a) size near here)))

    pub vram-puts : (i v : ℕ) → LeadsTo (aligned_of size a) (Vram i) → with_vram m (put_bytes size m.vram i v) ≡ store_of m size a v
    vram-puts i v (here, e) = sym (vram-stored m size a i v (vram-span m (aligned_of size a) size near i here e.each))

    pub register-puts : (v x : ℕ) → LeadsTo (aligned_of size a) (Register v) → v % size ≡ 0 → store_of m size v x ≡ store_of m size a x
    register-puts v x (here, (e, b)) w =
        vip-stored size (aligned_of size a) v near here e (multiple size a ok) w m x ∙ aligned_store size a ok m x

    pub port-puts : (o x : ℕ) → LeadsTo (aligned_of size a) (Port o)
        → with_regs m (with_hardware m.regs (port_written_of (hardware_in m.regs) o (x % 256))) ≡ store_of m size a x
    port-puts o x (here, e) =
        rw e (sym (port-stores m size a ok here x ∙ port-store m (aligned_of size a) here x))

-- what is left where neither ROM, WRAM nor VRAM matched
pub outside-left : (s : ℕ) (p : Place) → LeadsTo s p → OneOf (3 ∷ 4 ∷ 5 ∷ 6 ∷ []) (tag_of the_type p) → Outside s
outside-left s (Wram i) l h = absurd (miss (3 ∷ 4 ∷ 5 ∷ 6 ∷ []) 0 tt h)
outside-left s (Vram i) l h = absurd (miss (3 ∷ 4 ∷ 5 ∷ 6 ∷ []) 1 tt h)
outside-left s (Rom x) l h = absurd (miss (3 ∷ 4 ∷ 5 ∷ 6 ∷ []) 2 tt h)
outside-left s (Pak x) (here, e) h =
    record { no_rom = λ z. omega arith; no_ram = record { no_wram = λ z. omega arith; no_vram = λ z. absurd (omega arith) } }
outside-left s (Register v) (here, (e, b)) h =
    record { no_rom = λ z. omega arith; no_ram = record { no_wram = λ z. omega arith; no_vram = λ z. b } }
outside-left s (Port o) (here, e) h =
    record { no_rom = λ z. omega arith; no_ram = record { no_wram = λ z. omega arith; no_vram = λ z. absurd (omega arith) } }
outside-left s Nothing q h =
    record { no_rom = q.no_rom; no_ram = record { no_wram = q.no_wram; no_vram = λ z. absurd (q.no_vip z) } }

-- and where neither WRAM nor VRAM did
pub ram-left : (s : ℕ) (p : Place) → LeadsTo s p → OneOf (2 ∷ 3 ∷ 4 ∷ 5 ∷ 6 ∷ []) (tag_of the_type p) → OutsideRam s
ram-left s (Wram i) l h = absurd (miss (2 ∷ 3 ∷ 4 ∷ 5 ∷ 6 ∷ []) 0 tt h)
ram-left s (Vram i) l h = absurd (miss (2 ∷ 3 ∷ 4 ∷ 5 ∷ 6 ∷ []) 1 tt h)
ram-left s (Rom x) (here, e) h = record { no_wram = λ z. omega arith; no_vram = λ z. absurd (omega arith) }
ram-left s (Pak x) (here, e) h = record { no_wram = λ z. omega arith; no_vram = λ z. absurd (omega arith) }
ram-left s (Register v) (here, (e, b)) h = record { no_wram = λ z. omega arith; no_vram = λ z. b }
ram-left s (Port o) (here, e) h = record { no_wram = λ z. omega arith; no_vram = λ z. absurd (omega arith) }
ram-left s Nothing q h = record { no_wram = q.no_wram; no_vram = λ z. absurd (q.no_vip z) }

-- what is left of these: nothing that reads or takes anything
module _ (m : Memory) (size a : ℕ) (ok : size_ok size ≡ true) where
  pub quiet-reads : (p : Place) → LeadsTo (aligned_of size a) p → Outside (aligned_of size a) → ((x : ℕ) → p ≡ Pak x → ⊥) → ((x : ℕ) → p ≡ Register x → ⊥) → ((x : ℕ) → p ≡ Port x → ⊥)
      → Reads m size a 0
  quiet-reads (Wram i) (here, e) o h g k = absurd (o.no_ram.no_wram here)
  quiet-reads (Vram i) (here, e) o h g k = absurd (e.not_between (o.no_ram.no_vram here))
  quiet-reads (Rom x) (here, e) o h g k = absurd (o.no_rom here)
  quiet-reads (Pak x) l o h g k = absurd (h x refl)
  quiet-reads (Register v) l o h g k = absurd (g v refl)
  quiet-reads (Port x) l o h g k = absurd (k x refl)
  quiet-reads Nothing q o h g k =
      let all : Quiet (region_of (aligned_of size a)) = (q.no_wram, (q.no_rom, (q.no_vip, (q.no_pak, q.no_port)))) in
      record { means = sym (nothing_read m size a (λ j less. rw (region-within size a ok j less) all)); fits = byte_power size }

  pub quiet-puts : (v : ℕ) (p : Place) → LeadsTo (aligned_of size a) p → OutsideRam (aligned_of size a) → ((x : ℕ) → p ≡ Pak x → ⊥) → ((x : ℕ) → p ≡ Register x → ⊥) → ((x : ℕ) → p ≡ Port x → ⊥)
      → m ≡ store_of m size a v
  quiet-puts v (Wram i) (here, e) o h g k = absurd (o.no_wram here)
  quiet-puts v (Vram i) (here, e) o h g k = absurd (e.not_between (o.no_vram here))
  quiet-puts v (Rom x) (here, e) o h g k =
      let all : Inert (region_of (aligned_of size a)) = (o.no_wram, (λ z. omega arith, (λ z. omega arith, λ z. omega arith))) in
      sym (nothing_stored m size a v (λ j less. rw (region-within size a ok j less) all))
  quiet-puts v (Pak x) l o h g k = absurd (h x refl)
  quiet-puts v (Register w) l o h g k = absurd (g w refl)
  quiet-puts v (Port x) l o h g k = absurd (k x refl)
  quiet-puts v Nothing q o h g k =
      let all : Inert (region_of (aligned_of size a)) = (q.no_wram, (q.no_vip, (q.no_pak, q.no_port))) in
      sym (nothing_stored m size a v (λ j less. rw (region-within size a ok j less) all))

-- what the fast path of a store reports
pub stored-all : (m : Memory) (size a v : ℕ) (r : Bool) (after : Memory) → r ≡ true → Stores m size a v r after → after ≡ store_of m size a v
stored-all m size a v true after e p = p
stored-all m size a v false after e p = absurd (false≢true e)

pub stored-not : (m : Memory) (size a v : ℕ) (r : Bool) (after : Memory) → r ≡ false → Stores m size a v r after
    → (after ≡ m) × OutsideRam (aligned_of size a)
stored-not m size a v true after e p = absurd (true≢false e)
stored-not m size a v false after e p = p
