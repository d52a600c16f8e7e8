-- Code in ROM or WRAM: the halfwords that a step fetches at an index are those of that memory. What is needed of a
-- length follows from a test that each of them passes.
use Prim.Native.Nat.{ℕ, ◌+◌, ◌-◌, ◌*◌, ◌/◌, ◌%◌, ◌^◌, ◌<◌, ◌≤◌}
use mathlib.Core.Bool.{Bool, true, false, true≢false}
use mathlib.Core.Path.{◌≡◌, refl, sym, ap, subst, ◌∙◌}
use native.Mathlib.Nat.{mod-eq_of_lt, mod-le, mod-lt, add-zero, mul_assoc, mul_comm, div-add-mod', div-div-eq-div-mul}
use native.Mathlib.Omega.{arith}
use borrow.Author.Tests.{eqb-true, leb-true}
use lib.Arith.{digits_div, digits_mod}
use lib.Dec.{eqb, leb}
use lib.ListN.{length}
use Rattle.word.specs.Choose.{pick}
use Rattle.word.specs.LittleEndian.{half_at}
use Rattle.bus.specs.Place.{region_of}
use Rattle.bus.specs.Refusal.{powers_from, rom_ok}
use Rattle.bus.specs.Memory.{Memory, load_of}
use Rattle.word.proofs.Choices.{pick-both}
use Rattle.word.proofs.Listed.{member-every}
use Rattle.bus.proofs.Places.{region-code, region-half-start}
use Rattle.bus.proofs.Spans.{rom-span, wram-span, rom-number, wram-number}
use Rattle.bus.proofs.Numbers.{number-half}
use Rattle.bus.specs.inner.Code.{Stands, Halves}

-- what a length is tested for: it is even and parts 2 ^ 24, and its bounds
abbrev parts : ℕ → Bool
parts n = pick (eqb (2 ^ 24 % n) 0) (pick (eqb (n % 2) 0) (pick (leb 1024 n) (leb n (2 ^ 24)) false) false) false

sub_part : (a b c : ℕ) → b + c ≡ a → a - c ≡ b
sub_part a b c e = omega arith

no_more : (a b c : ℕ) → b + c ≡ a → c ≡ 0 → b ≡ a
no_more a b c e z = omega arith

module _ (n : ℕ) (pos : 0 < n) where
  -- a multiple of n, from its quotient
  multiple : (base : ℕ) → base % n ≡ 0 → base / n * n ≡ base
  multiple base z = no_more base (base / n * n) (base % n) (div-add-mod' base n) z

  pub start_of : (pc : ℕ) → (pc - pc % n) % n ≡ 0
  start_of pc =
      let e : pc - pc % n ≡ pc / n * n = sub_part pc (pc / n * n) (pc % n) (div-add-mod' pc n) in
      let f : pc / n * n + 0 ≡ pc / n * n = add-zero (pc / n * n) in
      ap (λ (k : ℕ). k % n) (e ∙ sym f) ∙ digits_mod (pc / n) pos

  module _ (base x : ℕ) (z : base % n ≡ 0) (h : x < n) where
    pub index_of : (base + x) % n ≡ x
    index_of = subst (λ (b : ℕ). (b + x) % n ≡ x) (multiple base z) (digits_mod (base / n) h)

    quotient-of : (base + x) / n ≡ base / n
    quotient-of = subst (λ (b : ℕ). (b + x) / n ≡ base / n) (multiple base z) (digits_div (base / n) h)

    pub region-of : 2 ^ 24 % n ≡ 0 → (base + x) / 2 ^ 24 ≡ base / 2 ^ 24
    region-of part =
        let q = 2 ^ 24 / n in
        let e : n * (2 ^ 24 / n) ≡ 2 ^ 24 = mul_comm n (2 ^ 24 / n) ∙ multiple (2 ^ 24) part in
        subst (λ (w : ℕ). (base + x) / w ≡ base / w) e
        (sym (div-div-eq-div-mul (base + x) n q) ∙ ap (λ (k : ℕ). k / q) quotient-of ∙ div-div-eq-div-mul base n q)

  pub even-of : n % 2 ≡ 0 → (base : ℕ) → base % n ≡ 0 → base % 2 ≡ 0
  even-of two base z =
      let e : n / 2 * 2 ≡ n = no_more n (n / 2 * 2) (n % 2) (div-add-mod' n 2) two in
      let k = base / n in
      let f : k * (n / 2) * 2 + 0 ≡ base =
      add-zero (k * (n / 2) * 2) ∙ mul_assoc k (n / 2) 2 ∙ ap (λ (m : ℕ). k * m) e ∙ multiple base z in
      subst (λ (b : ℕ). b % 2 ≡ 0) f (digits_mod (k * (n / 2)) (omega arith))

-- a length: its bounds; the start of the memory below an address; and the addresses from such a start on
pub record Room (n : ℕ) : Type 0 where
  pub least : 1024 ≤ n
  pub most : n ≤ 2 ^ 24
  pub start : (pc : ℕ) → (pc - pc % n) % n ≡ 0
  pub same : (pc : ℕ) → (pc - pc % n) / 2 ^ 24 ≡ pc / 2 ^ 24
  pub even : (base : ℕ) → base % n ≡ 0 → base % 2 ≡ 0
  pub fits : (base x : ℕ) → base < 2 ^ 32 → base % n ≡ 0 → x < n → base + x < 2 ^ 32
  pub index : (base x : ℕ) → base % n ≡ 0 → x < n → (base + x) % n ≡ x
  pub region : (base x : ℕ) → base % n ≡ 0 → x < n → (base + x) / 2 ^ 24 ≡ base / 2 ^ 24

rejoin : (pc r : ℕ) → r ≤ pc → pc - r + r ≡ pc
rejoin pc r h = omega arith

below : (a b : ℕ) → a / 2 ^ 24 ≡ b / 2 ^ 24 → b < 2 ^ 32 → a < 2 ^ 32
below a b e h = omega arith

room_of : (n : ℕ) → parts n ≡ true → Room n
room_of n t =
    let a = pick-both (eqb (2 ^ 24 % n) 0) _ t in
    let b = pick-both (eqb (n % 2) 0) _ a.1 in
    let d = pick-both (leb 1024 n) (leb n (2 ^ 24)) b.1 in
    let least : 1024 ≤ n = leb-true 1024 n d.0 in
    let pos : 0 < n = omega (arith, least) in
    let part : 2 ^ 24 % n ≡ 0 = eqb-true (2 ^ 24 % n) 0 a.0 in
    record {
      least = least;
      most = leb-true n (2 ^ 24) d.1;
      start = start_of n pos;
      same = λ pc.
          subst (λ (k : ℕ). (pc - pc % n) / 2 ^ 24 ≡ k / 2 ^ 24) (rejoin pc (pc % n) (mod-le pc n))
          (sym (region-of n pos (pc - pc % n) (pc % n) (start_of n pos pc) (mod-lt pc pos) part));
      even = even-of n pos (eqb-true (n % 2) 0 b.0);
      fits = λ base x h z k. below (base + x) base (region-of n pos base x z k part) h;
      index = λ base x z k. index_of n pos base x z k;
      region = λ base x z k. region-of n pos base x z k part;
    }

pub wram-room : Room 65536
wram-room = room_of 65536 refl

pub rom-room : (n : ℕ) → rom_ok n ≡ true → Room n
unfolding rom_ok
rom-room n e = room_of n (member-every parts n (powers_from 10 15) tt e)

-- the region of an index is that of the start
same-region : (n base x r : ℕ) → Room n → base % n ≡ 0 → x < n → region_of base ≡ r → region_of (base + x) ≡ r
same-region n base x r room z h here =
    sym (region-code (base + x)) ∙ ap (λ (k : ℕ). k % 8) (room.region base x z h) ∙ region-code base ∙ here

module _ (m : Memory) (a i : ℕ) (even : a % 2 ≡ 0) where
  itself : a - a % 2 ≡ a
  itself = omega arith

  half-rom : region_of a ≡ 7 → rom_ok (length m.rom) ≡ true → a % length m.rom ≡ i → load_of m 2 a ≡ half_at m.rom i
  half-rom here ok e =
      let start : (a - a % 2) % length m.rom ≡ i = ap (λ (k : ℕ). k % length m.rom) itself ∙ e in
      rom-number m 2 a i (rw start at (rom-span m (a - a % 2) 2 (omega arith) (region-half-start a ∙ here) ok)) ∙ number-half m.rom i

  half-wram : region_of a ≡ 5 → a % 65536 ≡ i → load_of m 2 a ≡ half_at m.wram i
  half-wram here e =
      let start : (a - a % 2) % 65536 ≡ i = ap (λ (k : ℕ). k % 65536) itself ∙ e in
      wram-number m 2 a i (rw start at (wram-span m (a - a % 2) 2 (omega arith) (region-half-start a ∙ here))) ∙ number-half m.wram i

-- the addresses of an index and of the halfword after it
module _ (n base x : ℕ) (room : Room n) (hb : base < 2 ^ 32) (z : base % n ≡ 0) (h : x + 3 < n) where
  first-address : (base + x) % 2 ^ 32 ≡ base + x
  first-address = mod-eq_of_lt (room.fits base x hb z (omega arith))

  second-address : ((base + x) % 2 ^ 32 + 2) % 2 ^ 32 ≡ base + (x + 2)
  second-address =
      let e : base + x + 2 ≡ base + (x + 2) = omega arith in
      rw (first-address, e) (mod-eq_of_lt (room.fits base (x + 2) hb z (omega arith)))

  even-address : x % 2 ≡ 0 → (base + x) % 2 ≡ 0
  even-address k = omega (arith, room.even base z)

module _ (m : Memory) (base x : ℕ) (hb : base < 2 ^ 32) (even : x % 2 ≡ 0) where
  rom-fetches : rom_ok (length m.rom) ≡ true → base % length m.rom ≡ 0 → region_of base ≡ 7 → x + 3 < length m.rom
      → (load_of m 2 ((base + x) % 2 ^ 32) ≡ half_at m.rom x) × (load_of m 2 (((base + x) % 2 ^ 32 + 2) % 2 ^ 32) ≡ half_at m.rom (x + 2))
  rom-fetches ok z here h =
      let n = length m.rom in
      let room = rom-room (length m.rom) ok in
      let k : x < length m.rom = omega arith in
      let k2 : x + 2 < length m.rom = omega arith in
      let e2 : (x + 2) % 2 ≡ 0 = omega arith in
      let h2 : (base + (x + 2)) % 2 ≡ 0 = omega (arith, room.even base z) in (
        rw (first-address n base x room hb z h)
            (half-rom m (base + x) x (even-address n base x room hb z h even) (same-region n base x 7 room z k here) ok (room.index base x z k)),
        rw (second-address n base x room hb z h)
            (half-rom m (base + (x + 2)) (x + 2) h2 (same-region n base (x + 2) 7 room z k2 here) ok (room.index base (x + 2) z k2)),
      )

  wram-fetches : base % 65536 ≡ 0 → region_of base ≡ 5 → x + 3 < 65536
      → (load_of m 2 ((base + x) % 2 ^ 32) ≡ half_at m.wram x) × (load_of m 2 (((base + x) % 2 ^ 32 + 2) % 2 ^ 32) ≡ half_at m.wram (x + 2))
  wram-fetches z here h =
      let room = wram-room in
      let h2 : (base + (x + 2)) % 2 ≡ 0 = omega (arith, wram-room.even base z) in (
        rw (first-address 65536 base x room hb z h)
            (half-wram m (base + x) x (even-address 65536 base x room hb z h even) (same-region 65536 base x 5 room z
            (omega arith) here) (room.index base x z (omega arith))),
        rw (second-address 65536 base x room hb z h)
            (half-wram m (base + (x + 2)) (x + 2) h2 (same-region 65536 base (x + 2) 5 room z (omega arith) here) (room.index base (x + 2) z (omega arith))),
      )

-- both, by where the code stands
pub fetches : (m : Memory) (base x last : ℕ) (inRom : Bool) → rom_ok (length m.rom) ≡ true → Stands (length m.rom) inRom base last → x % 2 ≡ 0 → x < last
    → (w : ℕ) → w % 65536 ≡ half_at (pick inRom m.rom m.wram) x → w / 65536 ≡ half_at (pick inRom m.rom m.wram) (x + 2) → Halves m base x w
fetches m base x last true ok stands even h w first second =
    let s = stands.in_rom refl in
    let at = rom-fetches m base x stands.word even ok s.1 s.2 (omega (arith, s.0)) in
    record { first = at.0 ∙ sym first; second = at.1 ∙ sym second }
fetches m base x last false ok stands even h w first second =
    let s = stands.in_wram refl in
    let at = wram-fetches m base x stands.word even s.1 s.2 (omega (arith, s.0)) in
    record { first = at.0 ∙ sym first; second = at.1 ∙ sym second }

pub stands-even : (n base last : ℕ) (inRom : Bool) → rom_ok n ≡ true → Stands n inRom base last → base % 2 ≡ 0
stands-even n base last true ok stands = (rom-room n ok).even base (stands.in_rom refl).1
stands-even n base last false ok stands = wram-room.even base (stands.in_wram refl).1

-- an index below the last has three bytes after it
pub stands-room : (n base last x : ℕ) (inRom : Bool) → Stands n inRom base last → x < last → x + 3 < pick inRom n 65536
stands-room n base last x true stands h = omega (arith, (stands.in_rom refl).0)
stands-room n base last x false stands h = omega (arith, (stands.in_wram refl).0)

-- where the code at PC stands, by its region
pub rom-stands : (n pc : ℕ) → rom_ok n ≡ true → pc < 2 ^ 32 → region_of pc ≡ 7 → Stands n true (pc - pc % n) (n - 3)
rom-stands n pc ok h here =
    let room = rom-room n ok in
    record {
      word = omega (arith, mod-le pc n);
      in_rom = λ _. (
        omega (arith, room.least),
        room.start pc,
        sym (region-code _) ∙ ap (λ (k : ℕ). k % 8) (room.same pc) ∙ region-code pc ∙ here,
      );
      in_wram = λ e. absurd (true≢false e);
    }

pub wram-stands : (n pc : ℕ) → pc < 2 ^ 32 → region_of pc ≡ 5 → Stands n false (pc - pc % 65536) 65533
wram-stands n pc h here =
    record {
      word = omega arith;
      in_rom = λ e. absurd (true≢false (sym e));
      in_wram = λ _. (
        refl,
        wram-room.start pc,
        sym (region-code _) ∙ ap (λ (k : ℕ). k % 8) (wram-room.same pc) ∙ region-code pc ∙ here,
      );
    }
