-- A store keeps every length and every register width, so an accepted machine stays accepted. Assumes nothing.
use Rattle.std.specs.Prelude.{Ok}
use Prim.Native.Nat.{ℕ, zero, suc, ◌+◌, ◌-◌, ◌^◌, ◌<◌}
use mathlib.Core.Bool.{true, false≢true}
use mathlib.Core.List.{List}
use mathlib.Core.Path.{◌≡◌, refl, ◌∙◌}
use native.Mathlib.Decide.{ℕ_discrete, dec_lt}
use native.Mathlib.Nat.{mod-lt}
use native.Mathlib.Omega.{arith}
use borrow.Author.Tests.{lt-ltb, le-ltb}
use lib.ListN.{length, get_or, set, length-set}
use lib.Pow.{pow_pos}
use lib.Seq.{get_or-set_same, get_or-set_other, set_out}
use Rattle.bus_timer.specs.Ports.{hardware_ok, port_written_of}
use Rattle.bus_timer.specs.declared.TimerLines.{TimerLines}
use Rattle.bus_timer.proofs.Accepting.{ok-fits, fits-ok, write-accepted}
use Rattle.word.proofs.Choices.{pick-both}
use Rattle.bus.specs.Registers.{width_of, kept_of, within_from, drawing_ok}
use Rattle.bus.specs.TimerLines.{hardware_in, with_hardware, registers_ok}
use Rattle.bus.specs.Place.{Place, vram_at, wram_at, pak_at, rom_at, drawing_at, version_at, silent}
use Rattle.bus.specs.Place.{unmapped, hardware_at}
use Rattle.bus.specs.Memory.{Memory, Lengths, verdict_of, put_place, put_drawing, put_byte, put_register}
use Rattle.bus.specs.Stores.{Shape, StoreShape}
use Rattle.bus.proofs.Steps.{byte_step, register-step, store-steps}
use Rattle.bus.proofs.Accepted.{accepted-lengths, accepted-registers, lengths-accepted}
use Rattle.bus.proofs.Devices.{drawing-ok-same, set-hardware, with-register, with-length, with-fits}
use Rattle.bus.proofs.DrawingPlaces.{Proper}

-- drawing_ok, register by register
within-each : (d : List ℕ) (k n : ℕ) → within_from d k n ≡ true → (j : ℕ) → j < n → get_or d (k + j) 0 < 2 ^ width_of (k + j)
within-each d k zero h j less = absurd (omega arith)
within-each d k (suc n) h j less =
    elim (dec_lt (get_or d k 0) (2 ^ width_of k)) [
      | no large ↦ absurd (false≢true (simp (le-ltb (get_or d k 0) (2 ^ width_of k) (omega arith)) at h))
      | yes small ↦ elim (ℕ_discrete j 0) [
        | yes e ↦
            let f : k + j ≡ k = omega arith in
            rw f small
        | no ne ↦
            let f : k + 1 + (j - 1) ≡ k + j = omega arith in
            rw f at (within-each d (k + 1) n (simp (lt-ltb (get_or d k 0) (2 ^ width_of k) small) at h) (j - 1) (omega arith))
      ]
    ]

each_within : (d : List ℕ) (k n : ℕ) → ((j : ℕ) → j < n → get_or d (k + j) 0 < 2 ^ width_of (k + j)) → within_from d k n ≡ true
each_within d k zero p = refl
each_within d k (suc n) p =
    let e : k + 0 ≡ k = omega arith in
    let first : get_or d k 0 < 2 ^ width_of k = rw e at (p 0 (omega arith)) in
    simp (lt-ltb (get_or d k 0) (2 ^ width_of k) first) (each_within d (k + 1) n later)
  where
    later : (j : ℕ) → j < n → get_or d (k + 1 + j) 0 < 2 ^ width_of (k + 1 + j)
    later j h =
        let f : k + 1 + j ≡ k + (j + 1) = omega arith in
        rw f (p (j + 1) (omega arith))

-- the widths of accepted drawing registers
pub drawing-within : (d : List ℕ) → drawing_ok d ≡ true → (k : ℕ) → k < 13 → get_or d k 0 < 2 ^ width_of k
unfolding drawing_ok
drawing-within d h k less =
    let e : 0 + k ≡ k = omega arith in
    rw e at (within-each d 0 13 h k less)

pub within-drawing : (d : List ℕ) → ((k : ℕ) → k < 13 → get_or d k 0 < 2 ^ width_of k) → drawing_ok d ≡ true
unfolding drawing_ok
within-drawing d p = each_within d 0 13 (λ j h. let e : 0 + j ≡ j = omega arith in rw e (p j h))

-- what an accepted record's registers are: the drawing registers, the lines and the timer
pub registers-both : (d : List ℕ) → registers_ok d ≡ true → (drawing_ok d ≡ true) × (hardware_ok (hardware_in d) ≡ true)
unfolding registers_ok
registers-both d h = pick-both (drawing_ok d) (hardware_ok (hardware_in d)) h

pub both-registers : (d : List ℕ) → drawing_ok d ≡ true → hardware_ok (hardware_in d) ≡ true → registers_ok d ≡ true
unfolding registers_ok
both-registers d p q = rw (p, q)

pub register-within : (d : List ℕ) → registers_ok d ≡ true → (k : ℕ) → k < 13 → get_or d k 0 < 2 ^ width_of k
register-within d h = drawing-within d (registers-both d h).0

-- a drawing register that takes a value keeps its width, and the lines and the timer
set-drawing : (d : List ℕ) (k v : ℕ) → drawing_ok d ≡ true → drawing_ok (set d k (kept_of k v)) ≡ true
set-drawing d k v h = within-drawing (set d k (kept_of k v)) each
  where
    each : (j : ℕ) → j < 13 → get_or (set d k (kept_of k v)) j 0 < 2 ^ width_of j
    each j less =
        elim (ℕ_discrete j k) [
          | no ne ↦ rw (get_or-set_other d k j (kept_of k v) 0 ne) (drawing-within d h j less)
          | yes e ↦ elim (dec_lt k (length d)) [
            | yes inside ↦ rw (e, get_or-set_same d k (kept_of k v) 0 inside) (mod-lt v (pow_pos (width_of k)))
            | no outside ↦ rw (set_out d k (kept_of k v) (omega arith)) (drawing-within d h j less)
          ]
        ]

set-within : (d : List ℕ) (k v : ℕ) → k < 13 → registers_ok d ≡ true → registers_ok (set d k (kept_of k v)) ≡ true
set-within d k v less h =
    let p = registers-both d h in
    both-registers (set d k (kept_of k v)) (set-drawing d k v p.0)
    (rw (set-hardware d k (kept_of k v) less) p.1)

-- a register of the timer that takes a byte keeps the drawing registers, and the lines and the timer stay accepted
pub with-accepted : (d : List ℕ) (h : TimerLines) → registers_ok d ≡ true → hardware_ok h ≡ true → registers_ok (with_hardware d h) ≡ true
with-accepted d h p ok =
    both-registers (with_hardware d h)
    (drawing-ok-same (with_hardware d h) d (with-register d h) ∙ (registers-both d p).0)
    (fits-ok (hardware_in (with_hardware d h)) (with-fits d h (ok-fits h ok)))

written-within : (d : List ℕ) (o b : ℕ) → registers_ok d ≡ true → registers_ok (with_hardware d (port_written_of (hardware_in d) o b)) ≡ true
written-within d o b p =
    with-accepted d (port_written_of (hardware_in d) o b) p (write-accepted (hardware_in d) o b (registers-both d p).1)

-- what a store may not change (Shape): nothing is changed, and one after the other
pub same : (m : Memory) → Shape m m
same m =
    record {
      same_rom = refl;
      same_wram = refl;
      same_vram = refl;
      same_pak = refl;
      same_regs = refl;
      still_within = λ h. h;
    }

pub both : (m n o : Memory) → Shape m n → Shape n o → Shape m o
both m n o p q =
    record {
      same_rom = q.same_rom ∙ p.same_rom;
      same_wram = q.same_wram ∙ p.same_wram;
      same_vram = q.same_vram ∙ p.same_vram;
      same_pak = q.same_pak ∙ p.same_pak;
      same_regs = q.same_regs ∙ p.same_regs;
      still_within = λ h. q.still_within (p.still_within h);
    }

place-shape : (m : Memory) (p : Place) (b : ℕ) → Shape m (put_place m p b)
place-shape m (vram_at i) b =
    record {
      same_rom = refl;
      same_wram = refl;
      same_vram = length-set m.vram i b;
      same_pak = refl;
      same_regs = refl;
      still_within = λ h. h;
    }
place-shape m (wram_at i) b =
    record {
      same_rom = refl;
      same_wram = length-set m.wram i b;
      same_vram = refl;
      same_pak = refl;
      same_regs = refl;
      still_within = λ h. h;
    }
place-shape m (pak_at i) b =
    record {
      same_rom = refl;
      same_wram = refl;
      same_vram = refl;
      same_pak = length-set m.pak i b;
      same_regs = refl;
      still_within = λ h. h;
    }
place-shape m (rom_at i) b = same m
place-shape m (drawing_at k x) b = same m
place-shape m (version_at x) b = same m
place-shape m (hardware_at o) b =
    record {
      same_rom = refl;
      same_wram = refl;
      same_vram = refl;
      same_pak = refl;
      same_regs = with-length m.regs _;
      still_within = written-within m.regs o b;
    }
place-shape m silent b = same m
place-shape m unmapped b = same m

drawing-shape : (m : Memory) (p : Place) (v : ℕ) → Proper p → Shape m (put_drawing m p v)
drawing-shape m (vram_at i) v less = same m
drawing-shape m (wram_at i) v less = same m
drawing-shape m (pak_at i) v less = same m
drawing-shape m (rom_at i) v less = same m
drawing-shape m (drawing_at k x) v less =
    record {
      same_rom = refl;
      same_wram = refl;
      same_vram = refl;
      same_pak = refl;
      same_regs = length-set m.regs k (kept_of k v);
      still_within = set-within m.regs k v less;
    }
drawing-shape m (version_at x) v less = same m
drawing-shape m (hardware_at o) v less = same m
drawing-shape m silent v less = same m
drawing-shape m unmapped v less = same m

put-shape : (m : Memory) (p : Place) (b : ℕ) → b < 256 → Shape m (put_place m p b)
put-shape m p b small = place-shape m p b

pub byte-shape : (m : Memory) (a v : ℕ) → Shape m (put_byte m a v)
byte-shape = byte_step Shape same both put-shape drawing-shape

pub register-shape : (m : Memory) (a v : ℕ) → Shape m (put_register m a v)
register-shape = register-step Shape same both put-shape drawing-shape

pub store-shape : StoreShape
store-shape = store-steps Shape same both put-shape drawing-shape

-- accepted lengths stay accepted, and so does an accepted machine
pub shape-lengths : (m n : Memory) → Shape m n → Lengths (length m.rom) (length m.wram) (length m.vram) (length m.pak)
    → Lengths (length n.rom) (length n.wram) (length n.vram) (length n.pak)
shape-lengths m n p h = rw (p.same_rom, p.same_wram, p.same_vram, p.same_pak) h

pub shape-accepted : (m n : Memory) → Shape m n → verdict_of m ≡ (Ok tt) → verdict_of n ≡ (Ok tt)
shape-accepted m n p e =
    lengths-accepted (length n.rom) (length n.wram) (length n.vram) (length n.pak) n.regs
    (shape-lengths m n p (accepted-lengths (length m.rom) (length m.wram) (length m.vram) (length m.pak) m.regs e))
    (p.still_within (accepted-registers (length m.rom) (length m.wram) (length m.vram) (length m.pak) m.regs e))
