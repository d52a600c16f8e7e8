-- `lines-kept` and `line-never-rises`: the statements of specs/Writing about the request lines. A store is made of bytes
-- put and drawing registers written; of these only a byte written to TCR reaches a line. Assumes nothing.
use Prim.Native.Nat.{ℕ, ◌<◌, ◌≤◌}
use mathlib.Core.Path.{◌≡◌, refl, ap, ◌∙◌}
use native.Mathlib.Omega.{arith}
use lib.ListN.{length, length-set}
use Rattle.bus_timer.specs.Ports.{port_written_of}
use Rattle.bus_timer.specs.Lines.{hardware_line_of}
use Rattle.bus_timer.specs.declared.TimerLines.{TimerLines}
use Rattle.bus_timer.proofs.LinesLeft.{write-lines, write-keeps-down}
use Rattle.bus.specs.TimerLines.{device_length}
use Rattle.bus.specs.Place.{Place, vram_at, wram_at, pak_at, rom_at, drawing_at, version_at, silent, unmapped, hardware_at}
use Rattle.bus.specs.Registers.{kept_of}
use Rattle.bus.specs.Memory.{Memory, put_place, put_drawing, store_of}
use Rattle.bus.proofs.Devices.{hardware-with, set-hardware, with-length}
use Rattle.bus.proofs.DrawingPlaces.{Proper}
use Rattle.bus.proofs.Steps.{store-steps}
use Rattle.bus_timer_laws.specs.Writing.{timer_in, LinesKept, LineNeverRises}

-- what a step of a store leaves of the lines
pub record Lowered (g h : TimerLines) : Type 0 where
  pub others : (n : ℕ) → (n ≡ 1 → ⊥) → hardware_line_of n h ≡ hardware_line_of n g
  pub down : hardware_line_of 1 h ≤ hardware_line_of 1 g

same : (h : TimerLines) → Lowered h h
same h = record { others = λ n other. refl; down = omega arith }

both : (g h i : TimerLines) → Lowered g h → Lowered h i → Lowered g i
both g h i p q =
    record {
      others = λ n other. q.others n other ∙ p.others n other;
      down = omega (arith, p.down, q.down);
    }

written : (h : TimerLines) (o v : ℕ) → Lowered h (port_written_of h o v)
written h o v = record { others = λ n other. write-lines n h o v other; down = write-keeps-down h o v }

-- a step of a store, from device registers of their length on
record Step (m n : Memory) : Type 0 where
  length-kept : length n.regs ≡ length m.regs
  lowered : length m.regs ≡ device_length → Lowered (timer_in m) (timer_in n)

quiet : (m n : Memory) → n.regs ≡ m.regs → Step m n
quiet m n e = record { length-kept = ap length e; lowered = λ l. rw e (same (timer_in m)) }

in-turn : (m n o : Memory) → Step m n → Step n o → Step m o
in-turn m n o p q =
    record {
      length-kept = q.length-kept ∙ p.length-kept;
      lowered = λ l. both (timer_in m) (timer_in n) (timer_in o) (p.lowered l) (q.lowered (p.length-kept ∙ l));
    }

place-step : (m : Memory) (p : Place) (b : ℕ) → b < 256 → Step m (put_place m p b)
place-step m (vram_at i) b small = quiet m _ refl
place-step m (wram_at i) b small = quiet m _ refl
place-step m (pak_at i) b small = quiet m _ refl
place-step m (rom_at i) b small = quiet m _ refl
place-step m (drawing_at k x) b small = quiet m _ refl
place-step m (version_at x) b small = quiet m _ refl
place-step m (hardware_at o) b small =
    record {
      length-kept = with-length m.regs _;
      lowered = λ l. rw (hardware-with m.regs (port_written_of (timer_in m) o b) l) (written (timer_in m) o b);
    }
place-step m silent b small = quiet m _ refl
place-step m unmapped b small = quiet m _ refl

drawing-step : (m : Memory) (p : Place) (v : ℕ) → Proper p → Step m (put_drawing m p v)
drawing-step m (vram_at i) v less = quiet m _ refl
drawing-step m (wram_at i) v less = quiet m _ refl
drawing-step m (pak_at i) v less = quiet m _ refl
drawing-step m (rom_at i) v less = quiet m _ refl
drawing-step m (drawing_at k x) v less =
    record {
      length-kept = length-set m.regs k (kept_of k v);
      lowered = λ l. rw (set-hardware m.regs k (kept_of k v) less) (same (timer_in m));
    }
drawing-step m (version_at x) v less = quiet m _ refl
drawing-step m (hardware_at o) v less = quiet m _ refl
drawing-step m silent v less = quiet m _ refl
drawing-step m unmapped v less = quiet m _ refl

-- a store of any size, at any address
store-lowered : (m : Memory) (size a v : ℕ) → length m.regs ≡ device_length → Lowered (timer_in m) (timer_in (store_of m size a v))
store-lowered m size a v l = (store-steps Step (λ m. quiet m m refl) in-turn place-step drawing-step m size a v).lowered l

pub lines-kept : LinesKept
lines-kept m size a v n l other = (store-lowered m size a v l).others n other

pub line-never-rises : LineNeverRises
line-never-rises m size a v l = (store-lowered m size a v l).down
