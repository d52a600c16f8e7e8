-- A machine's records as bodies, and the records that bodies stand for (paper 02, W1): kind 1, 43 words (saved_kinds,
-- Words); kind 2, 13 halfwords; kind 6, four halfwords (W12): "request lines (bit n for level n), timer count, reload,
-- control bits".
use Rattle.std.specs.Prelude.{ℕ, List, [], ◌∷◌, get_or}
use Rattle.bus_timer.specs.declared.TimerLines.{TimerLines}
use Rattle.bus.specs.Memory.{Memory, memory_of}
use Rattle.processor.specs.declared.Processor.{Processor}
use Rattle.saved_bytes.specs.Numbers.{bytes_of, halves_of}
use Rattle.saved_layout.specs.File.{Bodies, bodies_of}
use Rattle.saved_kinds.specs.Kinds.{general_from, rest_from, drawing_from, hardware_from}
use Rattle.saved_kinds.specs.Words.{mode_of, record_words_of}

-- kind 6's halfwords
unfoldable pub lines_of : TimerLines → List ℕ
lines_of h = h.lines ∷ h.count ∷ h.reload ∷ h.control ∷ []

-- the bodies of a machine
unfoldable pub machine_bodies_of : Processor → Memory → Bodies
machine_bodies_of p m =
    bodies_of (bytes_of (halves_of (record_words_of p))) (bytes_of m.regs) m.wram m.vram m.pak
    (bytes_of (lines_of p.hardware))

-- the record of the general registers, the eleven words, and the lines and the timer
unfoldable pub restored_processor_of : List ℕ → List ℕ → TimerLines → Processor
restored_processor_of regs rest hardware =
    record {
      regs = regs;
      pc = get_or rest 0 0;
      eipc = get_or rest 1 0;
      eipsw = get_or rest 2 0;
      fepc = get_or rest 3 0;
      fepsw = get_or rest 4 0;
      ecr = get_or rest 5 0;
      psw = get_or rest 6 0;
      sr25 = get_or rest 7 0;
      sr29 = get_or rest 8 0;
      sr31 = get_or rest 9 0;
      mode = mode_of (get_or rest 10 0);
      hardware = hardware;
    }

-- the record that bodies stand for
unfoldable pub processor_in_bodies : Bodies → Processor
processor_in_bodies b =
    restored_processor_of (general_from b.processor) (rest_from b.processor) (hardware_from b.hardware)

-- the memories and drawing registers that they stand for, with a ROM
unfoldable pub memory_in : List ℕ → Bodies → Memory
memory_in rom b = memory_of rom b.wram b.vram b.pak (drawing_from b.drawing)
