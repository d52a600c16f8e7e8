-- `replaced-at-reset`: the statement of specs/Reset. Assumes nothing.
use Prim.Native.Nat.{ℕ}
use mathlib.Core.Bool.{false}
use mathlib.Core.List.{List}
use mathlib.Core.Path.{◌≡◌, ap}
use Rattle.bus.specs.TimerLines.{hardware_in}
use Rattle.processor.specs.Calls.{reset_of}
use Rattle.saved_bytes.specs.Numbers.{bytes_of}
use Rattle.saved_layout.specs.File.{Bodies, SizedBodies}
use Rattle.saved.specs.Body.{lines_of, machine_bodies_of}
use Rattle.saved_kinds.specs.Words.{rest_of, record_words_of}
use Rattle.saved_salvage.specs.Keep.{processor_reset, kept_bodies_of}
use Rattle.saved_salvage.specs.declared.Kept.{Kept}
use Rattle.saved_laws.specs.Reset.{zero_memory_of, ReplacedAtReset}

-- every body is replaced
abbrev none_kept : Kept
none_kept = record { processor = false; drawing = false; wram = false; vram = false; pak = false; hardware = false }

module _ (rom : List ℕ) (b : Bodies) (s : SizedBodies b) where
  all-replaced : kept_bodies_of none_kept b ≡ machine_bodies_of reset_of.processor (zero_memory_of rom b)
  unfolding kept_bodies_of processor_reset machine_bodies_of record_words_of rest_of lines_of reset_of hardware_in bytes_of
  all-replaced = rw (s.drawing, s.hardware)

pub replaced-at-reset : ReplacedAtReset
unfolding kept_bodies_of
replaced-at-reset rom k b s =
    let none = all-replaced rom b s in
    record {
      processor = record { keeps = λ e. rw e; replaces = λ e. rw e (ap (λ (c : Bodies). c.processor) none) };
      drawing = record { keeps = λ e. rw e; replaces = λ e. rw e (ap (λ (c : Bodies). c.drawing) none) };
      wram = record { keeps = λ e. rw e; replaces = λ e. rw e (ap (λ (c : Bodies). c.wram) none) };
      vram = record { keeps = λ e. rw e; replaces = λ e. rw e (ap (λ (c : Bodies). c.vram) none) };
      pak = record { keeps = λ e. rw e; replaces = λ e. rw e (ap (λ (c : Bodies). c.pak) none) };
      hardware = record { keeps = λ e. rw e; replaces = λ e. rw e (ap (λ (c : Bodies). c.hardware) none) };
    }
