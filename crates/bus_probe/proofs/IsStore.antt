-- `probe-is-store`: an accepted write is the bus's store of that size. Assumes nothing.
use Prim.Native.Nat.{ℕ, ◌+◌, ◌%◌, ◌<◌}
use mathlib.Core.Bool.{true}
use mathlib.Core.Logic.{⊎_elim}
use mathlib.Core.Path.{◌≡◌, sym, ap, ◌∙◌}
use native.Mathlib.Omega.{arith}
use lib.ListN.{length}
use Rattle.word.specs.LittleEndian.{put_bytes}
use Rattle.word.specs.Width.{bytes_of}
use Rattle.bus.specs.Place.{vram_at, place_of, vram_index_of}
use Rattle.bus.specs.Memory.{Memory, with_vram, aligned_of, size_ok, store_of}
use Rattle.bus.proofs.Sizes.{in_word, width_ok}
use Rattle.bus.proofs.Spans.{vram-stored}
use Rattle.bus.proofs.VramIndex.{index-place, follows}
use Rattle.bus_probe.specs.Probe.{in_ranges_of, target_of, probe_verdict_of, probed_of}
use Rattle.bus_probe.specs.Kept.{ProbeIsStore}
use Rattle.bus_probe.proofs.Ranges.{in-ranges}
use Rattle.bus_probe.proofs.Verdicts.{allowed}

-- the word at a target in the ranges fits into VRAM
fits : (i : ℕ) → in_ranges_of i ≡ true → i + 3 < 0x40000
fits i e = ⊎_elim (λ c. omega arith) (λ c. omega arith) (in-ranges i e)

-- the addresses of a word lead to bytes of VRAM that follow each other
place_at : (rom pak s j : ℕ) → s % 4 + j < 4 → in_ranges_of (vram_index_of (place_of rom pak s)) ≡ true
    → place_of rom pak (s + j) ≡ vram_at (vram_index_of (place_of rom pak s) + j)
place_at rom pak s j h e =
    let room : vram_index_of (place_of rom pak s) + 3 < 0x40000 = fits _ e in
    let f = (follows rom pak s j h (omega arith)).next in
    index-place (place_of rom pak (s + j)) (rw f (omega arith)) ∙ ap vram_at f

module _ (m : Memory) (a v : ℕ) where
  target : ℕ → ℕ
  target size = target_of (length m.rom) (length m.pak) size a

  stored : (size : ℕ) → size_ok size ≡ true → in_ranges_of (target size) ≡ true
      → store_of m size a v ≡ with_vram m (put_bytes size m.vram (target size) v)
  unfolding target target_of
  stored size ok e =
      let near = in_word size a ok in
      vram-stored m size a (target size) v
      (λ j h. place_at (length m.rom) (length m.pak) (aligned_of size a) j (omega (arith, near)) e)

pub probe-is-store : ProbeIsStore
unfolding probed_of probe_verdict_of target
probe-is-store m width a v e =
    stored m a v (bytes_of width) (width_ok width) (allowed _ _ _ _ _ e).target_ok ∙ ap (with_vram m) (sym (rw e))
