-- `probe-kept` and `probe-length`: no list of writes changes a byte outside the ranges, or VRAM's length. Assumes nothing.
use Rattle.std.specs.Prelude.{Ok, Err}
use Prim.Native.Nat.{ℕ, ◌+◌, ◌-◌, ◌/◌, ◌%◌, ◌<◌, ◌≤◌}
use mathlib.Core.Bool.{true, false, true≢false}
use mathlib.Core.List.{List, [], ◌∷◌}
use mathlib.Core.Logic.{⊎_elim}
use mathlib.Core.Path.{◌≡◌, refl, sym, ◌∙◌}
use native.Mathlib.Omega.{arith}
use lib.ListN.{length, get_or}
use Rattle.word.specs.LittleEndian.{put_bytes}
use Rattle.word.specs.Width.{bytes_of}
use Rattle.word.specs.declared.width.Width.{Width}
use Rattle.word.specs.declared.width.Width.TheVariants.{Byte, Half, Word}
use Rattle.bus_probe.specs.Probe.{in_ranges_of, target_of, probe_verdict_of, probed_of}
use Rattle.refusal.specs.Number.{when_accepted, Verdict}
use Rattle.bus_probe.specs.Kept.{Write, probe_written_of, all_written_of, ProbeKept, ProbeLength}
use Rattle.bus_probe.proofs.Ranges.{in-ranges, same_word}
use Rattle.bus.proofs.VramIndex.{follows}
use Rattle.bus_probe.proofs.Verdicts.{allowed}
use Rattle.word.proofs.Bytes.{put-length, put_other}

-- what storing keeps of VRAM where the write is accepted, a call keeps, refused or not
kept-when : {A : Type 0} (f : List ℕ → A) (v : Verdict) (before after : List ℕ) → (v ≡ (Ok tt) → f after ≡ f before)
    → f (when_accepted v before after) ≡ f before
kept-when f (Ok tt) before after e = e refl
kept-when f (Err n) before after e = refl

-- a target in the ranges stands in its word where the aligned address does
target-word : (rom pak size a : ℕ) → in_ranges_of (target_of rom pak size a) ≡ true
    → target_of rom pak size a % 4 ≡ (a - a % size) % 4
unfolding target_of
target-word rom pak size a e =
    (follows rom pak (a - a % size) 0 (omega arith)
    (⊎_elim (λ c. omega arith) (λ c. omega arith) (in-ranges _ e))).in_word

-- so the bytes of a write stand in one word
one_word : (width : Width) (a t b : ℕ) → t % 4 ≡ (a - a % bytes_of width) % 4 → t ≤ b → b < t + bytes_of width → b / 4 ≡ t / 4
one_word Byte a t b e l h = omega arith
one_word Half a t b e l h = omega arith
one_word Word a t b e l h = omega arith

-- a call's target, its verdict, and VRAM with its bytes put there
module _ (vram : List ℕ) (w : Write) where
  target : ℕ
  target = target_of (length w.rom) (length w.pak) (bytes_of w.width) w.address

  verdict : Verdict
  verdict = probe_verdict_of (bytes_of w.width) w.rom w.wram vram w.pak w.address

  stored : List ℕ
  stored = put_bytes (bytes_of w.width) vram target w.value

  stored-kept : (a : ℕ) → in_ranges_of a ≡ false → verdict ≡ (Ok tt) → get_or stored a 0 ≡ get_or vram a 0
  unfolding target verdict stored probe_verdict_of
  stored-kept a out e =
      let ok = (allowed _ _ _ _ _ e).target_ok in
      put_other (bytes_of w.width) vram target w.value a
      (λ l h.
      true≢false
      (sym (same_word target a (one_word w.width w.address target a (target-word _ _ _ _ ok) l h) ok) ∙ out))

  written-kept : (a : ℕ) → in_ranges_of a ≡ false → get_or (probe_written_of vram w) a 0 ≡ get_or vram a 0
  unfolding probed_of target verdict stored
  written-kept a out = kept-when (λ xs. get_or xs a 0) verdict vram stored (stored-kept a out)

  written-length : length (probe_written_of vram w) ≡ length vram
  unfolding probed_of target verdict stored
  written-length =
      kept-when length verdict vram stored (λ _. put-length (bytes_of w.width) vram target w.value)

pub probe-kept : ProbeKept
unfolding all_written_of
probe-kept vram [] a out = refl
probe-kept vram (w ∷ rest) a out = probe-kept (probe_written_of vram w) rest a out ∙ written-kept vram w a out

pub probe-length : ProbeLength
unfolding all_written_of
probe-length vram [] = refl
probe-length vram (w ∷ rest) = probe-length (probe_written_of vram w) rest ∙ written-length vram w
