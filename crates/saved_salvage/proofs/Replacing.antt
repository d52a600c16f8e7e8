-- What is put into the buffer: six bodies one behind the other. Assumes nothing.
use Prim.Native.Nat.{ℕ, ◌+◌, ◌≤◌}
use native.Mathlib.Omega.{arith}
use mathlib.Core.Bool.{Bool, true, false}
use mathlib.Core.List.{List, ◌++◌, append_assoc}
use mathlib.Core.Path.{◌≡◌, refl, ap, ◌∙◌}
use lib.ListN.{length, take, drop, length-append, length-replicate}
use lib.Seq.{drop_at, length-take-le}
use Rattle.word.specs.Choose.{pick}
use Rattle.saved_bytes.specs.Numbers.{bytes_of, halves_of}
use Rattle.saved_bytes.specs.inner.Put.{put_at}
use Rattle.saved_bytes.proofs.LittleEndian.{length-bytes, length-halves}
use Rattle.saved_bytes.proofs.Putting.{length-put, put-put, put_last}
use Rattle.processor.specs.Calls.{reset_of}
use Rattle.processor.specs.declared.Machine.{Machine}
use Rattle.saved_kinds.specs.Words.{rest_of, record_words_of}
use Rattle.saved_layout.specs.Layout.{body_place_of, file_length_of}
use Rattle.saved_layout.specs.File.{Bodies, joined_of, file_of, contents_in, SizedBodies}
use Rattle.saved_layout.specs.declared.Form.TheVariants.{Two}
use Rattle.saved_layout.proofs.Files.{sealed, joined_length}
use Rattle.saved_layout.proofs.Written.{put_three, words-put}
use Rattle.saved_salvage.specs.declared.Kept.{Kept}
use Rattle.saved_salvage.specs.Keep.{processor_reset, or_zeros, kept_bodies_of}

-- lengths
reset-words : length (record_words_of reset_of.processor) ≡ 43
unfolding record_words_of rest_of reset_of
reset-words = refl

pub length-reset : length processor_reset ≡ 172
unfolding processor_reset
length-reset =
    let words = record_words_of reset_of.processor in
    omega (arith, length-bytes (halves_of words), length-halves words, reset-words)

reset-general : length reset_of.processor.regs ≡ 32
unfolding reset_of
reset-general = refl

pub machine-general : (m : Machine) → m ≡ reset_of → length m.processor.regs ≡ 32
machine-general m e = rw e reset-general

reset-rest : length (rest_of reset_of.processor) ≡ 11
unfolding rest_of
reset-rest = refl

-- the words of a processor at reset, the general registers and then the rest
pub reset-put : (d e f : List ℕ) (at : ℕ) (m : Machine) (rest : List ℕ) → at + 172 ≤ length d → m ≡ reset_of
    → rest ≡ rest_of m.processor
    → e ≡ put_at d at (bytes_of (halves_of m.processor.regs)) → f ≡ put_at e (at + 128) (bytes_of (halves_of rest))
    → f ≡ put_at d at processor_reset
unfolding processor_reset record_words_of
reset-put d e f at m rest fits reset same first second =
    let regs = reset_of.processor.regs in
    let put : e ≡ put_at d at (bytes_of (halves_of regs)) = rw reset at first in
    let known : rest ≡ rest_of reset_of.processor = rw reset at same in
    let behind : f ≡ put_at e (at + 128) (bytes_of (halves_of (rest_of reset_of.processor))) = rw known at second in
    words-put d regs (rest_of reset_of.processor) e f at (at + 128) (omega (arith, reset-general, reset-rest))
    (omega (arith, reset-general)) put behind

pub length-zeros : (k : Bool) (xs : List ℕ) → length (or_zeros k xs) ≡ length xs
length-zeros true xs = refl
length-zeros false xs = length-replicate {A = ℕ} (length xs) 0

length-first : (k : Bool) (xs : List ℕ) → length xs ≡ 172 → length (pick k xs processor_reset) ≡ 172
length-first true xs e = e
length-first false xs e = length-reset

module _ (k : Kept) (b : Bodies) (s : SizedBodies b) where
  pub kept-sized : SizedBodies (kept_bodies_of k b)
  unfolding kept_bodies_of
  kept-sized =
      record {
        processor = length-first k.processor b.processor s.processor;
        drawing = length-zeros k.drawing b.drawing ∙ s.drawing;
        wram = length-zeros k.wram b.wram ∙ s.wram;
        vram = length-zeros k.vram b.vram ∙ s.vram;
        hardware = length-zeros k.hardware b.hardware ∙ s.hardware;
      }

  pub kept-pak : length (kept_bodies_of k b).pak ≡ length b.pak
  unfolding kept_bodies_of
  kept-pak = length-zeros k.pak b.pak

-- six parts, one behind the other
module _ (d : List ℕ) (at : ℕ) (x1 x2 x3 x4 x5 x6 : List ℕ) where
  pub put_six : (r1 r2 r3 r4 r5 r6 : List ℕ) (m2 m3 m4 m5 m6 : ℕ)
      → at + length x1 + length x2 + length x3 + length x4 + length x5 + length x6 ≤ length d
      → m2 ≡ at + length x1 → m3 ≡ at + length x1 + length x2 → m4 ≡ at + length x1 + length x2 + length x3
      → m5 ≡ m4 + length x4 → m6 ≡ m4 + length x4 + length x5
      → r1 ≡ put_at d at x1 → r2 ≡ put_at r1 m2 x2 → r3 ≡ put_at r2 m3 x3 → r4 ≡ put_at r3 m4 x4 → r5 ≡ put_at r4 m5 x5 → r6 ≡ put_at r5 m6 x6
      → r6 ≡ put_at d at (x1 ++ (x2 ++ (x3 ++ (x4 ++ (x5 ++ x6)))))
  put_six r1 r2 r3 r4 r5 r6 m2 m3 m4 m5 m6 fits h2 h3 h4 h5 h6 e1 e2 e3 e4 e5 e6 =
      let l : length (x1 ++ (x2 ++ x3)) ≡ length x1 + (length x2 + length x3) = simp length-append refl in
      let three : r3 ≡ put_at d at (x1 ++ (x2 ++ x3)) = put_three d x1 x2 x3 r1 r2 r3 at m2 m3 (omega arith) h2 h3 e1 e2 e3 in
      let same : length r3 ≡ length d = ap length three ∙ length-put d at (x1 ++ (x2 ++ x3)) (omega (arith, l)) in
      let six : r6 ≡ put_at r3 m4 (x4 ++ (x5 ++ x6)) = put_three r3 x4 x5 x6 r4 r5 r6 m4 m5 m6 (omega arith) h5 h6 e4 e5 e6 in
      six ∙ (ap (λ (r : List ℕ). put_at r m4 (x4 ++ (x5 ++ x6))) three
      ∙ (put-put d at (x1 ++ (x2 ++ x3)) (omega (arith, l)) (x4 ++ (x5 ++ x6)) m4 (omega (arith, l)) ∙ ap (put_at d at) joined))
    where
      joined : (x1 ++ (x2 ++ x3)) ++ (x4 ++ (x5 ++ x6)) ≡ x1 ++ (x2 ++ (x3 ++ (x4 ++ (x5 ++ x6))))
      joined = simp append_assoc

-- the bodies put are those of the output
module _ (k : Kept) (b : Bodies) (s : SizedBodies b) (p : ℕ) (e : length b.pak ≡ p) (d : List ℕ) (at : ℕ) (fits : at + 327886 + p ≤ length d) where
  output-joined : pick k.processor b.processor processor_reset
      ++ (or_zeros k.drawing b.drawing
      ++ (or_zeros k.wram b.wram ++ (or_zeros k.vram b.vram ++ (or_zeros k.pak b.pak ++ or_zeros k.hardware b.hardware))))
      ≡ joined_of Two (kept_bodies_of k b)
  unfolding joined_of kept_bodies_of
  output-joined = refl

  pub bodies-put : (y1 y2 y3 y4 y5 y6 r1 r2 r3 r4 r5 r6 : List ℕ)
      → y1 ≡ b.processor → y2 ≡ b.drawing → y3 ≡ b.wram → y4 ≡ b.vram → y5 ≡ b.pak → y6 ≡ b.hardware
      → r1 ≡ put_at d at (pick k.processor y1 processor_reset) → r2 ≡ put_at r1 (at + 172) (or_zeros k.drawing y2)
      → r3 ≡ put_at r2 (at + 198) (or_zeros k.wram y3) → r4 ≡ put_at r3 (at + 65734) (or_zeros k.vram y4)
      → r5 ≡ put_at r4 (at + 327878) (or_zeros k.pak y5) → r6 ≡ put_at r5 (at + 327878 + p) (or_zeros k.hardware y6)
      → r6 ≡ put_at d at (joined_of Two (kept_bodies_of k b))
  bodies-put y1 y2 y3 y4 y5 y6 r1 r2 r3 r4 r5 r6 q1 q2 q3 q4 q5 q6 e1 e2 e3 e4 e5 e6 =
      let n1 = length-first k.processor b.processor s.processor in
      let n2 : length (or_zeros k.drawing b.drawing) ≡ 26 = length-zeros k.drawing b.drawing ∙ s.drawing in
      let n3 : length (or_zeros k.wram b.wram) ≡ 65536 = length-zeros k.wram b.wram ∙ s.wram in
      let n4 : length (or_zeros k.vram b.vram) ≡ 262144 = length-zeros k.vram b.vram ∙ s.vram in
      let n5 : length (or_zeros k.pak b.pak) ≡ p = length-zeros k.pak b.pak ∙ e in
      let n6 : length (or_zeros k.hardware b.hardware) ≡ 8 = length-zeros k.hardware b.hardware ∙ s.hardware in
      put_six d at (pick k.processor b.processor processor_reset) (or_zeros k.drawing b.drawing) (or_zeros k.wram b.wram)
      (or_zeros k.vram b.vram) (or_zeros k.pak b.pak) (or_zeros k.hardware b.hardware) r1 r2 r3 r4 r5 r6
      (at + 172) (at + 198) (at + 65734) (at + 327878) (at + 327878 + p)
      (omega arith) (omega arith) (omega arith) (omega arith) (omega arith) (omega arith)
      (e1 ∙ ap (λ (y : List ℕ). put_at d at (pick k.processor y processor_reset)) q1)
      (e2 ∙ ap (λ (y : List ℕ). put_at r1 (at + 172) (or_zeros k.drawing y)) q2)
      (e3 ∙ ap (λ (y : List ℕ). put_at r2 (at + 198) (or_zeros k.wram y)) q3)
      (e4 ∙ ap (λ (y : List ℕ). put_at r3 (at + 65734) (or_zeros k.vram y)) q4)
      (e5 ∙ ap (λ (y : List ℕ). put_at r4 (at + 327878) (or_zeros k.pak y)) q5)
      (e6 ∙ ap (λ (y : List ℕ). put_at r5 (at + 327878 + p) (or_zeros k.hardware y)) q6)
      ∙ ap (put_at d at) output-joined

-- with the contents before them the buffer is the output
module _ (p : ℕ) (b : Bodies) (s : SizedBodies b) (e : length b.pak ≡ p) (d : List ℕ) (whole : length d ≡ file_length_of Two p) where
  pub output-sealed : (f g : List ℕ) → f ≡ put_at d (body_place_of Two p 0) (joined_of Two b) → g ≡ put_at f 0 (bytes_of (contents_in Two p f)) → g ≡ file_of Two b
  output-sealed f g q r =
      let l = joined_length b s Two in
      let w : body_place_of Two p 0 + length (joined_of Two b) ≡ length d = omega (arith, rw e at l) in
      let start : drop (body_place_of Two p 0) f ≡ joined_of Two b
      = ap (drop (body_place_of Two p 0)) (q ∙ put_last d (body_place_of Two p 0) (joined_of Two b) w)
      ∙ drop_at (take (body_place_of Two p 0) d) (joined_of Two b) (body_place_of Two p 0) (length-take-le (body_place_of Two p 0) d (omega arith)) in
      r ∙ rw (← e) (sealed b s f Two (rw (← e) at start))
