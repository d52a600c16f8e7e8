-- `salvaged-valid`, `undamaged-equal`, `salvage-again` and `kept-exactly`. Assumes nothing.
use Rattle.std.specs.Prelude.{Ok}
use Prim.Native.Nat.{ℕ, zero, suc, ◌+◌, ◌^◌, ◌<◌}
use native.Mathlib.Omega.{arith}
use mathlib.Core.Bool.{Bool, true, false}
use mathlib.Core.List.{List, [], ◌∷◌, ◌++◌}
use mathlib.Core.Path.{◌≡◌, refl, sym, ap, ◌∙◌}
use borrow.Author.Tests.{eqb-true, eq-eqb}
use lib.Dec.{eqb, eqb-suc-zero}
use lib.ListN.{length, get_or, take, drop, replicate}
use Rattle.word.specs.Choose.{pick, member}
use Rattle.word.specs.LittleEndian.{word_at}
use Rattle.word.proofs.Choices.{pick-both, pick-self, pick-either}
use Rattle.word.proofs.Listed.{member-append}
use Rattle.refusal.specs.declared.Refusal.TheVariants.{FileLength, NoLayout}
use Rattle.bus.specs.Refusal.{pak_ok}
use Rattle.bus.proofs.Accepted.{unless-passed}
use Rattle.bus.specs.Registers.{drawing_ok}
use Rattle.processor_machine.specs.System.{psw_bits_of}
use Rattle.processor.specs.Acceptance.{both, even_ok, formats_ok, state_ok}
use Rattle.processor.specs.Calls.{reset_of}
use Rattle.saved_kinds.specs.Words.{rest_of, record_words_of}
use Rattle.saved_bytes.specs.Numbers.{bytes_of, halves_of, halves_from, words_from}
use Rattle.saved_bytes.specs.Parts.{body_sum_of}
use Rattle.saved_bytes.proofs.Reading.{word-joined, same_self}
use Rattle.saved_layout.specs.Layout.{contents_of, file_length_of}
use Rattle.saved_layout.specs.File.{Bodies, sums_of, joined_of, file_of, bodies_in, contents_ok, SizedBodies}
use Rattle.saved_layout.specs.declared.Form.TheVariants.{Two}
use Rattle.saved_layout.proofs.Files.{sums-small, file-length, file-held, contents-back, file-again, length-pak-in, sized-in}
use Rattle.saved_kinds.specs.Fits.{fits_ok}
use Rattle.saved_kinds.specs.Kinds.{general_from, rest_from, words_ok, processor_body_ok, drawing_from, drawing_body_ok, hardware_body_ok, bodies_ok, file_ok}
use Rattle.saved_kinds.proofs.Sizes.{pak-small, fits-exactly}
use Rattle.saved_kinds.proofs.Tests.{reset-ok}
use Rattle.saved_salvage.specs.declared.Kept.{Kept}
use Rattle.saved_salvage.specs.Keep.{keeps_of, last_sum_place, kept_from, kept_in, processor_reset, or_zeros, kept_bodies_of}
use Rattle.saved_salvage.specs.Listed.{with_kind, replaced_of, listed_kinds_of}
use Rattle.saved_salvage.specs.Differ.{part_differs, entry_differs, entries_differ, entries_kept, contents_differ}
use Rattle.saved_salvage.specs.Salvage.{output_of, pak_in_form_two, report_of, salvage_verdict_of, salvaged_output_of}
use Rattle.saved_salvage.specs.Valid.{SalvagedValid, Unchanged, UndamagedEqual, SalvageAgain, lists_of, KeptExactlyAll}
use Rattle.saved_salvage.proofs.Replacing.{kept-sized, kept-pak}
use Rattle.saved_salvage.proofs.Salvaging.{by-verdict, verdict-accepted}

-- reset values can be made
processor-reset : processor_body_ok processor_reset ≡ true
unfolding processor_body_ok processor_reset record_words_of rest_of reset_of words_ok general_from rest_from words_from bytes_of halves_of state_ok even_ok formats_ok psw_bits_of
processor-reset = refl

drawing-reset : drawing_body_ok (replicate 26 0) ≡ true
unfolding drawing_body_ok drawing_from halves_from drawing_ok
drawing-reset = refl

-- a body that is kept can be made, and so can reset's
processor-made : (k : Bool) (body : List ℕ) → (k ≡ true → processor_body_ok body ≡ true) → processor_body_ok (pick k body processor_reset) ≡ true
processor-made true body e = e refl
processor-made false body e = processor-reset

drawing-made : (k : Bool) (body : List ℕ) → length body ≡ 26 → (k ≡ true → drawing_body_ok body ≡ true) → drawing_body_ok (or_zeros k body) ≡ true
drawing-made true body l e = e refl
drawing-made false body l e = rw l drawing-reset

hardware-made : (k : Bool) (body : List ℕ) → length body ≡ 8 → (k ≡ true → hardware_body_ok body ≡ true) → hardware_body_ok (or_zeros k body) ≡ true
hardware-made true body l e = e refl
hardware-made false body l e = rw l reset-ok

module _ (pak : ℕ) (file : List ℕ) (b : Bodies) (s : SizedBodies b) where
  kept-processor : (kept_from pak file b).processor ≡ true → processor_body_ok b.processor ≡ true
  unfolding kept_from
  kept-processor e = (pick-both (eqb (word_at file 16) (body_sum_of b.processor)) (processor_body_ok b.processor) e).1

  kept-drawing : (kept_from pak file b).drawing ≡ true → drawing_body_ok b.drawing ≡ true
  unfolding kept_from
  kept-drawing e = (pick-both (eqb (word_at file 30) (body_sum_of b.drawing)) (drawing_body_ok b.drawing) e).1

  kept-hardware : (kept_from pak file b).hardware ≡ true → hardware_body_ok b.hardware ≡ true
  unfolding kept_from
  kept-hardware e = (pick-both (eqb (word_at file (last_sum_place pak)) (body_sum_of b.hardware)) (hardware_body_ok b.hardware) e).1

  output-made : bodies_ok (kept_bodies_of (kept_from pak file b) b) ≡ true
  unfolding bodies_ok kept_bodies_of
  output-made =
      let p = processor-made (kept_from pak file b).processor b.processor kept-processor in
      let d = drawing-made (kept_from pak file b).drawing b.drawing s.drawing kept-drawing in
      let h = hardware-made (kept_from pak file b).hardware b.hardware s.hardware kept-hardware in
      rw (p, d, h)

module _ (file output : List ℕ) (e : salvage_verdict_of file output ≡ (Ok tt)) where
  pub all-passed : (length output ≡ length file) × (fits_ok Two (length file) ≡ true)
  unfolding salvage_verdict_of
  all-passed =
      let a = unless-passed (eqb (length output) (length file)) FileLength _ e in
      let b = unless-passed (fits_ok Two (length file)) NoLayout (Ok tt) a.1 in
      (eqb-true (length output) (length file) a.0, b.0)

  pub fit : (pak_ok (pak_in_form_two file) ≡ true) × (file_length_of Two (pak_in_form_two file) ≡ length file)
  fit = (fits-exactly Two (length file)).fits all-passed.1

  pub whole : length file ≡ file_length_of Two (pak_in_form_two file)
  whole = sym fit.1

  pub left : output_of (pak_in_form_two file) file ≡ salvaged_output_of file output
  left = (by-verdict file output (Ok tt) e).1

  pub sized : SizedBodies (kept_bodies_of (kept_in (pak_in_form_two file) file) (bodies_in Two (pak_in_form_two file) file))
  sized = kept-sized (kept_in (pak_in_form_two file) file) (bodies_in Two (pak_in_form_two file) file) (sized-in (pak_in_form_two file) file Two whole)

  pub size : length (kept_bodies_of (kept_in (pak_in_form_two file) file) (bodies_in Two (pak_in_form_two file) file)).pak ≡ pak_in_form_two file
  size =
      kept-pak (kept_in (pak_in_form_two file) file) (bodies_in Two (pak_in_form_two file) file) (sized-in (pak_in_form_two file) file Two whole)
      ∙ length-pak-in (pak_in_form_two file) file Two whole

  made : bodies_ok (kept_bodies_of (kept_in (pak_in_form_two file) file) (bodies_in Two (pak_in_form_two file) file)) ≡ true
  unfolding kept_in
  made = output-made (pak_in_form_two file) file (bodies_in Two (pak_in_form_two file) file) (sized-in (pak_in_form_two file) file Two whole)

  pub output-is : salvaged_output_of file output ≡ file_of Two (kept_bodies_of (kept_in (pak_in_form_two file) file) (bodies_in Two (pak_in_form_two file) file))
  unfolding output_of
  output-is = sym left

-- a file that was written from bodies that can be made
module _ (b : Bodies) (s : SizedBodies b) (legal : pak_ok (length b.pak) ≡ true) (ok : bodies_ok b ≡ true) where
  written-ok : file_ok Two (length b.pak) (file_of Two b) ≡ true
  unfolding file_ok
  written-ok = rw (contents-back b s Two (pak-small (length b.pak) legal), file-held b s Two tt) ok

pub salvaged-valid : SalvagedValid
salvaged-valid file output e =
    let legal = (fit file output e).0 in
    record {
      whole = ap length (output-is file output e)
          ∙ (file-length _ (sized file output e) Two ∙ (ap (file_length_of Two) (size file output e) ∙ (fit file output e).1));
      valid =
          rw (output-is file output e)
          (rw (size file output e) at (written-ok (kept_bodies_of (kept_in (pak_in_form_two file) file) (bodies_in Two
          (pak_in_form_two file) file)) (sized file output e) (rw (size file output e) legal) (made file output e)));
    }

-- the sums stand in the contents at their places
module _ (s rest : List ℕ) (small : (k : ℕ) → get_or s k 0 < 2 ^ 32) where
  stored-empty : (word_at (bytes_of (contents_of Two 0 s) ++ rest) 16 ≡ get_or s 0 0)
      × ((word_at (bytes_of (contents_of Two 0 s) ++ rest) 30 ≡ get_or s 1 0)
      × ((word_at (bytes_of (contents_of Two 0 s) ++ rest) 44 ≡ get_or s 2 0)
      × ((word_at (bytes_of (contents_of Two 0 s) ++ rest) 58 ≡ get_or s 3 0) × (word_at (bytes_of (contents_of Two 0 s) ++ rest) 72 ≡ get_or s 5 0))))
  unfolding bytes_of contents_of halves_of
  stored-empty = (
    word-joined (get_or s 0 0) (small 0),
    (
      word-joined (get_or s 1 0) (small 1),
      (
        word-joined (get_or s 2 0) (small 2),
        (word-joined (get_or s 3 0) (small 3), word-joined (get_or s 5 0) (small 5)),
      ),
    ),
  )

  stored_some : (p : ℕ) → 0 < p
      → (word_at (bytes_of (contents_of Two p s) ++ rest) 16 ≡ get_or s 0 0)
      × ((word_at (bytes_of (contents_of Two p s) ++ rest) 30 ≡ get_or s 1 0)
      × ((word_at (bytes_of (contents_of Two p s) ++ rest) 44 ≡ get_or s 2 0)
      × ((word_at (bytes_of (contents_of Two p s) ++ rest) 58 ≡ get_or s 3 0)
      × ((word_at (bytes_of (contents_of Two p s) ++ rest) 72 ≡ get_or s 4 0) × (word_at (bytes_of (contents_of Two p s) ++ rest) 86 ≡ get_or s 5 0)))))
  unfolding bytes_of contents_of halves_of
  stored_some zero some = absurd (omega arith)
  stored_some (suc p) some =
      simp (eqb-suc-zero p) (
        word-joined (get_or s 0 0) (small 0),
        (
          word-joined (get_or s 1 0) (small 1),
          (
            word-joined (get_or s 2 0) (small 2),
            (
              word-joined (get_or s 3 0) (small 3),
              (word-joined (get_or s 4 0) (small 4), word-joined (get_or s 5 0) (small 5)),
            ),
          ),
        ),
      )

all_kept : Kept
all_kept = record { processor = true; drawing = true; wram = true; vram = true; pak = true; hardware = true }

keeps-made : (word : ℕ) (body : List ℕ) (made : Bool) → word ≡ body_sum_of body → made ≡ true → keeps_of word body made ≡ true
keeps-made word body made e f = simp (eq-eqb word (body_sum_of body) e) f

kept_same : {a1 a2 b1 b2 c1 c2 d1 d2 e1 e2 f1 f2 : Bool} → a1 ≡ a2 → b1 ≡ b2 → c1 ≡ c2 → d1 ≡ d2 → e1 ≡ e2 → f1 ≡ f2
    → ◌≡◌ {A = Kept} (record { processor = a1; drawing = b1; wram = c1; vram = d1; pak = e1; hardware = f1 })
    (record { processor = a2; drawing = b2; wram = c2; vram = d2; pak = e2; hardware = f2 })
kept_same p q r s t u = rw (p, q, r, s, t, u)

opened : (b : Bodies) → file_of Two b ≡ bytes_of (contents_of Two (length b.pak) (sums_of b)) ++ joined_of Two b
unfolding file_of
opened b = refl

replaced-none : replaced_of all_kept ≡ []
unfolding replaced_of all_kept
replaced-none = refl

parts : (p : ℕ) (file : List ℕ) → file_ok Two p file ≡ true → (contents_ok Two p file ≡ true) × (bodies_ok (bodies_in Two p file) ≡ true)
unfolding file_ok
parts p file e = pick-both (contents_ok Two p file) (bodies_ok (bodies_in Two p file)) e

-- a part is the same as itself
part-self : (at size : ℕ) (xs : List ℕ) → part_differs at size xs xs ≡ false
unfolding part_differs
part-self at size xs = rw (same_self (take size (drop at xs)))

entry-self : (at : ℕ) (kept : Bool) (xs : List ℕ) → entry_differs at kept xs xs ≡ false
unfolding entry_differs
entry-self at true xs = part-self at 14 xs
entry-self at false xs = part-self at 10 xs

entries-self : (flags : List Bool) (at : ℕ) (xs : List ℕ) → entries_differ at flags xs xs ≡ false
entries-self [] at xs = refl
entries-self (kept ∷ flags) at xs = rw (entry-self at kept xs) (entries-self flags (at + 14) xs)

contents-self : (p : ℕ) (k : Kept) (xs : List ℕ) → contents_differ p k xs xs ≡ false
unfolding contents_differ
contents-self p k xs = rw (part-self 0 6 xs) (entries-self (entries_kept p k) 6 xs)

-- a file that was written from bodies that can be made comes out equal
module _ (b : Bodies) (s : SizedBodies b) (legal : pak_ok (length b.pak) ≡ true) (ok : bodies_ok b ≡ true) where
  oks : ((processor_body_ok b.processor ≡ true) × (drawing_body_ok b.drawing ≡ true)) × (hardware_body_ok b.hardware ≡ true)
  unfolding bodies_ok
  oks =
      let a = pick-both (both (processor_body_ok b.processor) (drawing_body_ok b.drawing)) (hardware_body_ok b.hardware) ok in
      (pick-both (processor_body_ok b.processor) (drawing_body_ok b.drawing) a.0, a.1)

  kept-front : (p : ℕ) → kept_from p (bytes_of (contents_of Two p (sums_of b)) ++ joined_of Two b) b ≡ all_kept
  unfolding kept_from sums_of all_kept
  kept-front zero =
      let t = stored-empty (sums_of b) (joined_of Two b) (sums-small b) in
      kept_same (keeps-made (word_at (bytes_of (contents_of Two 0 (sums_of b)) ++ joined_of Two b) 16) b.processor _ t.0 oks.0.0)
      (keeps-made (word_at (bytes_of (contents_of Two 0 (sums_of b)) ++ joined_of Two b) 30) b.drawing _ t.1.0 oks.0.1)
      (keeps-made (word_at (bytes_of (contents_of Two 0 (sums_of b)) ++ joined_of Two b) 44) b.wram true t.1.1.0 refl)
      (keeps-made (word_at (bytes_of (contents_of Two 0 (sums_of b)) ++ joined_of Two b) 58) b.vram true t.1.1.1.0 refl)
      refl
      (keeps-made (word_at (bytes_of (contents_of Two 0 (sums_of b)) ++ joined_of Two b) 72) b.hardware _ t.1.1.1.1 oks.1)
  kept-front (suc p) =
      let t = stored_some (sums_of b) (joined_of Two b) (sums-small b) (suc p) (omega arith) in
      kept_same (keeps-made (word_at (bytes_of (contents_of Two (suc p) (sums_of b)) ++ joined_of Two b) 16) b.processor _ t.0 oks.0.0)
      (keeps-made (word_at (bytes_of (contents_of Two (suc p) (sums_of b)) ++ joined_of Two b) 30) b.drawing _ t.1.0 oks.0.1)
      (keeps-made (word_at (bytes_of (contents_of Two (suc p) (sums_of b)) ++ joined_of Two b) 44) b.wram true t.1.1.0 refl)
      (keeps-made (word_at (bytes_of (contents_of Two (suc p) (sums_of b)) ++ joined_of Two b) 58) b.vram true t.1.1.1.0 refl)
      (simp (eqb-suc-zero p) (keeps-made (word_at (bytes_of (contents_of Two (suc p) (sums_of b)) ++ joined_of Two b) 72) b.pak true t.1.1.1.1.0 refl))
      (simp (eqb-suc-zero p) (keeps-made (word_at (bytes_of (contents_of Two (suc p) (sums_of b)) ++ joined_of Two b) 86)
      b.hardware _ t.1.1.1.1.1 oks.1))

  kept-all : kept_in (length b.pak) (file_of Two b) ≡ all_kept
  unfolding kept_in
  kept-all = rw (file-held b s Two tt) (ap (λ (xs : List ℕ). kept_from (length b.pak) xs b) (opened b) ∙ kept-front (length b.pak))

  output-same : output_of (length b.pak) (file_of Two b) ≡ file_of Two b
  unfolding output_of kept_bodies_of all_kept
  output-same = rw (kept-all, file-held b s Two tt)

  pak-again : (fits_ok Two (length (file_of Two b)) ≡ true) × (pak_in_form_two (file_of Two b) ≡ length b.pak)
  pak-again = (fits-exactly Two (length (file_of Two b))).only (length b.pak) legal (sym (file-length b s Two))

  pub unchanged : (output : List ℕ) → length output ≡ length (file_of Two b) → Unchanged (file_of Two b) output
  unchanged output l =
      let v = by-verdict (file_of Two b) output (Ok tt) (verdict-accepted (file_of Two b) output l pak-again.0) in
      record {
        same = sym v.1 ∙ rw pak-again.1 output-same;
        reported = sym v.0 ∙ rw (pak-again.1, kept-all, output-same, contents-self (length b.pak) all_kept (file_of Two b)) none;
      }
    where
      none : report_of (Ok tt) (listed_kinds_of (replaced_of all_kept)) false ≡ report_of (Ok tt) (listed_kinds_of []) false
      none = ap (λ (xs : List ℕ). report_of (Ok tt) (listed_kinds_of xs) false) replaced-none

pub undamaged-equal : UndamagedEqual
undamaged-equal file output bytes e ok =
    let w = whole file output e in
    let t = parts (pak_in_form_two file) file ok in
    let f : file_of Two (bodies_in Two (pak_in_form_two file) file) ≡ file = file-again (pak_in_form_two file) file Two w bytes t.0 in
    let l = length-pak-in (pak_in_form_two file) file Two w in
    rw f at (unchanged (bodies_in Two (pak_in_form_two file) file) (sized-in (pak_in_form_two file) file Two w) (rw l
    (fit file output e).0) t.1 output (rw f (all-passed file output e).0))

pub salvage-again : SalvageAgain
salvage-again file output again e l =
    rw (output-is file output e)
    (unchanged (kept_bodies_of (kept_in (pak_in_form_two file) file) (bodies_in Two (pak_in_form_two file) file))
    (sized file output e) (rw (size file output e) (fit file output e).0) (made file output e) again
    (l ∙ (sym (salvaged-valid file output e).whole ∙ ap length (output-is file output e))))

-- which kinds are listed
with-member : (n : ℕ) (xs : List ℕ) (kind : ℕ) (kept : Bool)
    → member n (with_kind xs kind kept) ≡ pick (member n xs) true (pick kept false (eqb n kind))
with-member n xs kind true = sym (pick-self (member n xs))
with-member n xs kind false = member-append n xs (kind ∷ []) ∙ ap (pick (member n xs) true) (pick-self (eqb n kind))

module _ (k : Kept) where
  lists-1 : lists_of k 1 k.processor
  unfolding replaced_of
  lists-1 = simp (with-member, pick-either, pick-self)

  lists-2 : lists_of k 2 k.drawing
  unfolding replaced_of
  lists-2 = simp (with-member, pick-either, pick-self) (rw (pick-either k.processor false))

  lists-3 : lists_of k 3 k.wram
  unfolding replaced_of
  lists-3 = simp (with-member, pick-either, pick-self) (rw (pick-either k.processor false))

  lists-4 : lists_of k 4 k.vram
  unfolding replaced_of
  lists-4 = simp (with-member, pick-either, pick-self) (rw (pick-either k.processor false))

  lists-5 : lists_of k 5 k.pak
  unfolding replaced_of
  lists-5 = simp (with-member, pick-either, pick-self) (rw (pick-either k.processor false))

  lists-6 : lists_of k 6 k.hardware
  unfolding replaced_of
  lists-6 = simp (with-member, pick-either, pick-self) (rw (pick-either k.processor false))

pub kept-exactly : KeptExactlyAll
kept-exactly file output e =
    let k = kept_in (pak_in_form_two file) file in
    record {
      bodies =
          rw (output-is file output e)
          (rw (size file output e) at (file-held (kept_bodies_of (kept_in (pak_in_form_two file) file) (bodies_in Two
          (pak_in_form_two file) file)) (sized file output e) Two tt));
      processor = lists-1 (kept_in (pak_in_form_two file) file);
      drawing = lists-2 (kept_in (pak_in_form_two file) file);
      wram = lists-3 (kept_in (pak_in_form_two file) file);
      vram = lists-4 (kept_in (pak_in_form_two file) file);
      pak = lists-5 (kept_in (pak_in_form_two file) file);
      hardware = lists-6 (kept_in (pak_in_form_two file) file);
    }
