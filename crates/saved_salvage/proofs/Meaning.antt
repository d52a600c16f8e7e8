-- `contents-differ-means`. Assumes nothing.
use Rattle.std.specs.Prelude.{Ok}
use Prim.Native.Nat.{ℕ, zero, suc, ◌+◌, ◌*◌, ◌/◌, ◌%◌, ◌^◌, ◌<◌, ◌≤◌}
use native.Mathlib.Omega.{arith}
use native.Mathlib.Decide.{ℕ_discrete}
use mathlib.Core.Bool.{Bool, true, false}
use mathlib.Core.List.{List, [], ◌∷◌, ◌++◌, append_assoc}
use mathlib.Core.Path.{◌≡◌, refl, sym, ap, subst, ◌∙◌}
use borrow.Author.Tests.{eqb-true, eq-eqb, ne_eqb}
use lib.Dec.{eqb, eqb-suc-zero}
use lib.ListN.{length, get_or, take, drop, replicate, length-append}
use lib.Seq.{take_at, drop_at, drop-drop, drop-cons}
use Rattle.word.specs.Choose.{pick}
use Rattle.word.specs.LittleEndian.{half_at, word_at}
use Rattle.word.proofs.Choices.{pick-both}
use Rattle.processor.specs.Acceptance.{both}
use Rattle.saved_bytes.specs.Numbers.{bytes_of, halves_of, halves_from, same_of}
use Rattle.saved_bytes.specs.Parts.{body_sum_of}
use Rattle.saved_bytes.proofs.LittleEndian.{length-bytes, length-halves-from}
use Rattle.saved_bytes.proofs.Reading.{Under, same_self}
use Rattle.saved_layout.specs.Layout.{Part, parts_of, sum_at, entries_from, contents_end_of, contents_of, file_length_of, body_place_of}
use Rattle.saved_layout.specs.File.{Bodies, sums_of, joined_of, file_of, bodies_in}
use Rattle.saved_layout.specs.declared.Form.TheVariants.{Two}
use Rattle.saved_layout.proofs.Positions.{length-is}
use Rattle.saved_layout.proofs.Files.{contents-under, sums-small}
use Rattle.saved_kinds.specs.Kinds.{processor_body_ok, drawing_body_ok, hardware_body_ok}
use Rattle.saved_kinds.proofs.Sizes.{pak-small}
use Rattle.saved_salvage.specs.declared.Kept.{Kept}
use Rattle.saved_salvage.specs.declared.Salvaged.{Salvaged}
use Rattle.saved_salvage.specs.Keep.{keeps_of, kept_from, kept_in, processor_reset, kept_bodies_of}
use Rattle.saved_salvage.specs.Differ.{either, part_differs, entry_differs, entries_differ, entries_kept, contents_differ}
use Rattle.saved_salvage.specs.Salvage.{output_of, pak_in_form_two, salvage_verdict_of}
use Rattle.saved_salvage.specs.Means.{entry_valid, entries_valid, contents_valid, ContentsDifferMeans}
use Rattle.saved_salvage.proofs.Salvaging.{by-verdict}
use Rattle.saved_salvage.proofs.Unharmed.{fit, whole, size}

split-half : (a b : ℕ) → a < 256 → b < 256 → ((a + 256 * b) % 256 ≡ a) × ((a + 256 * b) / 256 % 256 ≡ b)
split-half a b la lb = (omega arith, omega arith)

-- two bytes of a file are those of a halfword exactly where the halfword that they make is
half-same : (a b h : ℕ) (t : Bool) → a < 256 → b < 256 → h < 65536
    → pick (eqb a (h % 256)) (pick (eqb b (h / 256 % 256)) t false) false ≡ pick (eqb (a + 256 * b) h) t false
half-same a b h t la lb lh =
    elim (ℕ_discrete a (h % 256)) [
      | yes p ↦
          elim (ℕ_discrete b (h / 256 % 256)) [
            | yes q ↦
                let e : a + 256 * b ≡ h = omega arith in
                simp (eq-eqb a (h % 256) p, eq-eqb b (h / 256 % 256) q, eq-eqb (a + 256 * b) h e)
            | no q ↦
                let n : a + 256 * b ≡ h → ⊥ = λ e. q (sym (split-half a b la lb).1 ∙ ap (λ (x : ℕ). x / 256 % 256) e) in
                simp (eq-eqb a (h % 256) p, ne_eqb b (h / 256 % 256) q, ne_eqb (a + 256 * b) h n)
          ]
      | no p ↦
          let n : a + 256 * b ≡ h → ⊥ = λ e. p (sym (split-half a b la lb).0 ∙ ap (λ (x : ℕ). x % 256) e) in
          simp (ne_eqb a (h % 256) p, ne_eqb (a + 256 * b) h n)
    ]

opened : (file : List ℕ) (k : ℕ) → k + 2 ≤ length file → drop k file ≡ get_or file k 0 ∷ get_or file (k + 1) 0 ∷ drop (k + 2) file
opened file k l =
    let a : k + 1 ≡ suc k = omega arith in
    let b : k + 2 ≡ suc (suc k) = omega arith in
    drop-cons file k 0 (omega arith) ∙ (ap (λ (xs : List ℕ). get_or file k 0 ∷ xs) (drop-cons file (suc k) 0 (omega arith)) ∙ rw (a, b) refl)

module _ (file : List ℕ) (bytes : (k : ℕ) → get_or file k 0 < 256) where
  pub bytes_same : (hs : List ℕ) (at : ℕ) → Under 65536 hs → at + 2 * length hs ≤ length file
      → same_of (take (2 * length hs) (drop at file)) (bytes_of hs) ≡ same_of (halves_from file at (length hs)) hs
  unfolding bytes_of halves_from
  bytes_same [] at u fits = refl
  bytes_same (h ∷ hs) at u fits =
      let n : 2 * suc (length hs) ≡ suc (suc (2 * length hs)) = omega arith in
      let d : drop at file ≡ get_or file at 0 ∷ get_or file (at + 1) 0 ∷ drop (at + 2) file = opened file at (omega arith) in
      rw (n, d, bytes_same hs (at + 2) u.1 (omega arith))
      (half-same (get_or file at 0) (get_or file (at + 1) 0) h (same_of (halves_from file (at + 2) (length hs)) hs) (bytes at) (bytes (at + 1)) u.0)

-- lists that are the same behind are the same where they are before
same-append : (xs ys zs : List ℕ) → length xs ≡ length ys → same_of (xs ++ zs) (ys ++ zs) ≡ same_of xs ys
same-append [] [] zs l = same_self zs
same-append [] (y ∷ ys) zs l = absurd (omega arith)
same-append (x ∷ xs) [] zs l = absurd (omega arith)
same-append (x ∷ xs) (y ∷ ys) zs l = ap (λ (t : Bool). pick (eqb x y) t false) (same-append xs ys zs (omega arith))

halves-more : (file : List ℕ) (at m n : ℕ) → halves_from file at (m + n) ≡ halves_from file at m ++ halves_from file (at + 2 * m) n
unfolding halves_from
halves-more file at zero n =
    let e : 0 + n ≡ n = omega arith in
    let f : at + 2 * 0 ≡ at = omega arith in
    rw (e, f)
halves-more file at (suc m) n =
    let e : suc m + n ≡ suc (m + n) = omega arith in
    let f : at + 2 * suc m ≡ at + 2 + 2 * m = omega arith in
    rw (e, f) (ap (λ (ys : List ℕ). half_at file at ∷ ys) (halves-more file (at + 2) m n))

-- the five halfwords of an entry before its sum, and the two of its sum
abbrev five_of : ℕ → Part → List ℕ
five_of place part = part.kind ∷ halves_of (place ∷ part.size ∷ [])

abbrev two_of : ℕ → List ℕ
two_of sum = sum % 65536 ∷ sum / 65536 ∷ []

under_first : (n : ℕ) (a b : List ℕ) → Under n (a ++ b) → Under n a
under_first n [] b u = tt
under_first n (x ∷ xs) b u = (u.0, under_first n xs b u.1)

under_rest : (n : ℕ) (a b : List ℕ) → Under n (a ++ b) → Under n b
under_rest n [] b u = u
under_rest n (x ∷ xs) b u = under_rest n xs b u.1

bytes-join : (a b : List ℕ) → bytes_of (a ++ b) ≡ bytes_of a ++ bytes_of b
unfolding bytes_of
bytes-join [] b = refl
bytes-join (h ∷ hs) b = rw (bytes-join hs b)

not-either : (a b : Bool) → either (pick a false true) (pick b false true) ≡ pick (both a b) false true
not-either true b = refl
not-either false b = refl

entry-split : (place : ℕ) (part : Part) (sum : ℕ) (more : List ℕ)
    → (part.kind ∷ halves_of (place ∷ part.size ∷ sum ∷ [])) ++ more ≡ (five_of place part ++ two_of sum) ++ more
unfolding halves_of
entry-split place part sum more = refl

five-length : (place : ℕ) (part : Part) → length (five_of place part) ≡ 5
unfolding halves_of
five-length place part = refl

-- where a body is kept its sum is the stored one
abbrev Matches : List ℕ → List ℕ → ℕ → List Part → List Bool → Type 0
Matches file sums at [] [] = Unit
Matches file sums at [] (k ∷ ks) = ⊥
Matches file sums at (p ∷ ps) [] = ⊥
Matches file sums at (p ∷ ps) (k ∷ ks) = (k ≡ true → word_at file (at + 10) ≡ sum_at sums p.kind) × Matches file sums (at + 14) ps ks

module _ (file output : List ℕ) (bytes : (k : ℕ) → get_or file k 0 < 256) where
  -- one entry
  module _ (at place : ℕ) (part : Part) (sum : ℕ) (rest : List ℕ) (there : drop at output ≡ bytes_of (five_of place part ++ two_of sum) ++ rest)
      (u : Under 65536 (five_of place part ++ two_of sum)) (fits : at + 14 ≤ length file) where
    five : take 10 (drop at output) ≡ bytes_of (five_of place part)
    five =
        ap (take 10) (there ∙ (ap (λ (xs : List ℕ). xs ++ rest) (bytes-join (five_of place part) (two_of sum))
        ∙ append_assoc (bytes_of (five_of place part)) (bytes_of (two_of sum)) rest))
        ∙ take_at (bytes_of (five_of place part)) (bytes_of (two_of sum) ++ rest) 10 (omega (arith, length-bytes (five_of place part), five-length place part))

    seven-length : length (five_of place part ++ two_of sum) ≡ 7
    seven-length = length-append (five_of place part) (two_of sum) ∙ ap (λ (n : ℕ). n + 2) (five-length place part)

    seven : take 14 (drop at output) ≡ bytes_of (five_of place part ++ two_of sum)
    seven =
        ap (take 14) there
        ∙ take_at (bytes_of (five_of place part ++ two_of sum)) rest 14 (omega (arith, length-bytes (five_of place part ++ two_of sum), seven-length))

    sum-halves : word_at file (at + 10) ≡ sum → halves_from file (at + 10) 2 ≡ two_of sum
    unfolding halves_from
    sum-halves e =
        let a : half_at file (at + 10) ≡ sum % 65536 = omega (arith, bytes (at + 10), bytes (at + 10 + 1)) in
        let b : half_at file (at + 10 + 2) ≡ sum / 65536 = omega (arith, bytes (at + 10), bytes (at + 10 + 1)) in
        rw (a, b)

    same-ten : same_of (take 10 (drop at file)) (bytes_of (five_of place part)) ≡ entry_valid at place part file
    same-ten =
        rw (five-length place part)
        at (bytes_same file bytes (five_of place part) at (under_first 65536 (five_of place part) (two_of sum) u) (omega (arith, five-length place part)))

    same-fourteen : word_at file (at + 10) ≡ sum → same_of (take 14 (drop at file)) (bytes_of (five_of place part ++ two_of sum)) ≡ entry_valid at place part file
    same-fourteen e =
        let whole = rw seven-length at (bytes_same file bytes (five_of place part ++ two_of sum) at u (omega (arith, seven-length))) in
        let split : halves_from file at 7 ≡ halves_from file at 5 ++ two_of sum
        = halves-more file at 5 2 ∙ ap (λ (xs : List ℕ). halves_from file at 5 ++ xs) (sum-halves e) in
        whole
        ∙ (ap (λ (xs : List ℕ). same_of xs (five_of place part ++ two_of sum)) split
        ∙ same-append (halves_from file at 5) (five_of place part) (two_of sum) (length-halves-from file at 5 ∙ sym (five-length place part)))

    replaced : entry_differs at false file output ≡ pick (entry_valid at place part file) false true
    unfolding entry_differs part_differs
    replaced = ap (λ (t : Bool). pick t false true) (ap (same_of (take 10 (drop at file))) five ∙ same-ten)

    kept-one : word_at file (at + 10) ≡ sum → entry_differs at true file output ≡ pick (entry_valid at place part file) false true
    unfolding entry_differs part_differs
    kept-one e = ap (λ (t : Bool). pick t false true) (ap (same_of (take 14 (drop at file))) seven ∙ same-fourteen e)

    pub entry-means : (kept : Bool) → (kept ≡ true → word_at file
        (at + 10) ≡ sum) → entry_differs at kept file output ≡ pick (entry_valid at place part file) false true
    entry-means true e = kept-one (e refl)
    entry-means false e = replaced

    pub next-entry : drop (at + 14) output ≡ rest
    next-entry =
        sym (drop-drop 14 at output)
        ∙ (ap (drop 14) there ∙ drop_at (bytes_of (five_of place part ++ two_of sum)) rest 14 (omega (
          arith,
          length-bytes
              (five_of place part ++ two_of sum),
          seven-length,
        )))

  -- all entries
  entries-mean : (sums : List ℕ) (parts : List Part) (flags : List Bool) (at place : ℕ) (rest : List ℕ) → Matches file sums at parts flags
      → drop at output ≡ bytes_of (entries_from Two place parts sums) ++ rest → Under 65536 (entries_from Two place parts sums)
      → at + 14 * length parts ≤ length file
      → entries_differ at flags file output ≡ pick (entries_valid at place parts file) false true
  entries-mean sums [] [] at place rest m there u fits = refl
  entries-mean sums [] (k ∷ ks) at place rest m there u fits = absurd m
  entries-mean sums (p ∷ ps) [] at place rest m there u fits = absurd m
  entries-mean sums (p ∷ ps) (k ∷ ks) at place rest m there u fits =
      let one = five_of place p ++ two_of (sum_at sums p.kind) in
      let more = entries_from Two (place + p.size) ps sums in
      let here : drop at output ≡ bytes_of (five_of place p ++ two_of (sum_at sums p.kind)) ++ (bytes_of (entries_from Two (place + p.size) ps sums) ++ rest)
      = there ∙ (ap (λ (xs : List ℕ). bytes_of xs ++ rest) (entry-split place p (sum_at sums p.kind) (entries_from Two (place + p.size) ps sums))
      ∙ (ap (λ (xs : List ℕ). xs ++ rest) (bytes-join (five_of place p ++ two_of (sum_at sums p.kind)) (entries_from Two (place + p.size) ps sums))
      ∙ append_assoc (bytes_of (five_of place p ++ two_of (sum_at sums p.kind))) (bytes_of (entries_from Two (place + p.size) ps sums)) rest)) in
      let v : Under 65536 ((five_of place p ++ two_of (sum_at sums p.kind)) ++ entries_from Two (place + p.size) ps sums)
      = subst (Under 65536) (entry-split place p (sum_at sums p.kind) (entries_from Two (place + p.size) ps sums)) u in
      let v1 = under_first 65536 (five_of place p ++ two_of (sum_at sums p.kind)) (entries_from Two (place + p.size) ps sums) v in
      let v2 = under_rest 65536 (five_of place p ++ two_of (sum_at sums p.kind)) (entries_from Two (place + p.size) ps sums) v in
      let e1 = entry-means at place p (sum_at sums p.kind) (bytes_of (entries_from Two (place + p.size) ps sums) ++ rest) here v1 (omega arith) k m.0 in
      let n1 = next-entry at place p (sum_at sums p.kind) (bytes_of (entries_from Two (place + p.size) ps sums) ++ rest) here v1 (omega arith) in
      let e2 = entries-mean sums ps ks (at + 14) (place + p.size) rest m.1 n1 v2 (omega arith) in
      rw (e1, e2) (not-either (entry_valid at place p file) (entries_valid (at + 14) (place + p.size) ps file))

-- the output's sums where a body is kept
module _ (pak : ℕ) (file : List ℕ) (b : Bodies) where
  sum_kept : (word : ℕ) (body other : List ℕ) (made kept : Bool) → kept ≡ keeps_of word body made → kept ≡ true → word ≡ body_sum_of (pick kept body other)
  sum_kept word body other made kept e t = rw t (eqb-true word (body_sum_of body) (pick-both (eqb word (body_sum_of body)) made (sym e ∙ t)).0)

matches : (p : ℕ) (file : List ℕ) (b : Bodies)
    → Matches file (sums_of (kept_bodies_of (kept_from p file b) b)) 6 (parts_of Two p) (entries_kept p (kept_from p file b))
unfolding kept_from kept_bodies_of sums_of
matches zero file b = (
  sum_kept 0 file b (word_at file 16) b.processor processor_reset (processor_body_ok b.processor) _ refl,
  (
    sum_kept 0 file b (word_at file 30) b.drawing (replicate (length b.drawing) 0) (drawing_body_ok b.drawing) _ refl,
    (
      sum_kept 0 file b (word_at file 44) b.wram (replicate (length b.wram) 0) true _ refl,
      (
        sum_kept 0 file b (word_at file 58) b.vram (replicate (length b.vram) 0) true _ refl,
        (sum_kept 0 file b (word_at file 72) b.hardware (replicate (length b.hardware) 0) (hardware_body_ok b.hardware) _ refl, tt),
      ),
    ),
  ),
)
matches (suc p) file b = simp (eqb-suc-zero p) (
  sum_kept (suc p) file b (word_at file 16) b.processor processor_reset (processor_body_ok b.processor) _ refl,
  (
    sum_kept (suc p) file b (word_at file 30) b.drawing (replicate (length b.drawing) 0) (drawing_body_ok b.drawing) _ refl,
    (
      sum_kept (suc p) file b (word_at file 44) b.wram (replicate (length b.wram) 0) true _ refl,
      (
        sum_kept (suc p) file b (word_at file 58) b.vram (replicate (length b.vram) 0) true _ refl,
        (
          sum_kept (suc p) file b (word_at file 72) b.pak (replicate (length b.pak) 0) true _ refl,
          (sum_kept (suc p) file b (word_at file 86) b.hardware (replicate (length b.hardware) 0) (hardware_body_ok b.hardware) _ refl, tt),
        ),
      ),
    ),
  ),
)

-- the whole of the contents
three : ℕ → List ℕ
three p = 0 ∷ 2 ∷ length (parts_of Two p) ∷ []

entries : ℕ → List ℕ → List ℕ
entries p sums = entries_from Two (contents_end_of Two (length (parts_of Two p))) (parts_of Two p) sums

contents-split : (p : ℕ) (sums : List ℕ) → contents_of Two p sums ≡ three p ++ entries p sums
unfolding contents_of three entries
contents-split p sums = refl

three-length : (p : ℕ) → length (three p) ≡ 3
unfolding three
three-length p = refl

first-is : (p : ℕ) → body_place_of Two p 0 ≡ 6 + 14 * length (parts_of Two p)
unfolding body_place_of
first-is p = omega arith

module _ (p : ℕ) (file sums rest : List ℕ) (few : p ≤ 16777216) (small : (k : ℕ) → get_or sums k 0 < 2 ^ 32) (bytes : (k : ℕ) → get_or file k 0 < 256)
    (due : length file ≡ file_length_of Two p) (k : Kept) (m : Matches file sums 6 (parts_of Two p) (entries_kept p k)) where
  split : bytes_of (contents_of Two p sums) ++ rest ≡ bytes_of (three p) ++ (bytes_of (entries p sums) ++ rest)
  split =
      ap (λ (xs : List ℕ). bytes_of xs ++ rest) (contents-split p sums)
      ∙ (ap (λ (xs : List ℕ). xs ++ rest) (bytes-join (three p) (entries p sums)) ∙ append_assoc (bytes_of (three p)) (bytes_of (entries p sums)) rest)

  under : Under 65536 (three p ++ entries p sums)
  under = subst (Under 65536) (contents-split p sums) (contents-under Two p sums few small)

  six : take 6 (bytes_of (contents_of Two p sums) ++ rest) ≡ bytes_of (three p)
  six = ap (take 6) split ∙ take_at (bytes_of (three p)) (bytes_of (entries p sums) ++ rest) 6 (omega (arith, length-bytes (three p), three-length p))

  behind : drop 6 (bytes_of (contents_of Two p sums) ++ rest) ≡ bytes_of (entries p sums) ++ rest
  behind = ap (drop 6) split ∙ drop_at (bytes_of (three p)) (bytes_of (entries p sums) ++ rest) 6 (omega (arith, length-bytes (three p), three-length p))

  fits : 6 + 14 * length (parts_of Two p) ≤ length file
  fits = omega (arith, first-is p, length-is Two p)

  first-means : part_differs 0 6 file (bytes_of (contents_of Two p sums) ++ rest) ≡ pick (same_of (halves_from file 0 3) (three p)) false true
  unfolding part_differs
  first-means =
      ap (λ (t : Bool). pick t false true)
      (ap (same_of (take 6 file)) six
      ∙ rw (three-length p) at (bytes_same file bytes (three p) 0 (under_first 65536 (three p) (entries p sums) under)
      (omega (arith, three-length p, first-is p, length-is Two p))))

  pub contents-mean : contents_differ p k file (bytes_of (contents_of Two p sums) ++ rest) ≡ pick (contents_valid p file) false true
  unfolding contents_differ contents_valid three entries
  contents-mean =
      rw (
        first-means,
        entries-mean file (bytes_of (contents_of Two p sums) ++ rest) bytes sums (parts_of Two p) (entries_kept p k) 6
            (contents_end_of Two (length (parts_of Two p))) rest m behind (under_rest 65536 (three p)
            (entries p sums) under) fits,
      )
      (not-either (same_of (halves_from file 0 3) (0 ∷ 2 ∷ length (parts_of Two p) ∷ [])) (entries_valid 6
      (contents_end_of Two (length (parts_of Two p))) (parts_of Two p) file))

output-front : (file output : List ℕ) → salvage_verdict_of file output ≡ (Ok tt)
    → output_of (pak_in_form_two file) file
    ≡ bytes_of (contents_of Two (pak_in_form_two file) (sums_of (kept_bodies_of (kept_in (pak_in_form_two file) file) (bodies_in Two
    (pak_in_form_two file) file)))) ++ joined_of Two (kept_bodies_of (kept_in (pak_in_form_two file) file) (bodies_in Two
    (pak_in_form_two file) file))
unfolding output_of file_of
output-front file output e = rw (size file output e)

kept-matches : (file : List ℕ)
    → Matches file (sums_of (kept_bodies_of (kept_in (pak_in_form_two file) file) (bodies_in Two (pak_in_form_two file) file))) 6
    (parts_of Two (pak_in_form_two file)) (entries_kept (pak_in_form_two file) (kept_in (pak_in_form_two file) file))
unfolding kept_in
kept-matches file = matches (pak_in_form_two file) file (bodies_in Two (pak_in_form_two file) file)

pub contents-differ-means : ContentsDifferMeans
contents-differ-means file output bytes e =
    sym (ap (λ (s : Salvaged). s.differ) (by-verdict file output (Ok tt) e).0)
    ∙ (ap (contents_differ (pak_in_form_two file) (kept_in (pak_in_form_two file) file) file) (output-front file output e)
    ∙ contents-mean (pak_in_form_two file) file (sums_of (kept_bodies_of (kept_in (pak_in_form_two file) file) (bodies_in Two
    (pak_in_form_two file) file))) _ (pak-small (pak_in_form_two file) (fit file output e).0)
    (sums-small (kept_bodies_of (kept_in (pak_in_form_two file) file) (bodies_in Two (pak_in_form_two file) file))) bytes
    (whole file output e) (kept_in (pak_in_form_two file) file) (kept-matches file))
