-- What stands in a file that was written is what it was written from; and a file whose contents are valid is what its own bodies
-- are written as. Both forms at once. Assumes nothing.
use Prim.Native.Nat.{ℕ, zero, suc, ◌+◌, ◌-◌, ◌*◌, ◌^◌, ◌<◌, ◌≤◌}
use native.Mathlib.Omega.{arith}
use mathlib.Core.Bool.{true}
use mathlib.Core.Path.{◌≡◌, refl, sym, ap, ◌∙◌}
use mathlib.Core.List.{List, [], ◌∷◌, ◌++◌}
use lib.Dec.{eqb, eqb-suc-zero}
use lib.ListN.{length, get_or, take, drop, length-append, length-take, length-drop, length-replicate, take-append-drop, drop_of_length-le}
use lib.Seq.{take_all, take_at, drop_at, drop-drop}
use Rattle.word.specs.Choose.{pick}
use Rattle.saved_bytes.specs.Numbers.{bytes_of, halves_of, halves_from, same_of}
use Rattle.saved_bytes.specs.Parts.{body_sum_of}
use Rattle.saved_bytes.specs.inner.Put.{put_at}
use Rattle.saved_bytes.proofs.LittleEndian.{length-bytes}
use Rattle.saved_bytes.proofs.Reading.{Under, halves-back, same_self, same-equal, halves-again}
use Rattle.saved_bytes.proofs.Putting.{put_first}
use Rattle.saved_layout.specs.Layout.{Part, part_of, last_parts_of, parts_of, leading_of, contents_entry_of, sum_at, entries_from}
use Rattle.saved_layout.specs.Layout.{contents_end_of, contents_of, body_place_of, last_place_of, file_length_of}
use Rattle.saved_layout.specs.File.{Bodies, bodies_of, sums_of, last_of, joined_of, file_of}
use Rattle.saved_layout.specs.File.{hardware_bytes_in, bodies_in, contents_in, contents_ok, SizedBodies, HeldBy}
use Rattle.saved_layout.specs.declared.Form.{Form}
use Rattle.saved_layout.specs.declared.Form.TheVariants.{One, Two}
use Rattle.saved_layout.proofs.Positions.{second, third, fourth, fifth, last-place, length-is}
use Rattle.saved_layout.proofs.Positions.{contents-end}

-- the contents are halfwords: each entry is, whatever its kind
append-under : (n : ℕ) (xs ys : List ℕ) → Under n xs → Under n ys → Under n (xs ++ ys)
append-under n [] ys u v = v
append-under n (x ∷ xs) ys u v = (u.0, append-under n xs ys u.1 v)

halves-under : (ws : List ℕ) → Under (2 ^ 32) ws → Under 65536 (halves_of ws)
unfolding halves_of
halves-under [] u = tt
halves-under (w ∷ ws) u = let h : w < 2 ^ 32 = u.0 in (omega arith, (omega arith, halves-under ws u.1))

entry-under : (form : Form) (part : Part) (at sum : ℕ) → part.kind < 65536 → at < 2 ^ 32 → part.size < 2 ^ 32 → sum < 2 ^ 32
    → Under 65536 (contents_entry_of form part at sum)
entry-under One part at sum k a s t = (k, halves-under (at ∷ part.size ∷ []) (a, (s, tt)))
entry-under Two part at sum k a s t = (k, halves-under (at ∷ part.size ∷ sum ∷ []) (a, (s, (t, tt))))

-- kinds and lengths that an entry can hold
abbrev Small : List Part → Type 0
Small [] = Unit
Small (part ∷ parts) = (part.kind < 65536) × ((part.size ≤ 16777216) × Small parts)

entries-under : (form : Form) (at : ℕ) (parts : List Part) (sums : List ℕ) → Small parts → at + 16777216 * length parts < 2 ^ 32
    → ((k : ℕ) → get_or sums k 0 < 2 ^ 32)
    → Under 65536 (entries_from form at parts sums)
entries-under form at [] sums small output under = tt
entries-under form at (part ∷ parts) sums small output under =
    let rest : at + 16777216 * suc (length parts) < 2 ^ 32 = output in
    let size : part.size ≤ 16777216 = small.1.0 in
    append-under 65536 (contents_entry_of form part at (sum_at sums part.kind)) (entries_from form (at + part.size) parts sums)
    (entry-under form part at (sum_at sums part.kind) small.0 (omega arith) (omega arith) (under (part.kind - 1)))
    (entries-under form (at + part.size) parts sums small.1.1 (omega arith) under)

last-small : (form : Form) → Small (last_parts_of form)
last-small One = tt
last-small Two = (omega arith, (omega arith, tt))

pak-small : (form : Form) (p : ℕ) → p ≤ 16777216 → Small (pick (eqb p 0) [] (part_of 5 p ∷ []) ++ last_parts_of form)
pak-small form zero h = last-small form
pak-small form (suc p) h = simp (eqb-suc-zero p) (omega arith, (h, last-small form))

parts-small : (form : Form) (p : ℕ) → p ≤ 16777216 → Small (parts_of form p)
parts-small form p h =
    (omega arith, (omega arith, (omega arith, (omega arith, (omega arith, (omega arith, (omega arith, (omega arith, pak-small form p h))))))))

few-parts : (form : Form) (p : ℕ) → length (parts_of form p) ≤ 6
few-parts One zero = omega arith
few-parts One (suc p) = simp (eqb-suc-zero p) (omega arith)
few-parts Two zero = omega arith
few-parts Two (suc p) = simp (eqb-suc-zero p) (omega arith)

start_small : (form : Form) (n : ℕ) → n ≤ 6 → contents_end_of form n + 16777216 * n < 2 ^ 32
start_small One n h = omega arith
start_small Two n h = omega arith

leading-under : (form : Form) → Under 65536 (leading_of form)
leading-under One = tt
leading-under Two = (omega arith, (omega arith, tt))

pub contents-under : (form : Form) (p : ℕ) (s : List ℕ) → p ≤ 16777216 → ((k : ℕ) → get_or s k 0 < 2 ^ 32) → Under 65536 (contents_of form p s)
unfolding contents_of
contents-under form p s h small =
    let n = length (parts_of form p) in
    append-under 65536 (leading_of form) (n ∷ entries_from form (contents_end_of form n) (parts_of form p) s) (leading-under form) (
      omega (arith, few-parts form p),
      entries-under form (contents_end_of form n) (parts_of form p) s (parts-small form p h) (start_small form n (few-parts form p)) small,
    )

-- form 1 has no sums
pub plain-contents : (p : ℕ) (s t : List ℕ) → contents_of One p s ≡ contents_of One p t
unfolding contents_of
plain-contents p s t = rw (plain-entries (contents_end_of One (length (parts_of One p))) (parts_of One p))
  where
    plain-entries : (at : ℕ) (parts : List Part) → entries_from One at parts s ≡ entries_from One at parts t
    plain-entries at [] = refl
    plain-entries at (part ∷ parts) = rw (plain-entries (at + part.size) parts)

sum-small : (xs : List ℕ) → body_sum_of xs < 2 ^ 32
unfolding body_sum_of
sum-small xs = omega arith

pub sums-small : (b : Bodies) (k : ℕ) → get_or (sums_of b) k 0 < 2 ^ 32
unfolding sums_of
sums-small b zero = sum-small b.processor
sums-small b (suc zero) = sum-small b.drawing
sums-small b (suc (suc zero)) = sum-small b.wram
sums-small b (suc (suc (suc zero))) = sum-small b.vram
sums-small b (suc (suc (suc (suc zero)))) = sum-small b.pak
sums-small b (suc (suc (suc (suc (suc zero))))) = sum-small b.hardware
sums-small b (suc (suc (suc (suc (suc (suc k)))))) = omega arith

pub length-contents : (form : Form) (p : ℕ) (s : List ℕ) → length (bytes_of (contents_of form p s)) ≡ body_place_of form p 0
length-contents form p s = length-bytes (contents_of form p s) ∙ contents-end form p s

-- what stands behind a part, and the part
behind : (a n b : ℕ) (file xs post : List ℕ) → drop a file ≡ xs ++ post → length xs ≡ n → b ≡ a + n → drop b file ≡ post
behind a n b file xs post e f g =
    ap (λ (k : ℕ). drop k file) g ∙ (sym (drop-drop n a file) ∙ (ap (drop n) e ∙ drop_at xs post n f))

here : (a n : ℕ) (file xs post : List ℕ) → drop a file ≡ xs ++ post → length xs ≡ n → take n (drop a file) ≡ xs
here a n file xs post e f = ap (take n) e ∙ take_at xs post n f

here-last : (a n : ℕ) (file xs : List ℕ) → drop a file ≡ xs → length xs ≡ n → take n (drop a file) ≡ xs
here-last a n file xs e f = ap (take n) e ∙ take_all n xs (omega arith)

pub bodies-same : {a1 a2 b1 b2 c1 c2 d1 d2 e1 e2 f1 f2 : List ℕ} → a1 ≡ a2 → b1 ≡ b2 → c1 ≡ c2 → d1 ≡ d2 → e1 ≡ e2 → f1 ≡ f2
    → bodies_of a1 b1 c1 d1 e1 f1 ≡ bodies_of a2 b2 c2 d2 e2 f2
bodies-same p q r s t u = rw (p, q, r, s, t, u)

-- bodies that stand one after the other from the first place on are those of the file
module _ (b : Bodies) (s : SizedBodies b) (file : List ℕ) where
  module _ (form : Form) (start : drop (body_place_of form (length b.pak) 0) file ≡ joined_of form b) where
    at0 : drop (body_place_of form (length b.pak) 0) file ≡ b.processor ++ (b.drawing ++ (b.wram ++ (b.vram ++ (b.pak ++ last_of form b.hardware))))
    unfolding joined_of
    at0 = start

    at1 : drop (body_place_of form (length b.pak) 1) file ≡ b.drawing ++ (b.wram ++ (b.vram ++ (b.pak ++ last_of form b.hardware)))
    at1 = behind (body_place_of form (length b.pak) 0) 172 (body_place_of form (length b.pak) 1) file b.processor
        (b.drawing ++ (b.wram ++ (b.vram ++ (b.pak ++ last_of form b.hardware)))) at0 s.processor (second form
        (length b.pak))

    at2 : drop (body_place_of form (length b.pak) 2) file ≡ b.wram ++ (b.vram ++ (b.pak ++ last_of form b.hardware))
    at2 = behind (body_place_of form (length b.pak) 1) 26 (body_place_of form (length b.pak) 2) file b.drawing
        (b.wram ++ (b.vram ++ (b.pak ++ last_of form b.hardware))) at1 s.drawing (omega (
          arith,
          second form
              (length b.pak),
          third form (length b.pak),
        ))

    at3 : drop (body_place_of form (length b.pak) 3) file ≡ b.vram ++ (b.pak ++ last_of form b.hardware)
    at3 = behind (body_place_of form (length b.pak) 2) 65536 (body_place_of form (length b.pak) 3) file b.wram
        (b.vram ++ (b.pak ++ last_of form b.hardware)) at2 s.wram (omega (
          arith,
          third form (length
              b.pak),
          fourth form (length b.pak),
        ))

    at4 : drop (body_place_of form (length b.pak) 4) file ≡ b.pak ++ last_of form b.hardware
    at4 = behind (body_place_of form (length b.pak) 3) 262144 (body_place_of form (length b.pak) 4) file b.vram
        (b.pak ++ last_of form b.hardware) at3 s.vram (omega (
          arith,
          fourth form (length b.pak),
          fifth form
              (length b.pak),
        ))

    at5 : (n : ℕ) → n ≡ body_place_of form (length b.pak) 4 + (length b.pak) → drop n file ≡ last_of form b.hardware
    at5 n e = behind (body_place_of form (length b.pak) 4) (length b.pak) n file b.pak (last_of form b.hardware) at4 refl e

    pub held : hardware_bytes_in form (length b.pak) file ≡ b.hardware → bodies_in form (length b.pak) file ≡ b
    unfolding bodies_in
    held e =
        bodies-same
        (here (body_place_of form (length b.pak) 0) 172 file b.processor (b.drawing ++ (b.wram ++ (b.vram ++
        (b.pak ++ last_of form b.hardware)))) at0 s.processor)
        (here (body_place_of form (length b.pak) 1) 26 file b.drawing (b.wram ++ (b.vram ++ (b.pak ++ last_of form b.hardware))) at1 s.drawing)
        (here (body_place_of form (length b.pak) 2) 65536 file b.wram (b.vram ++ (b.pak ++ last_of form b.hardware)) at2 s.wram)
        (here (body_place_of form (length b.pak) 3) 262144 file b.vram (b.pak ++ last_of form b.hardware) at3 s.vram)
        (here (body_place_of form (length b.pak) 4) (length b.pak) file b.pak (last_of form b.hardware) at4 refl)
        e

  last-held : (form : Form) → drop (body_place_of form (length b.pak) 0) file ≡ joined_of form b → HeldBy form b
      → hardware_bytes_in form (length b.pak) file ≡ b.hardware
  last-held One start h = sym h
  last-held Two start h =
      here-last (last_place_of (length b.pak)) 8 file b.hardware
      (at5 Two start (last_place_of (length b.pak)) (omega (arith, last-place (length b.pak), fifth Two (length b.pak)))) s.hardware

  pub bodies-held : (form : Form) → drop (body_place_of form (length b.pak) 0) file ≡ joined_of form b → HeldBy form b
      → bodies_in form (length b.pak) file ≡ b
  bodies-held form start h = held form start (last-held form start h)

  -- the contents that they ask for
  pub contents-held : (form : Form) → drop (body_place_of form (length b.pak) 0) file ≡ joined_of form b
      → contents_in form (length b.pak) file ≡ contents_of form (length b.pak) (sums_of b)
  unfolding contents_in
  contents-held One start = plain-contents (length b.pak) (sums_of (bodies_in One (length b.pak) file)) (sums_of b)
  contents-held Two start = ap (λ (c : Bodies). contents_of Two (length b.pak) (sums_of c)) (bodies-held Two start tt)

  -- and with them put before the bodies, the buffer is the file
  pub sealed : (form : Form) → drop (body_place_of form (length b.pak) 0) file ≡ joined_of form b
      → put_at file 0 (bytes_of (contents_in form (length b.pak) file)) ≡ file_of form b
  unfolding file_of
  sealed form start =
      rw (contents-held form start)
      (put_first file (bytes_of (contents_of form (length b.pak) (sums_of b))) (body_place_of form (length b.pak) 0)
      (length-contents form (length b.pak) (sums_of b))
      ∙ ap (λ (ys : List ℕ). bytes_of (contents_of form (length b.pak) (sums_of b)) ++ ys) start)

module _ (form : Form) (b : Bodies) where
  pub file-start : drop (body_place_of form (length b.pak) 0) (file_of form b) ≡ joined_of form b
  unfolding file_of
  file-start =
      drop_at (bytes_of (contents_of form (length b.pak) (sums_of b))) (joined_of form b) (body_place_of form (length b.pak) 0)
      (length-contents form (length b.pak) (sums_of b))

module _ (b : Bodies) (s : SizedBodies b) where
  pub joined_length : (form : Form) → length (joined_of form b) + body_place_of form (length b.pak) 0 ≡ file_length_of form (length b.pak)
  unfolding joined_of
  joined_length One = simp length-append (omega (arith, s.processor, s.drawing, s.wram, s.vram, length-is One (length b.pak)))
  joined_length Two =
      simp length-append (omega (arith, s.processor, s.drawing, s.wram, s.vram, s.hardware, length-is Two (length b.pak)))

  pub file-length : (form : Form) → length (file_of form b) ≡ file_length_of form (length b.pak)
  unfolding file_of
  file-length form =
      simp length-append (omega (arith, length-contents form (length b.pak) (sums_of b), joined_length form))

  pub file-held : (form : Form) → HeldBy form b → bodies_in form (length b.pak) (file_of form b) ≡ b
  file-held form h = bodies-held b s (file_of form b) form (file-start form b) h

  front_same : (form : Form) → length b.pak ≤ 16777216
      → same_of (halves_from (file_of form b) 0 (length (contents_of form (length b.pak) (sums_of b)))) (contents_of form (length b.pak) (sums_of b)) ≡ true
  unfolding file_of
  front_same form few =
      rw (halves-back 0 [] (contents_of form (length b.pak) (sums_of b)) (joined_of form b) refl (contents-under form
      (length b.pak) (sums_of b) few (sums-small b)))
      (same_self (contents_of form (length b.pak) (sums_of b)))

  pub contents-back : (form : Form) → length b.pak ≤ 16777216 → contents_ok form (length b.pak) (file_of form b) ≡ true
  unfolding contents_ok
  contents-back form few = rw (contents-held b s (file_of form b) form (file-start form b)) (front_same form few)

-- the reverse: a file whose contents are valid is what its bodies are written as
next : (a n m : ℕ) (xs : List ℕ) → m ≡ a + n → drop a xs ≡ take n (drop a xs) ++ drop m xs
next a n m xs e =
    sym (take-append-drop n (drop a xs))
    ∙ ap (λ (ys : List ℕ). take n (drop a xs) ++ ys) (drop-drop n a xs ∙ ap (λ (k : ℕ). drop k xs) (sym e))

module _ (p : ℕ) (file : List ℕ) where
  last-part : (form : Form) → length file ≡ file_length_of form p →
      (n : ℕ) → n ≡ body_place_of form p 4 + p → drop n file ≡ last_of form (hardware_bytes_in form p file)
  last-part One whole n e = drop_of_length-le file {i = n} (omega (arith, length-is One p, fifth One p))
  last-part Two whole n e =
      let f : n ≡ last_place_of p = omega (arith, last-place p, fifth Two p) in
      let l : length (drop (last_place_of p) file) ≤ 8 = simp length-drop (omega (arith, length-is Two p, last-place p)) in
      ap (λ (k : ℕ). drop k file) f ∙ sym (take_all 8 (drop (last_place_of p) file) l)

  module _ (form : Form) (whole : length file ≡ file_length_of form p) where
    pub joined-again : joined_of form (bodies_in form p file) ≡ drop (body_place_of form p 0) file
    unfolding joined_of bodies_in
    joined-again =
        let f5 = last-part form whole (body_place_of form p 4 + p) refl in
        let f4 = next (body_place_of form p 4) p (body_place_of form p 4 + p) file refl in
        let f3 = next (body_place_of form p 3) 262144 (body_place_of form p 4) file (omega (arith, fourth form p, fifth form p)) in
        let f2 = next (body_place_of form p 2) 65536 (body_place_of form p 3) file (omega (arith, third form p, fourth form p)) in
        let f1 = next (body_place_of form p 1) 26 (body_place_of form p 2) file (omega (arith, second form p, third form p)) in
        let f0 = next (body_place_of form p 0) 172 (body_place_of form p 1) file (second form p) in
        sym
        (f0 ∙ ap (λ (ys : List ℕ). take 172 (drop (body_place_of form p 0) file) ++ ys)
        (f1 ∙ ap (λ (ys : List ℕ). take 26 (drop (body_place_of form p 1) file) ++ ys)
        (f2 ∙ ap (λ (ys : List ℕ). take 65536 (drop (body_place_of form p 2) file) ++ ys)
        (f3 ∙ ap (λ (ys : List ℕ). take 262144 (drop (body_place_of form p 3) file) ++ ys)
        (f4 ∙ ap (λ (ys : List ℕ). take p (drop (body_place_of form p 4) file) ++ ys) f5)))))

    pub length-pak-in : length (bodies_in form p file).pak ≡ p
    unfolding bodies_in
    length-pak-in = simp (length-take, length-drop) (omega (arith, length-is form p, fifth form p))

    length-hardware-in : length (hardware_bytes_in form p file) ≡ 8
    length-hardware-in = hardware form whole
      where
        hardware : (f : Form) → length file ≡ file_length_of f p → length (hardware_bytes_in f p file) ≡ 8
        hardware One w = length-replicate {A = ℕ} 8 0
        hardware Two w = simp (length-take, length-drop) (omega (arith, length-is Two p, last-place p))

    pub sized-in : SizedBodies (bodies_in form p file)
    unfolding bodies_in
    sized-in =
        record {
          processor = simp (length-take, length-drop) (omega (arith, length-is form p));
          drawing = simp (length-take, length-drop) (omega (arith, length-is form p, second form p));
          wram = simp (length-take, length-drop) (omega (arith, length-is form p, third form p));
          vram = simp (length-take, length-drop) (omega (arith, length-is form p, fourth form p));
          hardware = length-hardware-in;
        }

    module _ (bytes : (k : ℕ) → get_or file k 0 < 256) where
      contents-part : contents_ok form p file ≡ true → bytes_of (contents_in form p file) ≡ take (body_place_of form p 0) file
      unfolding contents_ok contents_in
      contents-part ok =
          let c = contents_of form p (sums_of (bodies_in form p file)) in
          ap bytes_of (sym (same-equal (halves_from file 0 (length (contents_of form p (sums_of (bodies_in form p file)))))
          (contents_of form p (sums_of (bodies_in form p file))) ok))
          ∙ (halves-again file bytes (length (contents_of form p (sums_of (bodies_in form p file)))) 0 (omega
          (arith, contents-end form p (sums_of (bodies_in form p file)), length-is form p))
          ∙ ap (λ (n : ℕ). take n file) (contents-end form p (sums_of (bodies_in form p file))))

      pub file-again : contents_ok form p file ≡ true → file_of form (bodies_in form p file) ≡ file
      unfolding file_of contents_in
      file-again ok = rw (length-pak-in, contents-part ok, joined-again) (take-append-drop (body_place_of form p 0) file)

-- what a file in form 1 holds has lines and timer at reset
pub held_one : (p : ℕ) (file : List ℕ) → HeldBy One (bodies_in One p file)
unfolding bodies_in
held_one p file = refl
