-- What the functions leave: records and memories put one after the other, and parts of a file taken where they stand. Assumes nothing.
use Prim.Native.Nat.{ℕ, ◌+◌, ◌*◌, ◌≤◌}
use native.Mathlib.Omega.{arith}
use mathlib.Core.Path.{◌≡◌, refl, sym, ap, ◌∙◌}
use mathlib.Core.List.{List, [], ◌∷◌, ◌++◌, append_assoc, append-nil}
use lib.ListN.{length, take, drop, length-append, length-take, length-drop, drop_of_length-le}
use lib.Seq.{take-length, drop_at, length-take-le}
use Rattle.saved_bytes.specs.Numbers.{bytes_of, halves_of, halves_from, same_of}
use Rattle.saved_bytes.specs.Parts.{body_sum_of}
use Rattle.saved_bytes.specs.inner.Put.{put_at}
use Rattle.saved_bytes.proofs.LittleEndian.{length-bytes, length-halves}
use Rattle.saved_bytes.proofs.Putting.{put-put, put_last}
use Rattle.saved_layout.specs.Layout.{contents_of, body_place_of, last_place_of, file_length_of}
use Rattle.saved_layout.specs.File.{bodies_of, sums_of, joined_of, file_of, bodies_in, contents_in, contents_ok, SizedBodies}
use Rattle.saved_layout.specs.declared.Form.{Form}
use Rattle.saved_layout.specs.declared.Form.TheVariants.{One, Two}
use Rattle.saved_layout.proofs.Positions.{second, third, fourth, fifth, last-place, length-is, contents-end}
use Rattle.saved_layout.proofs.Files.{sealed, plain-contents}

-- the bytes of two lists of words
pub bytes-append : (a b : List ℕ) → bytes_of (halves_of (a ++ b)) ≡ bytes_of (halves_of a) ++ bytes_of (halves_of b)
unfolding bytes_of halves_of
bytes-append [] b = refl
bytes-append (w ∷ ws) b = rw (bytes-append ws b)

length-words : (ws : List ℕ) → length (bytes_of (halves_of ws)) ≡ 4 * length ws
length-words ws = omega (arith, length-bytes (halves_of ws), length-halves ws)

-- words put behind others
pub words-put : (d first second e f : List ℕ) (at n : ℕ) → at + 4 * length first + 4 * length second ≤ length d
    → n ≡ at + 4 * length first → e ≡ put_at d at (bytes_of (halves_of first)) → f ≡ put_at e n (bytes_of (halves_of second))
    → f ≡ put_at d at (bytes_of (halves_of (first ++ second)))
words-put d first second e f at n fits h p q =
    let l = length-words first in
    q ∙ (ap (λ (x : List ℕ). put_at x n (bytes_of (halves_of second))) p
    ∙ (put-put d at (bytes_of (halves_of first)) (omega (arith, l)) (bytes_of (halves_of second)) n (omega (arith, l))
    ∙ ap (put_at d at) (sym (bytes-append first second))))

-- three parts put one behind the other
pub put_three : (d a b c e f g : List ℕ) (at m n : ℕ) → at + length a + length b + length c ≤ length d
    → m ≡ at + length a → n ≡ at + length a + length b
    → e ≡ put_at d at a → f ≡ put_at e m b → g ≡ put_at f n c → g ≡ put_at d at (a ++ (b ++ c))
put_three d a b c e f g at m n fits hm hn p q r =
    let l : length (a ++ b) ≡ length a + length b = length-append a b in
    let two : f ≡ put_at d at (a ++ b) = q ∙ (ap (λ (x : List ℕ). put_at x m b) p ∙ put-put d at a (omega arith) b m hm) in
    r ∙ (ap (λ (x : List ℕ). put_at x n c) two
    ∙ (put-put d at (a ++ b) (omega arith) c n (omega arith) ∙ ap (put_at d at) (append_assoc a b c)))

pub records-put : (d regs rest halves e f g : List ℕ) (at : ℕ) → at + 198 ≤ length d
    → length regs ≡ 32 → length rest ≡ 11 → length halves ≡ 13
    → e ≡ put_at d at (bytes_of (halves_of regs)) → f ≡ put_at e (at + 128) (bytes_of (halves_of rest)) → g ≡ put_at f (at + 172) (bytes_of halves)
    → g ≡ put_at d at (bytes_of (halves_of (regs ++ rest)) ++ bytes_of halves)
records-put d regs rest halves e f g at fits l1 l2 l3 p q r =
    put_three d (bytes_of (halves_of regs)) (bytes_of (halves_of rest)) (bytes_of halves) e f g at (at + 128) (at + 172)
    (omega (arith, length-words regs, length-words rest, length-bytes halves)) (omega (arith, length-words regs)) (omega
    (arith, length-words regs, length-words rest)) p q r
    ∙ ap (put_at d at)
    (sym (append_assoc (bytes_of (halves_of regs)) (bytes_of (halves_of rest)) (bytes_of halves))
    ∙ ap (λ (x : List ℕ). x ++ bytes_of halves) (sym (bytes-append regs rest)))

-- a buffer whose bodies were put from the first place on
module _ (regs rest halves wram vram pak hardware d : List ℕ) where
  module _ (l1 : length regs ≡ 32) (l2 : length rest ≡ 11) (l3 : length halves ≡ 13) (l4 : length wram ≡ 65536)
      (l5 : length vram ≡ 262144) (l6 : length hardware ≡ 4) where
    sized : SizedBodies (bodies_of (bytes_of (halves_of (regs ++ rest))) (bytes_of halves) wram vram pak (bytes_of hardware))
    sized =
        record {
          processor = omega (arith, length-words (regs ++ rest), length-append regs rest);
          drawing = omega (arith, length-bytes halves);
          wram = l4;
          vram = l5;
          hardware = omega (arith, length-bytes hardware);
        }

    length-records : length (bytes_of (halves_of (regs ++ rest)) ++ bytes_of halves) ≡ 198
    length-records = simp length-append (omega (arith, length-words (regs ++ rest), length-append regs rest, length-bytes halves))

    length-memories : length (wram ++ (vram ++ pak)) ≡ 327680 + length pak
    length-memories = simp length-append (omega arith)

    -- the five bodies of form 1
    five : (e f : List ℕ) (at : ℕ) → at + 327878 + length pak ≤ length d
        → e ≡ put_at d at (bytes_of (halves_of (regs ++ rest)) ++ bytes_of halves) → f ≡ put_at e (at + 198) (wram ++ (vram ++ pak))
        → f ≡ put_at d at ((bytes_of (halves_of (regs ++ rest)) ++ bytes_of halves) ++ (wram ++ (vram ++ pak)))
    five e f at fits p q =
        q ∙ (ap (λ (x : List ℕ). put_at x (at + 198) (wram ++ (vram ++ pak))) p
        ∙ put-put d at (bytes_of (halves_of (regs ++ rest)) ++ bytes_of halves) (omega (arith, length-records)) (wram ++
        (vram ++ pak)) (at + 198) (omega (arith, length-records)))

    length-five : length ((bytes_of (halves_of (regs ++ rest)) ++ bytes_of halves) ++ (wram ++ (vram ++ pak))) ≡ 327878 + length pak
    length-five = length-append (bytes_of (halves_of (regs ++ rest)) ++ bytes_of halves) (wram ++ (vram ++ pak)) ∙ (omega (arith, length-records, length-memories))

    joined-one : (a b c d e : List ℕ) → (a ++ b) ++ (c ++ (d ++ e)) ≡ a ++ (b ++ (c ++ (d ++ (e ++ []))))
    joined-one a b c d e = simp (append_assoc, append-nil)

    joined-two : (a b c d e f : List ℕ) → ((a ++ b) ++ (c ++ (d ++ e))) ++ f ≡ a ++ (b ++ (c ++ (d ++ (e ++ f))))
    joined-two a b c d e f = simp append_assoc

    ending : (at : ℕ) (xs output : List ℕ) → at + length xs ≡ length d → output ≡ put_at d at xs → drop at output ≡ xs
    ending at xs output e p =
        ap (drop at) (p ∙ put_last d at xs e) ∙ drop_at (take at d) xs at (length-take-le at d (omega arith))

    pub wrote_one : (e f g : List ℕ) (at : ℕ) → at ≡ body_place_of One (length pak) 0 → length d ≡ file_length_of One (length pak)
        → e ≡ put_at d at (bytes_of (halves_of (regs ++ rest)) ++ bytes_of halves) → f ≡ put_at e (at + 198) (wram ++ (vram ++ pak))
        → g ≡ put_at f 0 (bytes_of (contents_in One (length pak) f))
        → g ≡ file_of One (bodies_of (bytes_of (halves_of (regs ++ rest))) (bytes_of halves) wram vram pak (bytes_of hardware))
    unfolding joined_of
    wrote_one e f g at first whole p q r =
        let w : at + (327878 + length pak) ≡ length d = omega (arith, length-is One (length pak)) in
        r ∙ sealed (bodies_of (bytes_of (halves_of (regs ++ rest))) (bytes_of halves) wram vram pak (bytes_of hardware)) sized f One
        (ap (λ (n : ℕ). drop n f) (sym first)
        ∙ (ending at ((bytes_of (halves_of (regs ++ rest)) ++ bytes_of halves) ++ (wram ++ (vram ++ pak))) f (omega
        (arith, length-five)) (five e f at (omega arith) p q)
        ∙ joined-one (bytes_of (halves_of (regs ++ rest))) (bytes_of halves) wram vram pak))

    pub wrote-two : (e f g h : List ℕ) (at : ℕ) → at ≡ body_place_of Two (length pak) 0 → length d ≡ file_length_of Two (length pak)
        → e ≡ put_at d at (bytes_of (halves_of (regs ++ rest)) ++ bytes_of halves) → f ≡ put_at e (at + 198) (wram ++ (vram ++ pak))
        → g ≡ put_at f (at + 327878 + length pak) (bytes_of hardware)
        → h ≡ put_at g 0 (bytes_of (contents_in Two (length pak) g))
        → h ≡ file_of Two (bodies_of (bytes_of (halves_of (regs ++ rest))) (bytes_of halves) wram vram pak (bytes_of hardware))
    unfolding joined_of
    wrote-two e f g h at first whole p q r t =
        let w : at + (327878 + length pak) + 8 ≡ length d = omega (arith, length-is Two (length pak)) in
        let l : length (bytes_of hardware) ≡ 8 = omega (arith, length-bytes hardware) in
        let six : g ≡ put_at d at (((bytes_of (halves_of (regs ++ rest)) ++ bytes_of halves) ++ (wram ++ (vram ++ pak))) ++ bytes_of hardware)
        = r ∙ (ap (λ (x : List ℕ). put_at x (at + 327878 + length pak) (bytes_of hardware)) (five e f at (omega arith) p q)
        ∙ put-put d at ((bytes_of (halves_of (regs ++ rest)) ++ bytes_of halves) ++ (wram ++ (vram ++ pak))) (omega
        (arith, length-five)) (bytes_of hardware) (at + 327878 + length pak) (omega (arith, length-five))) in
        t ∙ sealed (bodies_of (bytes_of (halves_of (regs ++ rest))) (bytes_of halves) wram vram pak (bytes_of hardware)) sized g Two
        (ap (λ (n : ℕ). drop n g) (sym first)
        ∙ (ending at (((bytes_of (halves_of (regs ++ rest)) ++ bytes_of halves) ++ (wram ++ (vram ++ pak))) ++ bytes_of hardware) g
        (omega (arith, length-append ((bytes_of (halves_of (regs ++ rest)) ++ bytes_of halves) ++ (wram ++ (vram ++ pak))) (bytes_of hardware), length-five)) six
        ∙ joined-two (bytes_of (halves_of (regs ++ rest))) (bytes_of halves) wram vram pak (bytes_of hardware)))

-- parts of a file where they stand
module _ (form : Form) (p at : ℕ) (file : List ℕ) (e : at ≡ body_place_of form p 0) where
  pub processor-part : (a n : ℕ) → a ≡ at → n ≡ 172 → take n (drop a file) ≡ (bodies_in form p file).processor
  unfolding bodies_in
  processor-part a n f g = let q : body_place_of form p 0 ≡ a = omega arith in rw (q, g)

  pub drawing-part : (a n : ℕ) → a ≡ at + 172 → n ≡ 26 → take n (drop a file) ≡ (bodies_in form p file).drawing
  unfolding bodies_in
  drawing-part a n f g = let q : body_place_of form p 1 ≡ a = omega (arith, second form p) in rw (q, g)

  pub wram-part : (a n : ℕ) → a ≡ at + 198 → n ≡ 65536 → take n (drop a file) ≡ (bodies_in form p file).wram
  unfolding bodies_in
  wram-part a n f g = let q : body_place_of form p 2 ≡ a = omega (arith, third form p) in rw (q, g)

  pub vram-part : (a n : ℕ) → a ≡ at + 65734 → n ≡ 262144 → take n (drop a file) ≡ (bodies_in form p file).vram
  unfolding bodies_in
  vram-part a n f g = let q : body_place_of form p 3 ≡ a = omega (arith, fourth form p) in rw (q, g)

  pub pak-part : (a n : ℕ) → a ≡ at + 327878 → n ≡ p → take n (drop a file) ≡ (bodies_in form p file).pak
  unfolding bodies_in
  pak-part a n f g = let q : body_place_of form p 4 ≡ a = omega (arith, fifth form p) in rw (q, g)

pub hardware-part : (p at : ℕ) (file : List ℕ) → at ≡ body_place_of Two p 0 → (a n : ℕ) → a ≡ at + 327878 + p → n ≡ 8
    → take n (drop a file) ≡ (bodies_in Two p file).hardware
unfolding bodies_in
hardware-part p at file e a n f g = let q : last_place_of p ≡ a = omega (arith, last-place p) in rw (q, g)

-- what is copied into a memory of its length is all of it
pub part-copied : (n a : ℕ) (file d e : List ℕ) → a + n ≤ length file → length d ≡ n
    → e ≡ take (length (take n (drop a file))) (take n (drop a file)) ++ drop (length (take n (drop a file))) d → e ≡ take n (drop a file)
part-copied n a file d e h l f =
    let k : length (take n (drop a file)) ≡ length d = simp (length-take, length-drop) (omega arith) in
    f ∙ (ap (λ (ys : List ℕ). ys ++ drop (length (take n (drop a file))) d) (take-length (take n (drop a file)))
    ∙ (ap (λ (ys : List ℕ). take n (drop a file) ++ ys) (drop_of_length-le d {i = length (take n (drop a file))}
    (omega arith)) ∙ append-nil (take n (drop a file))))

-- six sums
pub sums-are : {a1 a2 b1 b2 c1 c2 d1 d2 e1 e2 f1 f2 : List ℕ} → a1 ≡ a2 → b1 ≡ b2 → c1 ≡ c2 → d1 ≡ d2 → e1 ≡ e2 → f1 ≡ f2
    → body_sum_of a1 ∷ body_sum_of b1 ∷ body_sum_of c1 ∷ body_sum_of d1 ∷ body_sum_of e1 ∷ body_sum_of f1 ∷ [] ≡ sums_of (bodies_of a2 b2 c2 d2 e2 f2)
unfolding sums_of
sums-are p q r s t u = rw (p, q, r, s, t, u)

pub list_same : {a1 a2 b1 b2 c1 c2 d1 d2 e1 e2 f1 f2 : ℕ} → a1 ≡ a2 → b1 ≡ b2 → c1 ≡ c2 → d1 ≡ d2 → e1 ≡ e2 → f1 ≡ f2
    → a1 ∷ b1 ∷ c1 ∷ d1 ∷ e1 ∷ f1 ∷ [] ≡ a2 ∷ b2 ∷ c2 ∷ d2 ∷ e2 ∷ f2 ∷ []
list_same p q r s t u = rw (p, q, r, s, t, u)

-- halfwords that are the contents
module _ (form : Form) (p : ℕ) (file xs : List ℕ) (same : xs ≡ contents_in form p file) where
  pub contents-fit : 2 * length xs ≡ body_place_of form p 0
  unfolding contents_in
  contents-fit = ap (λ (ys : List ℕ). 2 * length ys) same ∙ contents-end form p (sums_of (bodies_in form p file))

  pub contents-put : (d : List ℕ) → put_at d 0 (bytes_of xs) ≡ put_at d 0 (bytes_of (contents_in form p file))
  contents-put d = ap (λ (ys : List ℕ). put_at d 0 (bytes_of ys)) same

  pub contents-same : same_of (halves_from file 0 (length xs)) xs ≡ contents_ok form p file
  unfolding contents_ok
  contents-same = ap (λ (ys : List ℕ). same_of (halves_from file 0 (length ys)) ys) same

-- the sums that form 1 does not store, and those that form 2 does
pub contents-plain : (form : Form) (p : ℕ) (file sums : List ℕ) → form ≡ One → contents_of form p sums ≡ contents_in form p file
unfolding contents_in
contents-plain form p file sums e = rw e (plain-contents p sums (sums_of (bodies_in One p file)))

pub contents-summed : (form : Form) (p : ℕ) (file sums : List ℕ) → form ≡ Two → sums ≡ sums_of (bodies_in Two p file)
    → contents_of form p sums ≡ contents_in form p file
unfolding contents_in
contents-summed form p file sums e f = rw (e, f)
