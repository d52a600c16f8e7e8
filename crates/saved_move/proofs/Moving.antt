-- The five bodies that both forms have, taken from a file and put into a buffer; what each direction leaves. Assumes nothing.
use Prim.Native.Nat.{ℕ, ◌+◌}
use native.Mathlib.Omega.{arith}
use mathlib.Core.Path.{◌≡◌, refl, sym, ap, ◌∙◌}
use mathlib.Core.List.{List, ◌++◌, append_assoc, append-nil}
use lib.ListN.{length, take, drop, length-append, replicate}
use lib.Seq.{take_at, drop_at, length-take-le}
use Rattle.saved_bytes.specs.Numbers.{bytes_of}
use Rattle.saved_bytes.specs.inner.Put.{put_at}
use Rattle.saved_bytes.proofs.Putting.{put-put, put_last}
use Rattle.saved_layout.specs.Layout.{body_place_of, file_length_of}
use Rattle.saved_layout.specs.File.{Bodies, last_of, joined_of, file_of, hardware_reset, bodies_in, contents_in, SizedBodies}
use Rattle.saved_layout.specs.declared.Form.{Form}
use Rattle.saved_layout.specs.declared.Form.TheVariants.{One, Two}
use Rattle.saved_layout.proofs.Positions.{length-is}
use Rattle.saved_layout.proofs.Files.{sealed, joined-again, length-pak-in, sized-in}

-- the bodies of kinds 1 to 5
abbrev five_of : Bodies → List ℕ
five_of b = b.processor ++ (b.drawing ++ (b.wram ++ (b.vram ++ b.pak)))

five-joined : (form : Form) (b : Bodies) → joined_of form b ≡ five_of b ++ last_of form b.hardware
unfolding joined_of
five-joined form b = simp append_assoc

five-length : (b : Bodies) → SizedBodies b → length (five_of b) ≡ 327878 + length b.pak
five-length b s = simp length-append (omega (arith, s.processor, s.drawing, s.wram, s.vram))

-- taken from a file
module _ (form : Form) (p : ℕ) (file : List ℕ) (whole : length file ≡ file_length_of form p) where
  five-in : length (five_of (bodies_in form p file)) ≡ 327878 + p
  five-in = five-length (bodies_in form p file) (sized-in p file form whole) ∙ ap (λ (n : ℕ). 327878 + n) (length-pak-in p file form whole)

  pub five-taken : (at n : ℕ) → at ≡ body_place_of form p 0 → n ≡ 327878 + p → take n (drop at file) ≡ five_of (bodies_in form p file)
  five-taken at n e f =
      ap (λ (a : ℕ). take n (drop a file)) e
      ∙ (ap (take n) (sym (joined-again p file form whole) ∙ five-joined form (bodies_in form p file))
      ∙ take_at (five_of (bodies_in form p file)) (last_of form (bodies_in form p file).hardware) n (five-in ∙ sym f))

-- a buffer whose bodies end with it
ending : (d : List ℕ) (at : ℕ) (xs output : List ℕ) → at + length xs ≡ length d → output ≡ put_at d at xs → drop at output ≡ xs
ending d at xs output e p =
    ap (drop at) (p ∙ put_last d at xs e) ∙ drop_at (take at d) xs at (length-take-le at d (omega arith))

sealed-at : (b : Bodies) (form : Form) (p : ℕ) (output : List ℕ) → SizedBodies b → length b.pak ≡ p → drop (body_place_of form p 0) output ≡ joined_of form b
    → put_at output 0 (bytes_of (contents_in form p output)) ≡ file_of form b
sealed-at b form p output s e start = rw (← e) (sealed b s output form (rw (← e) at start))

one-reset : (p : ℕ) (file : List ℕ) → (bodies_in One p file).hardware ≡ hardware_reset
unfolding bodies_in
one-reset p file = refl

module _ (p : ℕ) (file d : List ℕ) where
  -- form 1 into form 2
  module _ (whole : length file ≡ file_length_of One p) (output : length d ≡ file_length_of Two p) where
    pub moved-two : (from at n : ℕ) (e f g : List ℕ) → from ≡ body_place_of One p 0 → at ≡ body_place_of Two p 0 → n ≡ 327878 + p
        → e ≡ put_at d at (take n (drop from file)) → f ≡ put_at e (at + 327878 + p) (replicate 8 0)
        → g ≡ put_at f 0 (bytes_of (contents_in Two p f)) → g ≡ file_of Two (bodies_in One p file)
    moved-two from at n e f g l1 l2 l3 q r t =
        let b = bodies_in One p file in
        let l = five-in One p file whole in
        let w : at + (327878 + p) + 8 ≡ length d = omega (arith, length-is Two p) in
        let five : e ≡ put_at d at (five_of (bodies_in One p file)) = q ∙ ap (put_at d at) (five-taken One p file whole from n l1 l3) in
        let six : f ≡ put_at d at (five_of (bodies_in One p file) ++ replicate 8 0)
        = r ∙ (ap (λ (x : List ℕ). put_at x (at + 327878 + p) (replicate 8 0)) five
        ∙ put-put d at (five_of (bodies_in One p file)) (omega (arith, l)) (replicate 8 0) (at + 327878 + p) (omega (arith, l))) in
        let joined : five_of (bodies_in One p file) ++ replicate 8 0 ≡ joined_of Two (bodies_in One p file)
        = sym (five-joined Two (bodies_in One p file) ∙ ap (λ (x : List ℕ). five_of (bodies_in One p file) ++ x) (one-reset p file)) in
        t ∙ sealed-at (bodies_in One p file) Two p f (sized-in p file One whole) (length-pak-in p file One whole)
        (ap (λ (n : ℕ). drop n f) (sym l2)
        ∙ (ending d at (five_of (bodies_in One p file) ++ replicate 8 0) f
        (omega (arith, length-append (five_of (bodies_in One p file)) (replicate 8 0), l)) six ∙ joined))

  -- form 2 into form 1
  module _ (whole : length file ≡ file_length_of Two p) (output : length d ≡ file_length_of One p) where
    pub moved-one : (from at n : ℕ) (e g : List ℕ) → from ≡ body_place_of Two p 0 → at ≡ body_place_of One p 0 → n ≡ 327878 + p
        → e ≡ put_at d at (take n (drop from file))
        → g ≡ put_at e 0 (bytes_of (contents_in One p e)) → g ≡ file_of One (bodies_in Two p file)
    moved-one from at n e g l1 l2 l3 q t =
        let l = five-in Two p file whole in
        let w : at + (327878 + p) ≡ length d = omega (arith, length-is One p) in
        let five : e ≡ put_at d at (five_of (bodies_in Two p file)) = q ∙ ap (put_at d at) (five-taken Two p file whole from n l1 l3) in
        let joined : five_of (bodies_in Two p file) ≡ joined_of One (bodies_in Two p file)
        = sym (five-joined One (bodies_in Two p file) ∙ append-nil (five_of (bodies_in Two p file))) in
        t ∙ sealed-at (bodies_in Two p file) One p e (sized-in p file Two whole) (length-pak-in p file Two whole)
        (ap (λ (n : ℕ). drop n e) (sym l2) ∙ (ending d at (five_of (bodies_in Two p file)) e (omega (arith, l)) five ∙ joined))
