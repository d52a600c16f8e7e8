-- A file whose bodies are bytes has bytes throughout: the contents are written as bytes. Assumes nothing.
use Prim.Native.Nat.{ℕ, zero, suc, ◌<◌}
use mathlib.Core.Bool.{Bool, true, false}
use mathlib.Core.List.{List, [], ◌∷◌, ◌++◌}
use native.Mathlib.Omega.{arith}
use lib.ListN.{length, get_or, take, drop, replicate}
use Rattle.word.specs.Choose.{pick}
use Rattle.saved_bytes.specs.Numbers.{bytes_of}
use Rattle.saved_bytes.proofs.Reading.{Under}
use Rattle.saved_layout.specs.Layout.{contents_of, body_place_of, last_place_of}
use Rattle.saved_layout.specs.File.{Bodies, sums_of, joined_of, file_of, bodies_in}
use Rattle.saved_layout.specs.declared.Form.TheVariants.{Two}
use Rattle.saved_salvage.specs.Keep.{or_zeros, processor_reset, kept_bodies_of}
use Rattle.saved_salvage.specs.declared.Kept.{Kept}

by_index : (n : ℕ) → 0 < n → (xs : List ℕ) → Under n xs → (k : ℕ) → get_or xs k 0 < n
by_index n h [] u k = h
by_index n h (x ∷ xs) u zero = u.0
by_index n h (x ∷ xs) u (suc k) = by_index n h xs u.1 k

under-append : (n : ℕ) (a b : List ℕ) → Under n a → Under n b → Under n (a ++ b)
under-append n [] b u v = v
under-append n (x ∷ a) b u v = (u.0, under-append n a b u.1 v)

under-take : (n k : ℕ) (xs : List ℕ) → Under n xs → Under n (take k xs)
under-take n zero xs u = tt
under-take n (suc k) [] u = tt
under-take n (suc k) (x ∷ xs) u = (u.0, under-take n k xs u.1)

under_drop : (n k : ℕ) (xs : List ℕ) → Under n xs → Under n (drop k xs)
under_drop n zero xs u = u
under_drop n (suc k) [] u = tt
under_drop n (suc k) (x ∷ xs) u = under_drop n k xs u.1

under-zeros : (n k : ℕ) → 0 < n → Under n (replicate k 0)
under-zeros n zero h = tt
under-zeros n (suc k) h = (h, under-zeros n k h)

under-bytes : (hs : List ℕ) → Under 256 (bytes_of hs)
unfolding bytes_of
under-bytes [] = tt
under-bytes (h ∷ hs) = (omega arith, (omega arith, under-bytes hs))

under-kept : (k : Bool) (body : List ℕ) → Under 256 body → Under 256 (or_zeros k body)
under-kept true body u = u
under-kept false body u = under-zeros 256 (length body) (omega arith)

under-processor : (k : Bool) (body : List ℕ) → Under 256 body → Under 256 (pick k body processor_reset)
unfolding processor_reset
under-processor true body u = u
under-processor false body u = under-bytes _

module _ (b : Bodies) where
  joined-under : Under 256 b.processor → Under 256 b.drawing → Under 256 b.wram → Under 256 b.vram → Under 256 b.pak
      → Under 256 b.hardware → Under 256 (joined_of Two b)
  unfolding joined_of
  joined-under p d w v k h =
      under-append 256 b.processor (b.drawing ++ (b.wram ++ (b.vram ++ (b.pak ++ b.hardware)))) p
      (under-append 256 b.drawing (b.wram ++ (b.vram ++ (b.pak ++ b.hardware))) d
      (under-append 256 b.wram (b.vram ++ (b.pak ++ b.hardware)) w
      (under-append 256 b.vram (b.pak ++ b.hardware) v (under-append 256 b.pak b.hardware k h))))

  file-bytes : Under 256 (joined_of Two b) → (i : ℕ) → get_or (file_of Two b) i 0 < 256
  unfolding file_of
  file-bytes u =
      let contents = contents_of Two (length b.pak) (sums_of b) in
      by_index 256 (omega arith) (bytes_of contents ++ joined_of Two b)
      (under-append 256 (bytes_of contents) (joined_of Two b) (under-bytes contents) u)

module _ (k : Kept) (pak : ℕ) (file : List ℕ) (u : Under 256 file) where
  part : (size at : ℕ) → Under 256 (take size (drop at file))
  part size at = under-take 256 size (drop at file) (under_drop 256 at file u)

  joined_bytes : Under 256 (joined_of Two (kept_bodies_of k (bodies_in Two pak file)))
  unfolding kept_bodies_of bodies_in
  joined_bytes =
      let b = bodies_in Two pak file in
      joined-under (kept_bodies_of k b) (under-processor k.processor b.processor (part 172 (body_place_of Two pak 0)))
      (under-kept k.drawing b.drawing (part 26 (body_place_of Two pak 1)))
      (under-kept k.wram b.wram (part 65536 (body_place_of Two pak 2)))
      (under-kept k.vram b.vram (part 262144 (body_place_of Two pak 3)))
      (under-kept k.pak b.pak (part pak (body_place_of Two pak 4)))
      (under-kept k.hardware b.hardware (part 8 (last_place_of pak)))

  pub output-bytes : (i : ℕ) → get_or (file_of Two (kept_bodies_of k (bodies_in Two pak file))) i 0 < 256
  output-bytes = file-bytes (kept_bodies_of k (bodies_in Two pak file)) joined_bytes
