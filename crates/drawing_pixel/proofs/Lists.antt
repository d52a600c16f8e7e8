-- A list given by its numbers: its length, and what stands at an index. Assumes nothing.
use Prim.Native.Nat.{ℕ, zero, suc, ◌+◌, ◌<◌}
use native.Mathlib.Omega.{arith}
use mathlib.Core.Path.{◌≡◌, refl, ap, ◌∙◌}
use lib.ListN.{length, get_or}
use Rattle.drawing_pixel.specs.Lists.{list_of}

pub length-list : (n a : ℕ) (f : ℕ → ℕ) → length (list_of n a f) ≡ n
unfolding list_of
length-list zero a f = refl
length-list (suc n) a f = ap suc (length-list n (suc a) f)

from_list : (n a : ℕ) (f : ℕ → ℕ) (i : ℕ) → i < n → get_or (list_of n a f) i 0 ≡ f (a + i)
unfolding list_of
from_list zero a f i h = absurd (omega arith)
from_list (suc n) a f zero h = ap f (omega arith)
from_list (suc n) a f (suc i) h = from_list n (suc a) f i (omega arith) ∙ ap f (omega arith)

pub get_or-list : (n a : ℕ) (f : ℕ → ℕ) (i : ℕ) → i < n → get_or (list_of n 0 f) i 0 ≡ f i
get_or-list n a f i h = from_list n 0 f i h ∙ ap f (omega arith)
