-- The device registers, put together and taken apart. Assumes nothing.
use Prim.Native.Nat.{ℕ, zero, suc, ◌+◌, ◌-◌, ◌<◌, ◌≤◌}
use mathlib.Core.Bool.{false}
use mathlib.Core.List.{List, [], ◌∷◌, ◌++◌}
use mathlib.Core.Path.{◌≡◌, refl, sym, ap, ◌∙◌}
use native.Mathlib.Decide.{dec_lt}
use native.Mathlib.Omega.{arith}
use lib.ListN.{length, get_or, set, length-set, length-append, get_or-append, get_or-eq_default}
use lib.Seq.{get_or-set_same, get_or-set_other, set_out, set-get_or}
use Rattle.word.specs.Choose.{pick}
use Rattle.bus_timer.specs.Ports.{hardware_ok, control_bits_of}
use Rattle.bus_timer.proofs.Accepting.{Fits}
use Rattle.bus_timer.specs.declared.TimerLines.{TimerLines}
use Rattle.bus.specs.Registers.{within_from, drawing_ok, registers_from, drawing_in}
use Rattle.bus.specs.TimerLines.{device_length, lines_place}
use Rattle.bus.specs.TimerLines.{hardware_in, hardware_halfwords_of, set_from, with_hardware, device_of, registers_ok}

-- the registers from k on, one by one
from_tail : (x : ℕ) (d : List ℕ) (k n : ℕ) → registers_from (x ∷ d) (suc k) n ≡ registers_from d k n
from_tail x d k zero = refl
from_tail x d k (suc n) = ap (λ (l : List ℕ). get_or d k 0 ∷ l) (from_tail x d (suc k) n)

from-whole : (d : List ℕ) (n : ℕ) → length d ≡ n → registers_from d 0 n ≡ d
from-whole [] zero h = refl
from-whole [] (suc n) h = absurd (omega arith)
from-whole (x ∷ d) zero h = absurd (omega arith)
from-whole (x ∷ d) (suc n) h = ap (λ (l : List ℕ). x ∷ l) (from_tail x d 0 n ∙ from-whole d n (omega arith))

pub from-length : (d : List ℕ) (k n : ℕ) → length (registers_from d k n) ≡ n
from-length d k zero = refl
from-length d k (suc n) = ap suc (from-length d (suc k) n)

pub from-entry : (d : List ℕ) (k n j : ℕ) → j < n → get_or (registers_from d k n) j 0 ≡ get_or d (k + j) 0
from-entry d k zero j less = absurd (omega arith)
from-entry d k (suc n) zero less =
    let e : k + 0 ≡ k = omega arith in
    rw e
from-entry d k (suc n) (suc j) less =
    let e : suc k + j ≡ k + suc j = omega arith in
    from-entry d (suc k) n j (omega arith) ∙ rw e

from_first : (d : List ℕ) (n j : ℕ) → j < n → get_or (registers_from d 0 n) j 0 ≡ get_or d j 0
from_first d n j less =
    let e : 0 + j ≡ j = omega arith in
    rw e at (from-entry d 0 n j less)

pub drawing-length : (d : List ℕ) → length (drawing_in d) ≡ 13
unfolding drawing_in
drawing-length d = from-length d 0 13

pub device-length : (d : List ℕ) (h : TimerLines) → length (device_of d h) ≡ device_length
unfolding device_of
device-length d h = simp length-append

-- drawing registers that agree are within their widths alike
within_same : (d e : List ℕ) → ((k : ℕ) → k < 13 → get_or d k 0 ≡ get_or e k 0) → (k n : ℕ) → k + n ≤ 13
    → within_from d k n ≡ within_from e k n
within_same d e p k zero less = refl
within_same d e p k (suc n) less = rw (p k (omega arith), within_same d e p (k + 1) n (omega arith))

pub drawing-ok-same : (d e : List ℕ) → ((k : ℕ) → k < 13 → get_or d k 0 ≡ get_or e k 0) → drawing_ok d ≡ drawing_ok e
unfolding drawing_ok
drawing-ok-same d e p = within_same d e p 0 13 (omega arith)

pub drawing-register : (d : List ℕ) (k : ℕ) → k < 13 → get_or (drawing_in d) k 0 ≡ get_or d k 0
unfolding drawing_in
drawing-register d k less = from_first d 13 k less

-- refusal 5 of the drawing registers among the device registers
pub drawing-ok-in : (d : List ℕ) → drawing_ok (drawing_in d) ≡ drawing_ok d
drawing-ok-in d = drawing-ok-same (drawing_in d) d (drawing-register d)

-- what was put together, taken apart
module _ (d : List ℕ) (h : TimerLines) where
  pub hardware-device : hardware_in (device_of d h) ≡ h
  unfolding hardware_in device_of
  hardware-device = refl

  pub device-register : (k : ℕ) → k < 13 → get_or (device_of d h) k 0 ≡ get_or d k 0
  unfolding device_of
  device-register k less =
      get_or-append (registers_from d 0 13) (hardware_halfwords_of h) 0 k (omega (arith, from-length d 0 13))
      ∙ from_first d 13 k less

  -- refusal 5 of both records
  pub device-ok : registers_ok (device_of d h) ≡ pick (drawing_ok d) (hardware_ok h) false
  unfolding registers_ok
  device-ok = rw (drawing-ok-same (device_of d h) d device-register, hardware-device)

-- what was taken apart, put together
pub parts-ok : (d : List ℕ) → registers_ok (device_of (drawing_in d) (hardware_in d)) ≡ registers_ok d
unfolding registers_ok
parts-ok d = device-ok (drawing_in d) (hardware_in d) ∙ rw (drawing-ok-in d)

pub device-whole : (d : List ℕ) → length d ≡ device_length → device_of (drawing_in d) (hardware_in d) ≡ d
unfolding device_of hardware_in drawing_in
device-whole d l = from-whole d device_length l

-- an entry that was set, also past the end
set-each : (P : ℕ → Type 0) (d : List ℕ) (k x : ℕ) → P x → P 0 → P (get_or (set d k x) k 0)
set-each P d k x given none =
    elim (dec_lt k (length d)) [
      | yes inside ↦ rw (get_or-set_same d k x 0 inside) given
      | no outside ↦ rw (set_out d k x (omega arith), get_or-eq_default d 0 {n = k} (omega arith)) none
    ]

-- registers with others from k on: those before k stay, those from k on are the others, or none past the end
set-from-before : (d : List ℕ) (k : ℕ) (xs : List ℕ) (j : ℕ) → j < k → get_or (set_from d k xs) j 0 ≡ get_or d j 0
set-from-before d k [] j less = refl
set-from-before d k (x ∷ xs) j less =
    set-from-before (set d k x) (suc k) xs j (omega arith) ∙ get_or-set_other d k j x 0 (λ e. omega arith)

set-from-each : (P : ℕ → Type 0) (d : List ℕ) (k : ℕ) (xs : List ℕ) (j : ℕ) → j < length xs → P (get_or xs j 0) → P 0
    → P (get_or (set_from d k xs) (k + j) 0)
set-from-each P d k [] j less given none = absurd (omega arith)
set-from-each P d k (x ∷ xs) zero less given none =
    let e : k + 0 ≡ k = omega arith in
    rw (e, set-from-before (set d k x) (suc k) xs k (omega arith)) (set-each P d k x given none)
set-from-each P d k (x ∷ xs) (suc j) less given none =
    let e : k + suc j ≡ suc k + j = omega arith in
    rw e (set-from-each P (set d k x) (suc k) xs j (omega arith) given none)

set-from-length : (d : List ℕ) (k : ℕ) (xs : List ℕ) → length (set_from d k xs) ≡ length d
set-from-length d k [] = refl
set-from-length d k (x ∷ xs) = set-from-length (set d k x) (suc k) xs ∙ length-set d k x

set-from-same : (d : List ℕ) (k n : ℕ) → set_from d k (registers_from d k n) ≡ d
set-from-same d k zero = refl
set-from-same d k (suc n) =
    ap (λ (e : List ℕ). set_from e (suc k) (registers_from d (suc k) n)) (set-get_or d k 0) ∙ set-from-same d (suc k) n

-- the registers behind one that is set
from-set : (d : List ℕ) (k x j n : ℕ) → k < j → registers_from (set d k x) j n ≡ registers_from d j n
from-set d k x j zero less = refl
from-set d k x j (suc n) less = rw (get_or-set_other d k j x 0 (λ e. omega arith), from-set d k x (suc j) n (omega arith))

-- the lines and the timer are what stands behind the drawing registers
abbrev behind_of : List ℕ → List ℕ
behind_of d = registers_from d lines_place (device_length - lines_place)

hardware-behind : (d : List ℕ) → hardware_in d ≡ hardware_in (registers_from [] 0 13 ++ behind_of d)
unfolding hardware_in
hardware-behind d = refl

pub set-hardware : (d : List ℕ) (k x : ℕ) → k < 13 → hardware_in (set d k x) ≡ hardware_in d
set-hardware d k x less =
    hardware-behind (set d k x)
    ∙ (ap (λ (xs : List ℕ). hardware_in (registers_from [] 0 13 ++ xs)) (from-set d k x lines_place (device_length - lines_place) less)
    ∙ sym (hardware-behind d))

-- other lines and another timer leave the drawing registers, and are what is there then
module _ (d : List ℕ) (h : TimerLines) where
  pub with-register : (k : ℕ) → k < 13 → get_or (with_hardware d h) k 0 ≡ get_or d k 0
  unfolding with_hardware
  with-register k less = set-from-before d lines_place (hardware_halfwords_of h) k less

  -- also where the list is too short for them
  with_each : (P : ℕ → Type 0) (j : ℕ) → j < length (hardware_halfwords_of h) → P (get_or (hardware_halfwords_of h) j 0) → P 0
      → P (get_or (with_hardware d h) (lines_place + j) 0)
  unfolding with_hardware
  with_each P j less given none = set-from-each P d lines_place (hardware_halfwords_of h) j less given none

  pub with-fits : Fits h → Fits (hardware_in (with_hardware d h))
  unfolding hardware_in control_bits_of
  with-fits f =
      record {
        lines = with_each (λ x. x < 32) 0 (omega arith) f.lines (omega arith);
        control = with_each (λ x. control_bits_of x ≡ x) 3 (omega arith) f.control refl;
      }

  -- where it is long enough
  whole_with : hardware_in (with_hardware (device_of (drawing_in d) (hardware_in d)) h) ≡ h
  unfolding hardware_in with_hardware device_of
  whole_with = refl

  pub hardware-with : length d ≡ device_length → hardware_in (with_hardware d h) ≡ h
  hardware-with l = rw (device-whole d l) at whole_with

  pub with-length : length (with_hardware d h) ≡ length d
  unfolding with_hardware
  with-length = set-from-length d lines_place (hardware_halfwords_of h)

-- what is there, put there again
pub with-same : (d : List ℕ) → with_hardware d (hardware_in d) ≡ d
unfolding with_hardware hardware_in
with-same d = set-from-same d lines_place (device_length - lines_place)

-- for the code's tests
pub ruleset parts = (device-ok, parts-ok)
