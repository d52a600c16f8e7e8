-- The fields of a halfword that was put together, and a halfword put together from its own fields. Assumes nothing.
use Prim.Native.Nat.{ℕ, ◌+◌, ◌-◌, ◌*◌, ◌/◌, ◌%◌, ◌≤◌, ◌<◌}
use mathlib.Core.Path.{◌≡◌, ◌∙◌, ap}
use native.Mathlib.Omega.{arith}
use Rattle.processor_encode.specs.Place.{placed, branch_placed, jump_placed, low_half, sub_opcode}
use Rattle.processor_encode.specs.Unused.{without}

module _ (n b a : ℕ) (hn : n < 64) (hb : b < 32) where
  pub placed-opcode : placed n b a / 1024 ≡ n
  placed-opcode = omega arith

  pub placed-middle : placed n b a / 32 % 32 ≡ b
  placed-middle =
      let q : placed n b a / 32 ≡ n * 32 + b = omega arith in
      omega arith

  pub placed-low : placed n b a % 32 ≡ a % 32
  placed-low = omega arith

  pub placed-half : placed n b a < 65536
  placed-half = omega arith

pub placed-again : (n f : ℕ) → n < 64 → f / 1024 ≡ n → placed n (f / 32 % 32) (f % 32) ≡ f
placed-again n f h e = omega arith

-- a number in two parts, without a part of the second
take-away : (k r u f z : ℕ) → k + z ≡ f → r + u ≡ z → k + r ≡ f - u
take-away k r u f z e h = omega arith

bit-four : (f : ℕ) → f % 16 + f / 16 % 2 * 16 ≡ f % 32
bit-four f =
    let e : f / 16 / 2 ≡ f / 32 = omega arith in
    omega arith

bit-zero : (f : ℕ) → f % 512 / 2 * 2 + f % 2 ≡ f % 512
bit-zero f =
    let e : f % 512 % 2 ≡ f % 2 = omega arith in
    omega arith

pub condition-again : (n f : ℕ) → n < 64 → f / 1024 ≡ n → placed n (f / 32 % 32) (f % 16) ≡ without 4 1 f
condition-again n f h e =
    let small : f % 16 % 32 ≡ f % 16 = omega arith in
    let again : f % 32 % 32 ≡ f % 32 = omega arith in
    take-away (n % 64 * 1024 + f / 32 % 32 % 32 * 32) (f % 16 % 32) (f / 16 % 2 * 16) f (f % 32 % 32) (placed-again n f h e)
    (rw (small, again) (bit-four f))

-- the halfword of a branch
module _ (a d : ℕ) (ha : a < 16) where
  pub branch-opcode : (32 ≤ branch_placed a d / 1024) × (branch_placed a d / 1024 < 40)
  branch-opcode = (omega arith, omega arith)

  pub branch-condition : branch_placed a d / 512 % 16 ≡ a
  branch-condition =
      let q : branch_placed a d / 512 ≡ 64 + a = omega arith in
      omega arith

  pub branch-offset : d % 2 ≡ 0 → branch_placed a d % 512 / 2 * 2 ≡ d % 512
  branch-offset e =
      let q : branch_placed a d % 512 ≡ d % 512 = omega arith in
      omega arith

bit-cleared : (f : ℕ) → f - f % 2 ≡ without 0 1 f
bit-cleared f = omega arith

pub branch-again : (f d : ℕ) → 32 ≤ f / 1024 → f / 1024 < 40 → d % 512 ≡ f % 512 / 2 * 2 → branch_placed (f / 512 % 16) d ≡ without 0 1 f
branch-again f d h k e =
    let high : f / 512 ≡ 64 + f / 512 % 16 = omega arith in
    let whole : 32768 + f / 512 % 16 % 16 * 512 + f % 512 ≡ f = omega arith in
    let even : 32768 + f / 512 % 16 % 16 * 512 + f % 512 / 2 * 2 ≡ f - f % 2 =
    take-away (32768 + f / 512 % 16 % 16 * 512) (f % 512 / 2 * 2) (f % 2) f (f % 512) whole (bit-zero f) in
    ap (λ (z : ℕ). 32768 + f / 512 % 16 % 16 * 512 + z) e ∙ even ∙ bit-cleared f

-- the two halfwords of a jump
module _ (n d : ℕ) (h : n < 64) where
  pub jump-opcode : jump_placed n d / 1024 ≡ n
  jump-opcode = omega arith

  pub jump-offset : d % 2 ≡ 0 → jump_placed n d % 1024 * 65536 + low_half d / 2 * 2 ≡ d % 67108864
  jump-offset e =
      let high : jump_placed n d % 1024 ≡ d / 65536 % 1024 = omega arith in
      let low : low_half d / 2 * 2 ≡ low_half d = omega arith in
      omega arith

module _ (n d f s : ℕ) (h : n < 64) (hs : s < 65536) (e : f / 1024 ≡ n) (back : d % 67108864 ≡ f % 1024 * 65536 + s / 2 * 2) where
  pub jump-first : jump_placed n d ≡ f
  jump-first =
      let high : d / 65536 % 1024 ≡ f % 1024 = omega arith in
      omega arith

pub jump-second : (d f s : ℕ) → s < 65536 → d % 67108864 ≡ f % 1024 * 65536 + s / 2 * 2 → low_half d ≡ without 0 1 s
jump-second d f s hs back =
    let low : d % 65536 ≡ s / 2 * 2 = omega arith in
    omega arith

pub sub-again : (m s : ℕ) → m < 64 → s / 1024 ≡ m → sub_opcode (64 + m) ≡ without 0 10 s
sub-again m s h e = omega arith
