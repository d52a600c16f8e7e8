-- Region 2: what an access reads there and what it leaves. The timer's registers stand at multiples of four, so an
-- access of any size is that of its first byte. Assumes nothing.
use Prim.Native.Nat.{ℕ, zero, suc, ◌+◌, ◌/◌, ◌%◌, ◌<◌, ◌≤◌}
use mathlib.Core.Bool.{true}
use mathlib.Core.Path.{◌≡◌, sym, ◌∙◌}
use native.Mathlib.Omega.{arith}
use borrow.Author.Tests.{ne_eqb}
use lib.ListN.{length}
use Rattle.word.specs.LittleEndian.{little_endian}
use Rattle.bus_timer.specs.Ports.{hardware_offset_of, port_byte_of, port_written_of}
use Rattle.bus_timer.specs.declared.TimerLines.{TimerLines}
use Rattle.bus.specs.TimerLines.{hardware_in, with_hardware}
use Rattle.bus.specs.Place.{region_of}
use Rattle.bus.specs.Memory.{Memory, byte_of, bytes_from, load_of, with_regs, put_byte, put_halfword, put_from, store_of, aligned_of, size_ok}
use Rattle.bus.proofs.Devices.{with-same}
use Rattle.bus.proofs.Sizes.{size-range, in_word}
use Rattle.bus.proofs.Places.{place-hardware, region-step, register-elsewhere}
use Rattle.bus.proofs.Halfwords.{byte-store}
use Rattle.bus.proofs.Accesses.{Idle, zero-bytes, idle-puts}

-- an offset that is not a multiple of four has no register
pub between-read : (h : TimerLines) (o : ℕ) → (o % 4 ≡ 0 → ⊥) → port_byte_of h o ≡ 0
unfolding port_byte_of
between-read h o n =
    let a : o ≡ 0x18 → ⊥ = λ e. n (rw e) in
    let b : o ≡ 0x1C → ⊥ = λ e. n (rw e) in
    let d : o ≡ 0x20 → ⊥ = λ e. n (rw e) in
    simp (ne_eqb o 0x18 a, ne_eqb o 0x1C b, ne_eqb o 0x20 d)

pub between-written : (h : TimerLines) (o v : ℕ) → (o % 4 ≡ 0 → ⊥) → port_written_of h o v ≡ h
unfolding port_written_of
between-written h o v n =
    let a : o ≡ 0x18 → ⊥ = λ e. n (rw e) in
    let b : o ≡ 0x1C → ⊥ = λ e. n (rw e) in
    let d : o ≡ 0x20 → ⊥ = λ e. n (rw e) in
    simp (ne_eqb o 0x18 a, ne_eqb o 0x1C b, ne_eqb o 0x20 d)

offset-four : (a : ℕ) → hardware_offset_of a % 4 ≡ a % 4
unfolding hardware_offset_of
offset-four a = omega arith

not-vip : (a : ℕ) → region_of a ≡ 2 → region_of a ≡ 0 → ⊥
not-vip a here e = omega arith

module _ (m : Memory) (a : ℕ) (here : region_of a ≡ 2) where
  pub port-byte : byte_of m a ≡ port_byte_of (hardware_in m.regs) (hardware_offset_of a)
  unfolding byte_of
  port-byte = rw (place-hardware (length m.rom) (length m.pak) a here)

  -- the byte v written at the address
  pub port-put : (v : ℕ) → put_byte m a v ≡ with_regs m (with_hardware m.regs (port_written_of (hardware_in m.regs) (hardware_offset_of a) (v % 256)))
  unfolding put_byte
  port-put v = rw (place-hardware (length m.rom) (length m.pak) a here)

  pub port-store : (v : ℕ) → store_of m 1 a v ≡ with_regs m (with_hardware m.regs (port_written_of (hardware_in m.regs) (hardware_offset_of a) (v % 256)))
  port-store v = byte-store m a v ∙ register-elsewhere _ a v (not-vip a here) ∙ port-put v

-- a byte that is not at a multiple of four reads 0 and takes nothing
between-byte : (m : Memory) (a : ℕ) → region_of a ≡ 2 → (a % 4 ≡ 0 → ⊥) → byte_of m a ≡ 0
between-byte m a here n =
    port-byte m a here ∙ between-read (hardware_in m.regs) (hardware_offset_of a) (λ e. n (sym (offset-four a) ∙ e))

between_put : (m : Memory) (a v : ℕ) → region_of a ≡ 2 → (a % 4 ≡ 0 → ⊥) → put_byte m a v ≡ m
between_put m a v here n =
    port-put m a here v
    ∙ rw (between-written (hardware_in m.regs) (hardware_offset_of a) (v % 256) (λ e. n (sym (offset-four a) ∙ e)), with-same m.regs)

-- an access from s on within its word is that of its first byte
port-bytes : (m : Memory) (s n : ℕ) → 0 < n → region_of s ≡ 2 → s % 4 + n ≤ 4 → little_endian (bytes_from m s n) ≡ byte_of m s
port-bytes m s zero some here near = absurd (omega arith)
port-bytes m s (suc n) some here near =
    let e : (j : ℕ) → s + (1 + j) ≡ s + 1 + j = λ j. omega arith in
    let rest : (j : ℕ) → j < n → byte_of m (s + 1 + j) ≡ 0 =
    λ j h. rw (e j) at (between-byte m (s + (1 + j)) (region-step s (1 + j) (omega arith) ∙ here) (λ z. omega arith)) in
    rw (zero-bytes m (s + 1) n rest) (omega arith)

port-puts : (m : Memory) (s n v : ℕ) → 0 < n → region_of s ≡ 2 → s % 4 + n ≤ 4 → put_from m s n v ≡ store_of m 1 s v
unfolding put_halfword
port-puts m s zero v some here near = absurd (omega arith)
port-puts m s (suc zero) v some here near = sym (byte-store m s v)
port-puts m s (suc (suc n)) v some here near =
    let idle : (j : ℕ) → j < n → Idle (s + 2 + j) =
    λ j h n x.
    let e : s + (2 + j) ≡ s + 2 + j = omega arith in
    let there : region_of (s + 2 + j) ≡ 2 = rw e at (region-step s (2 + j) (omega arith) ∙ here) in
    (between_put n (s + 2 + j) x there (λ z. omega arith), register-elsewhere n (s + 2 + j) x (not-vip (s + 2 + j) there)) in
    let second = between_put (put_byte m s v) (s + 1) (v / 256) (region-step s 1 (omega arith) ∙ here) (λ z. omega arith) in
    idle-puts (put_halfword m s v) (s + 2) n (v / 65536) idle ∙ rw second (sym (byte-store m s v))

-- over the size
module _ (m : Memory) (size a : ℕ) (ok : size_ok size ≡ true) (here : region_of (aligned_of size a) ≡ 2) where
  pub port-load : load_of m size a ≡ byte_of m (aligned_of size a)
  unfolding load_of
  port-load = port-bytes m (aligned_of size a) size (size-range size ok).0 here (in_word size a ok)

  pub port-stores : (v : ℕ) → store_of m size a v ≡ store_of m 1 (aligned_of size a) v
  unfolding store_of
  port-stores v = port-puts m (aligned_of size a) size v (size-range size ok).0 here (in_word size a ok)
