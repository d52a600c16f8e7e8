-- An accepted machine of the right sizes, part by part: general registers, system registers, PC, PSW and memory.
use Rattle.std.specs.Prelude.{Ok, Err}
use Prim.Native.Nat.{ℕ, ◌%◌, ◌^◌, ◌≤◌, ◌<◌}
use mathlib.Core.Bool.{true}
use mathlib.Core.List.{List}
use mathlib.Core.Path.{◌≡◌, refl}
use native.Mathlib.Omega.{arith}
use borrow.Author.Tests.{eqb-true, eq-eqb, leb-true, le-leb}
use lib.Dec.{eqb, leb}
use lib.ListN.{length, get_or}
use Rattle.word.proofs.Choices.{pick-both}
use Rattle.bus.specs.TimerLines.{device_length}
use Rattle.bus.proofs.Bytes.{Bytes}
use Rattle.bus.specs.Memory.{Memory, verdict_of}
use Rattle.refusal.specs.Number.{unless, then_of, Verdict}
use Rattle.refusal.specs.declared.Refusal as refusal
use Rattle.bus.proofs.Accepted.{unless-passed}
use Rattle.processor_machine.specs.State.{State}
use Rattle.processor_machine.specs.System.{psw_bits_of}
use Rattle.processor_machine.proofs.PswMask.{psw-bits-kept}
use Rattle.processor.specs.Acceptance.{is_even, is_format, even_ok, formats_ok, state_ok, acceptance_at, acceptance_of}
use Rattle.processor_laws.specs.Accepted.{Machine}

-- general register k may hold v
abbrev pub General : ℕ → ℕ → Type 0
General k v = (v < 2 ^ 32) × (k ≡ 0 → v ≡ 0)

-- a PSW format
abbrev pub Format : ℕ → Type 0
Format v = psw_bits_of v ≡ v

-- stored system register k may hold v
pub record System (k v : ℕ) : Type 0 where
  pub word : v < 2 ^ 32
  pub eipc : k ≡ 0 → v % 2 ≡ 0
  pub eipsw : k ≡ 1 → Format v
  pub fepc : k ≡ 2 → v % 2 ≡ 0
  pub fepsw : k ≡ 3 → Format v
  pub sr25 : k ≡ 5 → v % 2 ≡ 0
  pub sr31 : k ≡ 7 → v ≤ 2 ^ 31

pub record Generals (regs : List ℕ) : Type 0 where
  pub size : length regs ≡ 32
  pub each : (k : ℕ) → General k (get_or regs k 0)

pub record Systems (sys : List ℕ) : Type 0 where
  pub size : length sys ≡ 8
  pub each : (k : ℕ) → System k (get_or sys k 0)

-- an address of an instruction
pub record Address (pc : ℕ) : Type 0 where
  pub word : pc < 2 ^ 32
  pub even : pc % 2 ≡ 0

pub record Memories (m : Memory) : Type 0 where
  pub bytes : Bytes m
  pub device : length m.regs ≡ device_length
  pub verdict : verdict_of m ≡ (Ok tt)

pub record Good (s : State) (m : Memory) : Type 0 where
  pub generals : Generals s.regs
  pub systems : Systems s.sys
  pub address : Address s.pc
  pub format : Format s.psw
  pub memories : Memories m

then-accepted : (v later : Verdict) → then_of v later ≡ (Ok tt) → (v ≡ (Ok tt)) × (later ≡ (Ok tt))
then-accepted (Ok tt) later e = (refl, e)
then-accepted (Err n) later e =
    let z : ◌≡◌ {A = ℕ} 0 1 = cc in
    absurd (omega arith)

pub format-word : (v : ℕ) → Format v → v < 2 ^ 20
format-word v h = omega (arith, psw-bits-kept v)

-- what the tests of 5 say of the processor
pub record Passed (s : State) : Type 0 where
  pub zero_register : get_or s.regs 0 0 ≡ 0
  pub pc_even : s.pc % 2 ≡ 0
  pub eipc_even : get_or s.sys 0 0 % 2 ≡ 0
  pub fepc_even : get_or s.sys 2 0 % 2 ≡ 0
  pub sr25_even : get_or s.sys 5 0 % 2 ≡ 0
  pub psw-format : Format s.psw
  pub eipsw-format : Format (get_or s.sys 1 0)
  pub fepsw-format : Format (get_or s.sys 3 0)
  pub sr31_most : get_or s.sys 7 0 ≤ 2 ^ 31

module _ (s : State) where
  pub passed : state_ok s.regs s.sys s.pc s.psw ≡ true → Passed s
  unfolding state_ok even_ok formats_ok
  passed h =
      let a = pick-both (eqb (get_or s.regs 0 0) 0) _ h in
      let b = pick-both (even_ok s.sys s.pc) _ a.1 in
      let c = pick-both (formats_ok s.sys s.psw) (leb (get_or s.sys 7 0) (2 ^ 31)) b.1 in
      let d = pick-both (is_even s.pc) _ b.0 in
      let e = pick-both (is_even (get_or s.sys 0 0)) _ d.1 in
      let f = pick-both (is_even (get_or s.sys 2 0)) (is_even (get_or s.sys 5 0)) e.1 in
      let g = pick-both (is_format s.psw) _ c.0 in
      let i = pick-both (is_format (get_or s.sys 1 0)) (is_format (get_or s.sys 3 0)) g.1 in
      record {
        zero_register = eqb-true (get_or s.regs 0 0) 0 a.0;
        pc_even = eqb-true (s.pc % 2) 0 d.0;
        eipc_even = eqb-true (get_or s.sys 0 0 % 2) 0 e.0;
        fepc_even = eqb-true (get_or s.sys 2 0 % 2) 0 f.0;
        sr25_even = eqb-true (get_or s.sys 5 0 % 2) 0 f.1;
        psw-format = eqb-true (psw_bits_of s.psw) s.psw g.0;
        eipsw-format = eqb-true (psw_bits_of (get_or s.sys 1 0)) (get_or s.sys 1 0) i.0;
        fepsw-format = eqb-true (psw_bits_of (get_or s.sys 3 0)) (get_or s.sys 3 0) i.1;
        sr31_most = leb-true (get_or s.sys 7 0) (2 ^ 31) c.1;
      }

  pub passes : Passed s → state_ok s.regs s.sys s.pc s.psw ≡ true
  unfolding state_ok even_ok formats_ok
  passes p =
      simp (
        eq-eqb (get_or s.regs 0 0) 0 p.zero_register,
        eq-eqb (s.pc % 2) 0 p.pc_even,
        eq-eqb (get_or
            s.sys 0 0 % 2) 0 p.eipc_even,
        eq-eqb (get_or s.sys 2 0 % 2) 0 p.fepc_even,
        eq-eqb (get_or
            s.sys 5 0 % 2) 0 p.sr25_even,
        eq-eqb (psw_bits_of s.psw) s.psw p.psw-format,
        eq-eqb (psw_bits_of
            (get_or s.sys 1 0)) (get_or s.sys 1 0) p.eipsw-format,
        eq-eqb (psw_bits_of (get_or s.sys 3 0)) (get_or
            s.sys 3 0) p.fepsw-format,
        le-leb (get_or s.sys 7 0) (2 ^ 31) p.sr31_most,
      )

module _ (s : State) (m : Memory) where
  pub told : acceptance_of s m ≡ (Ok tt) → (verdict_of m ≡ (Ok tt)) × Passed s
  unfolding acceptance_at
  told h =
      let t = then-accepted (verdict_of m) (unless (state_ok s.regs s.sys s.pc s.psw) refusal.TheVariants.State (Ok tt)) h in
      (t.0, passed s (unless-passed (state_ok s.regs s.sys s.pc s.psw) refusal.TheVariants.State (Ok tt) t.1).0)

  pub tells : verdict_of m ≡ (Ok tt) → Passed s → acceptance_of s m ≡ (Ok tt)
  unfolding acceptance_at
  tells v p = rw v (rw (passes s p))

  pub machine-good : Machine s m → Good s m
  machine-good h =
      let z = h.sized in
      let t = told h.accepted in
      let p = t.1 in
      record {
        generals = record { size = z.general; each = λ k. (z.general_words k, λ e. rw e p.zero_register) };
        systems =
            record {
              size = z.system;
              each =
                  λ k.
                  record {
                    word = z.system_words k;
                    eipc = λ e. rw e p.eipc_even;
                    eipsw = λ e. rw e p.eipsw-format;
                    fepc = λ e. rw e p.fepc_even;
                    fepsw = λ e. rw e p.fepsw-format;
                    sr25 = λ e. rw e p.sr25_even;
                    sr31 = λ e. rw e p.sr31_most;
                  };
            };
        address = record { word = z.pc_word; even = p.pc_even };
        format = p.psw-format;
        memories =
            record {
              bytes = record { rom = z.rom_bytes; wram = z.wram-bytes; vram = z.vram-bytes; pak = z.pak_bytes };
              device = z.device;
              verdict = t.0;
            };
      }

  pub good-machine : Good s m → Machine s m
  good-machine g =
      let q = g.systems in
      let f : s.psw < 2 ^ 20 = format-word s.psw g.format in
      record {
        sized =
            record {
              general = g.generals.size;
              general_words = λ k. (g.generals.each k).0;
              system = q.size;
              system_words = λ k. (q.each k).word;
              pc_word = g.address.word;
              psw_word = omega arith;
              rom_bytes = g.memories.bytes.rom;
              wram-bytes = g.memories.bytes.wram;
              vram-bytes = g.memories.bytes.vram;
              pak_bytes = g.memories.bytes.pak;
              device = g.memories.device;
            };
        accepted =
            tells g.memories.verdict
            record {
              zero_register = (g.generals.each 0).1 refl;
              pc_even = g.address.even;
              eipc_even = (q.each 0).eipc refl;
              fepc_even = (q.each 2).fepc refl;
              sr25_even = (q.each 5).sr25 refl;
              psw-format = g.format;
              eipsw-format = (q.each 1).eipsw refl;
              fepsw-format = (q.each 3).fepsw refl;
              sr31_most = (q.each 7).sr31 refl;
            };
      }
