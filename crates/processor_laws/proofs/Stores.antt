-- What a store leaves is a memory as before, and what a load reads fits a word: the bus's laws, for the widths of the
-- processor's instructions.
use Prim.Native.Nat.{ℕ, ◌^◌, ◌<◌}
use mathlib.Core.Path.{◌∙◌}
use native.Mathlib.Omega.{arith}
use Rattle.word.proofs.Extended.{extend-word}
use Rattle.bus.specs.Memory.{Memory, load_of}
use Rattle.bus.proofs.Kept.{store-shape, shape-accepted}
use Rattle.bus.proofs.Bytes.{Bytes, store_bytes, load_fits}
use Rattle.word.specs.declared.width.Width.{Width}
use Rattle.word.specs.declared.width.Width.TheVariants.{Byte, Half, Word}
use Rattle.processor_execute.specs.Transfer.{size_of, loaded_of, input_of, stored_of}
use Rattle.processor_laws.proofs.Invariant.{Memories}

pub stored-memories : (m : Memory) (w : Width) (a v : ℕ) → Memories m → Memories (stored_of m w a v)
stored-memories m w a v h =
    let n = stored_of m w a v in
    let p = store-shape m (size_of w) a v in
    record {
      bytes = store_bytes m (size_of w) a v h.bytes;
      device = p.same_regs ∙ h.device;
      verdict = shape-accepted m n p h.verdict;
    }

pub loaded_word : (m : Memory) (w : Width) (a : ℕ) → Bytes m → loaded_of m w a < 2 ^ 32
loaded_word m Byte a h = extend-word 128 (load_of m 1 a) (omega arith) (load_fits m h 1 a)
loaded_word m Half a h = extend-word 32768 (load_of m 2 a) (omega arith) (load_fits m h 2 a)
loaded_word m Word a h = load_fits m h 4 a

pub input-word : (m : Memory) (w : Width) (a : ℕ) → Bytes m → input_of m w a < 2 ^ 32
input-word m Byte a h = omega (arith, load_fits m h 1 a)
input-word m Half a h = omega (arith, load_fits m h 2 a)
input-word m Word a h = load_fits m h 4 a
