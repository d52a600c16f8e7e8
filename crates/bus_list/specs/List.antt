-- A list of accesses (paper 02, W7: "Up to 256 bus accesses: address, size of 1, 2 or 4, read or write, value"): how it
-- stands in the caller's list of bytes, what its accesses leave when they are made in order, and the condition of
-- refusal 11. An access has 20 bytes, five little-endian words: address, size, write (0 a read, any other number a
-- write), value, undefined.
use Rattle.std.specs.Prelude.{ℕ, zero, suc, ◌+◌, ◌*◌, ◌/◌, Bool, true, false, List, eqb, leb, length}
use Rattle.word.specs.Choose.{pick}
use Rattle.word.specs.LittleEndian.{word_at, put_word}
use Rattle.bus.specs.Memory.{Memory, size_ok, load_of, store_of}
use Rattle.bus_defined.specs.Defined.{undefined_of}

-- how many accesses a list has; bytes that follow the last whole one are left as they are
unfoldable pub count_of : List ℕ → ℕ
count_of xs = length xs / 20

-- the words of access k, counted from 0
abbrev pub address_at : List ℕ → ℕ → ℕ
address_at xs k = word_at xs (20 * k)

abbrev pub size_at : List ℕ → ℕ → ℕ
size_at xs k = word_at xs (20 * k + 4)

abbrev pub write_at : List ℕ → ℕ → ℕ
write_at xs k = word_at xs (20 * k + 8)

abbrev pub value_at : List ℕ → ℕ → ℕ
value_at xs k = word_at xs (20 * k + 12)

-- the list with a read's answer in the last two words of access k: its value, and the mask of its undefined bytes (W2)
unfoldable pub answered_of : List ℕ → ℕ → ℕ → ℕ → List ℕ
answered_of xs k value undefined = put_word (put_word xs (20 * k + 12) value) (20 * k + 16) undefined

-- memory, registers among it, and the list
pub record Made : Type 0 where
  pub memory : Memory
  pub list : List ℕ

abbrev pub made_of : Memory → List ℕ → Made
made_of m xs = record { memory = m; list = xs }

-- access k: a read is answered in the list and changes nothing else; a write changes memory and leaves the list
unfoldable pub access_of : ℕ → Memory → List ℕ → Made
access_of k m xs =
    let a = address_at xs k in
    let size = size_at xs k in
    pick (eqb (write_at xs k) 0) (made_of m (answered_of xs k (load_of m size a) (undefined_of m size a)))
    (made_of (store_of m size a (value_at xs k)) xs)

-- n accesses, from access k on, in order
unfoldable pub accesses_of : ℕ → ℕ → Memory → List ℕ → Made
accesses_of zero k m xs = made_of m xs
accesses_of (suc n) k m xs =
    let t = access_of k m xs in
    accesses_of n (k + 1) t.memory t.list

-- whether each of n accesses from access k on has a size of 1, 2 or 4
unfoldable pub sizes_ok : ℕ → ℕ → List ℕ → Bool
sizes_ok zero k xs = true
sizes_ok (suc n) k xs = pick (size_ok (size_at xs k)) (sizes_ok n (k + 1) xs) false

-- 11: not "more than 256, or a size that isn't 1, 2 or 4"
unfoldable pub list_ok : List ℕ → Bool
list_ok xs = pick (leb (count_of xs) 256) (sizes_ok (count_of xs) 0 xs) false
