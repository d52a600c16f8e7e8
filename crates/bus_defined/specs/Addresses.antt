-- The same over addresses, and what follows for loads: the statements. Their proofs are `undefined-exactly`,
-- `undefined-reads-zero` and `half-mask` in proofs/Addresses.
use Rattle.std.specs.Prelude.{ℕ, ◌-◌, ◌/◌, ◌%◌, ◌^◌, ◌≤◌, false, ◌⊎◌, ◌≡◌}
use Rattle.word.specs.Choose.{member}
use Rattle.bus.specs.Memory.{Memory, byte_of}
use Rattle.bus_defined.specs.Defined.{defined_of, undefined_of, register_addresses}

-- byte v of the VIP is in one of its ranges with nothing behind them
abbrev pub Unmapped : ℕ → Type 0
Unmapped v = ((0x40000 ≤ v) × (v ≤ 0x5DFFF)) ⊎ ((0x60000 ≤ v) × (v ≤ 0x77FFF))

-- byte v of the VIP is in its register range, and 000 lists no register there
abbrev pub Unlisted : ℕ → Type 0
Unlisted v = (0x5E000 ≤ v) × (v ≤ 0x5FFFF) × (member (v - v % 2) register_addresses ≡ false)

-- bits 24 to 26 are 0, and the low 19 bits name an undefined byte of the VIP
abbrev pub UndefinedAt : ℕ → Type 0
UndefinedAt a = (a / 2 ^ 24 % 8 ≡ 0) × (Unmapped (a % 2 ^ 19) ⊎ Unlisted (a % 2 ^ 19))

-- those addresses are undefined, and no others
abbrev pub UndefinedExactly : Type 0
UndefinedExactly =
    (m : Memory) (a : ℕ) → (defined_of m a ≡ false → UndefinedAt a) × (UndefinedAt a → defined_of m a ≡ false)

-- "values stay as in document 01": an undefined byte reads 0
abbrev pub UndefinedReadsZero : Type 0
UndefinedReadsZero = (m : Memory) (a : ℕ) → defined_of m a ≡ false → byte_of m a ≡ 0

-- the two bytes of a halfword are of one kind
abbrev pub HalfMask : Type 0
HalfMask = (m : Memory) (a : ℕ) → (undefined_of m 2 a ≡ 0) ⊎ (undefined_of m 2 a ≡ 3)
