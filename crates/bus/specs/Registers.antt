-- The 13 drawing registers: SPT0 to SPT3, GPLT0 to GPLT3, JPLT0 to JPLT3 and BKCOL. Paper 01, "Addresses" (widths) and
-- refusal 5; paper 000, "I/O Registers" (addresses). They are the first of the device registers, which TimerLines has;
-- the drawing calls are given these 13 alone.
use Rattle.std.specs.Prelude.{ℕ, zero, suc, ◌+◌, ◌%◌, ◌^◌, Bool, true, false, List, [], ◌∷◌, ◌++◌, get_or, ltb}
use Rattle.word.specs.Choose.{pick}

-- SPT n
unfoldable pub spt_of : List ℕ → ℕ → ℕ
spt_of d n = get_or d n 0

-- GPLT n
unfoldable pub gplt_of : List ℕ → ℕ → ℕ
gplt_of d n = get_or d (4 + n) 0

-- JPLT n
unfoldable pub jplt_of : List ℕ → ℕ → ℕ
jplt_of d n = get_or d (8 + n) 0

-- BKCOL
unfoldable pub bkcol_of : List ℕ → ℕ
bkcol_of d = get_or d 12 0

-- n halfword addresses, from one on
abbrev pub halfwords_from : ℕ → ℕ → List ℕ
halfwords_from a zero = []
halfwords_from a (suc n) = a ∷ halfwords_from (a + 2) n

-- where each register stands among the VIP's addresses, in the order of the list: SPT0 to SPT3; the others
abbrev pub drawing_addresses : List ℕ
drawing_addresses = halfwords_from 0x5F848 4 ++ halfwords_from 0x5F860 9

-- VER, and what it reads
abbrev pub version_address : ℕ
version_address = 0x5F844

abbrev pub version : ℕ
version = 2

-- the registers of 000 that read 0 and ignore writes: INTPND, INTENB, INTCLR; DPSTTS, DPCTRL, BRTA, BRTB, BRTC, REST;
-- FRMCYC, CTA; XPSTTS, XPCTRL
abbrev pub silent_addresses : List ℕ
silent_addresses =
    halfwords_from 0x5F800 3 ++ (halfwords_from 0x5F820 6 ++ (halfwords_from 0x5F82E 2 ++ halfwords_from 0x5F840 2))

-- how many bits register k has: SPT 10, GPLT and JPLT 8, BKCOL 2
abbrev pub width_of : ℕ → ℕ
width_of k = pick (ltb k 4) 10 (pick (ltb k 12) 8 2)

-- what register k keeps of a value written to it: that many low bits
abbrev pub kept_of : ℕ → ℕ → ℕ
kept_of k v = v % 2 ^ width_of k

-- whether each of the n registers from k on is within its width
abbrev pub within_from : List ℕ → ℕ → ℕ → Bool
within_from d k zero = true
within_from d k (suc n) = pick (ltb (get_or d k 0) (2 ^ width_of k)) (within_from d (k + 1) n) false

-- 5, of the drawing registers: none of the 13 exceeds its width
unfoldable pub drawing_ok : List ℕ → Bool
drawing_ok d = within_from d 0 13

-- the n registers from k on
abbrev pub registers_from : List ℕ → ℕ → ℕ → List ℕ
registers_from d k zero = []
registers_from d k (suc n) = get_or d k 0 ∷ registers_from d (suc k) n

-- the drawing registers of the device registers
unfoldable pub drawing_in : List ℕ → List ℕ
drawing_in d = registers_from d 0 13
