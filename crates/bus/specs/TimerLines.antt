-- The device registers, a list of 17 halfwords: the 13 drawing registers, then the request lines and the timer's count,
-- reload and control bits (paper 02, W6), with what refusal 5 asks of them.
use Rattle.std.specs.Prelude.{ℕ, suc, Bool, false, List, [], ◌∷◌, ◌++◌, get_or, set}
use Rattle.word.specs.Choose.{pick}
use Rattle.bus_timer.specs.Record.{hardware_of}
use Rattle.bus_timer.specs.Ports.{hardware_ok}
use Rattle.bus_timer.specs.declared.TimerLines.{TimerLines}
use Rattle.bus.specs.Registers.{drawing_ok, registers_from}

-- how many halfwords the device registers are
abbrev pub device_length : ℕ
device_length = 17

-- where the request lines and the timer stand among the device registers
abbrev pub lines_place : ℕ
lines_place = 13

abbrev pub count_place : ℕ
count_place = 14

abbrev pub reload_place : ℕ
reload_place = 15

abbrev pub control_place : ℕ
control_place = 16

-- the request lines and the timer of the device registers
unfoldable pub hardware_in : List ℕ → TimerLines
hardware_in d = hardware_of (get_or d lines_place 0) (get_or d count_place 0) (get_or d reload_place 0) (get_or d control_place 0)

-- the request lines and the timer as they stand there, from lines_place on
abbrev pub hardware_halfwords_of : TimerLines → List ℕ
hardware_halfwords_of h = h.lines ∷ h.count ∷ h.reload ∷ h.control ∷ []

-- registers with others in place of those from k on
abbrev pub set_from : List ℕ → ℕ → List ℕ → List ℕ
set_from d k [] = d
set_from d k (x ∷ xs) = set_from (set d k x) (suc k) xs

-- the device registers with other request lines and another timer
unfoldable pub with_hardware : List ℕ → TimerLines → List ℕ
with_hardware d h = set_from d lines_place (hardware_halfwords_of h)

-- the device registers of 13 drawing registers, the request lines and the timer
unfoldable pub device_of : List ℕ → TimerLines → List ℕ
device_of drawing h = registers_from drawing 0 13 ++ hardware_halfwords_of h

-- 5, of the device registers: no drawing register, request line or field of the timer exceeds its width
unfoldable pub registers_ok : List ℕ → Bool
registers_ok d = pick (drawing_ok d) (hardware_ok (hardware_in d)) false
