-- An accepted record stays accepted (refusal 5, of the lines and the timer), and what that says of it: the statements.
-- Their proofs are `tick-accepted`, `write-accepted`, `accepted-means`, `means-accepted`, `tick-halfwords` and
-- `write-halfwords` in proofs/Accepting.
use Rattle.std.specs.Prelude.{ℕ, ◌<◌, ◌^◌, true, ◌≡◌}
use Rattle.std.specs.Int.Bits.{bit_and}
use Rattle.bus_timer.specs.Timer.{tick_of}
use Rattle.bus_timer.specs.Ports.{control_mask, port_written_of, hardware_ok}
use Rattle.bus_timer.specs.declared.TimerLines.{TimerLines}

abbrev pub TickAccepted : Type 0
TickAccepted = (h : TimerLines) → hardware_ok h ≡ true → hardware_ok (tick_of h) ≡ true

abbrev pub WriteAccepted : Type 0
WriteAccepted = (h : TimerLines) (o v : ℕ) → hardware_ok h ≡ true → hardware_ok (port_written_of h o v) ≡ true

-- five lines, and no control bit outside the mask
pub record Means (h : TimerLines) : Type 0 where
  pub five_lines : h.lines < 2 ^ 5
  pub control_bits : bit_and h.control control_mask ≡ h.control

abbrev pub AcceptedMeans : Type 0
AcceptedMeans = (h : TimerLines) → hardware_ok h ≡ true → Means h

abbrev pub MeansAccepted : Type 0
MeansAccepted = (h : TimerLines) → Means h → hardware_ok h ≡ true

-- the record's fields are halfwords
pub record Halfwords (h : TimerLines) : Type 0 where
  pub lines : h.lines < 2 ^ 16
  pub count : h.count < 2 ^ 16
  pub reload : h.reload < 2 ^ 16
  pub control : h.control < 2 ^ 16

abbrev pub TickHalfwords : Type 0
TickHalfwords = (h : TimerLines) → Halfwords h → Halfwords (tick_of h)

abbrev pub WriteHalfwords : Type 0
WriteHalfwords = (h : TimerLines) (o v : ℕ) → v < 256 → Halfwords h → Halfwords (port_written_of h o v)
