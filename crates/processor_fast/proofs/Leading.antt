-- One instruction more of a stretch: what the dispatch did is the step of the definition.
use Rattle.std.proofs.Common.{◌≡◌, ℕ, zero, suc, ◌+◌, ◌-◌, ◌/◌, ◌%◌, ◌^◌, ◌<◌, ◌≤◌, Bool, List, get_or, sym, refl, ap, ◌∙◌, subst, arith}
use Rattle.word.specs.Choose.{pick}
use Rattle.bus.specs.Memory.{Memory, load_of}
use Rattle.bus.specs.TimerLines.{lines_place}
use Rattle.processor_decode.specs.Format.{two_of}
use Rattle.processor_decode.specs.Opcode.{decode_of}
use Rattle.processor_lazy_flags.specs.inner.Packed.{packed_of}
use Rattle.processor_lazy_flags.specs.declared.Flags.{Flags}
use Rattle.processor_machine.specs.State.{State, state_of, stepped_of}
use Rattle.processor_machine.specs.declared.Mode.TheVariants.{Running}
use Rattle.processor_step.specs.Step.{next_of, perform_of, second_of, running_step_of}
use Rattle.processor_fast_compute.specs.inner.Fast.{address_of, machine_of}
use Rattle.processor_fast.specs.inner.Leads.{Stays, Leads, none, more, Stretched}
use Rattle.processor_fast_compute.specs.declared.Fast.{Fast}
use Rattle.processor_fast_compute.specs.declared.Fast.TheVariants.{Done, Masked, NotHere}
use Rattle.processor_fast.specs.inner.Turns.{Quiet, Turns}
use Rattle.processor_fast.proofs.Acceptance.{accepts-packed}

-- what stays in the middle of a stretch
pub stays_here : (regs₀ regs sys₀ sys : List ℕ) (m₀ m : Memory) (pc psw₀ psw base x : ℕ) (g : Flags) → m.regs ≡ m₀.regs
    → Quiet (get_or m₀.regs lines_place 0) psw₀ psw
    → Stays (state_of regs₀ sys₀ pc psw₀ Running) m₀ (machine_of regs sys base x psw g) m
stays_here regs₀ regs sys₀ sys m₀ m pc psw₀ psw base x g same quiet = record {
  mode = refl;
  unaccepted = λ u. rw same (accepts-packed (get_or m₀.regs lines_place 0) psw g Running ∙ quiet u);
}

-- the step at an index, from the halfwords there
step-at : (regs sys : List ℕ) (base x psw f s : ℕ) (g : Flags) (m : Memory) → load_of m 2
    (address_of base x) ≡ f → load_of m 2 ((address_of base x + 2) % 2 ^ 32) ≡ s
    → perform_of (decode_of f (pick (two_of f) s 0)) (next_of (two_of f) (address_of base x))
    (machine_of regs sys base x psw g) m ≡ running_step_of (machine_of regs sys base x psw g) m
unfolding running_step_of second_of
step-at regs sys base x psw f s g m e h = rw (← e, ← h)

module _ (s₀ : State) (m₀ : Memory) (n : ℕ) (regs regs' sys sys' : List ℕ) (base x psw f s : ℕ) (g : Flags) (m m' : Memory) (r : Fast)
    (before : Leads s₀ m₀ n (machine_of regs sys base x psw g) m)
    (first : load_of m 2 (address_of base x) ≡ f) (second : load_of m 2 ((address_of base x + 2) % 2 ^ 32) ≡ s)
    (even : base % 2 ≡ 0) (aligned : x % 2 ≡ 0) (lines : ℕ) (turns : Turns lines base f s r x psw g regs sys m regs' sys' m') where
  -- it was done
  pub leads-more : Stays s₀ m₀ (machine_of regs sys base x psw g) m → (to addition value k : ℕ) → r ≡ Done to addition value → k ≡ suc n
      → Leads s₀ m₀ k (machine_of regs' sys' base to psw (record { addition = addition; value = value })) m'
  leads-more stays to addition value k e h =
      let d = rw e at (turns even aligned) in
      rw h (more before stays (d.0 ∙ step-at regs sys base x psw f s g m first second))

  pub aligned-more : (to addition value : ℕ) → r ≡ Done to addition value → to % 2 ≡ 0
  aligned-more to addition value e = (rw e at (turns even aligned)).1

  -- it was done, and changed PSW above its flags
  pub leads-masked : Stays s₀ m₀ (machine_of regs sys base x psw g) m → (p to k : ℕ) → r ≡ Masked p → to ≡ (x + 2) % 2 ^ 32 → k ≡ suc n
      → Leads s₀ m₀ k (machine_of regs' sys' base to p g) m'
  leads-masked stays p to k e a h =
      let d = rw e at (turns even aligned) in
      rw (h, a) (more before stays (d.0 ∙ step-at regs sys base x psw f s g m first second))

  pub quiet-masked : (p : ℕ) → r ≡ Masked p → Quiet lines psw p
  quiet-masked p e = (rw e at (turns even aligned)).1

  -- it was left
  pub leads-same : r ≡ NotHere → Leads s₀ m₀ n (machine_of regs' sys' base x psw g) m'
  leads-same e =
      let d = rw e at (turns even aligned) in
      rw (d.0, d.1, d.2) before

-- before the first
pub leads-none : (regs sys : List ℕ) (pc psw base x : ℕ) (g : Flags) (m : Memory) (n : ℕ) → (x + base) % 2 ^ 32 ≡ pc → packed_of psw g ≡ psw → n ≡ 0
    → Leads (state_of regs sys pc psw Running) m n (machine_of regs sys base x psw g) m
leads-none regs sys pc psw base x g m n e h z =
    let a : base + x ≡ x + base = omega arith in
    rw (z, a, e, h) none

pub start-even : (pc base x : ℕ) → x < 2 ^ 32 → pc % 2 ≡ 0 → base % 2 ≡ 0 → (x + base) % 2 ^ 32 ≡ pc → x % 2 ≡ 0
start-even pc base x h p b e = omega arith

-- where a stretch ends
pub ends : (budget left : ℕ) (regs₀ regs sys₀ sys : List ℕ) (m₀ m : Memory) (pc psw₀ psw base x to status : ℕ) (g : Flags)
    → m.regs ≡ m₀.regs → Quiet (get_or m₀.regs lines_place 0) psw₀ psw → to ≡ address_of base x → status ≡ packed_of psw g
    → Leads (state_of regs₀ sys₀ pc psw₀ Running) m₀ (budget - left) (machine_of regs sys base x psw g) m
    → Stretched budget (state_of regs₀ sys₀ pc psw₀ Running) m₀ (budget - left) (state_of regs sys to status Running) m
ends budget left regs₀ regs sys₀ sys m₀ m pc psw₀ psw base x to status g same quiet e h l =
    rw (e, h)
    (record {
      within = omega arith;
      leads = l;
      stays = stays_here regs₀ regs sys₀ sys m₀ m pc psw₀ psw base x g same quiet;
    })

-- none at all
pub stretched-none : (budget : ℕ) (regs sys : List ℕ) (pc psw : ℕ) (m : Memory) → Stretched budget
    (state_of regs sys pc psw Running) m 0 (state_of regs sys pc psw Running) m
stretched-none budget regs sys pc psw m = record { within = omega arith; leads = none; stays = record { mode = refl; unaccepted = λ u. u } }
