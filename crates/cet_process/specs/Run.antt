-- Runs: the states that a list of events leads to. Events are this project's own: each schedule of threads and signals is a list of them. What a
-- control-protection fault is, is the SDM's (volume 3, "Interrupt 21 - Control Protection Exception (#CP)").
use Rattle.std.specs.Prelude.{ℕ, ◌^◌, ◌<◌, List, [], ◌∷◌, take, All, Bool, true, false, IsTrue, Option, Some, None, option_map}
use Rattle.cet_isa.specs.declared.fault.Fault.{Fault}
use Rattle.cet_isa.specs.declared.fault.Fault.TheVariants.{NearRet, EndBranch, Rstor, Page, Undefined, General, Divide}
use Rattle.cet_rules.specs.declared.image.Image.{Image}
use Rattle.cet_process.specs.declared.event.Event.{Event}
use Rattle.cet_process.specs.declared.event.Event.TheVariants.{Step, Signal}
use Rattle.cet_process.specs.declared.outcome.Outcome.{Outcome}
use Rattle.cet_process.specs.declared.outcome.Outcome.TheVariants.{Ran, Ignored, Ended, Died}
use Rattle.cet_process.specs.State.{State}
use Rattle.cet_process.specs.Start.{start}
use Rattle.cet_process.specs.After.{after}

-- each number of an event lies in its field
abbrev pub InRange : Event → Type 0
InRange (Step t free answer) = (t < 2 ^ 32) × (free < 256) × (answer < 2 ^ 64)
InRange (Signal t signo) = (t < 2 ^ 32) × (signo < 2 ^ 32)

abbrev pub EventsInRange : List Event → Type 0
EventsInRange events = All InRange events

-- the state after all these events
unfoldable pub state_after : State → List Event → State
state_after S [] = S
state_after S (e ∷ events) = state_after ((after S e).0) events

-- from the loaded image; none exactly where it is not loaded
abbrev pub state : Image → List ℕ → List Event → Option State
state image input events = option_map (λ S. state_after S events) (start image input)

-- ---- control protection

-- vector 21 (#CP), with the error codes NEAR-RET, ENDBRANCH and RSTORSSP
abbrev pub is_control_protection : Fault → Bool
is_control_protection (NearRet popped shadow) = true
is_control_protection EndBranch = true
is_control_protection (Rstor word) = true
is_control_protection (Page a) = false
is_control_protection Undefined = false
is_control_protection General = false
is_control_protection Divide = false

abbrev pub is_cp_death : Option Outcome → Bool
is_cp_death None = false
is_cp_death (Some Ran) = false
is_cp_death (Some Ignored) = false
is_cp_death (Some (Ended status)) = false
is_cp_death (Some (Died t fault rip)) = is_control_protection fault

abbrev pub DiedOfControlProtection : Option State → Type 0
DiedOfControlProtection None = ⊥
DiedOfControlProtection (Some S) = IsTrue (is_cp_death S.end)

-- no front of the events ends the process by a control-protection fault
abbrev pub CpFree : Image → List ℕ → List Event → Type 0
CpFree image input events = (n : ℕ) → ¬ DiedOfControlProtection (state image input (take n events))
