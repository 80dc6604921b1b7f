-- The soundness laws, over every image, every input, every state of a process, every event and every list of events.
use Rattle.std.specs.Prelude.{◌≡◌, ℕ, List, Some, IsTrue}
use Rattle.cet_rules.specs.declared.image.Image.{Image}
use Rattle.cet_rules.specs.First.{KeepsRules}
use Rattle.cet_rules.specs.Raw.{IsRaw}
use Rattle.cet_machine.specs.MemoryLaws.{IsByteList}
use Rattle.cet_process.specs.declared.event.Event.{Event}
use Rattle.cet_process.specs.declared.outcome.Outcome.{Outcome}
use Rattle.cet_process.specs.State.{State}
use Rattle.cet_process.specs.Start.{start}
use Rattle.cet_process.specs.After.{after}
use Rattle.cet_process.specs.Run.{InRange, EventsInRange, is_cp_death, CpFree}
use Rattle.cet_invariant.specs.Contexts.{IsSound}

-- raw code is loaded, whatever the input
abbrev pub RawIsLoaded : Type 0
RawIsLoaded = (image : Image) (bytes input : List ℕ) → IsRaw image bytes → (S : State) × (start image input ≡ Some S)

-- a process of an image that keeps the rules begins soundly
abbrev pub StartIsSound : Type 0
StartIsSound = (image : Image) (input : List ℕ) (S : State) → KeepsRules image → start image input ≡ Some S → IsSound image S

-- the outcome is no death by a control-protection fault
abbrev pub IsNoCpDeath : Outcome → Type 0
IsNoCpDeath outcome = ¬ IsTrue (is_cp_death (Some outcome))

-- an event keeps a sound state sound, and is no death by a control-protection fault
abbrev pub EventIsSound : Type 0
EventIsSound = (image : Image) (S : State) (e : Event) → KeepsRules image → InRange e → IsSound image S → IsSound image (after S e).0 × IsNoCpDeath (after S e).1

-- no front of a list of events ends the process by a control-protection fault
abbrev pub RunIsCpFree : Type 0
RunIsCpFree = (image : Image) (input : List ℕ) (events : List Event) → KeepsRules image → IsByteList input → EventsInRange events → CpFree image input events
