-- What `check` certifies.
use Rattle.std.specs.Prelude.{◌≡◌, ℕ, List, Some}
use Rattle.cet_rules.specs.declared.image.Image.{Image}
use Rattle.cet_rules.specs.First.{KeepsRules}
use Rattle.cet_rules.specs.Raw.{IsRaw}
use Rattle.cet_machine.specs.MemoryLaws.{IsByteList}
use Rattle.cet_process.specs.declared.event.Event.{Event}
use Rattle.cet_process.specs.State.{State}
use Rattle.cet_process.specs.Start.{start}
use Rattle.cet_process.specs.Run.{EventsInRange, CpFree}

-- whatever the input, the image is loaded
abbrev pub IsAlwaysLoaded : Image → Type 0
IsAlwaysLoaded image = (input : List ℕ) → (S : State) × (start image input ≡ Some S)

-- for every input of bytes and every list of steps and signals, no front of the list ends the process by a control-protection fault
abbrev pub IsAlwaysCpFree : Image → Type 0
IsAlwaysCpFree image = (input : List ℕ) (events : List Event) → IsByteList input → EventsInRange events → CpFree image input events

-- the image of the raw bytes keeps the rules, and none of its processes meets a control-protection fault
abbrev pub IsCertified : List ℕ → Type 0
IsCertified bytes = (image : Image) × IsRaw image bytes × KeepsRules image × IsAlwaysLoaded image × IsAlwaysCpFree image
