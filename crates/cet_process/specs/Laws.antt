-- Laws of processes: what every event keeps.
use Rattle.std.specs.Prelude.{◌≡◌, ℕ, ◌+◌, ◌^◌, ◌<◌, ◌≤◌, ◌⊎◌, max, Bool, true, false, List, [], ◌∷◌, ◌++◌, length, slice_get, All, Option, Some, None}
use Rattle.cet_isa.specs.declared.registers.Regs.{Regs}
use Rattle.cet_rules.specs.declared.image.Image.{Image}
use Rattle.cet_rules.specs.declared.segment.Segment.{Segment}
use Rattle.cet_machine.specs.declared.action.Action.{Action}
use Rattle.cet_machine.specs.declared.memory.Kind.{Kind}
use Rattle.cet_machine.specs.declared.memory.Kind.TheVariants.{Write, Shadow}
use Rattle.cet_machine.specs.declared.memory.Region.{Region}
use Rattle.cet_machine.specs.Memory.{gap, AreDisjoint, holds, region_holding, bytes_at}
use Rattle.cet_machine.specs.MemoryLaws.{IsByteList, HaveBytes}
use Rattle.cet_process.specs.declared.event.Event.{Event}
use Rattle.cet_process.specs.declared.outcome.Outcome.{Outcome}
use Rattle.cet_process.specs.declared.outcome.Outcome.TheVariants.{Ignored}
use Rattle.cet_process.specs.State.{State}
use Rattle.cet_process.specs.Start.{region_of, stacks, start}
use Rattle.cet_process.specs.Call.{output_limit, thread_limit}
use Rattle.cet_process.specs.After.{after}
use Rattle.cet_process.specs.Run.{InRange, state_after}

-- a thread that lives has 16 registers
abbrev pub HasRegisters : Option Regs → Type 0
HasRegisters None = Unit {0}
HasRegisters (Some R) = length R.r ≡ 16

-- ---- regions a gap apart

abbrev pub end_of : Region → ℕ
end_of r = r.start + length r.bytes

-- 65,536 bytes at least lie between the two
abbrev pub IsFar : Region → Region → Type 0
IsFar r q = (end_of r + gap ≤ q.start) ⊎ (end_of q + gap ≤ r.start)

-- the same, where one of them at least begins at 2^32 or above, as stacks and mappings do and segments don't, and neither is empty
abbrev pub IsFarIfHigh : Region → Region → Type 0
IsFarIfHigh r q = 2 ^ 32 ≤ max r.start q.start → 0 < length r.bytes → 0 < length q.bytes → IsFar r q

abbrev pub IsFarFromAll : Region → List Region → Type 0
IsFarFromAll r [] = Unit {0}
IsFarFromAll r (q ∷ M) = IsFarIfHigh r q × IsFarFromAll r M

-- each stack and each mapping is a gap apart from every other region
abbrev pub AreFar : List Region → Type 0
AreFar [] = Unit {0}
AreFar (r ∷ M) = IsFarFromAll r M × AreFar M

-- ---- states

-- what holds of every state that a process comes to
pub record IsWellFormed (S : State) : Type 0 where
  pub disjoint : AreDisjoint S.memory
  pub far : AreFar S.memory
  pub registers : All HasRegisters S.threads
  pub threads : length S.threads ≤ thread_limit
  pub actions : length S.actions ≡ 64
  pub output : length S.output ≤ output_limit

-- what is a byte is below 256
pub record HasBytes (S : State) : Type 0 where
  pub memory : HaveBytes S.memory
  pub input : IsByteList S.input

-- what is read of kinds that are neither Write nor Shadow is as before
abbrev pub KeepsFixed : List Region → List Region → Type 0
KeepsFixed M N = (kinds : Kind → Bool) → kinds Write ≡ false → kinds Shadow ≡ false → (a n : ℕ) → 0 < n → bytes_at kinds N a n ≡ bytes_at kinds M a n

-- T has the mode of S, is well formed, has as before what is neither Write nor Shadow, and bytes stay bytes
pub record Keeps (S T : State) : Type 0 where
  pub mode : T.mode ≡ S.mode
  pub well_formed : IsWellFormed T
  pub fixed : KeepsFixed S.memory T.memory
  pub bytes : HasBytes S → HasBytes T

-- ---- the start

abbrev pub StartIsWellFormed : Type 0
StartIsWellFormed = (image : Image) (input : List ℕ) (S : State) → start image input ≡ Some S → IsWellFormed S

-- the pages of each segment stand in memory
abbrev pub SegmentsAreLoaded : Type 0
SegmentsAreLoaded = (image : Image) (input : List ℕ) (S : State) (k : ℕ) (s : Segment) → start image input ≡ Some S → slice_get image.segments k ≡ Some s
    → (a n : ℕ) → 0 < n → holds a n (region_of s) ≡ true → region_holding S.memory a n ≡ Some (region_of s)

-- and so do the stacks
abbrev pub StacksAreLoaded : Type 0
StacksAreLoaded = (image : Image) (input : List ℕ) (S : State) (k : ℕ) (r : Region) → start image input ≡ Some S → slice_get (stacks S.mode) k ≡ Some r
    → (a n : ℕ) → 0 < n → holds a n r ≡ true → region_holding S.memory a n ≡ Some r

-- ---- events

abbrev pub EventKeeps : Type 0
EventKeeps = (S : State) (e : Event) → IsWellFormed S → Keeps S (after S e).0

abbrev pub RunKeeps : Type 0
RunKeeps = (S : State) (events : List Event) → IsWellFormed S → Keeps S (state_after S events)

-- ---- numbers of 64 bits

-- all that a thread has
pub record AreWords (R : Regs) : Type 0 where
  pub registers : All (λ v. v < 2 ^ 64) R.r
  pub rip : R.rip < 2 ^ 64
  pub ssp : R.ssp < 2 ^ 64
  pub mask : R.mask < 2 ^ 64

abbrev pub ThreadHasWords : Option Regs → Type 0
ThreadHasWords None = Unit {0}
ThreadHasWords (Some R) = AreWords R

abbrev pub ActionHasWords : Option Action → Type 0
ActionHasWords None = Unit {0}
ActionHasWords (Some action) = (action.handler < 2 ^ 64) × (action.restorer < 2 ^ 64) × (action.mask < 2 ^ 64)

pub record HasWords (S : State) : Type 0 where
  pub bytes : HasBytes S
  pub threads : All ThreadHasWords S.threads
  pub actions : All ActionHasWords S.actions

abbrev pub EventKeepsWords : Type 0
EventKeepsWords = (S : State) (e : Event) → IsWellFormed S → InRange e → HasWords S → HasWords (after S e).0

-- ---- runs

-- a process that has ended stays as it is
abbrev pub EndStays : Type 0
EndStays = (S : State) (e : Event) (end : Outcome) → S.end ≡ Some end → after S e ≡ (S, Ignored)

-- the events of a run may be taken in two parts
abbrev pub RunInParts : Type 0
RunInParts = (S : State) (front back : List Event) → state_after S (front ++ back) ≡ state_after (state_after S front) back
