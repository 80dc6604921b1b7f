-- The invariant: what holds of every state that a process comes to whose image keeps the rules. It sorts what the process holds into
-- contexts, each of which one thread runs. Each part says what a later language of programs adds to it; none is taken away then.
use Rattle.std.specs.Prelude.{◌≡◌, ℕ, ◌<◌, ◌⊎◌, List, [], ◌∷◌, false, IsTrue, Some, None, is_some, slice_get, if◌then◌else◌}
use Rattle.cet_isa.specs.declared.registers.Regs.{Regs}
use Rattle.cet_machine.specs.declared.action.Action.{Action}
use Rattle.cet_machine.specs.declared.memory.Region.{Region}
use Rattle.cet_machine.specs.Memory.{holds, bytes_from, bytes_at, code_at}
use Rattle.cet_machine.specs.MachineLaws.{is_fixed}
use Rattle.cet_rules.specs.declared.function.Function.{Function}
use Rattle.cet_rules.specs.declared.image.Image.{Image}
use Rattle.cet_rules.specs.declared.segment.Segment.{Segment}
use Rattle.cet_rules.specs.Image.{function_at}
use Rattle.cet_process.specs.Laws.{IsWellFormed}
use Rattle.cet_process.specs.Start.{region_of, load_error, mode_of}
use Rattle.cet_process.specs.State.{State, action_of}
use Rattle.cet_invariant.specs.Standing.{Stands}

-- ---- memory

-- Memory has what the image says, in the pages of its segments. That two regions of which at least one is no segment's are 65,536 bytes
-- apart is among what holds of every process (`IsWellFormed`).
pub record HasImage (image : Image) (M : List Region) : Type 0 where
  -- the image is one that is loaded
  pub loaded : load_error image ≡ None
  -- every byte of a segment that is not writable is the image's
  pub bytes : (k : ℕ) (s : Segment) → slice_get image.segments k ≡ Some s → s.writable ≡ false
      → (a n : ℕ) → 0 < n → IsTrue (holds a n (region_of s)) → bytes_at is_fixed M a n ≡ Some (bytes_from (region_of s) a)
  -- from an executable segment the image's bytes are fetched, and from any other none
  pub code : (k : ℕ) (s : Segment) → slice_get image.segments k ≡ Some s
      → (a : ℕ) → IsTrue (holds a 1 (region_of s)) → code_at M a ≡ (if s.executable then bytes_from (region_of s) a else [])

-- ---- actions

-- The actions that may be registered. So far there is none, since an image that keeps the rules makes no system call. With the calls, an
-- action is the record of a site, with a handler that is a function.
abbrev pub IsAllowed : Image → Action → Type 0
IsAllowed image action = ⊥

abbrev pub HasAllowedActions : Image → State → Type 0
HasAllowedActions image S = (signo : ℕ) (action : Action) → action_of S signo ≡ Some action → IsAllowed image action

-- ---- contexts

-- One thread runs a context: a list of activations. So far the list has one, a Root, of the function at the entry.
-- Later: calls and handlers above it, with the words of the data stack and the shadow stack that belong to each; where landings are, r15;
-- the reach of rsp; and handlers that stand on the handler side.
pub record RunsContext (image : Image) (R : Regs) : Type 0 where
  pub function : Function
  pub is_root : function_at image image.entry ≡ Some function
  -- where the activation on top stands. Later: its depth, rbp and SSP.
  pub stands : Stands image function R

-- Which thread runs which context. So far one thread has ever lived, and lives.
-- Later: the threads that were made, each with its context; suspended contexts and the slots that hold them; the stacks, which one context owns each.
pub record HasOwners (image : Image) (S : State) : Type 0 where
  pub regs : Regs
  pub threads : S.threads ≡ Some regs ∷ []
  pub context : RunsContext image regs

-- ---- the whole

-- the state of a process that lives
pub record Sorts (image : Image) (S : State) : Type 0 where
  pub mode : S.mode ≡ mode_of image.features
  -- what holds of every process
  pub process : IsWellFormed S
  pub memory : HasImage image S.memory
  pub actions : HasAllowedActions image S
  pub owners : HasOwners image S

-- the process has ended, or has the mode of the image's features and sorts into contexts
abbrev pub IsSound : Image → State → Type 0
IsSound image S = IsTrue (is_some S.end) ⊎ Sorts image S
