-- What linking gives: an executable, or the first fault. First the notes of all inputs are read.
use Rattle.std.specs.Prelude.{◌≡◌, ◌≢◌, ℕ, List, [], Some, ◌⊎◌, Result, MatchResult}
use Rattle.cet_elf.specs.declared.object.Object.{Object}
use Rattle.cet_elf.specs.declared.exec.Exec.{Exec}
use Rattle.cet_link.specs.declared.error.LinkError.{LinkError}
use Rattle.cet_link.specs.declared.error.LinkError.TheVariants as errors
use Rattle.cet_link.specs.First.{first}
use Rattle.cet_link.specs.Notes.{note_faults, IsMergedNote}
use Rattle.cet_link.specs.Faults.{faults}
use Rattle.cet_link.specs.Linked.{linked}

-- the executable
abbrev pub IsLinked : List Object → List ℕ → Exec → Type 0
IsLinked inputs entry exec = (note : List ℕ) × IsMergedNote inputs note × (faults inputs entry note ≡ []) × (exec ≡ linked inputs entry note)

-- the first fault
abbrev pub IsLinkFault : List Object → List ℕ → LinkError → Type 0
IsLinkFault inputs entry e =
    (first (note_faults inputs) ≡ Some e) ⊎ ((note : List ℕ) × IsMergedNote inputs note × (first (faults inputs entry note) ≡ Some e))

-- where there is a fault, it is what a call refuses, unless memory runs out
abbrev pub Refuses : {X : Type 0} → List Object → List ℕ → Result X LinkError → Type 0
Refuses inputs entry result = (e : LinkError) → IsLinkFault inputs entry e → MatchResult result (λ _. ⊥) (λ f. f ≢ errors.NoMemory → f ≡ e)

-- where there is an executable, a call refuses nothing, unless memory runs out
abbrev pub Links : {X : Type 0} → List Object → List ℕ → Result X LinkError → Type 0
Links inputs entry result = (exec : Exec) → IsLinked inputs entry exec → MatchResult result (λ _. Unit {0}) (λ f. f ≡ errors.NoMemory)

-- ---- laws

-- inputs have one executable at most, and one first fault at most, and not both
abbrev pub OneExecutable : Type 0
OneExecutable = (inputs : List Object) (entry : List ℕ) (a b : Exec) → IsLinked inputs entry a → IsLinked inputs entry b → a ≡ b

abbrev pub OneFault : Type 0
OneFault = (inputs : List Object) (entry : List ℕ) (a b : LinkError) → IsLinkFault inputs entry a → IsLinkFault inputs entry b → a ≡ b

abbrev pub NotBoth : Type 0
NotBoth = (inputs : List Object) (entry : List ℕ) (exec : Exec) (e : LinkError) → IsLinked inputs entry exec → IsLinkFault inputs entry e → ⊥
