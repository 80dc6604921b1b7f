-- Lists of faults in the order in which they are looked for. The first one counts.
use Rattle.std.specs.Prelude.{◌≡◌, ◌≢◌, Bool, if◌then◌else◌, List, [], ◌∷◌, Option, Some, None, Result, MatchResult}
use Rattle.cet_elf.specs.declared.error.ElfError.{ElfError}
use Rattle.cet_elf.specs.declared.error.ElfError.TheVariants as errors

-- the fault, unless the rule holds
abbrev pub broken : Bool → ElfError → List ElfError
broken rule fault = if rule then [] else fault ∷ []

abbrev pub first : List ElfError → Option ElfError
first [] = None
first (fault ∷ others) = Some fault

-- what is refused is the first fault, unless memory ran out
pub record IsFirst (fault : ElfError) (faults : List ElfError) : Type 0 where
  pub first : fault ≢ errors.NoMemory → first faults ≡ Some fault

-- a call that found no fault, or refused the first one
abbrev pub Finds : {X : Type 0} → Result X ElfError → List ElfError → Type 0
Finds result faults = MatchResult result (λ _. faults ≡ []) (λ fault. IsFirst fault faults)

-- a call that found no fault and gave this value, or refused the first fault
abbrev pub Reads : {X Y : Type 0} → (X → Y) → Result X ElfError → List ElfError → Y → Type 0
Reads view result faults value = MatchResult result (λ x. (faults ≡ []) × (view x ≡ value)) (λ fault. IsFirst fault faults)
