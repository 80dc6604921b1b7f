-- Lists of faults in the order in which they are looked for. The first one counts.
use Rattle.std.specs.Prelude.{◌≡◌, ◌≢◌, Bool, if◌then◌else◌, List, [], ◌∷◌, Option, Some, None, Result, MatchResult}
use Rattle.cet_link.specs.declared.error.LinkError.{LinkError}
use Rattle.cet_link.specs.declared.error.LinkError.TheVariants as errors

-- the fault, where the test holds
abbrev pub where_true : Bool → LinkError → List LinkError
where_true test e = if test then e ∷ [] else []

abbrev pub first : List LinkError → Option LinkError
first [] = None
first (e ∷ others) = Some e

-- what is refused is the first fault, unless memory ran out
pub record IsFirst (e : LinkError) (faults : List LinkError) : Type 0 where
  pub first : e ≢ errors.NoMemory → first faults ≡ Some e

-- a call that found no fault, or refused the first one
abbrev pub Finds : {X : Type 0} → Result X LinkError → List LinkError → Type 0
Finds result faults = MatchResult result (λ _. faults ≡ []) (λ e. IsFirst e faults)

-- a call that found no fault and gave this value, or refused the first fault
abbrev pub Reads : {X Y : Type 0} → (X → Y) → Result X LinkError → List LinkError → Y → Type 0
Reads view result faults value = MatchResult result (λ x. (faults ≡ []) × (view x ≡ value)) (λ e. IsFirst e faults)
