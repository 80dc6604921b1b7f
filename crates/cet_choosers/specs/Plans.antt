-- What a chooser means that tells a plan.
use Rattle.std.specs.Prelude.{◌≡◌, ℕ, zero, suc, List, [], ◌∷◌, Option, Some, None, ⊤}
use Rattle.cet_process.specs.declared.event.Event.{Event}
use Rattle.cet_process.specs.declared.view.View.{View}
use Rattle.cet_process.specs.Chosen.{Plan, next_of}

-- an answer, by what the plan has next: it stays as it is where it has no event
abbrev pub Goes : Option (Event × Plan) → Plan → Option Event → Option Plan → Type 0
Goes None plan answer left = (answer ≡ None) × (left ≡ Some plan)
Goes (Some x) plan answer left = (answer ≡ Some x.0) × (left ≡ Some x.1)

-- where a plan is told, the answer is its next event, and the rest of it is left; where none is told, nothing is said
abbrev pub Answers : Option Plan → View → Option Event → Option Plan → Type 0
Answers None v answer left = ⊤
Answers (Some plan) v answer left = Goes (next_of plan v) plan answer left

-- the answer of the first of these, where its plan has an event; else what is said of the others
abbrev pub First : Option (Event × Plan) → List (Option Plan) → Option Event → List (Option Plan) → Type 0 → Type 0
First None others answer left later = later
First (Some x) others answer left later = (answer ≡ Some x.0) × (left ≡ Some x.1 ∷ others)

-- the answer of the first that has an event; those before it are gone. Nothing is said from the first on that tells no plan.
abbrev pub Chooses : List (Option Plan) → View → Option Event → List (Option Plan) → Type 0
Chooses [] v answer left = (answer ≡ None) × (left ≡ [])
Chooses (None ∷ others) v answer left = ⊤
Chooses (Some plan ∷ others) v answer left = First (next_of plan v) others answer left (Chooses others v answer left)

-- the thread below this number, if there is one
abbrev pub below : ℕ → Option ℕ
below zero = None
below (suc t) = Some t
