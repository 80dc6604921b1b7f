-- What a watcher means that tells what it has seen.
use Rattle.std.specs.Prelude.{◌≡◌, ℕ, ◌+◌, ◌-◌, ◌^◌, min, Bool, false, not, nat_le, List, [], ◌∷◌, map, filter, Option, Some, None, ⊤}
use Rattle.cet_process.specs.declared.event.Event.{Event}
use Rattle.cet_process.specs.declared.outcome.Outcome.{Outcome}

-- an event and what it came to
abbrev pub Pair : Type 0
Pair = Event × Outcome

-- how many pairs it saw, of which the count stands still at its last value of 64 bits; the last of them; and how many are enough for it, if any
-- number is
pub record Seen : Type 0 where
  pub number : ℕ
  pub last : Option Pair
  pub limit : Option ℕ

abbrev pub most : ℕ
most = 2 ^ 64 - 1

-- after one more pair
abbrev pub seen_more : Seen → Pair → Seen
seen_more s pair = record { number = min (s.number + 1) most; last = Some pair; limit = s.limit }

abbrev pub has_reached : Option ℕ → ℕ → Bool
has_reached None number = false
has_reached (Some limit) number = nat_le limit number

abbrev pub Sees : Option Seen → Event → Outcome → Option Seen → Type 0
Sees None event outcome now = ⊤
Sees (Some s) event outcome now = now ≡ Some (seen_more s (event, outcome))

abbrev pub TellsDone : Option Seen → Bool → Type 0
TellsDone None answer = ⊤
TellsDone (Some s) answer = answer ≡ has_reached s.limit s.number

-- ---- several watchers, in their order

-- one that tells what it has seen goes on where it has not seen enough
abbrev pub goes_on : Seen → Bool
goes_on s = not (has_reached s.limit s.number)

abbrev pub GoesOn : Option Seen → Bool → Type 0
GoesOn None answer = ⊤
GoesOn (Some s) answer = answer ≡ goes_on s

-- each has seen the event
abbrev pub SeenByAll : List (Option Seen) → Event → Outcome → List (Option Seen) → Type 0
SeenByAll [] event outcome now = now ≡ []
SeenByAll (before ∷ others) event outcome now =
    (after : Option Seen) × (afters : List (Option Seen)) × Sees before event outcome after × SeenByAll others event outcome afters × (now ≡ after ∷ afters)

-- what is left of watchers that saw this pair: those that have seen enough are gone
abbrev pub shown : Pair → List Seen → List Seen
shown pair ws = filter goes_on (map (λ s. seen_more s pair) ws)

-- where all tell what they have seen
abbrev pub Shows : List (Option Seen) → Pair → List (Option Seen) → Type 0
Shows before pair after = (ws : List Seen) → before ≡ map Some ws → after ≡ map Some (shown pair ws)

-- ---- several events

-- how many pairs one counts after n more
abbrev pub number_after : ℕ → Seen → ℕ
number_after n s = min (s.number + n) most

-- those go on that have no limit, or one above that number
abbrev pub outlasts : ℕ → Seen → Bool
outlasts n s = not (has_reached s.limit (number_after n s))

abbrev pub seen_after : ℕ → Pair → Seen → Seen
seen_after n pair s = record { number = number_after n s; last = Some pair; limit = s.limit }

-- what is left of watchers that saw n pairs, one at least, of which this was the last
abbrev pub watched : ℕ → Pair → List Seen → List Seen
watched n pair ws = map (seen_after n pair) (filter (outlasts n) ws)
