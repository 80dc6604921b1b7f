-- How the events of a run are chosen: given ones first, and then by plans. All of it is this project's own; no scheduler of a kernel is modelled.
use Rattle.std.specs.Prelude.{ℕ, zero, suc, ◌+◌, nat_lt, List, [], ◌∷◌, find, Bool, true, ◌&&◌, if◌then◌else◌, Option, Some, None, option_map, is_some}
use Rattle.cet_machine.specs.Arithmetic.{bit}
use Rattle.cet_process.specs.declared.event.Event.{Event}
use Rattle.cet_process.specs.declared.event.Event.TheVariants.{Step}
use Rattle.cet_process.specs.declared.view.View.{View}
use Rattle.cet_process.specs.State.{State, view}
use Rattle.cet_process.specs.After.{after}

-- these events, one after another; or a step of each living thread in turn, after that of thread `last`, if there was one
pub data Plan : Type 0 where
  Listed : List Event → Plan
  Round : Option ℕ → Plan

-- ---- round robin

-- n numbers from k on
abbrev pub numbers : ℕ → ℕ → List ℕ
numbers k zero = []
numbers k (suc n) = k ∷ numbers (k + 1) n

abbrev pub lives : View → ℕ → Bool
lives v t = bit v.live t

-- the living thread of the least number that keeps the test
abbrev pub least_living : View → (ℕ → Bool) → Option ℕ
least_living v test = find (λ t. lives v t && test t) (numbers 0 v.threads)

abbrev pub or_else : Option ℕ → Option ℕ → Option ℕ
or_else (Some t) other = Some t
or_else None other = other

-- the next living thread above `last`, or else the least one; none where no thread lives
abbrev pub next_living : View → Option ℕ → Option ℕ
next_living v None = least_living v (λ t. true)
next_living v (Some last) = or_else (least_living v (λ t. nat_lt last t)) (least_living v (λ t. true))

-- ---- plans

-- the event that a plan answers, and what is left of the plan; none where it has no more
abbrev pub next_of : Plan → View → Option (Event × Plan)
next_of (Listed []) v = None
next_of (Listed (e ∷ events)) v = Some (e, Listed events)
next_of (Round last) v = option_map (λ t. (Step t 0 v.fresh, Round (Some t))) (next_living v last)

-- an event and what is left of its plan, before the other plans; or else what these have
abbrev pub taken_or : Option (Event × Plan) → List Plan → Option (Event × List Plan) → Option (Event × List Plan)
taken_or (Some x) plans later = Some (x.0, x.1 ∷ plans)
taken_or None plans later = later

-- the event of the first plan that has one; the plans before it are dropped
abbrev pub first_of : List Plan → View → Option (Event × List Plan)
first_of [] v = None
first_of (plan ∷ plans) v = taken_or (next_of plan v) plans (first_of plans v)

-- the next event, and what is left of the given ones and of the plans
abbrev pub next_choice : List Event → List Plan → View → Option (Event × List Event × List Plan)
next_choice (e ∷ given) plans v = Some (e, given, plans)
next_choice [] plans v = option_map (λ x. (x.0, [], x.1)) (first_of plans v)

-- an event, and the events after it
abbrev pub go_on : Option (Event × List Event × List Plan) → (Event → List Event → List Plan → List Event) → List Event
go_on None later = []
go_on (Some x) later = x.0 ∷ later x.0 x.1 x.2

-- The events of a run from S on: while the process lives and fewer than `limit` were applied.
unfoldable pub chosen : State → List Event → List Plan → ℕ → List Event
chosen S given plans zero = []
chosen S given plans (suc limit) =
    if is_some S.end then [] else
    go_on (next_choice given plans (view S)) (λ e given plans. chosen ((after S e).0) given plans limit)
