-- One event of a run whose choosers were handed in, as the body of its loop chooses and applies it.
use Rattle.std.specs.Prelude.{◌≡◌, ℕ, suc, ◌+◌, ◌<◌, ◌≤◌, List, [], ◌∷◌, map, drop, length, slice_index_or, Option, Some, None, is_some, false}
use Rattle.cet_process.specs.declared.event.Event.{Event}
use Rattle.cet_process.specs.declared.view.View.{View}
use Rattle.cet_process.specs.State.{State}
use Rattle.cet_process.specs.After.{after}
use Rattle.cet_process.specs.Chosen.{Plan, next_choice, chosen}
use Rattle.cet_run.specs.declared.report.Done.{Done}

-- the plans of choosers, where each tells one
abbrev pub Told : List (Option Plan) → List Plan → Type 0
Told told plans = told ≡ map Some plans

-- no event was chosen: the given ones are used, and no plan has one
pub record NoneChosen (v : View) (given : List Event) (index : ℕ) (told : List (Option Plan)) : Type 0 where
  pub used : length given ≤ index
  pub none : (plans : List Plan) → Told told plans → next_choice (drop index given) plans v ≡ None

-- this event was chosen: the given one, or else that of the first plan that has one
pub record OneChosen (v : View) (given : List Event) (index : ℕ) (told now : List (Option Plan)) (event : Event) : Type 0 where
  pub given_one : index < length given → event ≡ slice_index_or given index event
  pub chosen : (plans : List Plan) → Told told plans → (left : List Plan) × Told now left × (next_choice (drop index given) plans v ≡ Some (event, drop (index + 1) given, left))

abbrev pub ChoosesNext : View → List Event → ℕ → List (Option Plan) → List (Option Plan) → Option Event → Type 0
ChoosesNext v given index told now None = NoneChosen v given index told
ChoosesNext v given index told now (Some event) = OneChosen v given index told now event

-- no event was done: all is as before
pub record NoTurn (S T : State) (given : List Event) (index : ℕ) (told : List (Option Plan)) : Type 0 where
  pub same : T ≡ S
  pub used : is_some S.end ≡ false → length given ≤ index
  pub none : (plans : List Plan) → Told told plans → (n : ℕ) → chosen S (drop index given) plans (suc n) ≡ []

-- this event was done, and the others are chosen after it
pub record OneTurn (S T : State) (given : List Event) (index : ℕ) (told now : List (Option Plan)) (d : Done) : Type 0 where
  pub does : (T, d.outcome) ≡ after S d.event
  pub given_one : index < length given → d.event ≡ slice_index_or given index d.event
  pub chosen : (plans : List Plan) → Told told plans
      → (left : List Plan) × Told now left × ((n : ℕ) → chosen S (drop index given) plans (suc n) ≡ d.event ∷ chosen T (drop (index + 1) given) left n)

abbrev pub Turns : State → State → List Event → ℕ → List (Option Plan) → List (Option Plan) → Option Done → Type 0
Turns S T given index told now None = NoTurn S T given index told
Turns S T given index told now (Some d) = OneTurn S T given index told now d
