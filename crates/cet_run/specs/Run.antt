-- A run whose events choosers choose that the caller handed in, and watchers see. A chooser may tell no plan, a watcher not what it has seen.
use Rattle.std.specs.Prelude.{◌≡◌, ℕ, ◌<◌, ◌≤◌, List, [], ◌∷◌, ◌++◌, length, map, take, Option, Some, None, is_some, false}
use Rattle.cet_process.specs.declared.event.Event.{Event}
use Rattle.cet_process.specs.State.{State}
use Rattle.cet_process.specs.Run.{state_after}
use Rattle.cet_process.specs.Chosen.{Plan, chosen}
use Rattle.cet_choosers.specs.Watching.{Seen, watched}
use Rattle.cet_run.specs.declared.report.Done.{Done}
use Rattle.cet_run.specs.Report.{done}

-- the events that were applied
abbrev pub applied : List Done → List Event
applied dones = map (λ (d : Done). d.event) dones

-- the events of a run begin with the given ones, as far as both go
abbrev pub BeginsWith : List Event → List Event → Type 0
BeginsWith given events = take (length given) events ≡ take (length events) given

-- Where each chooser tells a plan, the events are those that these plans choose. None of these, and nothing is said.
abbrev pub AreChosen : State → List Event → List (Option Plan) → ℕ → List Event → Type 0
AreChosen S given told limit events = (plans : List Plan) → told ≡ map Some plans → events ≡ chosen S given plans limit

-- Where each watcher tells what it has seen, those that go on have seen all events, and the last of them last.
abbrev pub AreWatched : List (Option Seen) → List Done → List (Option Seen) → Type 0
AreWatched before dones after =
    (front : List Done) (d : Done) → dones ≡ front ++ d ∷ [] → (ws : List Seen) → before ≡ map Some ws → after ≡ map Some (watched (length dones) (d.event, d.outcome) ws)

-- What a run of the given events did that led from S to T: these events, each with what it came to; it stopped where the process had ended, the limit
-- was reached, or the given events were used and no chooser had one.
pub record IsRun (S : State) (given : List Event) (told : List (Option Plan)) (limit : ℕ) (T : State) (dones : List Done) : Type 0 where
  pub events : dones ≡ done S (applied dones)
  pub state : T ≡ state_after S (applied dones)
  pub given_first : BeginsWith given (applied dones)
  pub chosen : AreChosen S given told limit (applied dones)
  pub within : length dones ≤ limit
  pub used : is_some T.end ≡ false → length dones < limit → length given ≤ length dones

-- where the process lives and fewer events were applied than the limit, the given ones were used
abbrev pub UsesGiven : State → List Event → ℕ → List Done → Type 0
UsesGiven S given limit dones = (state_after S (applied dones)).end ≡ None → length dones < limit → length given ≤ length dones
