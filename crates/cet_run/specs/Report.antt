-- What a run did: the events that were applied, each with what it came to, the output after them, and how it ended. All of it is this project's
-- own.
use Rattle.std.specs.Prelude.{ℕ, ◌==◌, if◌then◌else◌, List, [], ◌∷◌, length, Option, Some, None}
use Rattle.cet_process.specs.declared.event.Event.{Event}
use Rattle.cet_process.specs.declared.outcome.Outcome.{Outcome}
use Rattle.cet_process.specs.declared.outcome.Outcome.TheVariants as outcomes
use Rattle.cet_process.specs.State.{State}
use Rattle.cet_process.specs.After.{after}
use Rattle.cet_process.specs.Run.{state_after}
use Rattle.cet_run.specs.declared.report.Done.{Done}
use Rattle.cet_run.specs.declared.report.RunEnd.{RunEnd}
use Rattle.cet_run.specs.declared.report.RunEnd.TheVariants.{Ended, Died, LimitReached, ChoicesEnded}
use Rattle.cet_run.specs.declared.report.Report.{Report}

-- these events from S on, each with what it comes to there
unfoldable pub done : State → List Event → List Done
done S [] = []
done S (e ∷ events) = record { event = e; outcome = (after S e).1 } ∷ done ((after S e).0) events

-- a run of which no event ended the process: it was stopped by the limit where as many were applied, else because none was left to choose
abbrev pub stopped : ℕ → ℕ → RunEnd
stopped applied limit = if applied == limit then LimitReached else ChoicesEnded

-- how a run ended, of which this is how the process ended, if it has. No process ends by Ran or Ignored.
abbrev pub last : Option Outcome → ℕ → ℕ → RunEnd
last None applied limit = stopped applied limit
last (Some outcomes.Ran) applied limit = stopped applied limit
last (Some outcomes.Ignored) applied limit = stopped applied limit
last (Some (outcomes.Ended status)) applied limit = Ended status
last (Some (outcomes.Died t fault rip)) applied limit = Died t fault rip

-- the report of a run of these events from S on, of which the most were `limit`
abbrev pub report : State → List Event → ℕ → Report
report S events limit =
    let end = state_after S events in
    record { events = done S events; output = end.output; last = last end.end (length events) limit }
