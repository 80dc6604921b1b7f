-- What the watchers that a command is handed have seen of it: every event of a run.
use Rattle.std.specs.Prelude.{◌≡◌, ℕ, Bool, List, [], map, Option}
use Rattle.cet_base.specs.Files.{Contents}
use Rattle.cet_process.specs.Chosen.{Plan}
use Rattle.cet_choosers.specs.Watching.{Seen}
use Rattle.cet_run.specs.declared.report.Report.{Report}
use Rattle.cet_run.specs.Run.{AreWatched}
use Rattle.cet_run.specs.Text.{run_text}
use Rattle.cet_verbs.specs.Command.{Command, Run}
use Rattle.cet_verbs.specs.Runs.{IsRun}

-- The watchers of a run, whose text was told so: where each tells what it has seen, those that go on have seen all its events, and the last of them last.
-- A run without events leaves them as they were.
pub record AreRunWatchers {T : Type 0} (files : Option Contents) (plans : List (Option Plan)) (raw : Bool) (schedule input : Option (List ℕ)) (limit : ℕ) (file : List ℕ)
    (Told : List ℕ → Type 0) (seen : T → Option Seen) (before after : List T) : Type 0 where
  pub report : Report
  pub is_run : IsRun files plans raw schedule input limit file report
  pub is_told : Told (run_text report)
  pub watched : AreWatched (map seen before) report.events (map seen after)
  pub untouched : report.events ≡ [] → after ≡ before

-- the watchers of a command that was carried out; one that runs nothing leaves them as they were
abbrev pub AreWatchersOf : {T : Type 0} → Option Contents → List (Option Plan) → Command → (List ℕ → Type 0) → (T → Option Seen) → List T → List T → Type 0
AreWatchersOf files plans (Run raw schedule input limit file) Told seen before after = AreRunWatchers files plans raw schedule input limit file Told seen before after
AreWatchersOf files plans command Told seen before after = after ≡ before
