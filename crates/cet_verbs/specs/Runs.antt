-- What `run` runs, and its report.
use Rattle.std.specs.Prelude.{◌≡◌, ◌≢◌, ◌≤◌, ℕ, ◌==◌, if◌then◌else◌, List, [], length, Bool, true, false, Option, Some, None, Ok}
use Rattle.cet_base.specs.Files.{Contents}
use Rattle.cet_elf.specs.declared.exec.Exec.{Exec}
use Rattle.cet_exec.specs.ExecFile.{IsExecFile}
use Rattle.cet_image.specs.ImageOf.{IsImageOf}
use Rattle.cet_rules.specs.declared.image.Image.{Image}
use Rattle.cet_rules.specs.Raw.{IsRaw}
use Rattle.cet_process.specs.declared.event.Event.{Event}
use Rattle.cet_process.specs.State.{State}
use Rattle.cet_process.specs.Start.{start}
use Rattle.cet_process.specs.Chosen.{Plan}
use Rattle.cet_run.specs.declared.report.RunEnd.{RunEnd}
use Rattle.cet_run.specs.declared.report.RunEnd.TheVariants.{Ended, Died, LimitReached, ChoicesEnded}
use Rattle.cet_run.specs.declared.report.Report.{Report}
use Rattle.cet_run.specs.Report.{report}
use Rattle.cet_run.specs.Run.{applied, BeginsWith, AreChosen, UsesGiven}
use Rattle.cet_schedule.specs.Schedule.{schedule as events_of}
use Rattle.cet_verbs.specs.Held.{HoldsBytes}

-- ---- what the files hold

-- the bytes are those of the program that is loaded as the image: raw code, or an executable
abbrev pub IsProgram : Bool → List ℕ → Image → Type 0
IsProgram true bytes image = (bytes ≢ []) × IsRaw image bytes
IsProgram false bytes image = (exec : Exec) × IsExecFile bytes exec × IsImageOf exec image

-- the text is the schedule of these events
abbrev pub IsSchedule : List ℕ → List Event → Type 0
IsSchedule text events = events_of text ≡ Ok events

-- the file of an option holds the bytes; there are none where the option is not given
abbrev pub HoldsOption : Option Contents → Option (List ℕ) → List ℕ → Type 0
HoldsOption files None bytes = bytes ≡ []
HoldsOption files (Some name) bytes = HoldsBytes files name bytes

-- the file of an option holds the schedule of the events; there are none where the option is not given
abbrev pub HoldsSchedule : Option Contents → Option (List ℕ) → List Event → Type 0
HoldsSchedule files None events = events ≡ []
HoldsSchedule files (Some name) events = (text : List ℕ) × HoldsBytes files name text × IsSchedule text events

-- ---- the run

-- The report of a run of the image on the input. Its events begin with the given ones, as far as both go, and are not more than the limit; a process that
-- lives with fewer has used the given ones. Where every chooser tells a plan, they are the events that these plans choose.
pub record IsReportOf (image : Image) (input : List ℕ) (given : List Event) (plans : List (Option Plan)) (limit : ℕ) (r : Report) : Type 0 where
  pub started : State
  pub starts : start image input ≡ Some started
  pub reports : r ≡ report started (applied r.events) limit
  pub given_first : BeginsWith given (applied r.events)
  pub within : length r.events ≤ limit
  pub used : UsesGiven started given limit r.events
  pub chosen : AreChosen started given plans limit (applied r.events)

-- the report of the run of what the files hold, whose choosers tell these plans
pub record IsRun (files : Option Contents) (plans : List (Option Plan)) (raw : Bool) (schedule input : Option (List ℕ)) (limit : ℕ) (file : List ℕ) (r : Report) : Type 0 where
  pub program : List ℕ
  pub image : Image
  pub input_bytes : List ℕ
  pub events : List Event
  pub holds_program : HoldsBytes files file program
  pub is_program : IsProgram raw program image
  pub holds_input : HoldsOption files input input_bytes
  pub holds_events : HoldsSchedule files schedule events
  pub is_report : IsReportOf image input_bytes events plans limit r

-- 1 where a fault ended the process, or it ended with a status other than 0
abbrev pub run_status : RunEnd → ℕ
run_status (Ended status) = if status == 0 then 0 else 1
run_status (Died t fault rip) = 1
run_status LimitReached = 0
run_status ChoicesEnded = 0
