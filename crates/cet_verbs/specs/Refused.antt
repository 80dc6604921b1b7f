-- What the program's own refusals say: the cause of each, and the status and line that tell it.
use Rattle.std.specs.Prelude.{◌≡◌, ℕ, List, [], Bool, Option, Some, ◌⊎◌, ⊤}
use Rattle.cet_base.specs.Faults.{Rose}
use Rattle.cet_base.specs.Files.{Contents, FileMeets, IsToldAbsent, OthersStay}
use Rattle.cet_base.specs.Sink.{Gains, GainsPart}
use Rattle.cet_verbs.specs.declared.refusal.Refusal.{Refusal}
use Rattle.cet_verbs.specs.declared.refusal.Refusal.TheVariants.{Unread, Unfit, Unreplaced, NoMemory, Unwritten}
use Rattle.cet_process.specs.Chosen.{Plan}
use Rattle.cet_elf.specs.declared.object.Object.{Object}
use Rattle.cet_link.specs.declared.error.LinkError.{LinkError}
use Rattle.cet_link.specs.declared.error.LinkError.TheVariants as errors
use Rattle.cet_note.specs.declared.fault.NoteError.{NoteError}
use Rattle.cet_verbs.specs.declared.refusal.Unfit.TheVariants.{NoInputNote}
use Rattle.cet_verbs.specs.Links.{IsOfLink, word_at, fault_line}
use Rattle.cet_verbs.specs.Command.{Command, Run}
use Rattle.cet_verbs.specs.Text.{file_line}
use Rattle.cet_verbs.specs.Unfit.{bad_line, IsUnfitFor}
use Rattle.cet_verbs.specs.Steps.{Step, Read, Schedule, Replace, ComesTo, step_of, IsUnfit}
use Rattle.cet_verbs.specs.Answer.{IsReport, GainsOrFails}

-- what the files and the choosers told, and the files' counts and the output before and after
pub record Effects : Type 0 where
  pub files : Option Contents
  pub plans : List (Option Plan)
  pub faults_before : ℕ
  pub faults_after : ℕ
  pub out_before : Option (List ℕ)
  pub out_after : Option (List ℕ)
  pub out_faults_before : ℕ
  pub out_faults_after : ℕ

-- the refusal has its cause at this step
abbrev pub IsAtStep : Option Contents → ℕ → ℕ → Command → Step → Refusal → Type 0
IsAtStep files before after command step (Unread name) = (step ≡ Read name.now) × (Rose before after ⊎ IsToldAbsent files name.now)
IsAtStep files before after command step (Unfit name why) = (step ≡ step_of why name.now) × FileMeets files name.now (IsUnfitFor command why)
IsAtStep files before after command step (Unreplaced name told) = (step ≡ Replace name.now) × Rose before after × (told.items ≡ file_line name.now)
IsAtStep files before after command step NoMemory = Unit {0}
IsAtStep files before after command step Unwritten = ⊥

-- the refusal has its cause at the read of the file of an option
abbrev pub IsAtOption : Option Contents → ℕ → ℕ → Option (List ℕ) → Refusal → Type 0
IsAtOption files before after option refusal =
    (command : Command) → (name : List ℕ) × (option ≡ Some name) × IsAtStep files before after command (Read name) refusal

-- the refusal has its cause in the schedule of a run
abbrev pub IsAtSchedule : Option Contents → ℕ → ℕ → Option (List ℕ) → Refusal → Type 0
IsAtSchedule files before after schedule refusal = (raw : Bool) (input : Option (List ℕ)) (limit : ℕ) (file : List ℕ)
    → (name : List ℕ) × (schedule ≡ Some name) × IsAtStep files before after (Run raw schedule input limit file) (Schedule name) refusal

-- the refusal has its cause at a step that the command comes to
abbrev pub IsOfFiles : Option Contents → ℕ → ℕ → Command → Refusal → Type 0
IsOfFiles files before after command (Unread name) = ComesTo files command (Read name.now) × (Rose before after ⊎ IsToldAbsent files name.now)
IsOfFiles files before after command (Unfit name why) = IsUnfit files command name.now why
IsOfFiles files before after command (Unreplaced name told) = ComesTo files command (Replace name.now) × Rose before after × (told.items ≡ file_line name.now)
IsOfFiles files before after command NoMemory = Unit {0}
IsOfFiles files before after command Unwritten = ⊥

-- the refusal has its cause, and the output was left alone unless it is what failed
abbrev pub HasCause : Effects → Command → Refusal → Type 0
HasCause e command Unwritten = Rose e.out_faults_before e.out_faults_after × ((status : ℕ) × (text : List ℕ) × GainsPart e.out_before e.out_after text × IsReport e.files e.plans command status text)
HasCause e command refusal = Gains e.out_before e.out_after [] × IsOfFiles e.files e.faults_before e.faults_after command refusal

-- a fault of a link is not told as a line: it is that of the note of a file, or there was no memory for the line
abbrev pub IsNoLine : List (List ℕ) → LinkError → Refusal → Type 0
IsNoLine names fault (Unfit name why) = (input : ℕ) × (error : NoteError) × (fault ≡ errors.Note input error) × (name.now ≡ word_at names input) × (why ≡ NoInputNote error)
IsNoLine names fault NoMemory = Unit {0}
IsNoLine names fault refusal = ⊥

-- nor is it told on the output, which may have failed
abbrev pub IsUntold : Option (List ℕ) → Option (List ℕ) → ℕ → ℕ → List ℕ → List (List ℕ) → List Object → LinkError → Refusal → Type 0
IsUntold old new before after start names objects fault Unwritten = Rose before after × GainsPart old new (fault_line start names objects fault) × IsOfLink fault
IsUntold old new before after start names objects fault refusal = Gains old new [] × IsNoLine names fault refusal

-- a file of this name could not be read when its step came: it is absent, or the count of faults rose
abbrev pub IsUnread : Option Contents → Option Contents → ℕ → ℕ → Command → List ℕ → Type 0
IsUnread old now before after command name = ComesTo old command (Read name) × (Rose before after ⊎ IsToldAbsent old name) × (now ≡ old)

-- a file of this name could not be replaced when its step came: the count of faults rose, and no other file changed
abbrev pub IsUnreplaced : Option Contents → Option Contents → ℕ → ℕ → Command → List ℕ → Type 0
IsUnreplaced old now before after command name = ComesTo old command (Replace name) × Rose before after × OthersStay old now name

-- the refusal came before a run had its first event
abbrev pub IsBeforeRun : Refusal → Type 0
IsBeforeRun NoMemory = ⊥
IsBeforeRun Unwritten = ⊥
IsBeforeRun refusal = ⊤

-- what the refusal leaves of the files: all as they were, but for one that could not be replaced
abbrev pub LeavesRefused : Option Contents → Option Contents → Refusal → Type 0
LeavesRefused old now (Unreplaced name told) = OthersStay old now name.now
LeavesRefused old now refusal = now ≡ old

-- the refusal was told by this status and on standard error, or there was no memory for the line
abbrev pub Tells : Refusal → ℕ → Option (List ℕ) → Option (List ℕ) → ℕ → ℕ → Type 0
Tells (Unread name) status old new before after = ((status ≡ 3) × GainsOrFails old new before after (file_line name.now)) ⊎ ((status ≡ 4) × Gains old new [])
Tells (Unreplaced name told) status old new before after = (status ≡ 3) × GainsOrFails old new before after told.items
Tells (Unfit name why) status old new before after = ((status ≡ 6) × GainsOrFails old new before after (bad_line name.now why)) ⊎ ((status ≡ 4) × Gains old new [])
Tells NoMemory status old new before after = (status ≡ 4) × Gains old new []
Tells Unwritten status old new before after = (status ≡ 5) × Gains old new []
