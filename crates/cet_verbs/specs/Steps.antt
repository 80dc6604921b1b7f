-- The steps of a command that can refuse a file, in their order. The first that does decides.
use Rattle.std.specs.Prelude.{◌≡◌, ◌≢◌, ◌≤◌, ◌⊎◌, ℕ, List, [], ◌∷◌, ◌++◌, length, map, Option, None, ⊤}
use Rattle.cet_base.specs.declared.reading.TheConstants.{FILE_LIMIT}
use Rattle.cet_base.specs.Files.{Contents, FileMeets}
use Rattle.cet_process.specs.declared.event.Event.{Event}
use Rattle.cet_process.specs.Start.{load_error}
use Rattle.cet_rules.specs.declared.image.Image.{Image}
use Rattle.cet_rules.specs.Raw.{raw_start}
use Rattle.cet_listing.specs.Listing.{IsListed}
use Rattle.cet_note.specs.Note.{Note}
use Rattle.cet_elf.specs.declared.object.Object.{Object}
use Rattle.cet_elf.specs.declared.exec.Exec.{Exec}
use Rattle.cet_elf.specs.ObjectFile.{IsObjectFile}
use Rattle.cet_asm.specs.Assembled.{Assembles}
use Rattle.cet_verbs.specs.declared.refusal.Unfit.{Unfit}
use Rattle.cet_verbs.specs.declared.refusal.Unfit.TheVariants.{TooLarge, NoSchedule, NoInputNote}
use Rattle.cet_verbs.specs.Command.{Command, CheckRaw, Asm, Dis, Notes, Run, Link, option_file, files_of, replaced_by}
use Rattle.cet_verbs.specs.Notes.{IsFileNote}
use Rattle.cet_verbs.specs.Runs.{IsProgram, IsSchedule}
use Rattle.cet_verbs.specs.Links.{HoldLinked, HasObjectNote}
use Rattle.cet_verbs.specs.Unfit.{IsUnfitFor}

pub data Step : Type 0 where
  -- the file of this name is read
  Read : (file : List ℕ) → Step
  -- the schedule that it holds is looked at
  Schedule : (file : List ℕ) → Step
  -- its form is looked at; for `run`, whether it holds a program that can be loaded
  Form : (file : List ℕ) → Step
  -- the property note of the object that it holds is looked at
  ItsNote : (file : List ℕ) → Step
  -- the objects are linked
  Join : Step
  -- the file of this name is replaced
  Replace : (file : List ℕ) → Step

-- what is looked at once all files are read: their forms, and for `link` then their notes and whether they can be linked. Any bytes are an input
abbrev pub forms_of : Command → List Step
forms_of (Run raw schedule input limit file) = map Schedule (option_file schedule) ++ Form file ∷ []
forms_of (Link out start files) = map Form files ++ (map ItsNote files ++ Join ∷ [])
forms_of command = map Form (files_of command)

-- every file is read before the form of any is looked at, and none is replaced before
abbrev pub steps_of : Command → List Step
steps_of command = map Read (files_of command) ++ (forms_of command ++ map Replace (replaced_by command))

-- a file of the command that holds this is of its form
abbrev pub HasForm : Command → List ℕ → Type 0
HasForm (CheckRaw file) held = held ≢ []
HasForm (Asm out file) held = (object : Object) × Assembles held object
HasForm (Dis file) held = (held ≢ []) × IsListed raw_start held
HasForm (Notes files) held = (note : Note) × IsFileNote held note
HasForm (Run raw schedule input limit file) held = (image : Image) × IsProgram raw held image × (load_error image ≡ None)
HasForm (Link out start files) held = (object : Object) × IsObjectFile held object

-- the files hold objects that can be linked, where this is asked for
abbrev pub CanBeLinked : Option Contents → Command → Type 0
CanBeLinked files (Link out start names) = (exec : Exec) × HoldLinked files start names exec
CanBeLinked files command = ⊤

-- the step refuses nothing, as far as it is told what the files hold
abbrev pub Passes : Option Contents → Command → Step → Type 0
Passes files command (Read file) = FileMeets files file (λ held. length held ≤ FILE_LIMIT)
Passes files command (Schedule file) = FileMeets files file (λ held. (events : List Event) × IsSchedule held events)
Passes files command (Form file) = FileMeets files file (HasForm command)
Passes files command (ItsNote file) = FileMeets files file (λ held. (note : Note) × HasObjectNote held note)
Passes files command Join = CanBeLinked files command
Passes files command (Replace file) = ⊤

-- the step is one of these, and P holds of each before it
abbrev pub Reaches : (Step → Type 0) → List Step → Step → Type 0
Reaches P [] step = ⊥
Reaches P (first ∷ others) step = (step ≡ first) ⊎ (P first × Reaches P others step)

-- the command comes to this step
abbrev pub ComesTo : Option Contents → Command → Step → Type 0
ComesTo files command step = Reaches (Passes files command) (steps_of command) step

-- the step that a file of this name does not pass for this reason
abbrev pub step_of : Unfit → List ℕ → Step
step_of TooLarge name = Read name
step_of (NoSchedule fault) name = Schedule name
step_of (NoInputNote fault) name = ItsNote name
step_of why name = Form name

-- the command comes to a file of this name, and the file is unfit for it for this reason
abbrev pub IsUnfit : Option Contents → Command → List ℕ → Unfit → Type 0
IsUnfit files command name why = ComesTo files command (step_of why name) × FileMeets files name (IsUnfitFor command why)
