-- What the program answers: the report of a command, and the cause of every refusal.
use Rattle.std.specs.Prelude.{◌≡◌, ◌≢◌, ℕ, List, [], Option, Some, Ok, unwrap_or, IsBitSet, ◌⊎◌, ◌↔◌}
use Rattle.cet_base.specs.Faults.{Rose}
use Rattle.cet_base.specs.Files.{Contents, FileMeets, Replaces}
use Rattle.cet_base.specs.Sink.{Gains, GainsPart}
use Rattle.cet_rules.specs.declared.image.Image.{Image}
use Rattle.cet_rules.specs.declared.verdict.Verdict.{Verdict}
use Rattle.cet_rules.specs.declared.verdict.Verdict.TheVariants.{Accepted, Refused}
use Rattle.cet_rules.specs.First.{IsFirst}
use Rattle.cet_rules.specs.Raw.{IsRaw, raw_start}
use Rattle.cet_rules.specs.Report.{report}
use Rattle.cet_listing.specs.Listing.{IsListing}
use Rattle.cet_note.specs.Note.{Note, bits_of}
use Rattle.cet_note.specs.Fault.{note_in}
use Rattle.cet_elf.specs.declared.object.Object.{Object}
use Rattle.cet_elf.specs.ObjectFile.{IsObjectFile}
use Rattle.cet_elf.specs.Written.{written}
use Rattle.cet_elf.specs.declared.exec.Exec.{Exec}
use Rattle.cet_exec.specs.ExecFile.{IsExecFile}
use Rattle.cet_exec.specs.Written.{written as written_exec}
use Rattle.cet_asm.specs.Assembled.{Assembles}
use Rattle.cet_note.specs.Merged.{IsMerged, EveryNoteSets}
use Rattle.cet_process.specs.Chosen.{Plan}
use Rattle.cet_run.specs.declared.report.Report.{Report}
use Rattle.cet_run.specs.Text.{run_text}
use Rattle.cet_verbs.specs.Command.{Command, CheckRaw, Asm, Dis, Notes, Run, Link, Names}
use Rattle.cet_verbs.specs.Held.{HoldsBytes}
use Rattle.cet_verbs.specs.Notes.{AllBoth, HoldNotes, notes_text}
use Rattle.cet_verbs.specs.Runs.{IsRun, run_status}
use Rattle.cet_verbs.specs.Links.{HoldLinked, HoldUnlinked, HasObjectNote}
use Rattle.cet_verbs.specs.Steps.{IsUnfit}
use Rattle.cet_verbs.specs.Unfit.{bad_line}
use Rattle.cet_verbs.specs.declared.refusal.Unfit.{Unfit}

-- ---- reports

-- the verdict on the image of raw bytes
abbrev pub IsRawVerdict : List ℕ → Verdict → Type 0
IsRawVerdict bytes verdict = (image : Image) × IsRaw image bytes × IsFirst image verdict

-- 0 where no rule is broken, else 1
abbrev pub status_of : Verdict → ℕ
status_of Accepted = 0
status_of (Refused rule at) = 1

-- the file of this name holds the assembly text of the object
abbrev pub HoldsTextOf : Option Contents → List ℕ → Object → Type 0
HoldsTextOf files name object = (text : List ℕ) × HoldsBytes files name text × Assembles text object

-- the status and the whole text of the command's report, over the files and by the choosers of a run, as far as they tell what they hold and plan
abbrev pub IsReport : Option Contents → List (Option Plan) → Command → ℕ → List ℕ → Type 0
IsReport files plans (CheckRaw file) status text =
    (bytes : List ℕ) × (verdict : Verdict) × FileMeets files file (λ held. held ≡ bytes) × IsRawVerdict bytes verdict
    × (status ≡ status_of verdict) × (text ≡ report verdict)
IsReport files plans (Asm out file) status text = (object : Object) × HoldsTextOf files file object × (status ≡ 0) × (text ≡ [])
IsReport files plans (Dis file) status text =
    (bytes : List ℕ) × HoldsBytes files file bytes × (bytes ≢ []) × IsListing raw_start bytes text × (status ≡ 0)
IsReport files plans (Notes names) status text =
    (notes : List Note) × (merged : Note) × HoldNotes files names notes × IsMerged notes merged
    × (status ≡ 0) × (text ≡ notes_text names notes merged)
IsReport files plans (Run raw schedule input limit file) status text =
    (r : Report) × IsRun files plans raw schedule input limit file r × (status ≡ run_status r.last) × (text ≡ run_text r)
IsReport files plans (Link out start names) status text =
    (((exec : Exec) × HoldLinked files start names exec) × (status ≡ 0) × (text ≡ [])) ⊎ (HoldUnlinked files start names text × (status ≡ 1))

-- ---- outputs

-- the output gained the text, or, where its count of faults rose, some first part of it
abbrev pub GainsOrFails : Option (List ℕ) → Option (List ℕ) → ℕ → ℕ → List ℕ → Type 0
GainsOrFails old new before after text = Gains old new text ⊎ (Rose before after × GainsPart old new text)

-- ---- files

-- what a command that was carried out with status 0 leaves of the files. `asm` makes one of them the object file of the text, bytes that are read as
-- the object, and `link` one of them the executable file of the objects
abbrev pub Leaves : Option Contents → Option Contents → Command → Type 0
Leaves old now (Asm out file) =
    (object : Object) × HoldsTextOf old file object × IsObjectFile (written object) object × Replaces old now out (written object)
Leaves old now (Link out start names) =
    (exec : Exec) × HoldLinked old start names exec × IsExecFile (written_exec exec) exec × Replaces old now out (written_exec exec)
Leaves old now command = now ≡ old

-- and with status 0 or 1: a link that is refused changes nothing
abbrev pub LeavesWith : ℕ → Option Contents → Option Contents → Command → Type 0
LeavesWith status old now (Link out start names) = ((status ≡ 0) × Leaves old now (Link out start names)) ⊎ ((status ≡ 1) × (now ≡ old))
LeavesWith status old now command = Leaves old now command

-- ---- features

-- the bytes are an executable with this note, which is empty where there is none
abbrev pub HasExecNote : List ℕ → Note → Type 0
HasExecNote bytes note = (exec : Exec) × IsExecFile bytes exec × (note_in (unwrap_or exec.notes []) ≡ Ok note)

-- GNU_PROPERTY_X86_FEATURE_1_AND, and its bits GNU_PROPERTY_X86_FEATURE_1_IBT and GNU_PROPERTY_X86_FEATURE_1_SHSTK (System V x86-64 psABI,
-- "Program Property")
abbrev pub feature_word : ℕ
feature_word = 0xc0000002

abbrev pub ibt : ℕ
ibt = 0

abbrev pub shstk : ℕ
shstk = 1

-- the executable that a link has written claims this feature in its note exactly where the note of every input does
abbrev pub Claims : Note → List Note → ℕ → Type 0
Claims written inputs feature = IsBitSet (bits_of written feature_word) feature ↔ EveryNoteSets inputs feature_word feature

-- the file `out` now holds an executable, the files of these names held objects, and it claims IBT and SHSTK exactly where all of them did
pub record ClaimsWhatAllClaim (old now : Option Contents) (out : List ℕ) (names : List (List ℕ)) : Type 0 where
  pub written : Note
  pub inputs : List Note
  pub is_written : FileMeets now out (λ held. HasExecNote held written)
  pub are_inputs : AllBoth (λ name note. FileMeets old name (λ held. HasObjectNote held note)) names inputs
  pub claims_ibt : Claims written inputs ibt
  pub claims_shstk : Claims written inputs shstk

-- ---- completeness

-- every file that the command names is there
abbrev pub AreThere : Contents → Command → Type 0
AreThere files command = (name : List ℕ) → Names command name → (bytes : List ℕ) × (files name ≡ Some bytes)

-- what the program answers over files that hold this and by these choosers, where nothing fails: a status, and the whole texts on output and standard
-- error
abbrev pub IsAnswer : Contents → List (Option Plan) → Command → ℕ → List ℕ → List ℕ → Type 0
IsAnswer files plans command status out err =
    (IsReport (Some files) plans command status out × (err ≡ [])) ⊎ ((status ≡ 6) × (out ≡ [])
    × ((name : List ℕ) × (why : Unfit) × IsUnfit (Some files) command name why × (err ≡ bad_line name why)))
