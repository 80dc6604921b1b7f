-- Why a file is unfit for a command, and the line that says so.
use Rattle.std.specs.Prelude.{◌≡◌, ℕ, ◌<◌, List, [], ◌++◌, length, Bool, true, false, Some, Err, codes}
use Rattle.std.specs.Fmt.{decimal}
use Rattle.cet_base.specs.declared.reading.TheConstants.{FILE_LIMIT}
use Rattle.cet_base.specs.Text.{line, hexadecimal}
use Rattle.cet_isa.specs.declared.decode_error.DecodeError.{DecodeError}
use Rattle.cet_isa.specs.declared.decode_error.DecodeError.TheVariants.{Short, Outside}
use Rattle.cet_elf.specs.declared.error.ElfError.{ElfError}
use Rattle.cet_elf.specs.declared.error.ElfError.TheVariants as elf
use Rattle.cet_elf.specs.declared.exec.Exec.{Exec}
use Rattle.cet_elf.specs.declared.object.Object.{Object}
use Rattle.cet_elf.specs.ObjectFile.{object_fault, IsObjectFile}
use Rattle.cet_exec.specs.ExecFile.{exec_fault, IsExecFile}
use Rattle.cet_image.specs.declared.error.ImageError.{ImageError}
use Rattle.cet_image.specs.declared.error.ImageError.TheVariants as images
use Rattle.cet_image.specs.ImageOf.{IsImageError, raw_error}
use Rattle.cet_link.specs.Notes.{reading}
use Rattle.cet_asm.specs.declared.error.AsmKind.{AsmKind}
use Rattle.cet_asm.specs.declared.error.AsmKind.TheVariants as asm
use Rattle.cet_asm.specs.Assembled.{IsAsmFault}
use Rattle.cet_process.specs.declared.load_error.LoadError.{LoadError}
use Rattle.cet_process.specs.declared.load_error.LoadError.TheVariants as loads
use Rattle.cet_process.specs.Start.{load_error}
use Rattle.cet_rules.specs.declared.image.Image.{Image}
use Rattle.cet_rules.specs.Raw.{raw_start}
use Rattle.cet_listing.specs.Listing.{StopsAt}
use Rattle.cet_schedule.specs.declared.error.ScheduleError.{ScheduleError}
use Rattle.cet_schedule.specs.declared.error.ScheduleError.TheVariants as schedules
use Rattle.cet_schedule.specs.Schedule.{schedule as events_of}
use Rattle.cet_note.specs.declared.fault.NoteError.{NoteError}
use Rattle.cet_note.specs.declared.fault.NoteError.TheVariants as faults
use Rattle.cet_note.specs.Fault.{note_in}
use Rattle.cet_verbs.specs.declared.refusal.Unfit.{Unfit}
use Rattle.cet_verbs.specs.declared.refusal.Unfit.TheVariants.{Empty, TooLarge, NoObject, NoNote, NoForm, NoAssembly, NoSchedule, NoExec, NoImage, NoLoad, NoInputNote}
use Rattle.cet_verbs.specs.Command.{Command, CheckRaw, Asm, Dis, Notes, Run, Link}
use Rattle.cet_verbs.specs.Notes.{BeginsObject, BeginsExec, HasNoteBytes}
use Rattle.cet_verbs.specs.Runs.{IsProgram}

-- the word for the fault of a note
abbrev pub fault_word : NoteError → List ℕ
fault_word (faults.Cut at) = codes "cut"
fault_word (faults.Name at) = codes "name"
fault_word (faults.Kind at) = codes "kind"
fault_word (faults.Size at) = codes "size"
fault_word (faults.Order at) = codes "order"
fault_word (faults.Twice at) = codes "twice"
fault_word faults.NoMemory = codes "nomemory"

-- the offset of the field that has it
abbrev pub fault_place : NoteError → ℕ
fault_place (faults.Cut at) = at
fault_place (faults.Name at) = at
fault_place (faults.Kind at) = at
fault_place (faults.Size at) = at
fault_place (faults.Order at) = at
fault_place (faults.Twice at) = at
fault_place faults.NoMemory = 0

-- the word for the fault of an object or an executable
abbrev pub elf_word : ElfError → List ℕ
elf_word (elf.Magic at) = codes "magic"
elf_word (elf.Class at) = codes "class"
elf_word (elf.Machine at) = codes "machine"
elf_word (elf.Kind at) = codes "kind"
elf_word (elf.Bounds at) = codes "bounds"
elf_word (elf.Name at) = codes "name"
elf_word (elf.SymbolIndex at) = codes "symbolindex"
elf_word (elf.RelaType at value) = codes "relatype"
elf_word (elf.TooMany at) = codes "toomany"
elf_word (elf.Unsupported at) = codes "unsupported"
elf_word elf.NoMemory = codes "nomemory"

-- the offset in the file of the field that has it
abbrev pub elf_place : ElfError → ℕ
elf_place (elf.Magic at) = at
elf_place (elf.Class at) = at
elf_place (elf.Machine at) = at
elf_place (elf.Kind at) = at
elf_place (elf.Bounds at) = at
elf_place (elf.Name at) = at
elf_place (elf.SymbolIndex at) = at
elf_place (elf.RelaType at value) = at
elf_place (elf.TooMany at) = at
elf_place (elf.Unsupported at) = at
elf_place elf.NoMemory = 0

-- the word for why some bytes are no form
abbrev pub no_form_word : DecodeError → List ℕ
no_form_word Short = codes "short"
no_form_word Outside = codes "outside"

-- the word for what is wrong with an assembly text
abbrev pub asm_word : AsmKind → List ℕ
asm_word asm.Word = codes "word"
asm_word asm.Operand = codes "operand"
asm_word asm.Range = codes "range"
asm_word asm.Label = codes "label"
asm_word asm.Twice = codes "twice"
asm_word asm.TooMany = codes "toomany"
asm_word asm.NoMemory = codes "nomemory"

-- the word for what is wrong with a schedule
abbrev pub schedule_word : ScheduleError → List ℕ
schedule_word (schedules.Line line) = codes "line"
schedule_word (schedules.TooMany line) = codes "toomany"
schedule_word schedules.NoMemory = codes "nomemory"

-- the line that has it
abbrev pub schedule_line : ScheduleError → ℕ
schedule_line (schedules.Line line) = line
schedule_line (schedules.TooMany line) = line
schedule_line schedules.NoMemory = 0

-- the word for why an executable is no image
abbrev pub image_word : ImageError → List ℕ
image_word images.Empty = codes "empty"
image_word (images.Note error) = fault_word error
image_word images.TooMany = codes "toomany"
image_word (images.Range at) = codes "range"
image_word (images.Overlap a b) = codes "overlap"
image_word images.NoMemory = codes "nomemory"

-- where: at the offset of a field in the note, or at the start of the segment or function that has it, the first one of two
abbrev pub image_place : ImageError → List ℕ
image_place (images.Note error) = decimal (fault_place error)
image_place (images.Range at) = hexadecimal at
image_place (images.Overlap a b) = hexadecimal a
image_place error = codes "0"

-- the word for why a program is not loaded
abbrev pub load_word : LoadError → List ℕ
load_word (loads.Place at) = codes "place"
load_word (loads.Shared a b) = codes "shared"
load_word loads.NoMemory = codes "nomemory"

-- the start of the segment that is out of place, or of the first that shares a page
abbrev pub load_place : LoadError → ℕ
load_place (loads.Place at) = at
load_place (loads.Shared a b) = a
load_place loads.NoMemory = 0

abbrev pub reason : Unfit → List ℕ
reason Empty = codes "empty"
reason TooLarge = codes "toolarge"
reason (NoObject fault) = elf_word fault
reason (NoNote fault) = fault_word fault
reason (NoInputNote fault) = fault_word fault
reason (NoForm at why) = no_form_word why
reason (NoAssembly fault) = asm_word fault.kind
reason (NoSchedule fault) = schedule_word fault
reason (NoExec fault) = elf_word fault
reason (NoImage error) = image_word error
reason (NoLoad fault) = load_word fault

-- where: at the start of the file, at the offset of a field in it, at that of a field in its note, at the address of the bytes that are no
-- form, of a segment or of a function, or on a line
abbrev pub place : Unfit → List ℕ
place (NoObject fault) = decimal (elf_place fault)
place (NoNote fault) = decimal (fault_place fault)
place (NoInputNote fault) = decimal (fault_place fault)
place (NoForm at why) = hexadecimal at
place (NoAssembly fault) = decimal fault.line
place (NoSchedule fault) = decimal (schedule_line fault)
place (NoExec fault) = decimal (elf_place fault)
place (NoImage error) = image_place error
place (NoLoad fault) = hexadecimal (load_place fault)
place why = codes "0"

-- the file of this name is not of its form, or passes a limit
abbrev pub bad_line : List ℕ → Unfit → List ℕ
bad_line name why = line (codes "cet: bad " ++ name ++ codes " at " ++ place why ++ codes ": " ++ reason why)

-- the program of these bytes, raw code or an executable, is no image for this reason
abbrev pub HasNoImage : Bool → List ℕ → ImageError → Type 0
HasNoImage true bytes error = raw_error bytes ≡ Some error
HasNoImage false bytes error = (exec : Exec) × IsExecFile bytes exec × IsImageError exec error

-- what a file holds is unfit for the command, for this reason
abbrev pub IsUnfitFor : Command → Unfit → List ℕ → Type 0
IsUnfitFor command TooLarge held = FILE_LIMIT < length held
IsUnfitFor (CheckRaw file) (NoImage error) held = HasNoImage true held error
IsUnfitFor (Asm out file) (NoAssembly fault) held = IsAsmFault held fault
IsUnfitFor (Dis file) Empty held = held ≡ []
IsUnfitFor (Dis file) (NoForm at why) held = StopsAt raw_start held at why
IsUnfitFor (Notes files) (NoObject fault) held = BeginsObject held × (object_fault held ≡ Some fault)
IsUnfitFor (Notes files) (NoExec fault) held = BeginsExec held × (exec_fault held ≡ Some fault)
IsUnfitFor (Notes files) (NoNote fault) held = (part : List ℕ) × HasNoteBytes held part × (note_in part ≡ Err fault)
IsUnfitFor (Run raw schedule input limit file) (NoSchedule fault) held = events_of held ≡ Err fault
IsUnfitFor (Run raw schedule input limit file) (NoExec fault) held = (raw ≡ false) × (exec_fault held ≡ Some fault)
IsUnfitFor (Run raw schedule input limit file) (NoImage error) held = HasNoImage raw held error
IsUnfitFor (Run raw schedule input limit file) (NoLoad fault) held = (image : Image) × IsProgram raw held image × (load_error image ≡ Some fault)
IsUnfitFor (Link out start files) (NoObject fault) held = object_fault held ≡ Some fault
IsUnfitFor (Link out start files) (NoInputNote fault) held = (object : Object) × IsObjectFile held object × (reading object ≡ Err fault)
IsUnfitFor command why held = ⊥
