use Rattle.std.proofs.Common.{◌≡◌, Result, Err, refl}
use Rattle.std.specs.Prelude.{◌≢◌}
use Rattle.cet_note.specs.declared.fault.NoteError.{NoteError}
use Rattle.cet_note.specs.declared.fault.NoteError.TheVariants.{NoMemory, Cut, Name, Kind, Size, Order, Twice}
use Rattle.cet_note.specs.Fault.{Fails}
use Rattle.cet_note.specs.Note.{Note}
use Rattle.cet_verbs.specs.Command.{Notes}
use Rattle.cet_verbs.specs.Notes.{HasNoteBytes}
use Rattle.cet_verbs.specs.Unfit.{IsUnfitFor}
use Rattle.cet_verbs.specs.declared.refusal.Unfit.TheVariants.{NoNote}
use Rattle.cet_verbs.proofs.Reports.{meets_more}
use Rattle.cet_verbs.proofs.notes.read_part.Goals as goal

-- a fault other than want of memory is that of the reading
is_fault : (fault : NoteError) (reading : Result Note NoteError) → fault ≢ NoMemory → Fails fault reading → reading ≡ Err fault
is_fault NoMemory reading known fails = absurd (known refl)
is_fault (Cut at) reading known fails = fails
is_fault (Name at) reading known fails = fails
is_fault (Kind at) reading known fails = fails
is_fault (Size at) reading known fails = fails
is_fault (Order at) reading known fails = fails
is_fault (Twice at) reading known fails = fails

pub returns-in-Err : goal.returns-in-Err
returns-in-Err c = record {
  note = tt;
  refused = λ told before after names holds. c.no_note.ensures told before after names
      (meets_more told c.args.name.now (λ held. HasNoteBytes held c.args.part.now) (λ held. c.in-Err.fault ≢ NoMemory → IsUnfitFor (Notes names) (NoNote c.in-Err.fault) held)
      (λ held has known. (c.args.part.now, has, is_fault c.in-Err.fault _ known c.in-Err.ensures.exact)) holds);
}
