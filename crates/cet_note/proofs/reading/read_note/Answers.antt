use Rattle.std.proofs.Common.{subst, arith}
use Rattle.cet_note.specs.Fault.{Gives}
use Rattle.cet_note.proofs.WholeNotes.{note-again, found}
use Rattle.cet_note.proofs.FaultRows.{first_fault-read}
use Rattle.cet_note.proofs.FaultFound as faults
use Rattle.cet_note.proofs.reading.read_note.Goals as goal

pub returns-clause-found : goal.returns-clause-found
returns-clause-found c = found c.args.bytes.now c.whole.result (λ i. omega (arith, c.type_inv.bytes i)) c.whole.ensures

pub returns-clause-only : goal.returns-clause-only
returns-clause-only c note is = subst (λ r. Gives (λ props. props) c.whole.result r) (note-again c.args.bytes.now note is) c.whole.ensures

pub returns-clause-fault : goal.returns-clause-fault
returns-clause-fault c = faults.refused c.args.bytes.now c.whole.result (λ i. omega (arith, c.type_inv.bytes i)) c.whole.ensures

pub returns-clause-refused : goal.returns-clause-refused
returns-clause-refused c e is = subst (λ r. Gives (λ props. props) c.whole.result r) (first_fault-read c.args.bytes.now e (λ i. omega (arith, c.type_inv.bytes i)) is) c.whole.ensures
