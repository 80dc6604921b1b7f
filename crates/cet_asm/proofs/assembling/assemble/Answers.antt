use Rattle.std.proofs.Common.{◌≡◌, [], Ok}
use Rattle.cet_syntax.specs.Lines.{items_in}
use Rattle.cet_asm.specs.Assembled.{placed_from, first_state}
use Rattle.cet_asm.proofs.FromPlaced.{assembled_from, fault_from, early_fault}
use Rattle.cet_asm.proofs.assembling.assemble.Goals as goal

pub returns-in-Ok-clause-assembled : goal.returns-in-Ok-clause-assembled
returns-in-Ok-clause-assembled c =
    let is : placed_from [] first_state (items_in c.args.text.now) ≡ Ok c.as_slice.result.now = rw c.as_slice.ensures.value c.in-Ok.ensures.placed in
    assembled_from c.args.text.now c.as_slice.result.now c.object.result is c.object.ensures.object

pub returns-in-Ok-clause-fault : goal.returns-in-Ok-clause-fault
returns-in-Ok-clause-fault c =
    let is : placed_from [] first_state (items_in c.args.text.now) ≡ Ok c.as_slice.result.now = rw c.as_slice.ensures.value c.in-Ok.ensures.placed in
    fault_from c.args.text.now c.as_slice.result.now c.object.result is c.object.ensures.fault

pub returns-in-Err-clause-fault : goal.returns-in-Err-clause-fault
returns-in-Err-clause-fault c = λ some. early_fault c.args.text.now _ (c.in-Err.ensures.fault some)
