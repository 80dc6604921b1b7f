use Rattle.cet_decode.proofs.Answers.{bytes_of_slice, answer_found, answer_only, answer_short, answer_outside}
use Rattle.cet_decode.proofs.decode.Goals as goal

pub returns-clause-found : goal.returns-clause-found
returns-clause-found c = answer_found c.args.bytes.now _ (bytes_of_slice _ c.type_inv.bytes) c.measured.ensures

pub returns-clause-only : goal.returns-clause-only
returns-clause-only c = answer_only c.args.bytes.now _ c.measured.ensures

pub returns-clause-short : goal.returns-clause-short
returns-clause-short c = answer_short c.args.bytes.now _ (bytes_of_slice _ c.type_inv.bytes) c.measured.ensures

pub returns-clause-outside : goal.returns-clause-outside
returns-clause-outside c = answer_outside c.args.bytes.now _ (bytes_of_slice _ c.type_inv.bytes) c.measured.ensures
