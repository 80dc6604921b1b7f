use Rattle.clap.specs.Words.{rows_of, found_of, first_of, one_of}
use Rattle.cet.proofs.NumberLemmas.{none_plain}
use Rattle.cet.proofs.found.plain_number.Goals as goal

pub returns-in-Some-clause-none : goal.returns-in-Some-clause-none
returns-in-Some-clause-none c =
    let rows = rows_of (found_of c.args.found.now) in
    none_plain c.number.result (one_of c.args.id.now rows) (first_of c.args.id.now rows) c.number.ensures.none
