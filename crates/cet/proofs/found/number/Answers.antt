use Rattle.clap.specs.Words.{found_of, one_text}
use Rattle.clap.proofs.WalkLemmas.{one_text-rows}
use Rattle.cet.proofs.NumberLemmas.{number_read, no_number_read}
use Rattle.cet.proofs.found.number.Goals as goal

pub returns-clause-some : goal.returns-clause-some
returns-clause-some c =
    number_read (one_text (found_of c.args.found.now) c.args.id.now) _ c.get_one.result (one_text-rows (found_of c.args.found.now) c.args.id.now) c.get_one.ensures.none c.get_one.ensures.value

pub returns-clause-none : goal.returns-clause-none
returns-clause-none c =
    no_number_read (one_text (found_of c.args.found.now) c.args.id.now) _ c.get_one.result (one_text-rows (found_of c.args.found.now) c.args.id.now) c.get_one.ensures.none c.get_one.ensures.value
