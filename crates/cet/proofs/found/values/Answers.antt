use Rattle.std.proofs.Common.{◌∙◌, sym, rules}
use Rattle.clap.specs.Words.{found_of}
use Rattle.clap.proofs.WalkLemmas.{raw_values-rows}
use Rattle.cet.proofs.found.values.Goals as goal

pub returns-in_ok-from_slice-in-Some-clause-found :
    goal.returns-in_ok-from_slice-in-Some-clause-found
returns-in_ok-from_slice-in-Some-clause-found c =
    let raw = raw_values-rows (found_of c.args.found.now) c.args.id.now in
    sym raw ∙ search rules

pub returns-in-None-clause-refused : goal.returns-in-None-clause-refused
returns-in-None-clause-refused c same =
    let raw = raw_values-rows (found_of c.args.found.now) c.args.id.now in
    sym raw ∙ search rules
