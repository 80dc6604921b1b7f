use Rattle.std.proofs.Common.{codes}
use Rattle.std.proofs.lemmas.Result.{err_from_is_err_and}
use Rattle.cet.specs.Command.{texts}
use Rattle.cet.specs.Words.{link_app}
use Rattle.cet.proofs.Asked.{none_but_link}
use Rattle.cet.proofs.FoundLemmas.{taken_by, value_found, values_found, values_given}
use Rattle.cet.proofs.command.read_link.Goals as goal

pub returns-in_err-values-in-Some-Some-clause-refused :
    goal.returns-in_err-values-in-Some-Some-clause-refused
returns-in_err-values-in-Some-Some-clause-refused c =
    let words = texts c.args.words.now in
    let p = err_from_is_err_and c.from_residual-in_err-values-in-Some-Some.result c.from_residual-in_err-values-in-Some-Some.ensures.1 in
    rw (p.1, p.2)
    (λ same. none_but_link words c.requires.verb (λ to start files asks.
    values_given link_app _ words _ (codes "files") files c.in_ok-link_command.ensures c.in_ok-found.ensures.rows asks.3 (c.in_err-values-in-Some-Some.ensures.refused same)))

pub returns-in-Some-Some-clause-found : goal.returns-in-Some-Some-clause-found
returns-in-Some-Some-clause-found c =
    let words = texts c.args.words.now in
    let is = c.in_ok-link_command.ensures in
    let rows = c.in_ok-found.ensures.rows in (
      taken_by link_app _ c.args.words.now is c.requires.few c.requires.verb c.in_ok-found.ensures.taken,
      value_found link_app _ words _ (codes "out") _ is rows c.in-Some-Some.ensures,
      value_found link_app _ words _ (codes "entry") _ is rows c.in-Some-Some.ensures',
      values_found link_app _ words _ (codes "files") _ is rows c.in_ok-values-in-Some-Some.ensures.found,
    )
