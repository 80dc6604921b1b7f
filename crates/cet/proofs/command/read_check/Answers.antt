use Rattle.std.proofs.Common.{codes, sym}
use Rattle.cet.specs.Command.{texts}
use Rattle.cet.specs.Words.{check_app}
use Rattle.cet.proofs.FoundLemmas.{taken_by, value_found}
use Rattle.cet.proofs.command.read_check.Goals as goal

pub returns-in-Some-clause-found : goal.returns-in-Some-clause-found
returns-in-Some-clause-found c =
    let words = texts c.args.words.now in
    let is = c.in_ok-check_command.ensures in
    let rows = c.in_ok-found.ensures.rows in (
      taken_by check_app _ c.args.words.now is c.requires.few c.requires.verb c.in_ok-found.ensures.taken,
      value_found check_app _ words _ (codes "raw") _ is rows (sym (c.is_given.ensures.0 c.if-is_given.true)),
      value_found check_app _ words _ (codes "file") _ is rows c.in-Some.ensures,
    )
