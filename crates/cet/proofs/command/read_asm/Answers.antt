use Rattle.std.proofs.Common.{codes}
use Rattle.cet.specs.Command.{texts}
use Rattle.cet.specs.Words.{asm_app}
use Rattle.cet.proofs.FoundLemmas.{taken_by, value_found}
use Rattle.cet.proofs.command.read_asm.Goals as goal

pub returns-in-Some-Some-clause-found : goal.returns-in-Some-Some-clause-found
returns-in-Some-Some-clause-found c =
    let words = texts c.args.words.now in
    let is = c.in_ok-asm_command.ensures in
    let rows = c.in_ok-found.ensures.rows in (
      taken_by asm_app _ c.args.words.now is c.requires.few c.requires.verb c.in_ok-found.ensures.taken,
      value_found asm_app _ words _ (codes "out") _ is rows c.in-Some-Some.ensures,
      value_found asm_app _ words _ (codes "file") _ is rows c.in-Some-Some.ensures',
    )
