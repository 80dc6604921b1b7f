use Rattle.std.proofs.Common.{codes}
use Rattle.cet.specs.Command.{texts}
use Rattle.cet.specs.Words.{notes_app}
use Rattle.cet.proofs.FoundLemmas.{taken_by, values_found}
use Rattle.cet.proofs.command.read_notes.Goals as goal

pub returns-clause-found : goal.returns-clause-found
returns-clause-found c = (
  taken_by notes_app _ c.args.words.now c.in_ok-notes_command.ensures c.requires.few c.requires.verb c.in_ok-found.ensures.taken,
  values_found notes_app _ (texts c.args.words.now) _ (codes "files") _ c.in_ok-notes_command.ensures c.in_ok-found.ensures.rows c.in_ok-values.ensures.found,
)
