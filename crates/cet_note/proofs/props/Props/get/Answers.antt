use Rattle.std.proofs.Common.{◌∙◌}
use Rattle.cet_note.proofs.Words.{word_of-lookup}
use Rattle.cet_note.proofs.props.Props.get.Goals as goal

pub returns : goal.returns
returns c = c.copied.ensures ∙ c.get.ensures.value ∙ rw c.self.view_is (word_of-lookup c.args.self.now c.args.kind)
