use Rattle.std.proofs.Common.{◌∙◌, ap}
use Rattle.cet_link.specs.Places.{start_behind}
use Rattle.cet_link.proofs.LayoutLemmas.{ends-after}
use Rattle.cet_link.proofs.layout.Ends.place.Goals as goal

pub returns-clause-ends : goal.returns-clause-ends
returns-clause-ends c =
    ends-after c.args.self.now c.set.new.self c.args.section.now c.start_of-start.result
    (c.start_of-start.ensures.start ∙ ap (λ e. start_behind e c.args.section.now) c.end.ensures) c.set.ensures
