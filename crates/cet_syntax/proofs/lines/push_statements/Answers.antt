use Rattle.std.proofs.Common.{List, ℕ, ◌++◌, ap, ◌∙◌}
use Rattle.std.specs.Option.{option_copied}
use Rattle.cet_syntax.specs.Pieces.{trimmed}
use Rattle.cet_syntax.specs.Lines.{items_of, numbered}
use Rattle.cet_syntax.proofs.LineSteps.{step_statements}
use Rattle.cet_syntax.proofs.lines.push_statements.Goals as goal

pub loop-rest-preserved : goal.loop-rest-preserved
loop-rest-preserved c =
    step_statements c.loop-rest.out.items _ c.args.line c.in-Some.statements.now (rw c.in-Some.is at c.loop-rest.invariant) _
    (c.in_ok-push_items.ensures ∙ ap (λ (cs : List ℕ). c.loop-rest.out.items ++ numbered c.args.line (items_of cs)) (c.trimmed.ensures ∙ ap trimmed c.before-in-Some.ensures))
    (option_copied c.behind-rest.result) c.behind-rest.ensures
