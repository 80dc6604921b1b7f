use Rattle.std.proofs.Common.{List, ℕ, ◌++◌, ap, ◌∙◌}
use Rattle.std.specs.Option.{option_copied}
use Rattle.cet_syntax.specs.Lines.{items_on}
use Rattle.cet_syntax.proofs.LineSteps.{step_lines}
use Rattle.cet_syntax.proofs.lines.read_items.Goals as goal

pub loop-rest-preserved : goal.loop-rest-preserved
loop-rest-preserved c =
    step_lines c.loop-rest.out.items _ c.loop-rest.line c.in-Some.lines.now (rw c.in-Some.is at c.loop-rest.invariant) _
    (c.in_ok-push_line.ensures ∙ ap (λ (cs : List ℕ). c.loop-rest.out.items ++ items_on c.loop-rest.line cs) c.before-in-Some.ensures)
    (option_copied c.behind-rest.result) c.behind-rest.ensures c.next_line-line.result c.next_line-line.ensures
