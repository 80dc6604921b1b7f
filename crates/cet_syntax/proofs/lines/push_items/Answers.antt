use Rattle.std.proofs.Common.{sym}
use Rattle.cet_syntax.proofs.Labels.{shrinks}
use Rattle.cet_syntax.proofs.Items.{step_label, end_none, end_some}
use Rattle.cet_syntax.proofs.lines.push_items.Goals as goal

pub loop-name-smaller : goal.loop-name-smaller
loop-name-smaller c = shrinks c.loop-name.rest.now _ (sym c.in-Some.ensures)

pub loop-name-preserved : goal.loop-name-preserved
loop-name-preserved c = step_label c.loop-name.out.items _ c.args.line c.loop-name.rest.now c.in-Some.name c.in-Some.next.now c.in-Some.ensures c.loop-name.invariant _ c.in_ok-push.ensures.items

pub returns-in_ok-push-2 : goal.returns-in_ok-push-2
returns-in_ok-push-2 c = end_some c.loop-name.out.items _ c.args.line c.loop-name.rest.now (sym c.in_default.ensures) (sym c.if-not-is_empty.ensures) c.loop-name.invariant _ c.in_ok-push-2.ensures.items

pub returns-else-not-is_empty : goal.returns-else-not-is_empty
returns-else-not-is_empty c = end_none c.loop-name.out.items _ c.args.line c.loop-name.rest.now (sym c.in_default.ensures) (sym c.if-not-is_empty.ensures) c.loop-name.invariant
