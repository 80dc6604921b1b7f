use Rattle.std.proofs.Common.{sym}
use Rattle.cet_schedule.proofs.Limits.{counted}
use Rattle.cet_schedule.proofs.line.step_count.Goals as goal

pub returns : goal.returns
returns c = counted c.args.bytes.now c.in_ok-count.count (sym c.in_ok-count.ensures) c.if-count-eq0.false c.if-count-gt-MOST_STEPS.false
