use Rattle.std.proofs.Common.{◌+◌, arith, sym, ◌∙◌}
use Rattle.cet_schedule.proofs.Lines.{starts, goes_on, stops, few, handed_on}
use Rattle.cet_schedule.proofs.reading.read_schedule.Goals as goal

pub loop-line-init : goal.loop-line-init
loop-line-init c = record { whole = starts c.args.text.now _ c.new-events.ensures; lines = omega arith; most = few c.new-events.result c.new-events.ensures }

pub returns-in_err-add_line-clause-fault : goal.returns-in_err-add_line-clause-fault
returns-in_err-add_line-clause-fault c =
    handed_on c.from_residual.result c.in_err-add_line.field-0.0 _ c.from_residual.ensures.1
    (λ known. sym c.loop-line.invariant.whole ∙ stops (c.loop-line.number + 1) c.loop-line.events c.loop-line.rest.now c.in-Some.line.now c.in-Some.behind.now
    c.in_err-add_line.field-0.0 c.in-Some.ensures.parts (c.in_err-add_line.ensures.fault known))

pub loop-line-preserved : goal.loop-line-preserved
loop-line-preserved c = record {
  whole =
      sym (goes_on (c.loop-line.number + 1) c.loop-line.events c.add_line.new.events c.loop-line.rest.now c.in-Some.line.now c.in-Some.behind.now c.in-Some.ensures.parts c.in_ok-add_line.ensures.events)
      ∙ c.loop-line.invariant.whole;
  lines = omega (arith, c.loop-line.invariant.lines, c.in-Some.ensures.shorter);
  most = c.in_ok-add_line.ensures.most;
}
