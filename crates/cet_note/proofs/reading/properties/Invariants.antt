use Rattle.std.proofs.Common.{◌-◌}
use Rattle.cet_note.proofs.Loop.{HasRead}
use Rattle.cet_note.proofs.reading.properties.Given as goal

abbrev pub invariant-loop-at : goal.invariant-loop-at
invariant-loop-at l = HasRead l.bytes l.size l.end l.props l.last l.at

abbrev pub decreases-loop-at : goal.decreases-loop-at
decreases-loop-at l = l.end - l.at
