use Rattle.std.proofs.Common.{◌-◌}
use Rattle.cet_rules.specs.Image.{end_of}
use Rattle.cet_rules.specs.Piece.{IsCut}
use Rattle.cet_cert.specs.Survey.{AreMarks}
use Rattle.cet_cert.proofs.survey.mark_pieces.Given as goal

abbrev pub invariant-loop-piece : goal.invariant-loop-piece
invariant-loop-piece l = record {
  cut : IsCut l.image l.function l.at;
  marks : AreMarks l.image l.function l.at l.marks.items;
}

abbrev pub decreases-loop-piece : goal.decreases-loop-piece
decreases-loop-piece l = end_of l.function - l.at
