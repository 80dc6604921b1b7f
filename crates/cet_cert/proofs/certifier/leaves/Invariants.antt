use Rattle.std.proofs.Common.{◌-◌, ◌<◌}
use Rattle.cet_rules.specs.declared.piece.Piece.{Piece}
use Rattle.cet_rules.specs.Image.{end_of}
use Rattle.cet_rules.specs.Piece.{IsCut, IsPiece}
use Rattle.cet_cert.specs.Breach.{JumpsOut}
use Rattle.cet_cert.proofs.certifier.leaves.Given as goal

abbrev pub invariant-loop-piece : goal.invariant-loop-piece
invariant-loop-piece l = record {
  cut : IsCut l.image l.function l.at;
  none : (p : Piece) → IsPiece l.image l.function p → p.at < l.at → ¬ JumpsOut l.function p;
}

abbrev pub decreases-loop-piece : goal.decreases-loop-piece
decreases-loop-piece l = end_of l.function - l.at
