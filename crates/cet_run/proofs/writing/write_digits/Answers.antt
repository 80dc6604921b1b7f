use Rattle.std.proofs.Common.{length, arith}
use Rattle.std.proofs.lemmas.Result.{MatchResult-from_err}
use Rattle.cet_run.proofs.Gained.{digits_nothing, digits_more, digits_part, digits_all}
use Rattle.cet_run.proofs.writing.write_digits.Goals as goal

pub loop-done-init : goal.loop-done-init
loop-done-init g c = record { within = omega arith; count = omega arith; taken = digits_nothing _ c.args.bytes.now }

pub returns-in_err-write_piece-clause-part : goal.returns-in_err-write_piece-clause-part
returns-in_err-write_piece-clause-part g c =
    MatchResult-from_err _ _ _ c.from_residual.ensures.0
    (λ _. digits_part _ _ _ c.args.bytes.now c.piece_from-piece.result.now c.loop-done.done (length c.piece_from-piece.result.now) c.loop-done.invariant.taken
    c.piece_from-piece.ensures.piece c.in_err-write_piece.ensures.part)

pub loop-done-preserved : goal.loop-done-preserved
loop-done-preserved g c = record {
  within = omega (arith, c.piece_from-piece.ensures.within);
  count = omega (arith, c.in_ok-write_piece.ensures.faults);
  taken =
      digits_more _ _ _ c.args.bytes.now c.piece_from-piece.result.now c.loop-done.done (length c.piece_from-piece.result.now) c.loop-done.invariant.taken
      c.piece_from-piece.ensures.piece c.in_ok-write_piece.ensures.taken;
}

pub returns-clause-taken : goal.returns-clause-taken
returns-clause-taken g c = digits_all _ _ c.args.bytes.now c.loop-done.done (omega arith) c.loop-done.invariant.taken
