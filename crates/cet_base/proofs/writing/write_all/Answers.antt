use Rattle.std.proofs.Common.{arith}
use Rattle.std.proofs.lemmas.List.{length-take, length-drop}
use Rattle.std.proofs.lemmas.Result.{MatchResult-from_err}
use Rattle.cet_base.proofs.SinkLemmas.{Gains-more, GainsPart-more}
use Rattle.cet_base.proofs.writing.write_all.Goals as goal

pub returns-in_err-done-clause-part : goal.returns-in_err-done-clause-part
returns-in_err-done-clause-part g c =
    MatchResult-from_err _ _ _ c.from_residual.ensures.0 (λ _. GainsPart-more _ _ _ _ _ c.loop-done.invariant.taken c.in_err-done.ensures.part)

pub loop-done-preserved : goal.loop-done-preserved
loop-done-preserved g c = record {
  within = omega (arith, simp (length-take, length-drop) at c.in_ok-done.ensures.bound);
  count = omega arith;
  taken = Gains-more _ _ _ _ _ _ c.loop-done.invariant.taken c.in_ok-done.ensures.taken;
}
