use Rattle.cet_run.proofs.Runs.{given_used, turned_round, chosen_by}
use Rattle.cet_run.proofs.running.run_with.Goals as goal

pub returns-clause-used : goal.returns-clause-used
returns-clause-used g c = given_used c.args.process c.args.given.now _ c.args.limit _ _ c.in_ok-apply_all.ensures.run

pub returns-clause-chosen : goal.returns-clause-chosen
returns-clause-chosen g c = chosen_by _ _ _ _ _ _ (turned_round g.C.Chooser.plan c.args.choosers.items c.reverse.new.self.items c.reverse.ensures.items) c.in_ok-apply_all.ensures.run.chosen
