use Rattle.std.proofs.Common.{sym}
use Rattle.std.proofs.lemmas.Bool.{ltb-true, ltb-false}
use Rattle.cet_run.proofs.Choices.{given_chosen, box_chosen}
use Rattle.cet_run.proofs.running.next_event.Goals as goal

pub returns-in-Some : goal.returns-in-Some
returns-in-Some g c =
    given_chosen c.args.view c.args.given.now c.args.index _ c.in-Some.event.now (ltb-true _ _ (sym c.in-Some.ensures.lookup.0)) c.in-Some.ensures.lookup.1

pub returns : goal.returns
returns g c = box_chosen c.args.view c.args.given.now c.args.index _ _ c.next_event.result (ltb-false _ _ (sym c.in_default.ensures.lookup.0)) c.next_event.ensures
