use Rattle.std.proofs.Common.{◌≡◌, true, false, is_some}
use Rattle.cet_run.proofs.Choices.{ended_turn, none_turn, one_turn}
use Rattle.cet_run.proofs.running.turn.Goals as goal

pub returns-then-is_some : goal.returns-then-is_some
returns-then-is_some g c =
    let over : is_some c.args.process.now.end ≡ true = cc in
    ended_turn c.args.process.now c.args.given.now c.args.index _ over

pub returns-in-None : goal.returns-in-None
returns-in-None g c =
    let lives : is_some c.args.process.now.end ≡ false = cc in
    none_turn c.args.process.now c.view.result c.args.given.now c.args.index _ lives c.view.ensures c.in-None.ensures

pub returns-in_ok-outcome-in-Some : goal.returns-in_ok-outcome-in-Some
returns-in_ok-outcome-in-Some g c =
    let lives : is_some c.args.process.now.end ≡ false = cc in
    one_turn c.args.process.now c.apply.new.self c.view.result c.args.given.now c.args.index _ _ c.in-Some.event c.in_ok-outcome-in-Some.outcome lives c.view.ensures c.in-Some.ensures
    c.in_ok-outcome-in-Some.ensures.done
