use Rattle.std.proofs.Common.{map, refl, ap, arith}
use Rattle.cet_run.proofs.Runs.{started, went_on, stopped_early, at_limit, none_watched, watched_more, not_quiet, some_turn, no_turn}
use Rattle.cet_run.proofs.running.apply_all.Goals as goal

pub loop-index-init : goal.loop-index-init
loop-index-init g c = record {
  run = started c.args.process.now c.args.given.now _ c.args.limit c.args.events.now c.requires;
  watched = none_watched _ _ c.args.events.now c.requires;
  untouched = λ _. refl;
}

pub loop-index-preserved : goal.loop-index-preserved
loop-index-preserved g c = record {
  run =
      went_on c.args.process.now c.loop-index.process c.turn.new.process c.args.given.now _ _ _ c.args.limit c.loop-index.index c.loop-index.events c.push.new.self c.in-Some.done (omega arith)
      c.loop-index.invariant.run (some_turn _ _ _ _ _ _ c.in_ok-turned.turned c.in-Some.done c.in-Some.is c.in_ok-turned.ensures) c.in_ok-push-in-Some.ensures.ok;
  watched =
      watched_more _ _ _ c.loop-index.events c.push.new.self c.in-Some.done c.in_ok-push-in-Some.ensures.ok (λ nil. ap (map g.W.Watcher.seen) (c.loop-index.invariant.untouched nil))
      c.loop-index.invariant.watched c.show.ensures;
  untouched = not_quiet c.loop-index.events c.push.new.self c.in-Some.done _ _ c.in_ok-push-in-Some.ensures.ok;
}

pub returns-in-None : goal.returns-in-None
returns-in-None g c = record {
  run =
      stopped_early c.args.process.now c.loop-index.process c.turn.new.process c.args.given.now _ _ c.args.limit c.loop-index.index c.loop-index.events (omega arith) c.loop-index.invariant.run
      (no_turn _ _ _ _ _ _ c.in_ok-turned.turned c.in-None.is c.in_ok-turned.ensures);
  watched = c.loop-index.invariant.watched;
  untouched = c.loop-index.invariant.untouched;
}

pub returns : goal.returns
returns g c = record {
  run = at_limit c.args.process.now c.loop-index.process c.args.given.now _ _ c.args.limit c.loop-index.index c.loop-index.events (omega arith) (omega arith) c.loop-index.invariant.run;
  watched = c.loop-index.invariant.watched;
  untouched = c.loop-index.invariant.untouched;
}
