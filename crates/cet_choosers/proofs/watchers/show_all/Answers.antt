use Rattle.std.proofs.Common.{map, arith}
use Rattle.cet_choosers.specs.Watching.{SeenByAll}
use Rattle.cet_choosers.proofs.Showing.{one_more, all_have}
use Rattle.cet_choosers.proofs.watchers.show_all.Goals as goal

pub loop-watcher-init : goal.loop-watcher-init
loop-watcher-init g c = λ later h. h

pub loop-watcher-preserved : goal.loop-watcher-preserved
loop-watcher-preserved g c =
    one_more g.W.Watcher.seen c.args.event c.args.outcome
    (λ now. SeenByAll (map g.W.Watcher.seen c.args.watchers.now) c.args.event c.args.outcome now)
    c.loop-watcher.watchers c.loop-watcher.watcher-index c.watcher-item.result c.see.new.self (omega arith) c.see.ensures c.loop-watcher.invariant

pub returns : goal.returns
returns g c =
    all_have g.W.Watcher.seen c.args.event c.args.outcome
    (λ now. SeenByAll (map g.W.Watcher.seen c.args.watchers.now) c.args.event c.args.outcome now)
    c.loop-watcher.watchers c.loop-watcher.watcher-index (omega arith) c.loop-watcher.invariant
