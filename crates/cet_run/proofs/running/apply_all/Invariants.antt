use Rattle.std.proofs.Common.{◌≡◌, [], map, reverse}
use Rattle.cet_run.specs.Run.{AreWatched}
use Rattle.cet_run.proofs.Runs.{Progress}
use Rattle.cet_run.proofs.running.apply_all.Given as goal

-- the events before the index are done and were seen, and the others are to come
abbrev pub invariant-loop-index : goal.invariant-loop-index
invariant-loop-index g l = record {
  run : Progress l.fn.process l.given (map g.C.Chooser.plan (reverse l.fn.choosers.items)) l.limit l.process (map g.C.Chooser.plan (reverse l.choosers.items)) l.events l.index;
  watched : AreWatched (map g.W.Watcher.seen l.fn.watchers.items) l.events (map g.W.Watcher.seen l.watchers.items);
  untouched : l.events ≡ [] → l.watchers.items ≡ l.fn.watchers.items;
}
