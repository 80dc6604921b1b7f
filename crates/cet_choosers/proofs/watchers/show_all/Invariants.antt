use Rattle.std.proofs.Common.{List, Option, ◌++◌, map, take, drop}
use Rattle.cet_choosers.specs.Watching.{Seen, SeenByAll}
use Rattle.cet_choosers.proofs.watchers.show_all.Given as goal

-- once those from here on have seen the event, all have
abbrev pub invariant-loop-watcher : goal.invariant-loop-watcher
invariant-loop-watcher g l =
    (later : List (Option Seen)) → SeenByAll (map g.W.Watcher.seen (drop l.watcher-index l.watchers)) l.event l.outcome later
    → SeenByAll (map g.W.Watcher.seen l.initial.watchers) l.event l.outcome
    (map g.W.Watcher.seen (take l.watcher-index l.watchers) ++ later)
