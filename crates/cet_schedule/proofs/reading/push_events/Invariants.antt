use Rattle.std.proofs.Common.{◌≡◌, ◌++◌, replicate}
use Rattle.cet_schedule.proofs.reading.push_events.Given as goal

abbrev pub invariant-loop : goal.invariant-loop
invariant-loop l = l.events ≡ l.initial.events ++ replicate l.counter l.event
