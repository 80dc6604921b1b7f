use Rattle.std.proofs.Common.{◌≡◌, ◌+◌, ◌≤◌, length}
use Rattle.cet_schedule.specs.Fields.{parts}
use Rattle.cet_schedule.specs.Schedule.{from_line, schedule, event_limit}
use Rattle.cet_schedule.proofs.reading.read_schedule.Given as goal

-- what is left of the text, behind these events, gives what the whole gives
abbrev pub invariant-loop-line : goal.invariant-loop-line
invariant-loop-line l = record {
  whole : from_line (l.number + 1) l.events (parts 10 l.rest) ≡ schedule l.fn.text;
  lines : l.number + length l.rest ≤ length l.fn.text;
  most : length l.events ≤ event_limit;
}

abbrev pub decreases-loop-line : goal.decreases-loop-line
decreases-loop-line l = length l.rest
