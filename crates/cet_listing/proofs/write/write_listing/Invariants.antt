use Rattle.std.proofs.Common.{◌-◌, ◌≤◌, length}
use Rattle.cet_listing.proofs.Prints.{Printed}
use Rattle.cet_listing.proofs.write.write_listing.Given as goal

-- the lines of the forms before the offset are in the output and the page
abbrev pub invariant-loop-offset : goal.invariant-loop-offset
invariant-loop-offset g l = record {
  within : l.offset ≤ length l.bytes;
  count : g.O.Sink.faults l.fn.out ≤ g.O.Sink.faults l.out;
  printed : Printed (g.O.Sink.bytes l.fn.out) (g.O.Sink.bytes l.out) l.page l.at l.bytes l.offset;
}

-- how many bytes are left
abbrev pub decreases-loop-offset : goal.decreases-loop-offset
decreases-loop-offset g l = length l.bytes - l.offset
