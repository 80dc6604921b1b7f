use Rattle.std.proofs.Common.{◌-◌, ◌≤◌, length}
use Rattle.cet_listing.proofs.Walks.{SameFrom}
use Rattle.cet_listing.proofs.check.check_listing.Given as goal

-- the bytes before the offset are forms
abbrev pub invariant-loop-offset : goal.invariant-loop-offset
invariant-loop-offset l = record {
  within : l.offset ≤ length l.bytes;
  same : SameFrom l.at l.bytes l.offset;
}

-- how many bytes are left
abbrev pub decreases-loop-offset : goal.decreases-loop-offset
decreases-loop-offset l = length l.bytes - l.offset
