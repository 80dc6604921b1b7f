use Rattle.std.proofs.Common.{◌-◌, ◌≤◌, length, take}
use Rattle.cet_base.specs.Sink.{Gains}
use Rattle.cet_base.proofs.writing.write_all.Given as goal

-- the first `done` bytes of the piece are taken
abbrev pub invariant-loop-done : goal.invariant-loop-done
invariant-loop-done g l = record {
  within : l.done ≤ length l.piece;
  count : g.O.Sink.faults l.initial.out ≤ g.O.Sink.faults l.out;
  taken : Gains (g.O.Sink.bytes l.initial.out) (g.O.Sink.bytes l.out) (take l.done l.piece);
}

-- how many bytes are left
abbrev pub decreases-loop-done : goal.decreases-loop-done
decreases-loop-done g l = length l.piece - l.done
