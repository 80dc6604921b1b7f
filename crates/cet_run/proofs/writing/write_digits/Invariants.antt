use Rattle.std.proofs.Common.{◌-◌, ◌≤◌, length, take}
use Rattle.hex.specs.Hex.{encode_lower}
use Rattle.cet_base.specs.Sink.{Gains}
use Rattle.cet_run.proofs.writing.write_digits.Given as goal

-- the digits of the first `done` bytes are taken
abbrev pub invariant-loop-done : goal.invariant-loop-done
invariant-loop-done g l = record {
  within : l.done ≤ length l.bytes;
  count : g.O.Sink.faults l.initial.out ≤ g.O.Sink.faults l.out;
  taken : Gains (g.O.Sink.bytes l.initial.out) (g.O.Sink.bytes l.out) (encode_lower (take l.done l.bytes));
}

-- how many bytes are left
abbrev pub decreases-loop-done : goal.decreases-loop-done
decreases-loop-done g l = length l.bytes - l.done
