use Rattle.std.proofs.Common.{◌≡◌, ◌*◌, ◌≤◌, take}
use Rattle.std.specs.List.{sum_by}
use Rattle.cet_asm.specs.Emitted.{part_size}
use Rattle.cet_asm.proofs.parts.parts_size.Given as goal

abbrev pub invariant-loop-part : goal.invariant-loop-part
invariant-loop-part l = record {
  size : l.size ≡ sum_by part_size (take l.part-index l.parts);
  small : l.size ≤ 15 * l.part-index;
}
