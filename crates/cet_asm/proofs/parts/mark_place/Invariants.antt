use Rattle.std.proofs.Common.{◌≡◌, ◌+◌, ◌*◌, ◌≤◌, drop}
use Rattle.cet_asm.specs.Emitted.{mark_place}
use Rattle.cet_asm.proofs.parts.mark_place.Given as goal

abbrev pub invariant-loop-part : goal.invariant-loop-part
invariant-loop-part l = record {
  place : l.place + mark_place l.mark (drop l.part-index l.parts) ≡ mark_place l.mark l.parts;
  small : l.place ≤ 15 * l.part-index;
}
