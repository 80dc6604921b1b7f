use Rattle.std.proofs.Common.{◌*◌, ◌≤◌}
use Rattle.cet_asm.proofs.UseLemmas.{IsAlong}
use Rattle.cet_asm.proofs.uses.push_parts.Given as goal

abbrev pub invariant-loop-part : goal.invariant-loop-part
invariant-loop-part l = record {
  near : l.place ≤ 15 * l.part-index;
  along : IsAlong l.parts l.spot l.initial.out.items l.out.items l.place l.part-index;
}
