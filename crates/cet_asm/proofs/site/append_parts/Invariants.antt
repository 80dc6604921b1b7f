use Rattle.std.proofs.Common.{◌≡◌, ◌*◌, ◌≤◌, ◌++◌, drop}
use Rattle.cet_asm.specs.Emitted.{parts_emitted}
use Rattle.cet_asm.proofs.site.append_parts.Given as goal

abbrev pub invariant-loop-part : goal.invariant-loop-part
invariant-loop-part l = record {
  near : l.place ≤ 15 * l.part-index;
  bytes : l.out ++ (parts_emitted l.parts l.spot l.place (drop l.part-index l.parts)).bytes ≡ l.initial.out ++ (parts_emitted l.parts l.spot 0 l.parts).bytes;
}
