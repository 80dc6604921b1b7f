use Rattle.std.proofs.Common.{◌≡◌, ◌≤◌, take}
use Rattle.cet_link.specs.Places.{end_behind}
use Rattle.cet_link.proofs.layout.end_with_all.Given as goal

abbrev pub invariant-loop-section : goal.invariant-loop-section
invariant-loop-section l = record {
  end : l.at ≡ end_behind l.class l.end (take l.section-index l.sections);
  within : l.at ≤ l.limit;
}
