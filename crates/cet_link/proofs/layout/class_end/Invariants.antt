use Rattle.std.proofs.Common.{◌≡◌, ◌≤◌, take}
use Rattle.cet_link.specs.Places.{end_behind, all_sections}
use Rattle.cet_link.proofs.layout.class_end.Given as goal

abbrev pub invariant-loop-input : goal.invariant-loop-input
invariant-loop-input l = record {
  end : l.at ≡ end_behind l.class l.end (all_sections (take l.input-index l.inputs));
  within : l.at ≤ l.limit;
}
