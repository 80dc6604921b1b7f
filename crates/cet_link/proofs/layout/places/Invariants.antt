use Rattle.std.proofs.Common.{◌≡◌, ℕ, ◌<◌, take, length}
use Rattle.cet_elf.specs.declared.object.Class.{Class}
use Rattle.cet_link.specs.Places.{end_behind, all_sections}
use Rattle.cet_link.specs.Laid.{end_in, place_in, cell}
use Rattle.cet_link.proofs.layout.places.Given as goal

abbrev pub invariant-loop-input : goal.invariant-loop-input
invariant-loop-input l = record {
  ends : (class : Class) → end_in l.ends class ≡ end_behind class (end_in l.initial.ends class) (all_sections (take l.input-index l.inputs));
  length : length l.rows.items ≡ l.input-index;
  places : (n k : ℕ) → n < l.input-index → cell l.rows.items n k ≡ place_in (end_in l.initial.ends) l.inputs n k;
}
