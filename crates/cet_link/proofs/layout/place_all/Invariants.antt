use Rattle.std.proofs.Common.{◌≡◌, ℕ, ◌<◌, take, get_or, length}
use Rattle.cet_elf.specs.declared.object.Class.{Class}
use Rattle.cet_link.specs.Places.{end_behind}
use Rattle.cet_link.specs.Laid.{end_in, place_among}
use Rattle.cet_link.proofs.layout.place_all.Given as goal

abbrev pub invariant-loop-section : goal.invariant-loop-section
invariant-loop-section l = record {
  ends : (class : Class) → end_in l.ends class ≡ end_behind class (end_in l.fn.ends class) (take l.section-index l.sections);
  length : length l.row.items ≡ l.section-index;
  places : (n : ℕ) → n < l.section-index → get_or l.row.items n 0 ≡ place_among (end_in l.fn.ends) l.sections n;
}
