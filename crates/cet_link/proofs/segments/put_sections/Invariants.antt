use Rattle.std.proofs.Common.{◌≤◌, ℕ, List, take, vec_len}
use Rattle.cet_elf.specs.declared.object.Object.{Object}
use Rattle.cet_link.specs.Laid.{AreTables, Gains, parts_in}
use Rattle.cet_link.proofs.segments.put_sections.Given as goal

abbrev pub invariant-loop-number : goal.invariant-loop-number
invariant-loop-number l = record {
  limit : vec_len l.out ≤ 1073741824;
  bytes : (inputs : List Object) → (note : List ℕ) → AreTables inputs note l.tables
      → Gains inputs note l.class l.start l.fn.out.items l.out.items (parts_in l.input (take l.number l.sections));
}
