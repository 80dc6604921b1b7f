use Rattle.std.proofs.Common.{◌≤◌, ℕ, List, take, vec_len}
use Rattle.std.specs.List.{flat_map, enumerate_from}
use Rattle.cet_link.specs.Inputs.{parts_of}
use Rattle.cet_link.specs.Laid.{AreTables, Gains}
use Rattle.cet_link.proofs.segments.class_bytes.Given as goal

abbrev pub invariant-loop-number : goal.invariant-loop-number
invariant-loop-number l = record {
  limit : vec_len l.out ≤ 1073741824;
  bytes : (note : List ℕ) → AreTables l.inputs note l.tables
      → Gains l.inputs note l.class l.start l.front l.out.items (flat_map (λ i. parts_of i.0 i.1) (enumerate_from 0 (take l.number l.inputs)));
}
