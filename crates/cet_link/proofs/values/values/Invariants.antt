use Rattle.std.proofs.Common.{◌≡◌, ◌<◌, ℕ, List, length}
use Rattle.cet_link.specs.Values.{value_at}
use Rattle.cet_link.specs.Laid.{AreKnown, cell}
use Rattle.cet_link.proofs.values.values.Given as goal

abbrev pub invariant-loop-number : goal.invariant-loop-number
invariant-loop-number l = record {
  length : length l.rows.items ≡ l.number;
  values : (note : List ℕ) → AreKnown l.inputs note l.places l.names → (n k : ℕ) → n < l.number → cell l.rows.items n k ≡ value_at l.inputs note n k;
}
