use Rattle.std.proofs.Common.{◌≡◌, [], length}
use Rattle.std.specs.Vec.Iter.{into_iter_items, into_iter_len}
use Rattle.cet_syntax.specs.Lines.{items_in}
use Rattle.cet_asm.specs.Assembled.{first_state, placed_from}
use Rattle.cet_asm.specs.Placing.{AreSizes, IsKept, state_of}
use Rattle.cet_asm.proofs.assembly.place.Given as goal

abbrev pub invariant-loop-numbered : goal.invariant-loop-numbered
invariant-loop-numbered l = record {
  kept : IsKept l.assembly;
  sized : AreSizes l.assembly.cursor.sizes l.assembly.placed.items;
  so_far : placed_from [] first_state (items_in l.text) ≡ placed_from l.assembly.placed.items (state_of l.assembly.cursor) (into_iter_items l.numbered-iterator);
  left : into_iter_len l.numbered-iterator ≡ length (into_iter_items l.numbered-iterator);
}
