use Rattle.std.proofs.Common.{◌≡◌, ◌++◌, length}
use Rattle.cet_syntax.specs.Lines.{items_of, numbered}
use Rattle.cet_syntax.proofs.lines.push_items.Given as goal

abbrev pub invariant-loop-name : goal.invariant-loop-name
invariant-loop-name l = l.out.items ++ numbered l.line (items_of l.rest) ≡ l.initial.out.items ++ numbered l.line (items_of l.bytes)

abbrev pub decreases-loop-name : goal.decreases-loop-name
decreases-loop-name l = length l.rest
