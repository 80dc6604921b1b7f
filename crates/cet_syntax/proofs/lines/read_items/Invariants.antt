use Rattle.std.proofs.Common.{◌≡◌, ◌++◌}
use Rattle.std.specs.Option.{option_copied}
use Rattle.cet_syntax.specs.Lines.{items_from, items_in}
use Rattle.cet_syntax.proofs.Parts.{parts_left, left}
use Rattle.cet_syntax.proofs.lines.read_items.Given as goal

abbrev pub invariant-loop-rest : goal.invariant-loop-rest
invariant-loop-rest l = l.out.items ++ items_from l.line (parts_left 10 (option_copied l.rest)) ≡ items_in l.fn.text

abbrev pub decreases-loop-rest : goal.decreases-loop-rest
decreases-loop-rest l = left (option_copied l.rest)
