use Rattle.std.proofs.Common.{◌≡◌, ◌++◌, map}
use Rattle.std.specs.Option.{option_copied}
use Rattle.std.specs.List.{flat_map}
use Rattle.cet_syntax.specs.Pieces.{trimmed}
use Rattle.cet_syntax.specs.Lines.{items_of, numbered, parts}
use Rattle.cet_syntax.proofs.Parts.{parts_left, left}
use Rattle.cet_syntax.proofs.lines.push_statements.Given as goal

abbrev pub invariant-loop-rest : goal.invariant-loop-rest
invariant-loop-rest l =
    l.out.items ++ numbered l.line (flat_map items_of (map trimmed (parts_left 59 (option_copied l.rest)))) ≡ l.initial.out.items ++ numbered l.line (flat_map items_of (map trimmed (parts 59 l.fn.text)))

abbrev pub decreases-loop-rest : goal.decreases-loop-rest
decreases-loop-rest l = left (option_copied l.rest)
