use Rattle.std.proofs.Common.{◌≡◌, ◌++◌, map}
use Rattle.cet_note.specs.Form.{stored_of, descriptor, written}
use Rattle.cet_note.proofs.writing.write_note.Given as goal

abbrev pub invariant-loop-kind : goal.invariant-loop-kind
invariant-loop-kind l = l.out.items ++ descriptor (map stored_of l.kind-iterator) ≡ written l.props
