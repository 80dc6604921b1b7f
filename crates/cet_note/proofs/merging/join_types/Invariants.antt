use Rattle.cet_note.proofs.JoinLemmas.{IsJoining}
use Rattle.cet_note.proofs.merging.join_types.Given as goal

abbrev pub invariant-loop-kind : goal.invariant-loop-kind
invariant-loop-kind l = IsJoining l.kind-iterator l.props l.a l.b l.fn.out l.out
