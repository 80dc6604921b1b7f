use Rattle.std.proofs.Common.{arith}
use Rattle.cet_note.proofs.Words.{Sets-from_updates, IsNote-insert_entry}
use Rattle.cet_note.proofs.props.Props.set.Goals as goal

pub invariant_of-self-2 : goal.invariant_of-self-2
invariant_of-self-2 c = IsNote-insert_entry c.self.inside.words c.insert.new.self c.args.kind c.args.bits c.in_ok-insert.ensures.entries c.insert.ensures.ordered c.requires (omega arith) c.self.invariant

pub returns-clause-ok : goal.returns-clause-ok
returns-clause-ok c = rw (← c.self.view_is) (Sets-from_updates c.self.inside.words c.insert.new.self c.args.kind c.args.bits c.in_ok-insert.ensures.updates)

pub returns-clause-note : goal.returns-clause-note
returns-clause-note c = IsNote-insert_entry c.self.inside.words c.insert.new.self c.args.kind c.args.bits c.in_ok-insert.ensures.entries c.insert.ensures.ordered c.requires (omega arith) c.self.invariant
