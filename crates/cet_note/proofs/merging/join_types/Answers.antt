use Rattle.std.proofs.Common.{◌≡◌, None, Some, sym, ◌∙◌}
use Rattle.cet_note.specs.Note.{word_of}
use Rattle.cet_note.specs.Joined.{joined}
use Rattle.cet_note.proofs.JoinLemmas.{IsJoining-known, IsJoining-sets, IsJoining-passes}
use Rattle.cet_note.proofs.merging.join_types.Goals as goal

pub set-requires : goal.set-requires
set-requires c =
    IsJoining-known c.loop-kind.kind-iterator c.next.new.self c.args.props.now c.args.a.now c.args.b.now c.args.out.now c.loop-kind.out (c.in-Some.kind.now, c.in-Some.field-0-1.now) c.in-Some.ensures.steps c.loop-kind.invariant

pub loop-kind-preserved-in-Continue-1 : goal.loop-kind-preserved-in-Continue-1
loop-kind-preserved-in-Continue-1 c =
    let kind = c.in-Some.kind.now in
    let found : joined kind (word_of c.args.a.now kind) (word_of c.args.b.now kind) ≡ Some c.in-Some-joined.bits = rw (← c.get.ensures, ← c.get-in-loop-kind.ensures) (sym c.joined.ensures ∙ c.in-Some-joined.is) in
    IsJoining-sets c.loop-kind.kind-iterator c.next.new.self c.args.props.now c.args.a.now c.args.b.now c.args.out.now c.loop-kind.out c.set.new.self (kind, c.in-Some.field-0-1.now) c.in-Some-joined.bits c.in-Some.ensures.steps found c.in_ok-set.ensures.ok c.set.ensures.note c.loop-kind.invariant

pub loop-kind-preserved : goal.loop-kind-preserved
loop-kind-preserved c =
    let kind = c.in-Some.kind.now in
    let none : joined kind (word_of c.args.a.now kind) (word_of c.args.b.now kind) ≡ None = rw (← c.get.ensures, ← c.get-in-loop-kind.ensures) (sym c.joined.ensures ∙ c.in_default.is) in
    IsJoining-passes c.loop-kind.kind-iterator c.next.new.self c.args.props.now c.args.a.now c.args.b.now c.args.out.now c.loop-kind.out (kind, c.in-Some.field-0-1.now) c.in-Some.ensures.steps none c.loop-kind.invariant
