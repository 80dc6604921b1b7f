use Rattle.std.proofs.Common.{◌*◌, ◌++◌, ap, ◌∙◌}
use Rattle.std.proofs.lemmas.Bool.{false≢true}
use Rattle.cet_note.specs.Form.{header}
use Rattle.cet_note.proofs.Written.{writing_starts, writing_goes}
use Rattle.cet_note.proofs.writing.write_note.Goals as goal

pub loop-kind-init : goal.loop-kind-init
loop-kind-init c =
    writing_starts c.put_header.new.out.items (16 * c.len.result) c.into_iter-kind-iterator.result c.args.props.now
    (c.in_ok-put_header.ensures ∙ ap (λ o. o ++ header (16 * c.len.result)) c.new-out.ensures.items)
    (ap (λ n. 16 * n) c.len.ensures.len)
    (c.into_iter-kind-iterator.ensures.into_iter_gives ∙ c.iter-kind-items.ensures.all)
    (λ none. false≢true (c.if-is_empty.ensures.1 none))

pub loop-kind-preserved : goal.loop-kind-preserved
loop-kind-preserved c =
    writing_goes c.loop-kind.out.items c.put_property.new.out.items (c.in-Some.kind.now, c.in-Some.bits.now) c.loop-kind.kind-iterator c.next.new.self _ c.in_ok-put_property.ensures c.in-Some.ensures.steps c.loop-kind.invariant
