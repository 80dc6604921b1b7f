use Rattle.std.proofs.Common.{None, length, refl, sym, ap, ◌∙◌}
use Rattle.std.proofs.lemmas.Option.{slice_get_read}
use Rattle.cet_process.specs.Start.{share_a_page, shared_or}
use Rattle.cet_kernel.proofs.Shared.{find_here, find_none_more}
use Rattle.cet_kernel.proofs.layout.shared_with.Goals as goal

pub share_a_page-requires-clause-second : goal.share_a_page-requires-clause-second
share_a_page-requires-clause-second c =
    c.requires.later c.loop-t.t-index c.t-item.result (slice_get_read c.args.later.now (length c.args.later.now) c.loop-t.t-index c.t-item.result refl c.loop-t-test.true c.t-item.is)

pub returns-then-share_a_page : goal.returns-then-share_a_page
returns-then-share_a_page c =
    ap (λ o. shared_or c.args.s.now o None) (sym (find_here (share_a_page c.args.s.now) c.args.later.now c.loop-t.t-index c.t-item.result c.loop-t.invariant
    (slice_get_read c.args.later.now (length c.args.later.now) c.loop-t.t-index c.t-item.result refl c.loop-t-test.true c.t-item.is)
    (sym c.share_a_page.ensures ∙ c.if-share_a_page.true)))

pub loop-t-preserved : goal.loop-t-preserved
loop-t-preserved c =
    find_none_more (share_a_page c.args.s.now) c.args.later.now c.loop-t.t-index c.t-item.result c.loop-t.invariant
    (slice_get_read c.args.later.now (length c.args.later.now) c.loop-t.t-index c.t-item.result refl c.loop-t-test.true c.t-item.is)
    (sym c.share_a_page.ensures ∙ c.if-share_a_page.false)
