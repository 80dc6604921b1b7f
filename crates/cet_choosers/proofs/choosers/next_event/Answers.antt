use Rattle.std.proofs.Common.{ℕ, ◌-◌, vec_len, Some, None, refl, sym, arith}
use Rattle.std.proofs.lemmas.Bool.{true≢false}
use Rattle.cet_choosers.proofs.Asking.{asked_some, asked_none, none_is_left, empty}
use Rattle.cet_choosers.proofs.choosers.next_event.Goals as goal

pub loop-chooser-init : goal.loop-chooser-init
loop-chooser-init g c = λ answer left h. h

pub returns-in-Some-next : goal.returns-in-Some-next
returns-in-Some-next g c =
    let k : ℕ = vec_len c.loop-chooser.choosers - 1 in
    c.loop-chooser.invariant (Some c.in-Some-next.event) _
    (asked_some g.C.Chooser.plan c.loop-chooser.choosers.items k c.in-Some.chooser.now c.next.new.self c.args.view c.in-Some-next.event
    (omega (arith, c.loop-chooser.choosers.ok.0, c.in-Some.ensures.variant.0 refl)) c.in-Some.ensures.value c.in-Some-next.ensures)

pub loop-chooser-preserved-in_default-next : goal.loop-chooser-preserved-in_default-next
loop-chooser-preserved-in_default-next g c = λ answer left h.
    c.loop-chooser.invariant answer left
    (asked_none g.C.Chooser.plan c.loop-chooser.choosers.items (vec_len c.loop-chooser.choosers - 1) c.in-Some.chooser.now c.next.new.self c.args.view c.next.result
    c.pop.new.self.items answer left (omega (arith, c.loop-chooser.choosers.ok.0, c.in-Some.ensures.variant.0 refl)) c.in-Some.ensures.value c.next.ensures c.in_default-next.is c.pop.ensures.rest h)

pub returns : goal.returns
returns g c =
    c.loop-chooser.invariant None _ (none_is_left g.C.Chooser.plan c.loop-chooser.choosers.items c.args.view
    (empty c.loop-chooser.choosers.items (vec_len c.loop-chooser.choosers) c.loop-chooser.choosers.ok.0 (λ some. true≢false (sym (c.in_default.ensures.variant.1 some)))))
