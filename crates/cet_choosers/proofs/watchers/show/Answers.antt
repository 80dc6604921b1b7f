use Rattle.std.proofs.Common.{◌≡◌, length, subst, sym, arith}
use Rattle.std.proofs.lemmas.List.{with_items_is}
use Rattle.cet_choosers.specs.Watching.{GoesOn}
use Rattle.cet_choosers.proofs.Showing.{seen_alike, kept_of_shown}
use Rattle.cet_choosers.proofs.watchers.show.Goals as goal

pub returns : goal.returns
returns g c =
    let size : length c.show_all.new.watchers ≡ c.args.watchers.now.len = omega (arith, c.show_all.auto.watchers, c.as_mut_slice.ensures.len) in
    kept_of_shown g.W.Watcher.seen _ (λ f x b next r. subst (λ y. GoesOn (g.W.Watcher.seen y) b) r.shows r.called.met) _ c.args.event c.args.outcome _ _ c.retain.new.self.items
    (seen_alike g.W.Watcher.seen c.args.event c.args.outcome c.as_mut_slice.result.now c.show_all.new.watchers c.args.watchers.now.items _
    c.as_mut_slice.ensures.value (sym (with_items_is c.args.watchers.now c.show_all.new.watchers size)) c.show_all.ensures) c.retain.ensures.filtered
