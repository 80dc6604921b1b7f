use Rattle.std.proofs.Common.{◌∙◌, sym, ap, subst, arith}
use Rattle.std.proofs.lemmas.List.Elements.{All-get_or}
use Rattle.cet_link.specs.Places.{start_behind}
use Rattle.cet_link.specs.Laid.{end_in, end_after, place_among, IsPlaceable}
use Rattle.cet_link.proofs.LayoutLemmas.{room-here, end_behind-more, row-more, row-length, row-all, place_among-here, place_among-past}
use Rattle.cet_link.proofs.layout.place_all.Goals as goal

pub place-requires-clause-room : goal.place-requires-clause-room
place-requires-clause-room c =
    let xs = c.args.sections.now in
    let s = c.section-item.result in
    let placeable : IsPlaceable s = subst IsPlaceable (sym c.section-item.is) (All-get_or IsPlaceable xs c.loop-section.section-index s c.loop-section-test.true c.requires.placeable) in
    room-here (end_in c.args.ends.now s.class) (end_in c.loop-section.ends s.class) xs c.loop-section.section-index s c.loop-section-test.true c.section-item.is (c.loop-section.invariant.ends s.class)
    (c.requires.room s.class placeable.no_group)

pub loop-section-preserved : goal.loop-section-preserved
loop-section-preserved c =
    let xs = c.args.sections.now in
    let i = c.loop-section.section-index in
    let s = c.section-item.result in
    let front = end_in c.args.ends.now in
    record {
      ends = λ class. c.place.ensures.ends class ∙ ap (λ e. end_after class e s) (c.loop-section.invariant.ends class)
          ∙ sym (end_behind-more class (front class) xs i s c.loop-section-test.true c.section-item.is);
      length = row-length c.loop-section.row.items c.push.new.self.items i c.place.result c.in_ok-push.ensures.items c.loop-section.invariant.length;
      places = row-more (place_among front xs) c.loop-section.row.items c.push.new.self.items i c.place.result c.in_ok-push.ensures.items c.loop-section.invariant.length c.loop-section.invariant.places
          (c.place.ensures.place ∙ ap (λ e. start_behind e s) (c.loop-section.invariant.ends s.class) ∙ sym (place_among-here front xs i s c.loop-section-test.true c.section-item.is));
    }

pub returns-clause-places : goal.returns-clause-places
returns-clause-places c =
    row-all (place_among (end_in c.args.ends.now) c.args.sections.now) c.loop-section.row.items c.loop-section.section-index c.loop-section.invariant.length c.loop-section.invariant.places
    (λ n h. place_among-past (end_in c.args.ends.now) c.args.sections.now n (omega arith))
