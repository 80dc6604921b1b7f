use Rattle.std.proofs.Common.{◌∙◌, ◌<◌, ◌^◌, sym, ap, subst, arith, List, All, length}
use Rattle.cet_elf.specs.declared.object.Section.{Section}
use Rattle.cet_link.specs.declared.layout.Ends.{Ends}
use Rattle.cet_link.specs.Places.{end_behind, all_sections}
use Rattle.cet_link.specs.Laid.{end_in, place_among, place_in, IsPlaceable}
use Rattle.cet_link.proofs.LayoutLemmas.{all_sections-none, placeable-sections, class-room, class-more, table-more, table-length, table-all, place_in-here, place_in-past}
use Rattle.cet_link.proofs.MeasureLemmas.{frame-room, place_in-is}
use Rattle.cet_link.proofs.layout.places.Goals as goal

pub loop-input-init : goal.loop-input-init
loop-input-init c = record {
  ends = λ class. sym (ap (end_behind class (end_in c.new-ends.result class)) all_sections-none);
  length = ap length c.new-rows.ensures.items;
  places = λ n k h. absurd (omega arith);
}

pub place_all-requires-clause-placeable : goal.place_all-requires-clause-placeable
place_all-requires-clause-placeable c =
    subst (λ (zs : List Section). All IsPlaceable zs) (sym c.as_slice.ensures)
    (placeable-sections c.args.inputs.now c.loop-input.input-index c.input-item.result c.loop-input-test.true c.input-item.is c.requires.consistent c.requires.groups)

pub place_all-requires-clause-room : goal.place_all-requires-clause-room
place_all-requires-clause-room c = λ class g.
    let inputs = c.args.inputs.now in
    let room = subst (λ (e : Ends). end_behind class (end_in e class) (all_sections inputs) < 2 ^ 48) (sym c.new-ends.ensures)
    (frame-room inputs c.requires.frame.0 c.args.frame.now c.requires.frame.1 c.requires.frame.2 class g) in
    rw c.as_slice.ensures
    (class-room class (end_in c.new-ends.result class) (end_in c.loop-input.ends class) inputs c.loop-input.input-index c.input-item.result c.loop-input-test.true c.input-item.is
    (c.loop-input.invariant.ends class) room)

pub loop-input-preserved : goal.loop-input-preserved
loop-input-preserved c =
    let inputs = c.args.inputs.now in
    let i = c.loop-input.input-index in
    let o = c.input-item.result in
    let front = end_in c.new-ends.result in
    record {
      ends = λ class. c.in_ok-place_all.ensures.ends class ∙ ap (end_behind class (end_in c.loop-input.ends class)) c.as_slice.ensures
          ∙ ap (λ e. end_behind class e o.sections) (c.loop-input.invariant.ends class) ∙ sym (class-more class (front class) inputs i o c.loop-input-test.true c.input-item.is);
      length = table-length c.loop-input.rows.items c.push.new.self.items i c.in_ok-place_all.field-0 c.in_ok-push.ensures.items c.loop-input.invariant.length;
      places = table-more (place_in front inputs) c.loop-input.rows.items c.push.new.self.items i c.in_ok-place_all.field-0 c.in_ok-push.ensures.items c.loop-input.invariant.length
          c.loop-input.invariant.places
          (λ k. c.in_ok-place_all.ensures.places k ∙ ap (λ zs. place_among (end_in c.loop-input.ends) zs k) c.as_slice.ensures
          ∙ place_in-here front (end_in c.loop-input.ends) inputs i o c.loop-input-test.true c.input-item.is c.loop-input.invariant.ends k);
    }

pub returns : goal.returns
returns c = λ note h input number.
    table-all (place_in (end_in c.new-ends.result) c.args.inputs.now) c.loop-input.rows.items c.loop-input.input-index c.loop-input.invariant.length c.loop-input.invariant.places
    (λ n k ge. place_in-past (end_in c.new-ends.result) c.args.inputs.now n k (omega arith)) input number
    ∙ place_in-is c.args.inputs.now note c.args.frame.now c.new-ends.result c.new-ends.ensures h input number
