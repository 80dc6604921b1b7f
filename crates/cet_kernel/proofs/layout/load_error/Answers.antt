use Rattle.std.proofs.Common.{length, refl, sym, ap, ◌∙◌}
use Rattle.std.specs.Prelude.{not}
use Rattle.std.proofs.lemmas.Option.{slice_get_read}
use Rattle.cet_process.specs.Start.{is_in_place}
use Rattle.cet_kernel.proofs.Shared.{each_of_image, misplaced_here, none_misplaced, find_none_more}
use Rattle.cet_kernel.proofs.layout.load_error.Goals as goal

pub is_in_place-requires : goal.is_in_place-requires
is_in_place-requires c =
    each_of_image c.args.image.now c.as_slice-segments.result.now c.as_slice-segments.ensures c.loop-segment.segment-index c.segment-item.result
    (slice_get_read c.as_slice-segments.result.now (length c.as_slice-segments.result.now) c.loop-segment.segment-index c.segment-item.result refl c.loop-segment-test.true c.segment-item.is)

pub returns-then-not-is_in_place : goal.returns-then-not-is_in_place
returns-then-not-is_in_place c =
    misplaced_here c.args.image.now c.as_slice-segments.result.now c.loop-segment.segment-index c.segment-item.result c.as_slice-segments.ensures c.loop-segment.invariant
    (slice_get_read c.as_slice-segments.result.now (length c.as_slice-segments.result.now) c.loop-segment.segment-index c.segment-item.result refl c.loop-segment-test.true c.segment-item.is)
    (sym c.is_in_place.ensures ∙ c.if-not-is_in_place.true)

pub loop-segment-preserved : goal.loop-segment-preserved
loop-segment-preserved c =
    find_none_more (λ s. not (is_in_place s)) c.as_slice-segments.result.now c.loop-segment.segment-index c.segment-item.result c.loop-segment.invariant
    (slice_get_read c.as_slice-segments.result.now (length c.as_slice-segments.result.now) c.loop-segment.segment-index c.segment-item.result refl c.loop-segment-test.true c.segment-item.is)
    (ap not (sym c.is_in_place.ensures ∙ c.if-not-is_in_place.false))

pub first_shared-requires : goal.first_shared-requires
first_shared-requires c = each_of_image c.args.image.now c.as_slice-segments.result.now c.as_slice-segments.ensures

pub returns : goal.returns
returns c =
    none_misplaced c.args.image.now c.as_slice-segments.result.now c.loop-segment.segment-index c.first_shared.result c.as_slice-segments.ensures c.loop-segment.invariant c.loop-segment-test.false
    c.first_shared.ensures
