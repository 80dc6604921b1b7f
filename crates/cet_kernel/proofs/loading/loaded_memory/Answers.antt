use Rattle.std.proofs.Common.{[], ◌++◌, length, refl, ap, ◌∙◌}
use Rattle.std.proofs.lemmas.Option.{slice_get_read}
use Rattle.std.specs.Prelude.{map}
use Rattle.std.specs.List.{fold}
use Rattle.cet_machine.specs.Memory.{with_region}
use Rattle.cet_process.specs.Start.{region_of, stacks}
use Rattle.cet_kernel.proofs.Shared.{each_of_image}
use Rattle.cet_kernel.proofs.Placed.{placed_next, all_placed}
use Rattle.cet_kernel.proofs.loading.loaded_memory.Goals as goal

pub place_segment-requires : goal.place_segment-requires
place_segment-requires c =
    each_of_image c.args.image.now c.as_slice-segments.result.now c.as_slice-segments.ensures c.loop-segment.segment-index c.segment-item.result
    (slice_get_read c.as_slice-segments.result.now (length c.as_slice-segments.result.now) c.loop-segment.segment-index c.segment-item.result refl c.loop-segment-test.true c.segment-item.is)

pub loop-segment-preserved : goal.loop-segment-preserved
loop-segment-preserved c =
    placed_next c.as_slice-segments.result.now c.loop-segment.segment-index c.segment-item.result c.loop-segment.memory c.place_segment.new.memory
    (slice_get_read c.as_slice-segments.result.now (length c.as_slice-segments.result.now) c.loop-segment.segment-index c.segment-item.result refl c.loop-segment-test.true c.segment-item.is)
    c.loop-segment.invariant c.in_ok-place_segment.ensures

pub returns : goal.returns
returns c =
    all_placed c.as_slice-segments.result.now c.args.mode c.loop-segment.segment-index c.loop-segment.memory c.place_stacks.new.memory c.loop-segment-test.false c.loop-segment.invariant
    c.in_ok-place_stacks.ensures
    ∙ ap (λ segments. fold with_region [] (map region_of segments ++ stacks c.args.mode)) c.as_slice-segments.ensures
