use Rattle.std.proofs.Common.{ℕ, ◌-◌, ap, ◌∙◌}
use Rattle.cet_process.specs.Start.{end_of_pages}
use Rattle.cet_kernel.proofs.Placed.{filled_now, unfilled_now}
use Rattle.cet_kernel.proofs.loading.place_segment.Goals as goal

pub returns-then-not-is_empty : goal.returns-then-not-is_empty
returns-then-not-is_empty c =
    let first = c.first_page-start.result in
    let s = c.args.segment.now in
    filled_now c.args.memory.now c.place.new.self c.fill-filled.new.self s first (c.end_of_pages.result - first) c.kind_of.result c.is_empty.result c.as_slice.result.now c.fill-filled.result c.requires
    (record {
      start = c.first_page-start.ensures;
      size = ap (λ (e : ℕ). e - first) c.end_of_pages.ensures ∙ ap (λ (f : ℕ). end_of_pages s - f) c.first_page-start.ensures;
      kind_is = c.kind_of.ensures;
    }) c.in-Ok.ensures.ok c.is_empty.ensures c.if-not-is_empty.true c.as_slice.ensures c.fill-filled.ensures.ok c.fill-filled.ensures.err

pub returns-else-not-is_empty : goal.returns-else-not-is_empty
returns-else-not-is_empty c =
    let first = c.first_page-start.result in
    let s = c.args.segment.now in
    unfilled_now c.args.memory.now c.place.new.self s first (c.end_of_pages.result - first) c.kind_of.result c.requires
    (record {
      start = c.first_page-start.ensures;
      size = ap (λ (e : ℕ). e - first) c.end_of_pages.ensures ∙ ap (λ (f : ℕ). end_of_pages s - f) c.first_page-start.ensures;
      kind_is = c.kind_of.ensures;
    }) c.in-Ok.ensures.ok (c.is_empty.ensures.0 c.if-not-is_empty.false)
