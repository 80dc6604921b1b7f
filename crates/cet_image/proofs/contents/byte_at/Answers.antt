use Rattle.std.proofs.Common.{ℕ, List, ◌-◌, get_or, Some, ap, sym, ◌∙◌}
use Rattle.cet_image.proofs.SegmentBytes.{byte_found}
use Rattle.cet_image.proofs.contents.byte_at.Goals as goal

pub returns : goal.returns
returns c =
    let offset : ℕ = c.args.at - c.in_ok-segment.segment.now.start in
    ap (λ (x : ℕ). Some x) (c.byte_or_zero.ensures ∙ ap (λ (xs : List ℕ). get_or xs offset 0) c.as_slice-stored.ensures)
    ∙ sym (byte_found c.args.image.now c.args.at c.in_ok-segment.segment.now (c.in_ok-segment.ensures {u = tt}))
