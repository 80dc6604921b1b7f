use Rattle.std.proofs.Common.{List, take, sym, subst, ◌∷◌, []}
use Rattle.cet_link.specs.Inputs.{Part}
use Rattle.cet_link.specs.Laid.{Gains, parts_in}
use Rattle.cet_link.proofs.SegmentLemmas.{Gains-append, parts_in-more}
use Rattle.cet_link.proofs.segments.put_sections.Goals as goal

pub loop-number-preserved : goal.loop-number-preserved
loop-number-preserved c =
    let ss = c.args.sections.now in
    let i = c.loop-number.number in
    let s = c.index-sections-number.result in
    let p : Part = record { input = c.args.input; number = i; section = s } in
    let old = c.args.out.now.items in
    let new = c.put_if_class.new.out.items in
    record {
      limit = c.in_ok-put_if_class.ensures.limit;
      bytes = λ inputs note are.
          subst (λ (ps : List Part). Gains inputs note c.args.class c.args.start old new ps) (sym (parts_in-more c.args.input ss i s c.loop-number-test.true c.index-sections-number.is))
          (Gains-append inputs note c.args.class c.args.start old c.loop-number.out.items new (parts_in c.args.input (take i ss)) (p ∷ []) (c.loop-number.invariant.bytes inputs note are)
          (c.in_ok-put_if_class.ensures.bytes inputs note are));
    }
