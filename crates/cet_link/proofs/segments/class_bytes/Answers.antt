use Rattle.std.proofs.Common.{◌≡◌, ◌∙◌, List, All, take, length, ap, sym, subst}
use Rattle.std.proofs.lemmas.List.{take_all}
use Rattle.std.specs.List.{flat_map, enumerate_from}
use Rattle.cet_elf.specs.Consistent.{IsConsistentSection}
use Rattle.cet_elf.specs.declared.object.Section.{Section}
use Rattle.cet_link.specs.Inputs.{Part, parts, parts_of}
use Rattle.cet_link.specs.Laid.{Gains, parts_in}
use Rattle.cet_link.proofs.LayoutLemmas.{consistent-item}
use Rattle.cet_link.proofs.LoopLemmas.{each_more}
use Rattle.cet_link.proofs.SegmentLemmas.{Gains-append, Gains-all, parts-is}
use Rattle.cet_link.proofs.segments.class_bytes.Goals as goal

pub put_sections-requires-clause-consistent : goal.put_sections-requires-clause-consistent
put_sections-requires-clause-consistent c =
    let o = c.index-inputs-number.result in (
      length o.symbols,
      subst (λ (ss : List Section). All (IsConsistentSection (length o.symbols)) ss) (sym c.as_slice.ensures)
          (consistent-item c.args.inputs.now c.loop-number.number o c.loop-number-test.true c.index-inputs-number.is c.requires.consistent).sections,
    )

pub loop-number-preserved : goal.loop-number-preserved
loop-number-preserved c =
    let inputs = c.args.inputs.now in
    let i = c.loop-number.number in
    let o = c.index-inputs-number.result in
    let front = c.args.front.now in
    let new = c.put_sections.new.out.items in
    record {
      limit = c.in_ok-put_sections.ensures.limit;
      bytes = λ note are.
          subst (λ (ps : List Part). Gains inputs note c.args.class c.args.start front new ps) (sym (each_more (λ p. parts_of p.0 p.1) inputs i o c.loop-number-test.true c.index-inputs-number.is))
          (Gains-append inputs note c.args.class c.args.start front c.loop-number.out.items new (flat_map (λ p. parts_of p.0 p.1) (enumerate_from 0 (take i inputs))) (parts_of i o)
          (c.loop-number.invariant.bytes note are)
          (subst (λ (ss : List Section). Gains inputs note c.args.class c.args.start c.loop-number.out.items new (parts_in i ss)) c.as_slice.ensures
          (c.in_ok-put_sections.ensures.bytes inputs note are)));
    }

pub returns : goal.returns
returns c = λ note are.
    let inputs = c.args.inputs.now in
    let whole : flat_map (λ p. parts_of p.0 p.1) (enumerate_from 0 (take c.loop-number.number inputs)) ≡ parts inputs =
    ap (λ zs. flat_map (λ p. parts_of p.0 p.1) (enumerate_from 0 zs)) (take_all c.loop-number.number inputs c.loop-number-test.false) ∙ sym (parts-is inputs) in
    Gains-all inputs note c.args.class c.args.start c.args.front.now c.loop-number.out.items (parts inputs)
    (subst (λ (ps : List Part). Gains inputs note c.args.class c.args.start c.args.front.now c.loop-number.out.items ps) whole (c.loop-number.invariant.bytes note are))
