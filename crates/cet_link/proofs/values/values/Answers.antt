use Rattle.std.proofs.Common.{◌∙◌, ap, arith, map}
use Rattle.cet_link.specs.Inputs.{met_in}
use Rattle.cet_link.specs.Values.{value_of, value_at}
use Rattle.cet_link.proofs.LayoutLemmas.{table-more, table-length, table-all}
use Rattle.cet_link.proofs.ValueLemmas.{value_at-here, value_at-past}
use Rattle.cet_link.proofs.values.values.Goals as goal

pub loop-number-preserved : goal.loop-number-preserved
loop-number-preserved c =
    let inputs = c.args.inputs.now in
    let i = c.loop-number.number in
    let o = c.index-inputs-number.result in
    record {
      length = table-length c.loop-number.rows.items c.push.new.self.items i c.in_ok-row.row c.in_ok-push.ensures.items c.loop-number.invariant.length;
      values = λ note known. table-more (value_at inputs note) c.loop-number.rows.items c.push.new.self.items i c.in_ok-row.row c.in_ok-push.ensures.items c.loop-number.invariant.length
          (c.loop-number.invariant.values note known)
          (value_at-here inputs note i o c.loop-number-test.true c.index-inputs-number.is c.in_ok-row.row.items
          (c.in_ok-row.ensures inputs note known ∙ ap (λ ss. map (λ m. value_of inputs note m) (met_in i ss)) c.as_slice.ensures));
    }

pub returns : goal.returns
returns c = λ note known input number.
    table-all (value_at c.args.inputs.now note) c.loop-number.rows.items c.loop-number.number c.loop-number.invariant.length (c.loop-number.invariant.values note known)
    (λ n k ge. value_at-past c.args.inputs.now note n k (omega arith)) input number
