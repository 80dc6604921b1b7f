use Rattle.cet_decode.proofs.Falls.{plain_padded}
use Rattle.cet_decode.proofs.Widths.{gives_as}
use Rattle.cet_decode.proofs.instruction.+after_pads.Goals as goal

pub returns : goal.returns
returns t c =
    gives_as _ c.pads_row.result _ _ (plain_padded c.args.left c.args.more c.args.bytes.now c.in_ok-first.first c.in_ok-first.rest.now c.in_ok-first.ensures c.if-first-eq102.false c.if-first-eq46.false) c.pads_row.ensures
