use Rattle.std.proofs.Common.{sym}
use Rattle.cet_decode.proofs.Falls.{plain_first}
use Rattle.cet_decode.proofs.Widths.{gives_as}
use Rattle.cet_decode.proofs.instruction.instruction.Goals as goal

pub returns : goal.returns
returns c =
    gives_as _ c.one_byte.result _ _
    (plain_first c.args.bytes.now c.in_ok-first.first c.in_ok-first.rest.now c.in_ok-first.ensures (sym c.if-is_rex.ensures) c.if-first.false c.if-first-2.false c.if-first-eq62.false
    c.if-first-eq102.false c.if-first-eq46.false)
    c.one_byte.ensures
