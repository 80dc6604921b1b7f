use Rattle.cet_isa.specs.OpcodeMap.{sized_width, group, f6_operand}
use Rattle.cet_decode.proofs.Widths.{of_width}
use Rattle.cet_decode.proofs.last_quarter.f6.Goals as goal

pub returns : goal.returns
returns c = of_width _ c.f6_of.result c.args.rex (sized_width c.args.rex c.args.opcode) (λ w. group c.args.rex (f6_operand w)) c.in_ok-width.width c.args.bytes.now c.in_ok-width.ensures c.f6_of.ensures
