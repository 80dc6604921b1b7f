use Rattle.cet_isa.specs.OpcodeMap.{sized_width, extension, is_byte, immediate}
use Rattle.cet_isa.specs.Row.{Alone, Unsigned8, RegisterOrMemory}
use Rattle.cet_isa.specs.declared.instruction.Insn.TheVariants.{MovImm}
use Rattle.cet_isa.specs.declared.operation.ShiftCount.TheVariants as count
use Rattle.cet_decode.proofs.Widths.{of_width}
use Rattle.cet_decode.proofs.last_quarter.move_immediate.Goals as goal

pub returns : goal.returns
returns c = of_width _ c.move_immediate_of.result c.args.rex (sized_width c.args.rex c.args.opcode) (λ w. extension c.args.rex 0 (RegisterOrMemory (is_byte w) (λ dst. immediate w (λ z. MovImm w dst z)))) c.in_ok-width.width c.args.bytes.now c.in_ok-width.ensures c.move_immediate_of.ensures
