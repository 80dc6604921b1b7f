use Rattle.cet_isa.specs.OpcodeMap.{sized_width, group, shift_operand, shift_op}
use Rattle.cet_isa.specs.Row.{Alone, Unsigned8, RegisterOrMemory}
use Rattle.cet_isa.specs.declared.instruction.Insn.TheVariants.{MovImm}
use Rattle.cet_isa.specs.declared.operation.ShiftCount.TheVariants as count
use Rattle.cet_decode.proofs.Widths.{of_width}
use Rattle.cet_decode.proofs.last_quarter.shift_by_constant.Goals as goal

pub returns : goal.returns
returns c = of_width _ c.shift_constant_of.result c.args.rex (sized_width c.args.rex c.args.opcode) (λ w. group c.args.rex (λ field. shift_operand w (λ f. Unsigned8 (λ n. f (count.Imm n))) (shift_op field))) c.in_ok-width.width c.args.bytes.now c.in_ok-width.ensures c.shift_constant_of.ensures
