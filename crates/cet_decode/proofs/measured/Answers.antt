use Rattle.std.proofs.Common.{◌≤◌, ◌-◌, length, arith}
use Rattle.cet_isa.proofs.Stays.{instruction_bounds}
use Rattle.cet_decode.proofs.Answers.{bytes_of_slice}
use Rattle.cet_decode.proofs.measured.Goals as goal

pub overflow_sub-length : goal.overflow_sub-length
overflow_sub-length c = (instruction_bounds c.args.bytes.now c.in_ok-insn.insn c.in_ok-insn.rest.now (bytes_of_slice _ c.type_inv.bytes) c.in_ok-insn.ensures).0

pub overflow_cast-result : goal.overflow_cast-result
overflow_cast-result c =
    let b = instruction_bounds c.args.bytes.now c.in_ok-insn.insn c.in_ok-insn.rest.now (bytes_of_slice _ c.type_inv.bytes) c.in_ok-insn.ensures in
    omega (arith, b.1)
