-- The instructions that images may have so far, among all instruction values.
use Rattle.std.specs.Prelude.{false, Option, Some, None}
use Rattle.cet_isa.specs.declared.register.Reg.TheVariants.{Rax}
use Rattle.cet_isa.specs.declared.operand.Width.TheVariants.{B4}
use Rattle.cet_isa.specs.declared.operand.Rel.TheVariants.{S}
use Rattle.cet_isa.specs.declared.operand.Rm.TheVariants as rm
use Rattle.cet_isa.specs.declared.instruction.Insn.{Insn}
use Rattle.cet_isa.specs.declared.instruction.Insn.TheVariants as insn
use Rattle.cet_rules.specs.declared.covered.Covered.{Covered}
use Rattle.cet_rules.specs.declared.covered.Covered.TheVariants as covered

abbrev pub covered_of : Insn → Option Covered
covered_of insn.EndBr64 = Some covered.EndBr64
covered_of insn.Nop = Some covered.Nop
covered_of (insn.Jmp (S rel)) = Some (covered.Jmp rel)
covered_of (insn.MovAbs B4 Rax imm) = Some (covered.MovEax imm)
covered_of (insn.JmpInd (rm.Reg Rax) false) = Some covered.JmpRax
covered_of insn.Ud2 = Some covered.Ud2
covered_of i = None
