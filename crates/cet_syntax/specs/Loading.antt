-- The instruction of a word, where several words take the same operands. A word that takes others has none of these.
use Rattle.std.specs.Prelude.{ℤ}
use Rattle.cet_isa.specs.declared.register.Reg.{Reg}
use Rattle.cet_isa.specs.declared.operand.Mem.{Mem}
use Rattle.cet_isa.specs.declared.operand.Rm.{Rm}
use Rattle.cet_isa.specs.declared.instruction.Insn.{Insn}
use Rattle.cet_isa.specs.declared.instruction.Insn.TheVariants as insn
use Rattle.cet_syntax.specs.declared.word.Word.{Word}
use Rattle.cet_syntax.specs.declared.word.Word.TheVariants as word

abbrev pub loading : Word → Reg → Rm → Insn
loading (word.Load w) dst src = insn.MovLoad w dst src
loading (word.MovZx w) dst src = insn.MovZx w dst src
loading (word.MovSx w) dst src = insn.MovSx w dst src
loading (word.AluLoad op w) dst src = insn.AluLoad op w dst src
loading (word.CMov c w) dst src = insn.CMov c w dst src
loading _ dst src = insn.MovSxd dst src

abbrev pub from_register : Word → Rm → Reg → Insn
from_register (word.Alu op w) dst src = insn.Alu op w dst src
from_register (word.Test w) dst src = insn.Test w dst src
from_register (word.Mov w) dst src = insn.Mov w dst src
from_register _ dst src = insn.Nop

abbrev pub from_constant : Word → Rm → ℤ → Insn
from_constant (word.Alu op w) dst imm = insn.AluImm op w dst imm
from_constant (word.Test w) dst imm = insn.TestImm w dst imm
from_constant (word.Mov w) dst imm = insn.MovImm w dst imm
from_constant _ dst imm = insn.Nop

abbrev pub on_place : Word → Rm → Insn
on_place (word.Unary op w) dst = insn.Unary op w dst
on_place (word.MulDiv op w) dst = insn.MulDiv op w dst
on_place (word.SetCc c) dst = insn.SetCc c dst
on_place _ dst = insn.Nop

abbrev pub exchanging : Word → Mem → Reg → Insn
exchanging (word.CmpXchg w lock) dst src = insn.CmpXchg w dst src lock
exchanging (word.XAdd w lock) dst src = insn.XAdd w dst src lock
exchanging _ dst src = insn.WrSs dst src

abbrev pub on_register : Word → Reg → Insn
on_register word.RdSsp reg = insn.RdSsp reg
on_register word.IncSsp reg = insn.IncSsp reg
on_register _ reg = insn.Pop reg
