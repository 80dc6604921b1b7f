-- What an instruction statement means: the instruction value whose text it is. A name stands for a number that the linker puts in.
use Rattle.std.specs.Prelude.{ℕ, ◌-◌, ◌^◌, Bool, false, if◌then◌else◌, List, ℤ, pos, Option, Some, None, is_some, Result, Ok, Err, codes}
use Rattle.std.specs.Option.{ok_or}
use Rattle.std.specs.Str.{bytes_eq}
use Rattle.cet_isa.specs.declared.register.Reg.{Reg}
use Rattle.cet_isa.specs.declared.operand.Width.{Width}
use Rattle.cet_isa.specs.declared.operand.Mem.{Mem}
use Rattle.cet_isa.specs.declared.operand.Rm.{Rm}
use Rattle.cet_isa.specs.declared.operand.Rm.TheVariants as rm
use Rattle.cet_isa.specs.declared.operand.Rel.TheVariants.{S, L}
use Rattle.cet_isa.specs.declared.operation.ShiftOp.{ShiftOp}
use Rattle.cet_isa.specs.declared.operation.ShiftCount.{ShiftCount}
use Rattle.cet_isa.specs.declared.operation.ShiftCount.TheVariants as count
use Rattle.cet_isa.specs.declared.operation.Cond.{Cond}
use Rattle.cet_isa.specs.declared.instruction.Insn.{Insn}
use Rattle.cet_isa.specs.declared.instruction.Insn.TheVariants as insn
use Rattle.cet_isa.specs.Canonical.{canonical}
use Rattle.cet_syntax.specs.declared.error.SyntaxError.{SyntaxError}
use Rattle.cet_syntax.specs.declared.error.SyntaxError.TheVariants as fault
use Rattle.cet_syntax.specs.declared.operand.Address.{Address}
use Rattle.cet_syntax.specs.declared.operand.Constant.{Constant}
use Rattle.cet_syntax.specs.declared.operand.Constant.TheVariants as constant
use Rattle.cet_syntax.specs.declared.operand.Memory.{Memory}
use Rattle.cet_syntax.specs.declared.operand.Place.{Place}
use Rattle.cet_syntax.specs.declared.operand.Place.TheVariants as place
use Rattle.cet_syntax.specs.declared.operand.Operand.{Operand}
use Rattle.cet_syntax.specs.declared.operand.Operand.TheVariants as operand
use Rattle.cet_syntax.specs.declared.operands.Operands.{Operands}
use Rattle.cet_syntax.specs.declared.operands.Operands.TheVariants.{Zero, One, Two, Three}
use Rattle.cet_syntax.specs.declared.template.Reference.{Reference}
use Rattle.cet_syntax.specs.declared.template.Code.{Code}
use Rattle.cet_syntax.specs.declared.template.Code.TheVariants as code
use Rattle.cet_syntax.specs.declared.word.Word.{Word}
use Rattle.cet_syntax.specs.declared.word.Word.TheVariants as word
use Rattle.cet_syntax.specs.Number.{signed_field, unsigned_field}

infixl 10 ◌>>=◌
abbrev pub ◌>>=◌ : {A B : Type 0} → Result A SyntaxError → (A → Result B SyntaxError) → Result B SyntaxError
(Ok x) >>= f = f x
(Err e) >>= f = Err e

-- the value of a field, or its number lies outside
abbrev pub in_range : {A : Type 0} → Option A → Result A SyntaxError
in_range field = ok_or field fault.Range

-- ---- fields: a value, and the symbol whose value is to stand there

-- a name stands for the largest number of 32 bits, so that its field has 32 bits
abbrev pub stand_in : ℕ
stand_in = 2 ^ 31 - 1

abbrev pub reference_to : Address → Result Reference SyntaxError
reference_to a = do
  addend ← in_range (signed_field (2 ^ 63) a.addend)
  Ok (record { name = a.name; addend = addend })

-- a constant that is sign-extended from 32 bits
abbrev pub signed_constant : Constant → Result (ℤ × Option Reference) SyntaxError
signed_constant (constant.Number n) = do
  value ← in_range (signed_field (2 ^ 31) n)
  Ok (value, None)
signed_constant (constant.Address a) = do
  reference ← reference_to a
  Ok (pos stand_in, Some reference)

-- a constant of 64 bits
abbrev pub unsigned_constant : Constant → Result (ℕ × Option Reference) SyntaxError
unsigned_constant (constant.Number n) = do
  value ← in_range (unsigned_field (2 ^ 64) n)
  Ok (value, None)
unsigned_constant (constant.Address a) = do
  reference ← reference_to a
  Ok (stand_in, Some reference)

-- the count of a shift: no name stands for one
abbrev pub count_field : Constant → Result ShiftCount SyntaxError
count_field (constant.Number n) = do
  value ← in_range (unsigned_field 256 n)
  Ok (count.Imm value)
count_field (constant.Address a) = Err fault.Range

abbrev pub memory_field : Memory → Result (Mem × Option Reference) SyntaxError
memory_field m = do
  scale ← in_range (unsigned_field 256 m.scale)
  disp ← signed_constant m.disp
  Ok (record { base = m.base; index = m.index; scale = scale; disp = disp.0; rip = m.rip }, disp.1)

abbrev pub place_field : Place → Result (Rm × Option Reference) SyntaxError
place_field (place.Reg r) = Ok (rm.Reg r, None)
place_field (place.Memory m) = do
  mem ← memory_field m
  Ok (rm.Mem mem.0, mem.1)

-- ---- the instruction: a value that has a form

abbrev pub template : Insn → Option Reference → Option Reference → Result Code SyntaxError
template value memory immediate =
    if is_some (canonical value) then Ok (code.Long (record { insn = value; memory = memory; immediate = immediate })) else Err fault.Range

-- a branch to a name, with a displacement of 32 bits
abbrev pub branch_to : Insn → List ℕ → Result Code SyntaxError
branch_to value name = template value None (Some (record { name = name; addend = pos 0 }))

-- ---- by the operands that the word takes; others are refused

abbrev pub bare : Insn → Operands → Result Code SyntaxError
bare value Zero = template value None None
bare value _ = Err fault.Operand

-- D
abbrev pub one_place : Operands → Result (Rm × Option Reference) SyntaxError
one_place (One (operand.Place d)) = place_field d
one_place _ = Err fault.Operand

abbrev pub of_place : (Rm → Insn) → Operands → Result Code SyntaxError
of_place make operands = one_place operands >>= (λ d. template (make d.0) d.1 None)

-- r
abbrev pub one_register : Operands → Result Reg SyntaxError
one_register (One (operand.Place (place.Reg r))) = Ok r
one_register _ = Err fault.Operand

abbrev pub of_register : (Reg → Insn) → Operands → Result Code SyntaxError
of_register make operands = one_register operands >>= (λ r. template (make r) None None)

-- M
abbrev pub one_memory : Operands → Result (Mem × Option Reference) SyntaxError
one_memory (One (operand.Place (place.Memory m))) = memory_field m
one_memory _ = Err fault.Operand

abbrev pub of_memory : (Mem → Insn) → Operands → Result Code SyntaxError
of_memory make operands = one_memory operands >>= (λ m. template (make m.0) m.1 None)

-- two operands of which the one is a register
pub record WithRegister (A : Type 0) : Type 0 where
  pub reg : Reg
  pub other : A × Option Reference

abbrev pub beside : {A : Type 0} → Reg → Result (A × Option Reference) SyntaxError → Result (WithRegister A) SyntaxError
beside r other = other >>= (λ o. Ok (record { reg = r; other = o }))

-- D, r
abbrev pub place_register : Operands → Result (WithRegister Rm) SyntaxError
place_register (Two (operand.Place d) (operand.Place (place.Reg r))) = beside r (place_field d)
place_register _ = Err fault.Operand

abbrev pub of_place_register : (Rm → Reg → Insn) → Operands → Result Code SyntaxError
of_place_register make operands = place_register operands >>= (λ o. template (make o.other.0 o.reg) o.other.1 None)

-- r, D
abbrev pub register_place : Operands → Result (WithRegister Rm) SyntaxError
register_place (Two (operand.Place (place.Reg r)) (operand.Place s)) = beside r (place_field s)
register_place _ = Err fault.Operand

abbrev pub of_register_place : (Reg → Rm → Insn) → Operands → Result Code SyntaxError
of_register_place make operands = register_place operands >>= (λ o. template (make o.reg o.other.0) o.other.1 None)

-- r, M
abbrev pub register_memory : Operands → Result (WithRegister Mem) SyntaxError
register_memory (Two (operand.Place (place.Reg r)) (operand.Place (place.Memory m))) = beside r (memory_field m)
register_memory _ = Err fault.Operand

abbrev pub of_register_memory : (Reg → Mem → Insn) → Operands → Result Code SyntaxError
of_register_memory make operands = register_memory operands >>= (λ o. template (make o.reg o.other.0) o.other.1 None)

-- M, r
abbrev pub memory_register : Operands → Result (WithRegister Mem) SyntaxError
memory_register (Two (operand.Place (place.Memory m)) (operand.Place (place.Reg r))) = beside r (memory_field m)
memory_register _ = Err fault.Operand

abbrev pub of_memory_register : (Mem → Reg → Insn) → Operands → Result Code SyntaxError
of_memory_register make operands = memory_register operands >>= (λ o. template (make o.other.0 o.reg) o.other.1 None)

-- r, n with n of 64 bits
abbrev pub register_constant : Operands → Result (WithRegister ℕ) SyntaxError
register_constant (Two (operand.Place (place.Reg r)) (operand.Constant n)) = beside r (unsigned_constant n)
register_constant _ = Err fault.Operand

abbrev pub of_register_constant : (Reg → ℕ → Insn) → Operands → Result Code SyntaxError
of_register_constant make operands = register_constant operands >>= (λ o. template (make o.reg o.other.0) None o.other.1)

-- D, r or D, n
abbrev pub into_place : (Rm → Reg → Insn) → (Rm → ℤ → Insn) → Place → Operand → Result Code SyntaxError
into_place by_register by_constant d (operand.Place (place.Reg r)) = do
  dst ← place_field d
  template (by_register dst.0 r) dst.1 None
into_place by_register by_constant d (operand.Constant n) = do
  dst ← place_field d
  imm ← signed_constant n
  template (by_constant dst.0 imm.0) dst.1 imm.1
into_place by_register by_constant d _ = Err fault.Operand

abbrev pub of_place_source : (Rm → Reg → Insn) → (Rm → ℤ → Insn) → Operands → Result Code SyntaxError
of_place_source by_register by_constant (Two (operand.Place d) source) = into_place by_register by_constant d source
of_place_source by_register by_constant _ = Err fault.Operand

-- D, n or D, cl
abbrev pub shift_place : ShiftOp → Width → Place → Operand → Result Code SyntaxError
shift_place op w d (operand.Constant n) = do
  dst ← place_field d
  by ← count_field n
  template (insn.Shift op w dst.0 by) dst.1 None
shift_place op w d (operand.Name name) = if bytes_eq name (codes "cl") then (do
  dst ← place_field d
  template (insn.Shift op w dst.0 count.Cl) dst.1 None) else Err fault.Operand
shift_place op w d _ = Err fault.Operand

abbrev pub shifts : ShiftOp → Width → Operands → Result Code SyntaxError
shifts op w (Two (operand.Place d) amount) = shift_place op w d amount
shifts op w _ = Err fault.Operand

-- r, D or r, D, n
abbrev pub products : Width → Operands → Result Code SyntaxError
products w (Two (operand.Place (place.Reg r)) (operand.Place s)) = do
  src ← place_field s
  template (insn.IMul2 w r src.0) src.1 None
products w (Three (operand.Place (place.Reg r)) (operand.Place s) (operand.Constant n)) = do
  src ← place_field s
  imm ← signed_constant n
  template (insn.IMul3 w r src.0 imm.0) src.1 imm.1
products w _ = Err fault.Operand

-- r, M or n
abbrev pub pushes : Operands → Result Code SyntaxError
pushes (One (operand.Place (place.Reg r))) = template (insn.Push r) None None
pushes (One (operand.Place (place.Memory m))) = do
  mem ← memory_field m
  template (insn.PushMem mem.0) mem.1 None
pushes (One (operand.Constant n)) = do
  imm ← signed_constant n
  template (insn.PushImm imm.0) None imm.1
pushes _ = Err fault.Operand

-- D, or without NOTRACK `$n` or a name
abbrev pub branches : (Rm → Insn) → (ℤ → Insn) → Bool → Operands → Result Code SyntaxError
branches through by notrack (One (operand.Place d)) = do
  target ← place_field d
  template (through target.0) target.1 None
branches through by false (One (operand.Relative n)) = do
  rel ← in_range (signed_field (2 ^ 31) n)
  template (by rel) None None
branches through by false (One (operand.Name name)) = branch_to (by (pos stand_in)) name
branches through by _ _ = Err fault.Operand

-- `$n` or a name
abbrev pub long_branches : (ℤ → Insn) → Operands → Result Code SyntaxError
long_branches by (One (operand.Relative n)) = do
  rel ← in_range (signed_field (2 ^ 31) n)
  template (by rel) None None
long_branches by (One (operand.Name name)) = branch_to (by (pos stand_in)) name
long_branches by _ = Err fault.Operand

-- a branch of 8 bits: JMP, or a conditional one
abbrev pub short_branch : Option Cond → ℤ → Insn
short_branch None rel = insn.Jmp (S rel)
short_branch (Some c) rel = insn.Jcc c (S rel)

-- the same with 8 bits; where a name stands, the displacement is known when the whole text is
abbrev pub short_branches : (ℤ → Insn) → Option Cond → Operands → Result Code SyntaxError
short_branches by condition (One (operand.Relative n)) = do
  rel ← in_range (signed_field 128 n)
  template (by rel) None None
short_branches by condition (One (operand.Name name)) = Ok (code.Short condition name)
short_branches by condition _ = Err fault.Operand

abbrev pub instruction : Word → Operands → Result Code SyntaxError
instruction (word.Whole value) = bare value
instruction (word.Mov w) = of_place_source (insn.Mov w) (insn.MovImm w)
instruction (word.Load w) = of_register_place (insn.MovLoad w)
instruction (word.MovAbs w) = of_register_constant (insn.MovAbs w)
instruction (word.MovZx w) = of_register_place (insn.MovZx w)
instruction (word.MovSx w) = of_register_place (insn.MovSx w)
instruction word.MovSxd = of_register_place insn.MovSxd
instruction (word.Lea w) = of_register_memory (insn.Lea w)
instruction (word.Alu op w) = of_place_source (insn.Alu op w) (insn.AluImm op w)
instruction (word.AluLoad op w) = of_register_place (insn.AluLoad op w)
instruction (word.Test w) = of_place_source (insn.Test w) (insn.TestImm w)
instruction (word.Unary op w) = of_place (insn.Unary op w)
instruction (word.Shift op w) = shifts op w
instruction (word.IMul w) = products w
instruction (word.MulDiv op w) = of_place (insn.MulDiv op w)
instruction word.Push = pushes
instruction word.Pop = of_register insn.Pop
instruction (word.Call notrack) = branches (λ target. insn.CallInd target notrack) insn.Call notrack
instruction (word.Jmp notrack) = branches (λ target. insn.JmpInd target notrack) (λ rel. insn.Jmp (L rel)) notrack
instruction word.ShortJmp = short_branches (short_branch None) None
instruction (word.Jcc c) = long_branches (λ rel. insn.Jcc c (L rel))
instruction (word.ShortJcc c) = short_branches (short_branch (Some c)) (Some c)
instruction (word.SetCc c) = of_place (insn.SetCc c)
instruction (word.CMov c w) = of_register_place (insn.CMov c w)
instruction (word.Xchg w) = of_place_register (insn.Xchg w)
instruction (word.CmpXchg w lock) = of_memory_register (λ dst src. insn.CmpXchg w dst src lock)
instruction (word.XAdd w lock) = of_memory_register (λ dst src. insn.XAdd w dst src lock)
instruction word.RdSsp = of_register insn.RdSsp
instruction word.IncSsp = of_register insn.IncSsp
instruction word.RstorSsp = of_memory insn.RstorSsp
instruction word.WrSs = of_memory_register insn.WrSs
