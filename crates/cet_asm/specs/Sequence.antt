-- The sites: sequences of instructions that the certifier knows as one. A site's word means its written sequence, with long branches.
-- Its own marks are no names of the text.
use Rattle.std.specs.Prelude.{ℕ, false, List, [], ◌∷◌, ◌++◌, ℤ, pos, negsuc, ◌+ℤ◌, Some, None}
use Rattle.cet_isa.specs.declared.register.Reg.{Reg}
use Rattle.cet_isa.specs.declared.register.Reg.TheVariants.{Rax, Rcx, Rdx, Rbp, Rsp, Rsi, Rdi, R8, R9, R10, R15}
use Rattle.cet_isa.specs.declared.operand.Width.TheVariants.{B4, B8}
use Rattle.cet_isa.specs.declared.operand.Rel.TheVariants.{L}
use Rattle.cet_isa.specs.declared.operand.Mem.{Mem}
use Rattle.cet_isa.specs.declared.operand.Rm.TheVariants as rm
use Rattle.cet_isa.specs.declared.operation.AluOp.TheVariants.{Add, Sub, Cmp}
use Rattle.cet_isa.specs.declared.operation.ShiftOp.TheVariants.{Shr}
use Rattle.cet_isa.specs.declared.operation.ShiftCount.TheVariants as count
use Rattle.cet_isa.specs.declared.operation.Cond.TheVariants as cond
use Rattle.cet_isa.specs.declared.instruction.Insn.{Insn}
use Rattle.cet_isa.specs.declared.instruction.Insn.TheVariants as insn
use Rattle.cet_syntax.specs.declared.template.Reference.{Reference}
use Rattle.cet_syntax.specs.declared.statement.Site.{Site}
use Rattle.cet_syntax.specs.declared.statement.Site.TheVariants as site
use Rattle.cet_syntax.specs.Instruction.{stand_in}
use Rattle.cet_asm.specs.declared.part.Mark.TheVariants.{Again, Resumed, Past}
use Rattle.cet_asm.specs.declared.part.Part.{Part}
use Rattle.cet_asm.specs.declared.part.Part.TheVariants.{Whole, Branch, Resumption, Here}

-- ---- instructions

abbrev pub plain : Insn → Part
plain value = Whole (record { insn = value; memory = None; immediate = None })

-- [base+disp]
abbrev pub at : Reg → ℤ → Mem
at base disp = record { base = Some base; index = None; scale = 1; disp = disp; rip = false }

-- [@NAME]
abbrev pub absolute : Mem
absolute = record { base = None; index = None; scale = 1; disp = pos stand_in; rip = false }

abbrev pub store : Reg → ℤ → Reg → Part
store base disp src = plain (insn.Mov B8 (rm.Mem (at base disp)) src)

abbrev pub load : Reg → Reg → ℤ → Part
load dst base disp = plain (insn.MovLoad B8 dst (rm.Mem (at base disp)))

abbrev pub lea : Reg → Reg → ℤ → Part
lea dst base disp = plain (insn.Lea B8 dst (at base disp))

abbrev pub copy : Reg → Reg → Part
copy dst src = plain (insn.Mov B8 (rm.Reg dst) src)

abbrev pub subtract : Reg → Reg → Part
subtract dst src = plain (insn.Alu Sub B8 (rm.Reg dst) src)

-- movabs.4 r, n
abbrev pub set : Reg → ℕ → Part
set dst n = plain (insn.MovAbs B4 dst n)

-- movabs.4 r, @NAME
abbrev pub set_to : Reg → Reference → Part
set_to dst reference = Whole (record { insn = insn.MovAbs B4 dst stand_in; memory = None; immediate = Some reference })

-- mov.8 [@NAME], r
abbrev pub publish : Reference → Reg → Part
publish reference src = Whole (record { insn = insn.Mov B8 (rm.Mem absolute) src; memory = Some reference; immediate = None })

-- xchg.8 [@NAME], rax
abbrev pub take : Reference → Part
take reference = Whole (record { insn = insn.Xchg B8 (rm.Mem absolute) Rax; memory = Some reference; immediate = None })

-- jmp NAME
abbrev pub jump_to : List ℕ → Part
jump_to name = Whole (record { insn = insn.Jmp (L (pos stand_in)); memory = None; immediate = Some (record { name = name; addend = pos 0 }) })

abbrev pub test_rax : Part
test_rax = plain (insn.Test B8 (rm.Reg Rax) Rax)

abbrev pub push : Reg → Part
push src = plain (insn.Push src)

abbrev pub pop : Reg → Part
pop dst = plain (insn.Pop dst)

abbrev pub syscall : Part
syscall = plain insn.Syscall

abbrev pub read_shadow : Reg → Part
read_shadow dst = plain (insn.RdSsp dst)

-- ---- sequences

-- 65,536 bytes that are read and written, private and of no file (mmap)
abbrev pub map_stack : List Part
map_stack =
    set Rdi 0 ∷ set Rsi 65536 ∷ set Rdx 3 ∷ set R10 131106 ∷ plain (insn.MovImm B8 (rm.Reg R8) (negsuc 0)) ∷ set R9 0 ∷ set Rax 9 ∷ syscall
    ∷ test_rax ∷ Branch cond.S Past ∷ []

abbrev pub land : ℤ → Reference → List Part
land d l =
    store Rsp d R15 ∷ read_shadow Rax ∷ store Rsp (d +ℤ pos 8) Rax ∷ set_to Rax l ∷ store Rsp (d +ℤ pos 16) Rax ∷ store Rsp (d +ℤ pos 24) Rsp
    ∷ store Rsp (d +ℤ pos 32) Rbp ∷ lea R15 Rsp d ∷ []

abbrev pub release : ℤ → List Part
release d = load R15 Rsp d ∷ []

abbrev pub throw : List Part
throw =
    load Rcx R15 (pos 8) ∷ read_shadow Rax ∷ subtract Rcx Rax ∷ plain (insn.Shift Shr B8 (rm.Reg Rcx) (count.Imm 3))
    ∷ Here Again ∷ set Rax 255 ∷ plain (insn.Alu Cmp B8 (rm.Reg Rcx) Rax) ∷ plain (insn.CMov cond.B B8 Rax (rm.Reg Rcx)) ∷ plain (insn.IncSsp Rax)
    ∷ subtract Rcx Rax ∷ Branch cond.Ne Again
    ∷ load Rdx R15 (pos 16) ∷ load Rbp R15 (pos 32) ∷ load Rsp R15 (pos 24) ∷ load R15 R15 (pos 0) ∷ plain (insn.JmpInd (rm.Reg Rdx) false) ∷ []

abbrev pub switch : Reference → Reference → List Part
switch t p =
    set Rax 0 ∷ take t ∷ test_rax ∷ Branch cond.E Past
    ∷ push Rbp ∷ push R15 ∷ Resumption ∷ push Rcx ∷ read_shadow Rcx ∷ plain (insn.AluImm Sub B8 (rm.Reg Rcx) (pos 8)) ∷ push Rcx
    ∷ load Rcx Rax (pos 0) ∷ plain (insn.RstorSsp (at Rcx (pos 0))) ∷ plain insn.SavePrevSsp ∷ copy Rdx Rsp ∷ copy Rsp Rax ∷ publish p Rdx
    ∷ pop Rcx ∷ pop Rcx ∷ pop R15 ∷ pop Rbp ∷ plain (insn.JmpInd (rm.Reg Rcx) false) ∷ Here Resumed ∷ plain insn.EndBr64 ∷ Here Past ∷ []

abbrev pub fiber_make : Reference → Reference → List Part
fiber_make p f =
    map_stack ++ (lea R8 Rax (pos 65504) ∷ set Rdi 0 ∷ set Rsi 65536 ∷ set Rdx 1 ∷ set Rax 453 ∷ syscall ∷ test_rax ∷ Branch cond.S Past
    ∷ plain (insn.AluImm Add B8 (rm.Reg Rax) (pos 65528)) ∷ store R8 (pos 0) Rax ∷ set_to Rcx f ∷ store R8 (pos 8) Rcx ∷ set Rcx 0 ∷ store R8 (pos 16) Rcx
    ∷ store R8 (pos 24) Rcx ∷ publish p R8 ∷ Here Past ∷ [])

abbrev pub spawn : List ℕ → List Part
spawn f =
    map_stack ++ (lea Rsi Rax (pos 65536) ∷ set Rdi 331520 ∷ set Rdx 0 ∷ set R10 0 ∷ set R8 0 ∷ set Rax 56 ∷ syscall ∷ test_rax ∷ Branch cond.Ne Past
    ∷ set Rbp 0 ∷ set R15 0
    ∷ jump_to f ∷ Here Past ∷ [])

abbrev pub action : ℕ → Reference → List Part
action s a = set Rdi s ∷ set_to Rsi a ∷ set Rdx 0 ∷ set R10 8 ∷ set Rax 13 ∷ syscall ∷ []

abbrev pub read : Reference → ℕ → List Part
read a n = set_to Rsi a ∷ set Rdx n ∷ set Rax 0 ∷ syscall ∷ []

abbrev pub sequence : Site → List Part
sequence (site.Land d l) = land d l
sequence (site.Release d) = release d
sequence site.Throw = throw
sequence (site.Switch t p) = switch t p
sequence (site.FiberMake p f) = fiber_make p f
sequence (site.Spawn f) = spawn f
sequence (site.Action s a) = action s a
sequence (site.Read a n) = read a n
