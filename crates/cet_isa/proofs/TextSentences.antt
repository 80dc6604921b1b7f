-- An instruction's text as a sentence of words, and the instruction read from the words again.
use Rattle.std.proofs.Common.{◌≡◌, ℕ, zero, suc, Bool, true, false, List, [], ◌∷◌, ℤ, None, refl}
use Rattle.std.specs.Prelude.{pos, unsigned_abs}
use Rattle.cet_isa.specs.declared.register.Reg.{Reg}
use Rattle.cet_isa.specs.declared.register.Reg.TheVariants.{Rax}
use Rattle.cet_isa.specs.declared.operand.Width.{Width}
use Rattle.cet_isa.specs.declared.operand.Width.TheVariants.{B8}
use Rattle.cet_isa.specs.declared.operand.Rel.{Rel}
use Rattle.cet_isa.specs.declared.operand.Rel.TheVariants.{S, L}
use Rattle.cet_isa.specs.declared.operand.Mem.{Mem}
use Rattle.cet_isa.specs.declared.operand.Rm.{Rm}
use Rattle.cet_isa.specs.declared.operand.Rm.TheVariants as rm
use Rattle.cet_isa.specs.declared.operation.ShiftCount.{ShiftCount}
use Rattle.cet_isa.specs.declared.operation.ShiftCount.TheVariants as count
use Rattle.cet_isa.specs.declared.instruction.Insn.{Insn}
use Rattle.cet_isa.specs.declared.instruction.Insn.TheVariants.{EndBr64, Nop, Mov, MovLoad, MovImm, MovAbs, MovZx, MovSx, MovSxd, Lea, Alu, AluLoad, AluImm, Test, TestImm, Unary, Shift, IMul2, IMul3, MulDiv, Cdq, Cdqe, Push, Pop, PushImm, PushMem, Call, CallInd, JmpInd, Jmp, Jcc, SetCc, CMov, Ret, Leave, Xchg, CmpXchg, XAdd, RdSsp, IncSsp, RstorSsp, SavePrevSsp, WrSs, Syscall, Ud2, Hlt}
use Rattle.cet_isa.specs.Text.{text}
use Rattle.cet_isa.proofs.TextStems.{Stem, endbr64, nop, mov, ld, movabs, movzx, movsx, movsxd, lea, alu, alu_ld, test, unary, shift, imul, product, cdq, cdqe, push, pop, call, jmp, jump_if, set_if, move_if, ret, leave, xchg, cmpxchg, xadd, rdssp, incssp, rstorssp, saveprevssp, wrss, syscall, ud2, hlt, notrack, lock, register, cl}
use Rattle.cet_isa.proofs.TextWords.{Suffix, bare, sized, shortened, Word, named, memory, constant, displacement, Sentence, sentence_text}

-- ---- words of an instruction

abbrev pub register_word : Reg → Word
register_word r = named (register r) bare

abbrev pub operand_word : Rm → Word
operand_word (rm.Reg r) = register_word r
operand_word (rm.Mem mem) = memory mem

abbrev pub count_word : ShiftCount → Word
count_word (count.Imm n) = constant (pos n)
count_word count.Cl = named cl bare

abbrev alone : Stem → Suffix → Sentence
alone s x = record { first = named s x; rest = [] }

abbrev with_one : Stem → Suffix → Word → Sentence
with_one s x a = record { first = named s x; rest = a ∷ [] }

abbrev with_two : Stem → Suffix → Word → Word → Sentence
with_two s x a b = record { first = named s x; rest = a ∷ b ∷ [] }

abbrev behind : Stem → Bool → Stem → Suffix → List Word → Sentence
behind word true s x rest = record { first = named word bare; rest = named s x ∷ rest }
behind word false s x rest = record { first = named s x; rest = rest }

abbrev branch : Stem → Rel → Sentence
branch s (S d) = with_one s shortened (displacement d)
branch s (L d) = with_one s bare (displacement d)

abbrev pub sentence : Insn → Sentence
sentence EndBr64 = alone endbr64 bare
sentence Nop = alone nop bare
sentence (Mov w dst src) = with_two mov (sized w) (operand_word dst) (register_word src)
sentence (MovLoad w dst src) = with_two ld (sized w) (register_word dst) (operand_word src)
sentence (MovImm w dst imm) = with_two mov (sized w) (operand_word dst) (constant imm)
sentence (MovAbs w dst imm) = with_two movabs (sized w) (register_word dst) (constant (pos imm))
sentence (MovZx w dst src) = with_two movzx (sized w) (register_word dst) (operand_word src)
sentence (MovSx w dst src) = with_two movsx (sized w) (register_word dst) (operand_word src)
sentence (MovSxd dst src) = with_two movsxd bare (register_word dst) (operand_word src)
sentence (Lea w dst mem) = with_two lea (sized w) (register_word dst) (memory mem)
sentence (Alu op w dst src) = with_two (alu op) (sized w) (operand_word dst) (register_word src)
sentence (AluLoad op w dst src) = with_two (alu_ld op) (sized w) (register_word dst) (operand_word src)
sentence (AluImm op w dst imm) = with_two (alu op) (sized w) (operand_word dst) (constant imm)
sentence (Test w dst src) = with_two test (sized w) (operand_word dst) (register_word src)
sentence (TestImm w dst imm) = with_two test (sized w) (operand_word dst) (constant imm)
sentence (Unary op w dst) = with_one (unary op) (sized w) (operand_word dst)
sentence (Shift op w dst n) = with_two (shift op) (sized w) (operand_word dst) (count_word n)
sentence (IMul2 w dst src) = with_two imul (sized w) (register_word dst) (operand_word src)
sentence (IMul3 w dst src imm) = record { first = named imul (sized w); rest = register_word dst ∷ operand_word src ∷ constant imm ∷ [] }
sentence (MulDiv op w src) = with_one (product op) (sized w) (operand_word src)
sentence (Cdq w) = alone cdq (sized w)
sentence (Cdqe w) = alone cdqe (sized w)
sentence (Push src) = with_one push bare (register_word src)
sentence (Pop dst) = with_one pop bare (register_word dst)
sentence (PushImm imm) = with_one push bare (constant imm)
sentence (PushMem mem) = with_one push bare (memory mem)
sentence (Call rel) = with_one call bare (displacement rel)
sentence (CallInd target tracked) = behind notrack tracked call bare (operand_word target ∷ [])
sentence (JmpInd target tracked) = behind notrack tracked jmp bare (operand_word target ∷ [])
sentence (Jmp rel) = branch jmp rel
sentence (Jcc c rel) = branch (jump_if c) rel
sentence (SetCc c dst) = with_one (set_if c) bare (operand_word dst)
sentence (CMov c w dst src) = with_two (move_if c) (sized w) (register_word dst) (operand_word src)
sentence Ret = alone ret bare
sentence Leave = alone leave bare
sentence (Xchg w dst src) = with_two xchg (sized w) (operand_word dst) (register_word src)
sentence (CmpXchg w dst src locked) = behind lock locked cmpxchg (sized w) (memory dst ∷ register_word src ∷ [])
sentence (XAdd w dst src locked) = behind lock locked xadd (sized w) (memory dst ∷ register_word src ∷ [])
sentence (RdSsp dst) = with_one rdssp bare (register_word dst)
sentence (IncSsp src) = with_one incssp bare (register_word src)
sentence (RstorSsp mem) = with_one rstorssp bare (memory mem)
sentence SavePrevSsp = alone saveprevssp bare
sentence (WrSs mem src) = with_two wrss bare (memory mem) (register_word src)
sentence Syscall = alone syscall bare
sentence Ud2 = alone ud2 bare
sentence Hlt = alone hlt bare

-- ---- their text

pub text_is : (i : Insn) → text i ≡ sentence_text (sentence i)
text_is (Mov w (rm.Reg r) src) = refl
text_is (MovLoad w dst (rm.Reg r)) = refl
text_is (MovImm w (rm.Reg r) imm) = refl
text_is (MovZx w dst (rm.Reg r)) = refl
text_is (MovSx w dst (rm.Reg r)) = refl
text_is (MovSxd dst (rm.Reg r)) = refl
text_is (Alu op w (rm.Reg r) src) = refl
text_is (AluLoad op w dst (rm.Reg r)) = refl
text_is (AluImm op w (rm.Reg r) imm) = refl
text_is (Test w (rm.Reg r) src) = refl
text_is (TestImm w (rm.Reg r) imm) = refl
text_is (Unary op w (rm.Reg r)) = refl
text_is (Shift op w (rm.Reg r) count.Cl) = refl
text_is (Shift op w (rm.Mem mem) count.Cl) = refl
text_is (IMul2 w dst (rm.Reg r)) = refl
text_is (IMul3 w dst (rm.Reg r) imm) = refl
text_is (MulDiv op w (rm.Reg r)) = refl
text_is (CallInd (rm.Reg r) true) = refl
text_is (CallInd (rm.Mem mem) true) = refl
text_is (JmpInd (rm.Reg r) true) = refl
text_is (JmpInd (rm.Mem mem) true) = refl
text_is (Jmp (S d)) = refl
text_is (Jcc c (S d)) = refl
text_is (SetCc c (rm.Reg r)) = refl
text_is (CMov c w dst (rm.Reg r)) = refl
text_is (Xchg w (rm.Reg r) src) = refl
text_is (CmpXchg w dst src true) = refl
text_is (XAdd w dst src true) = refl
text_is i = refl

-- ---- the instruction again

abbrev register_of : Word → Reg
register_of (named (register r) x) = r
register_of w = Rax

abbrev memory_of : Word → Mem
memory_of (memory mem) = mem
memory_of w = record { base = None; index = None; scale = 1; disp = pos 0; rip = false }

abbrev operand_of : Word → Rm
operand_of (memory mem) = rm.Mem mem
operand_of w = rm.Reg (register_of w)

abbrev number_of : Word → ℤ
number_of (constant z) = z
number_of (displacement z) = z
number_of w = pos 0

abbrev count_of : Word → ShiftCount
count_of (constant z) = count.Imm (unsigned_abs z)
count_of w = count.Cl

abbrev stem_of : Word → Stem
stem_of (named s x) = s
stem_of w = nop

abbrev suffix_of : Word → Suffix
suffix_of (named s x) = x
suffix_of w = bare

abbrev width_of : Suffix → Width
width_of (sized w) = w
width_of x = B8

abbrev rel_of : Suffix → ℤ → Rel
rel_of shortened z = S z
rel_of x z = L z

-- the word at a place, and one of no use behind the last
abbrev word : ℕ → List Word → Word
word k [] = constant (pos 0)
word zero (w ∷ rest) = w
word (suc k) (w ∷ rest) = word k rest

-- what one name stands for, by an operand
abbrev by_source : (ℤ → Insn) → (Reg → Insn) → Word → Insn
by_source f g (constant z) = f z
by_source f g w = g (register_of w)

abbrev push_of : Word → Insn
push_of (constant z) = PushImm z
push_of (memory mem) = PushMem mem
push_of w = Push (register_of w)

abbrev call_of : Word → Insn
call_of (displacement z) = Call z
call_of w = CallInd (operand_of w) false

abbrev jump_of : Suffix → Word → Insn
jump_of x (displacement z) = Jmp (rel_of x z)
jump_of x w = JmpInd (operand_of w) false

abbrev multiply_of : Width → Reg → Rm → List Word → Insn
multiply_of w dst src (a ∷ b ∷ imm ∷ rest) = IMul3 w dst src (number_of imm)
multiply_of w dst src words = IMul2 w dst src

abbrev untracked : Stem → Rm → Insn
untracked call target = CallInd target true
untracked s target = JmpInd target true

abbrev locked : Stem → Width → Mem → Reg → Insn
locked cmpxchg w dst src = CmpXchg w dst src true
locked s w dst src = XAdd w dst src true

abbrev named_instruction : Stem → Suffix → List Word → Insn
named_instruction endbr64 x l = EndBr64
named_instruction nop x l = Nop
named_instruction mov x l = by_source (MovImm (width_of x) (operand_of (word 0 l))) (Mov (width_of x) (operand_of (word 0 l))) (word 1 l)
named_instruction ld x l = MovLoad (width_of x) (register_of (word 0 l)) (operand_of (word 1 l))
named_instruction movabs x l = MovAbs (width_of x) (register_of (word 0 l)) (unsigned_abs (number_of (word 1 l)))
named_instruction movzx x l = MovZx (width_of x) (register_of (word 0 l)) (operand_of (word 1 l))
named_instruction movsx x l = MovSx (width_of x) (register_of (word 0 l)) (operand_of (word 1 l))
named_instruction movsxd x l = MovSxd (register_of (word 0 l)) (operand_of (word 1 l))
named_instruction lea x l = Lea (width_of x) (register_of (word 0 l)) (memory_of (word 1 l))
named_instruction (alu op) x l = by_source (AluImm op (width_of x) (operand_of (word 0 l))) (Alu op (width_of x) (operand_of (word 0 l))) (word 1 l)
named_instruction (alu_ld op) x l = AluLoad op (width_of x) (register_of (word 0 l)) (operand_of (word 1 l))
named_instruction test x l = by_source (TestImm (width_of x) (operand_of (word 0 l))) (Test (width_of x) (operand_of (word 0 l))) (word 1 l)
named_instruction (unary op) x l = Unary op (width_of x) (operand_of (word 0 l))
named_instruction (shift op) x l = Shift op (width_of x) (operand_of (word 0 l)) (count_of (word 1 l))
named_instruction imul x l = multiply_of (width_of x) (register_of (word 0 l)) (operand_of (word 1 l)) l
named_instruction (product op) x l = MulDiv op (width_of x) (operand_of (word 0 l))
named_instruction cdq x l = Cdq (width_of x)
named_instruction cdqe x l = Cdqe (width_of x)
named_instruction push x l = push_of (word 0 l)
named_instruction pop x l = Pop (register_of (word 0 l))
named_instruction call x l = call_of (word 0 l)
named_instruction jmp x l = jump_of x (word 0 l)
named_instruction (jump_if c) x l = Jcc c (rel_of x (number_of (word 0 l)))
named_instruction (set_if c) x l = SetCc c (operand_of (word 0 l))
named_instruction (move_if c) x l = CMov c (width_of x) (register_of (word 0 l)) (operand_of (word 1 l))
named_instruction ret x l = Ret
named_instruction leave x l = Leave
named_instruction xchg x l = Xchg (width_of x) (operand_of (word 0 l)) (register_of (word 1 l))
named_instruction cmpxchg x l = CmpXchg (width_of x) (memory_of (word 0 l)) (register_of (word 1 l)) false
named_instruction xadd x l = XAdd (width_of x) (memory_of (word 0 l)) (register_of (word 1 l)) false
named_instruction rdssp x l = RdSsp (register_of (word 0 l))
named_instruction incssp x l = IncSsp (register_of (word 0 l))
named_instruction rstorssp x l = RstorSsp (memory_of (word 0 l))
named_instruction saveprevssp x l = SavePrevSsp
named_instruction wrss x l = WrSs (memory_of (word 0 l)) (register_of (word 1 l))
named_instruction syscall x l = Syscall
named_instruction ud2 x l = Ud2
named_instruction hlt x l = Hlt
named_instruction notrack x l = untracked (stem_of (word 0 l)) (operand_of (word 1 l))
named_instruction lock x l = locked (stem_of (word 0 l)) (width_of (suffix_of (word 0 l))) (memory_of (word 1 l)) (register_of (word 2 l))
named_instruction s x l = Nop

abbrev pub instruction : Sentence → Insn
instruction s = named_instruction (stem_of s.first) (suffix_of s.first) s.rest

pub instruction_again : (i : Insn) → instruction (sentence i) ≡ i
instruction_again (Mov w (rm.Reg r) src) = refl
instruction_again (MovLoad w dst (rm.Reg r)) = refl
instruction_again (MovImm w (rm.Reg r) imm) = refl
instruction_again (MovZx w dst (rm.Reg r)) = refl
instruction_again (MovSx w dst (rm.Reg r)) = refl
instruction_again (MovSxd dst (rm.Reg r)) = refl
instruction_again (Alu op w (rm.Reg r) src) = refl
instruction_again (AluLoad op w dst (rm.Reg r)) = refl
instruction_again (AluImm op w (rm.Reg r) imm) = refl
instruction_again (Test w (rm.Reg r) src) = refl
instruction_again (TestImm w (rm.Reg r) imm) = refl
instruction_again (Unary op w (rm.Reg r)) = refl
instruction_again (Shift op w (rm.Reg r) count.Cl) = refl
instruction_again (Shift op w (rm.Mem mem) count.Cl) = refl
instruction_again (IMul2 w dst (rm.Reg r)) = refl
instruction_again (IMul3 w dst (rm.Reg r) imm) = refl
instruction_again (MulDiv op w (rm.Reg r)) = refl
instruction_again (CallInd (rm.Reg r) true) = refl
instruction_again (CallInd (rm.Mem mem) true) = refl
instruction_again (JmpInd (rm.Reg r) true) = refl
instruction_again (JmpInd (rm.Mem mem) true) = refl
instruction_again (Jmp (S d)) = refl
instruction_again (Jcc c (S d)) = refl
instruction_again (SetCc c (rm.Reg r)) = refl
instruction_again (CMov c w dst (rm.Reg r)) = refl
instruction_again (Xchg w (rm.Reg r) src) = refl
instruction_again (CmpXchg w dst src true) = refl
instruction_again (XAdd w dst src true) = refl
instruction_again i = refl
