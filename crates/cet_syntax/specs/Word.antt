-- The words that instruction statements begin with: the names and widths of the instruction texts. A word says what operands stand behind
-- it.
use Rattle.std.specs.Prelude.{ℕ, ◌-◌, true, false, nat_eq, if◌then◌else◌, List, length, take, drop, Option, Some, None, option_and_then, codes}
use Rattle.std.specs.Option.{option_map, option_or}
use Rattle.std.specs.List.{starts_with, ends_with}
use Rattle.std.specs.Str.{bytes_eq}
use Rattle.cet_isa.specs.declared.operand.Width.{Width}
use Rattle.cet_isa.specs.declared.operand.Width.TheVariants.{B1, B4, B8}
use Rattle.cet_isa.specs.declared.operation.AluOp.{AluOp}
use Rattle.cet_isa.specs.declared.operation.AluOp.TheVariants.{Add, Or, Adc, Sbb, And, Sub, Xor, Cmp}
use Rattle.cet_isa.specs.declared.operation.UnOp.{UnOp}
use Rattle.cet_isa.specs.declared.operation.UnOp.TheVariants.{Inc, Dec, Not, Neg}
use Rattle.cet_isa.specs.declared.operation.ShiftOp.{ShiftOp}
use Rattle.cet_isa.specs.declared.operation.ShiftOp.TheVariants.{Rol, Ror, Shl, Shr, Sar}
use Rattle.cet_isa.specs.declared.operation.MulDivOp.{MulDivOp}
use Rattle.cet_isa.specs.declared.operation.MulDivOp.TheVariants.{Mul, IMul1, Div, IDiv}
use Rattle.cet_isa.specs.declared.operation.Cond.{Cond}
use Rattle.cet_isa.specs.declared.operation.Cond.TheVariants as cond
use Rattle.cet_isa.specs.declared.instruction.Insn.TheVariants as insn
use Rattle.cet_syntax.specs.declared.word.Word.{Word}
use Rattle.cet_syntax.specs.declared.word.Word.TheVariants as word

abbrev pub condition_of : List ℕ → Option Cond
condition_of name =
    if bytes_eq name (codes "o") then Some cond.O else
    if bytes_eq name (codes "no") then Some cond.No else
    if bytes_eq name (codes "b") then Some cond.B else
    if bytes_eq name (codes "ae") then Some cond.Ae else
    if bytes_eq name (codes "e") then Some cond.E else
    if bytes_eq name (codes "ne") then Some cond.Ne else
    if bytes_eq name (codes "be") then Some cond.Be else
    if bytes_eq name (codes "a") then Some cond.A else
    if bytes_eq name (codes "s") then Some cond.S else
    if bytes_eq name (codes "ns") then Some cond.Ns else
    if bytes_eq name (codes "l") then Some cond.L else
    if bytes_eq name (codes "ge") then Some cond.Ge else
    if bytes_eq name (codes "le") then Some cond.Le else
    if bytes_eq name (codes "g") then Some cond.G else None

abbrev pub alu_of : List ℕ → Option AluOp
alu_of name =
    if bytes_eq name (codes "add") then Some Add else
    if bytes_eq name (codes "or") then Some Or else
    if bytes_eq name (codes "adc") then Some Adc else
    if bytes_eq name (codes "sbb") then Some Sbb else
    if bytes_eq name (codes "and") then Some And else
    if bytes_eq name (codes "sub") then Some Sub else
    if bytes_eq name (codes "xor") then Some Xor else
    if bytes_eq name (codes "cmp") then Some Cmp else None

abbrev pub unary_of : List ℕ → Option UnOp
unary_of name =
    if bytes_eq name (codes "inc") then Some Inc else
    if bytes_eq name (codes "dec") then Some Dec else
    if bytes_eq name (codes "not") then Some Not else
    if bytes_eq name (codes "neg") then Some Neg else None

abbrev pub shift_of : List ℕ → Option ShiftOp
shift_of name =
    if bytes_eq name (codes "rol") then Some Rol else
    if bytes_eq name (codes "ror") then Some Ror else
    if bytes_eq name (codes "shl") then Some Shl else
    if bytes_eq name (codes "shr") then Some Shr else
    if bytes_eq name (codes "sar") then Some Sar else None

abbrev pub product_of : List ℕ → Option MulDivOp
product_of name =
    if bytes_eq name (codes "mul") then Some Mul else
    if bytes_eq name (codes "imul1") then Some IMul1 else
    if bytes_eq name (codes "div") then Some Div else
    if bytes_eq name (codes "idiv") then Some IDiv else None

-- ---- words without a width

abbrev pub whole_word : List ℕ → Option Word
whole_word name =
    if bytes_eq name (codes "endbr64") then Some (word.Whole insn.EndBr64) else
    if bytes_eq name (codes "nop") then Some (word.Whole insn.Nop) else
    if bytes_eq name (codes "ret") then Some (word.Whole insn.Ret) else
    if bytes_eq name (codes "leave") then Some (word.Whole insn.Leave) else
    if bytes_eq name (codes "saveprevssp") then Some (word.Whole insn.SavePrevSsp) else
    if bytes_eq name (codes "syscall") then Some (word.Whole insn.Syscall) else
    if bytes_eq name (codes "ud2") then Some (word.Whole insn.Ud2) else
    if bytes_eq name (codes "hlt") then Some (word.Whole insn.Hlt) else None

abbrev pub plain_word : List ℕ → Option Word
plain_word name =
    if bytes_eq name (codes "movsxd") then Some word.MovSxd else
    if bytes_eq name (codes "push") then Some word.Push else
    if bytes_eq name (codes "pop") then Some word.Pop else
    if bytes_eq name (codes "call") then Some (word.Call false) else
    if bytes_eq name (codes "jmp") then Some (word.Jmp false) else
    if bytes_eq name (codes "jmp.s") then Some word.ShortJmp else None

abbrev pub shadow_word : List ℕ → Option Word
shadow_word name =
    if bytes_eq name (codes "rdssp") then Some word.RdSsp else
    if bytes_eq name (codes "incssp") then Some word.IncSsp else
    if bytes_eq name (codes "rstorssp") then Some word.RstorSsp else
    if bytes_eq name (codes "wrss") then Some word.WrSs else None

-- `set`, and `j` with a long or a short branch, each with a condition
abbrev pub conditional_word : List ℕ → Option Word
conditional_word name =
    if starts_with nat_eq name (codes "set") then option_map word.SetCc (condition_of (drop 3 name)) else
    if starts_with nat_eq name (codes "j") then
    (let rest = drop 1 name in
    if ends_with nat_eq rest (codes ".s") then option_map word.ShortJcc (condition_of (take (length rest - 2) rest)) else option_map word.Jcc (condition_of rest))
    else None

unfoldable pub unsized_word : List ℕ → Option Word
unsized_word name = option_or (whole_word name) (option_or (plain_word name) (option_or (shadow_word name) (conditional_word name)))

-- ---- words with a width

abbrev pub move_word : List ℕ → Width → Option Word
move_word stem w =
    if bytes_eq stem (codes "mov") then Some (word.Mov w) else
    if bytes_eq stem (codes "ld") then Some (word.Load w) else
    if bytes_eq stem (codes "movabs") then Some (word.MovAbs w) else
    if bytes_eq stem (codes "movzx") then Some (word.MovZx w) else
    if bytes_eq stem (codes "movsx") then Some (word.MovSx w) else
    if bytes_eq stem (codes "lea") then Some (word.Lea w) else None

abbrev pub exact_sized_word : List ℕ → Width → Option Word
exact_sized_word stem w =
    if bytes_eq stem (codes "test") then Some (word.Test w) else
    if bytes_eq stem (codes "imul") then Some (word.IMul w) else
    if bytes_eq stem (codes "cdq") then Some (word.Whole (insn.Cdq w)) else
    if bytes_eq stem (codes "cdqe") then Some (word.Whole (insn.Cdqe w)) else
    if bytes_eq stem (codes "xchg") then Some (word.Xchg w) else
    if bytes_eq stem (codes "cmpxchg") then Some (word.CmpXchg w false) else
    if bytes_eq stem (codes "xadd") then Some (word.XAdd w false) else None

-- an operation, which loads its first operand where `_ld` stands behind it; a move with a condition
abbrev pub operation_word : List ℕ → Width → Option Word
operation_word stem w =
    if starts_with nat_eq stem (codes "cmov") then option_map (λ c. word.CMov c w) (condition_of (drop 4 stem)) else
    if ends_with nat_eq stem (codes "_ld") then option_map (λ op. word.AluLoad op w) (alu_of (take (length stem - 3) stem)) else
    option_or (option_map (λ op. word.Alu op w) (alu_of stem))
    (option_or (option_map (λ op. word.Unary op w) (unary_of stem))
    (option_or (option_map (λ op. word.Shift op w) (shift_of stem))
    (option_map (λ op. word.MulDiv op w) (product_of stem))))

unfoldable pub sized_word : List ℕ → Width → Option Word
sized_word stem w = option_or (move_word stem w) (option_or (exact_sized_word stem w) (operation_word stem w))

-- the name before a width
abbrev pub stem_of : List ℕ → List ℕ
stem_of name = take (length name - 2) name

abbrev pub width_of : List ℕ → Option Width
width_of name =
    if ends_with nat_eq name (codes ".1") then Some B1 else
    if ends_with nat_eq name (codes ".4") then Some B4 else
    if ends_with nat_eq name (codes ".8") then Some B8 else None

unfoldable pub word_of : List ℕ → Option Word
word_of name = option_or (unsized_word name) (option_and_then (λ w. sized_word (stem_of name) w) (width_of name))

-- ---- words behind `lock` and `notrack`

abbrev pub with_lock : Word → Option Word
with_lock (word.CmpXchg w lock) = Some (word.CmpXchg w true)
with_lock (word.XAdd w lock) = Some (word.XAdd w true)
with_lock _ = None

abbrev pub with_notrack : Word → Option Word
with_notrack (word.Call notrack) = Some (word.Call true)
with_notrack (word.Jmp notrack) = Some (word.Jmp true)
with_notrack _ = None
