-- The stems of texts: what stands between marks and is no number. Each is found again, by its text, in a table of them all.
use Rattle.std.proofs.Common.{◌≡◌, ℕ, Bool, true, false, List, [], ◌∷◌, ◌++◌, refl}
use Rattle.std.specs.Prelude.{◌&&◌, ◌||◌, nat_lt, if◌then◌else◌, codes}
use Rattle.std.specs.Str.{bytes_eq}
use Rattle.cet_isa.specs.declared.register.Reg.{Reg}
use Rattle.cet_isa.specs.declared.register.Reg.TheVariants.{Rax, Rcx, Rdx, Rbx, Rsp, Rbp, Rsi, Rdi, R8, R9, R10, R11, R12, R13, R14, R15}
use Rattle.cet_isa.specs.declared.operation.AluOp.{AluOp}
use Rattle.cet_isa.specs.declared.operation.AluOp.TheVariants.{Add, Or, Adc, Sbb, And, Sub, Xor, Cmp}
use Rattle.cet_isa.specs.declared.operation.UnOp.{UnOp}
use Rattle.cet_isa.specs.declared.operation.UnOp.TheVariants.{Inc, Dec, Not, Neg}
use Rattle.cet_isa.specs.declared.operation.ShiftOp.{ShiftOp}
use Rattle.cet_isa.specs.declared.operation.ShiftOp.TheVariants.{Rol, Ror, Shl, Shr, Sar}
use Rattle.cet_isa.specs.declared.operation.MulDivOp.{MulDivOp}
use Rattle.cet_isa.specs.declared.operation.MulDivOp.TheVariants.{Mul, IMul1, Div, IDiv}
use Rattle.cet_isa.specs.declared.operation.Cond.{Cond}
use Rattle.cet_isa.specs.declared.operation.Cond.TheVariants as cond
use Rattle.cet_isa.specs.Text.{register_text, alu_text, unary_text, shift_text, product_text, condition_text}

pub data Stem : Type 0 where
  endbr64 : Stem
  nop : Stem
  mov : Stem
  ld : Stem
  movabs : Stem
  movzx : Stem
  movsx : Stem
  movsxd : Stem
  lea : Stem
  alu : AluOp → Stem
  alu_ld : AluOp → Stem
  test : Stem
  unary : UnOp → Stem
  shift : ShiftOp → Stem
  imul : Stem
  product : MulDivOp → Stem
  cdq : Stem
  cdqe : Stem
  push : Stem
  pop : Stem
  call : Stem
  jmp : Stem
  jump_if : Cond → Stem
  set_if : Cond → Stem
  move_if : Cond → Stem
  ret : Stem
  leave : Stem
  xchg : Stem
  cmpxchg : Stem
  xadd : Stem
  rdssp : Stem
  incssp : Stem
  rstorssp : Stem
  saveprevssp : Stem
  wrss : Stem
  syscall : Stem
  ud2 : Stem
  hlt : Stem
  -- words before a name
  notrack : Stem
  lock : Stem
  -- behind a point
  short : Stem
  -- operands
  register : Reg → Stem
  rip : Stem
  cl : Stem

abbrev pub stem_text : Stem → List ℕ
stem_text endbr64 = codes "endbr64"
stem_text nop = codes "nop"
stem_text mov = codes "mov"
stem_text ld = codes "ld"
stem_text movabs = codes "movabs"
stem_text movzx = codes "movzx"
stem_text movsx = codes "movsx"
stem_text movsxd = codes "movsxd"
stem_text lea = codes "lea"
stem_text (alu op) = alu_text op
stem_text (alu_ld op) = alu_text op ++ codes "_ld"
stem_text test = codes "test"
stem_text (unary op) = unary_text op
stem_text (shift op) = shift_text op
stem_text imul = codes "imul"
stem_text (product op) = product_text op
stem_text cdq = codes "cdq"
stem_text cdqe = codes "cdqe"
stem_text push = codes "push"
stem_text pop = codes "pop"
stem_text call = codes "call"
stem_text jmp = codes "jmp"
stem_text (jump_if c) = codes "j" ++ condition_text c
stem_text (set_if c) = codes "set" ++ condition_text c
stem_text (move_if c) = codes "cmov" ++ condition_text c
stem_text ret = codes "ret"
stem_text leave = codes "leave"
stem_text xchg = codes "xchg"
stem_text cmpxchg = codes "cmpxchg"
stem_text xadd = codes "xadd"
stem_text rdssp = codes "rdssp"
stem_text incssp = codes "incssp"
stem_text rstorssp = codes "rstorssp"
stem_text saveprevssp = codes "saveprevssp"
stem_text wrss = codes "wrss"
stem_text syscall = codes "syscall"
stem_text ud2 = codes "ud2"
stem_text hlt = codes "hlt"
stem_text notrack = codes "notrack"
stem_text lock = codes "lock"
stem_text short = codes "s"
stem_text (register r) = register_text r
stem_text rip = codes "rip"
stem_text cl = codes "cl"

-- ---- the table of all stems

abbrev with_each : {A : Type 0} → (A → Stem) → List A → List Stem → List Stem
with_each stem [] rest = rest
with_each stem (x ∷ xs) rest = stem x ∷ with_each stem xs rest

abbrev conditions : List Cond
conditions = cond.O ∷ cond.No ∷ cond.B ∷ cond.Ae ∷ cond.E ∷ cond.Ne ∷ cond.Be ∷ cond.A ∷ cond.S ∷ cond.Ns ∷ cond.L ∷ cond.Ge ∷ cond.Le ∷ cond.G ∷ []

abbrev operations : List AluOp
operations = Add ∷ Or ∷ Adc ∷ Sbb ∷ And ∷ Sub ∷ Xor ∷ Cmp ∷ []

abbrev registers : List Reg
registers = Rax ∷ Rcx ∷ Rdx ∷ Rbx ∷ Rsp ∷ Rbp ∷ Rsi ∷ Rdi ∷ R8 ∷ R9 ∷ R10 ∷ R11 ∷ R12 ∷ R13 ∷ R14 ∷ R15 ∷ []

abbrev with_parts : List Stem → List Stem
with_parts rest =
    with_each alu operations (with_each alu_ld operations (with_each unary (Inc ∷ Dec ∷ Not ∷ Neg ∷ []) (with_each shift (Rol ∷ Ror ∷ Shl ∷ Shr ∷ Sar ∷ [])
    (with_each product (Mul ∷ IMul1 ∷ Div ∷ IDiv ∷ []) (with_each jump_if conditions (with_each set_if conditions (with_each move_if conditions (with_each register registers rest))))))))

abbrev stems : List Stem
stems = with_parts (endbr64 ∷ nop ∷ mov ∷ ld ∷ movabs ∷ movzx ∷ movsx ∷ movsxd ∷ lea ∷ test ∷ imul ∷ cdq ∷ cdqe ∷ push ∷ pop ∷ call ∷ jmp ∷ ret ∷ leave ∷ xchg ∷ cmpxchg ∷ xadd
    ∷ rdssp ∷ incssp ∷ rstorssp ∷ saveprevssp ∷ wrss ∷ syscall ∷ ud2 ∷ hlt ∷ notrack ∷ lock ∷ short ∷ rip ∷ cl ∷ [])

abbrev find : List ℕ → List Stem → Stem
find text [] = nop
find text (s ∷ rest) = if bytes_eq text (stem_text s) then s else find text rest

abbrev pub stem_of : List ℕ → Stem
stem_of text = find text stems

-- ---- bytes

abbrev pub every : (ℕ → Bool) → List ℕ → Bool
every passes [] = true
every passes (x ∷ xs) = passes x && every passes xs

abbrev pub is_digit : ℕ → Bool
is_digit x = nat_lt 47 x && nat_lt x 58

-- a digit, a letter or _: a byte of stems and of numbers, and no mark
abbrev pub is_plain : ℕ → Bool
is_plain x = is_digit x || nat_lt 94 x

-- what a part without marks is, by its first byte
pub data Kind : Type 0 where
  empty : Kind
  number : Kind
  name : Kind

abbrev kind_of_first : Bool → Kind
kind_of_first true = number
kind_of_first false = name

abbrev pub kind : List ℕ → Kind
kind [] = empty
kind (x ∷ xs) = kind_of_first (is_digit x)

-- ---- what computing shows of each

pub record Found (s : Stem) : Type 0 where
  pub again : stem_of (stem_text s) ≡ s
  pub plain : every is_plain (stem_text s) ≡ true
  pub named : kind (stem_text s) ≡ name

found_alu : (op : AluOp) → Found (alu op)
found_alu Add = record { again = refl; plain = refl; named = refl }
found_alu op = record { again = refl; plain = refl; named = refl }

found_alu_ld : (op : AluOp) → Found (alu_ld op)
found_alu_ld Add = record { again = refl; plain = refl; named = refl }
found_alu_ld op = record { again = refl; plain = refl; named = refl }

found_unary : (op : UnOp) → Found (unary op)
found_unary Inc = record { again = refl; plain = refl; named = refl }
found_unary op = record { again = refl; plain = refl; named = refl }

found_shift : (op : ShiftOp) → Found (shift op)
found_shift Rol = record { again = refl; plain = refl; named = refl }
found_shift op = record { again = refl; plain = refl; named = refl }

found_product : (op : MulDivOp) → Found (product op)
found_product Mul = record { again = refl; plain = refl; named = refl }
found_product op = record { again = refl; plain = refl; named = refl }

found_jump_if : (c : Cond) → Found (jump_if c)
found_jump_if cond.O = record { again = refl; plain = refl; named = refl }
found_jump_if c = record { again = refl; plain = refl; named = refl }

found_set_if : (c : Cond) → Found (set_if c)
found_set_if cond.O = record { again = refl; plain = refl; named = refl }
found_set_if c = record { again = refl; plain = refl; named = refl }

found_move_if : (c : Cond) → Found (move_if c)
found_move_if cond.O = record { again = refl; plain = refl; named = refl }
found_move_if c = record { again = refl; plain = refl; named = refl }

found_register : (r : Reg) → Found (register r)
found_register Rax = record { again = refl; plain = refl; named = refl }
found_register r = record { again = refl; plain = refl; named = refl }

pub found : (s : Stem) → Found s
found (alu op) = found_alu op
found (alu_ld op) = found_alu_ld op
found (unary op) = found_unary op
found (shift op) = found_shift op
found (product op) = found_product op
found (jump_if c) = found_jump_if c
found (set_if c) = found_set_if c
found (move_if c) = found_move_if c
found (register r) = found_register r
found s = record { again = refl; plain = refl; named = refl }
