-- What stands at a position of a function: a form of a covered value, within the function.
use Rattle.std.proofs.Common.{◌≡◌, ℕ, ◌+◌, ◌-◌, ◌<◌, ◌≤◌, false, Some, None, Ok, Err, Option, option_map, sym, ap, ◌∙◌, arith, length-take}
use Rattle.cet_isa.specs.declared.instruction.Insn.{Insn}
use Rattle.cet_isa.specs.declared.instruction.Insn.TheVariants as insn
use Rattle.cet_isa.specs.declared.register.Reg.TheVariants.{Rax}
use Rattle.cet_isa.specs.declared.operand.Width.TheVariants.{B4}
use Rattle.cet_isa.specs.declared.operand.Rel.TheVariants.{S}
use Rattle.cet_isa.specs.declared.operand.Rm.TheVariants as rm
use Rattle.cet_isa.specs.Decoded.{Decoding, decoded}
use Rattle.cet_isa.proofs.Stays.{decoded_within}
use Rattle.cet_rules.specs.declared.covered.Covered.{Covered}
use Rattle.cet_rules.specs.declared.covered.Covered.TheVariants as covered
use Rattle.cet_rules.specs.declared.function.Function.{Function}
use Rattle.cet_rules.specs.declared.image.Image.{Image}
use Rattle.cet_rules.specs.Image.{bytes_from, code_from, end_of}
use Rattle.cet_rules.specs.Covered.{covered_of}
use Rattle.cet_rules.specs.Piece.{covered_in, instruction_at}

some_is : {A : Type 0} (a b : A) → Some a ≡ Some b → a ≡ b
some_is a b e = cc

-- the value whose form was read, behind a covered instruction
value_of : (o : Option Covered) (m : ℕ) (i : Covered) (n : ℕ) → option_map {U = Covered × ℕ} (λ (j : Covered). (j, m)) o ≡ Some (i, n) → (o ≡ Some i) × (m ≡ n)
value_of None m i n e = absurd cc
value_of (Some j) m i n e =
    let same = some_is (j, m) (i, n) e in
    (ap (λ (y : Covered × ℕ). Some y.0) same, ap (λ (y : Covered × ℕ). y.1) same)

form_of : (d : Decoding) (i : Covered) (n : ℕ) → covered_in d ≡ Some (i, n) → (x : Insn) × (d ≡ Ok (x, n)) × (covered_of x ≡ Some i)
form_of (Err e) i n h = absurd cc
form_of (Ok (x, m)) i n h =
    let v = value_of (covered_of x) m i n h in
    (x, ap (λ (k : ℕ). Ok (x, k)) v.1, v.0)

pub read_form : (image : Image) (f : Function) (a : ℕ) (i : Covered) (n : ℕ) → instruction_at image f a ≡ Some (i, n) → (x : Insn) × (decoded (code_from image f a) ≡ Ok (x, n)) × (covered_of x ≡ Some i)
read_form image f a i n e = form_of (decoded (code_from image f a)) i n e

-- an instruction has a byte at least, and lies within its function
pub instruction_within : (image : Image) (f : Function) (a : ℕ) (i : Covered) (n : ℕ) → instruction_at image f a ≡ Some (i, n) → (0 < n) × (a + n ≤ end_of f)
instruction_within image f a i n e =
    let read = read_form image f a i n e in
    let fits = decoded_within (code_from image f a) read.0 n read.1 in
    (fits.0, omega (arith, fits.0, fits.1, length-take (end_of f - a) (bytes_from image.segments a)))

-- one instruction stands at an address
pub one_instruction : (image : Image) (f : Function) (a : ℕ) (i j : Covered) (n k : ℕ) → instruction_at image f a ≡ Some (i, n) → instruction_at image f a ≡ Some (j, k) → i ≡ j
one_instruction image f a i j n k first second = ap (λ (x : Covered × ℕ). x.0) (some_is (i, n) (j, k) (sym first ∙ second))

-- the instruction value that a covered instruction is
abbrev pub value_covered : Covered → Insn
value_covered covered.EndBr64 = insn.EndBr64
value_covered covered.Nop = insn.Nop
value_covered (covered.Jmp rel) = insn.Jmp (S rel)
value_covered (covered.MovEax imm) = insn.MovAbs B4 Rax imm
value_covered covered.JmpRax = insn.JmpInd (rm.Reg Rax) false
value_covered covered.Ud2 = insn.Ud2

pub one_value : (x : Insn) (i : Covered) → covered_of x ≡ Some i → x ≡ value_covered i
one_value insn.EndBr64 i e = ap value_covered (some_is covered.EndBr64 i e)
one_value insn.Nop i e = ap value_covered (some_is covered.Nop i e)
one_value (insn.Jmp (S rel)) i e = ap value_covered (some_is (covered.Jmp rel) i e)
one_value (insn.MovAbs B4 Rax imm) i e = ap value_covered (some_is (covered.MovEax imm) i e)
one_value (insn.JmpInd (rm.Reg Rax) false) i e = ap value_covered (some_is covered.JmpRax i e)
one_value insn.Ud2 i e = ap value_covered (some_is covered.Ud2 i e)
one_value x i e = absurd cc
