-- What is decoded lies within the bytes, and stays so when more bytes follow.
use Rattle.std.proofs.Common.{◌≡◌, ℕ, ◌+◌, ◌-◌, ◌<◌, ◌≤◌, true, List, ◌∷◌, [], ◌++◌, length, nat_eq, Ok, refl, sym, ap, subst, ◌∙◌, append_assoc, arith}
use Rattle.std.specs.List.{starts_with}
use Rattle.std.proofs.lemmas.List.{length-append}
use Rattle.cet_isa.specs.declared.instruction.Insn.{Insn}
use Rattle.cet_isa.specs.declared.instruction.Insn.TheVariants.{EndBr64}
use Rattle.cet_isa.specs.Decoded.{instruction_at, decoded}
use Rattle.cet_isa.specs.Form.{IsBytes}
use Rattle.cet_isa.proofs.Whole.{Instruction}
use Rattle.cet_isa.proofs.Laws.{spelled_decoded, decoded_spelled, decoded_is_form}
use Rattle.cet_isa.proofs.Heads.{begins_length}
use Rattle.cet_isa.proofs.Marks.{endbr64_bytes}

-- what is decoded stays so whatever follows
pub decoded_stays : (b more : List ℕ) (x : Insn × ℕ) → decoded b ≡ Ok x → decoded (b ++ more) ≡ Ok x
decoded_stays b more (i, n) e =
    let s = decoded_spelled b i n e in
    let whole : b ++ more ≡ s.front ++ (s.rest ++ more) = ap (λ (l : List ℕ). l ++ more) s.whole ∙ append_assoc s.front s.rest more in
    ap decoded whole ∙ (spelled_decoded i s.front (s.rest ++ more) s.spells ∙ ap (λ (k : ℕ). Ok (i, k)) s.size)

some_byte : (i : Insn) (a : List ℕ) → Instruction i a → 0 < length a
some_byte i a (first, rest, w, e) = let len = ap length e in omega (arith, len)

-- what is decoded has a byte at least, and lies within the bytes
pub decoded_within : (b : List ℕ) (i : Insn) (n : ℕ) → decoded b ≡ Ok (i, n) → (0 < n) × (n ≤ length b)
decoded_within b i n e =
    let s = decoded_spelled b i n e in
    let some = some_byte i s.front s.spells in
    let len : length b ≡ length s.front + length s.rest = ap length s.whole ∙ length-append s.front s.rest in
    (omega (arith, some, s.size), omega (arith, len, s.size))

-- a reader of instructions goes on, by 15 bytes at most
pub instruction_bounds : (b : List ℕ) (i : Insn) (rest : List ℕ) → IsBytes b → instruction_at b ≡ Ok (i, rest) → (length rest ≤ length b) × (length b - length rest ≤ 15)
unfolding decoded
instruction_bounds b i rest bytes e =
    let found : decoded b ≡ Ok (i, length b - length rest) = rw e refl in
    let size = begins_length b i (length b - length rest) (decoded_is_form b i (length b - length rest) bytes found) in
    (omega (arith, size.0), size.1)

-- where ENDBR64 is decoded, its bytes stand
pub decoded_endbr64 : (b : List ℕ) (n : ℕ) → decoded b ≡ Ok (EndBr64, n) → starts_with nat_eq b (0xF3 ∷ 0x0F ∷ 0x1E ∷ 0xFA ∷ []) ≡ true
decoded_endbr64 b n e =
    let s = decoded_spelled b EndBr64 n e in
    let whole : b ≡ (0xF3 ∷ 0x0F ∷ 0x1E ∷ 0xFA ∷ []) ++ s.rest = s.whole ∙ ap (λ (l : List ℕ). l ++ s.rest) (endbr64_bytes s.front s.spells) in
    subst (λ (l : List ℕ). starts_with nat_eq l (0xF3 ∷ 0x0F ∷ 0x1E ∷ 0xFA ∷ []) ≡ true) (sym whole) refl
