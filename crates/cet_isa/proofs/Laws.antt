-- The laws of `Law`.
use Rattle.std.proofs.Common.{◌≡◌, ℕ, ◌+◌, ◌-◌, ◌<◌, List, ◌++◌, length, take, Ok, refl, sym, ap, subst, ◌∙◌, arith, inl, inr}
use Rattle.std.proofs.lemmas.List.{length-append, take_at}
use Rattle.std.proofs.lemmas.List.Elements.{All-take, All-append}
use Rattle.cet_isa.specs.declared.instruction.Insn.{Insn}
use Rattle.cet_isa.specs.declared.decode_error.DecodeError.TheVariants.{Short, Outside}
use Rattle.cet_isa.specs.Form.{IsBytes, Form}
use Rattle.cet_isa.specs.Decoded.{instruction_at, decoded}
use Rattle.cet_isa.specs.Law.{OneForm, FormIsDecoded, DecodedIsForm, ShortIsProperPrefix, OutsideStays}
use Rattle.cet_isa.proofs.Joins.{bind_ok, bind_err, ok_is}
use Rattle.cet_isa.proofs.Whole.{Instruction, reads_instruction, extends_instruction, from_form, to_form}

-- what is spelled is decoded, whatever follows
pub spelled_decoded : (i : Insn) (a more : List ℕ) → Instruction i a → decoded (a ++ more) ≡ Ok (i, length a)
unfolding decoded
spelled_decoded i a more t =
    let n : length (a ++ more) - length more ≡ length a = omega (arith, length-append a more) in
    rw (reads_instruction.again i a more t, n) refl

-- the bytes at the head of b that spell i, n of them, and the bytes after them
pub record Spelled (b : List ℕ) (i : Insn) (n : ℕ) : Type 0 where
  pub front : List ℕ
  pub rest : List ℕ
  pub spells : Instruction i front
  pub whole : b ≡ front ++ rest
  pub size : length front ≡ n

pub decoded_spelled : (b : List ℕ) (i : Insn) (n : ℕ) → decoded b ≡ Ok (i, n) → Spelled b i n
unfolding decoded
decoded_spelled b i n h =
    let one = bind_ok (instruction_at b) (λ x. Ok (x.0, length b - length x.1)) (i, n) h in
    let s = reads_instruction.spelled b one.0.0 one.0.1 one.1 in
    let e = ok_is (one.0.0, length b - length one.0.1) (i, n) one.2 in
    let len : length b ≡ length s.0 + length one.0.1 = ap length s.2 ∙ length-append s.0 one.0.1 in
    record {
      front = s.0;
      rest = one.0.1;
      spells = subst (λ (j : Insn). Instruction j s.0) (ap (λ (t : Insn × ℕ). t.0) e) s.1;
      whole = s.2;
      size = omega (arith, ap (λ (t : Insn × ℕ). t.1) e);
    }

pub form_is_decoded : FormIsDecoded
form_is_decoded i a more f = spelled_decoded i a more (from_form i a f)

pub one_form : OneForm
one_form i j a b x y f g e =
    let p = form_is_decoded i a x f in
    let q = form_is_decoded j b y g in
    let r = ok_is (i, length a) (j, length b) (sym p ∙ ap decoded e ∙ q) in
    let n : length a ≡ length b = ap (λ (t : Insn × ℕ). t.1) r in
    (ap (λ (t : Insn × ℕ). t.0) r, sym (take_at a x (length a) refl) ∙ ap (λ (l : List ℕ). take (length a) l) e ∙ take_at b y (length a) (sym n))

pub decoded_is_form : DecodedIsForm
decoded_is_form b i n y h =
    let s = decoded_spelled b i n h in
    let front : s.front ≡ take n b = sym (take_at s.front s.rest n s.size) ∙ ap (λ (l : List ℕ). take n l) (sym s.whole) in
    let bytes : IsBytes s.front = subst (λ (l : List ℕ). IsBytes l) (sym front) (All-take (λ x. x < 256) n b y) in
    let len : length b ≡ length s.front + length s.rest = ap length s.whole ∙ length-append s.front s.rest in
    record { within = omega (arith, len, s.size); form = subst (λ (l : List ℕ). Form i l) front (to_form i s.front bytes s.spells) }

pub short_is_proper_prefix : ShortIsProperPrefix
unfolding decoded
short_is_proper_prefix b y h =
    elim (bind_err (instruction_at b) (λ x. Ok (x.0, length b - length x.1)) Short h) [
      | inl one ↦ absurd (let k = one.2 in cc)
      | inr short ↦
          let c = extends_instruction b short in
          (c.value, c.more, c.some, to_form c.value (b ++ c.more) (All-append (λ x. x < 256) b c.more y c.is_bytes) c.spells)
    ]

pub outside_stays : OutsideStays
unfolding decoded
outside_stays b more h =
    elim (bind_err (instruction_at b) (λ x. Ok (x.0, length b - length x.1)) Outside h) [
      | inl one ↦ absurd (let k = one.2 in cc)
      | inr out ↦ rw (reads_instruction.stays b more out) refl
    ]
