-- The parts of a form are regular: numbers that 64 bits hold, and memory operands as texts tell them apart.
use Rattle.std.proofs.Common.{◌≡◌, ℕ, suc, ◌-◌, ◌^◌, ◌<◌, ◌≤◌, Bool, true, false, List, ◌∷◌, length, get_or, ℤ, Option, Some, None, refl, sym, ap, subst, lit<, ltb, arith, inl, inr}
use Rattle.std.specs.Prelude.{pos, negsuc, unsigned_abs, ◌&&◌, ◌||◌, ◌==◌, if◌then◌else◌}
use Rattle.std.specs.Int.{w8, w32, from_le_bytes}
use mir.Val.{sel}
use Rattle.std.proofs.lemmas.List.{get_or_past}
use Rattle.std.proofs.lemmas.List.Elements.{All-get_or, All-head, All-same}
use Rattle.std.proofs.lemmas.Bool.{eqb-true, ltb-true, and_parts, cases_lt}
use Rattle.std.proofs.Math.Pow.{pow_mono}
use Rattle.cet_isa.specs.declared.register.Reg.{Reg}
use Rattle.cet_isa.specs.declared.operand.Width as operand
use Rattle.cet_isa.specs.declared.operand.Width.TheVariants.{B1, B4, B8}
use Rattle.cet_isa.specs.declared.operand.Mem.{Mem}
use Rattle.cet_isa.specs.declared.operand.Rm.{Rm}
use Rattle.cet_isa.specs.Operand.{Where, Unsigned, Signed, number_width, Displacement, nothing, disp8, disp32, Displaced, Address, Addressed, has_sib, has_index, high_field, low_field, rex_x, rex_b, sib_address, sib_base, sib_index, sib_displacement, modrm_address, MemoryBytes, MemoryOperandBytes, is_register, RmBytes}
use Rattle.cet_isa.specs.Form.{IsBytes}
use Rattle.cet_isa.proofs.TextMemory.{IsMemory}
use Rattle.cet_isa.proofs.TextWords.{IsWord}
use Rattle.cet_isa.proofs.TextSentences.{operand_word}

-- ---- numbers

-- bits in two's complement
of_bits : (t : Bool) (n k : ℕ) → (t ≡ true → n < 2 ^ 64) → suc k < 2 ^ 64 → unsigned_abs (sel t (pos n) (negsuc k)) < 2 ^ 64
of_bits true n k p q = p refl
of_bits false n k p q = q

pub signed8_fits : (z : ℤ) (b : List ℕ) → Signed w8 z b → unsigned_abs z < 2 ^ 64
signed8_fits z b p = let n = from_le_bytes w8 b in rw (p.1) (of_bits (ltb n (2 ^ 7)) n (2 ^ 8 - suc n) (λ e. let lt = ltb-true n (2 ^ 7) e in omega arith) (omega arith))

pub signed32_fits : (z : ℤ) (b : List ℕ) → Signed w32 z b → unsigned_abs z < 2 ^ 64
signed32_fits z b p = let n = from_le_bytes w32 b in rw (p.1) (of_bits (ltb n (2 ^ 31)) n (2 ^ 32 - suc n) (λ e. let lt = ltb-true n (2 ^ 31) e in omega arith) (omega arith))

byte_at : (b : List ℕ) (i : ℕ) → IsBytes b → get_or b i 0 < 256
byte_at b i h = elim (cases_lt i (length b)) [
  | inl lt ↦ All-get_or (λ x. x < 256) b i 0 lt h
  | inr le ↦ rw (get_or_past b i 0 le) (lit< tt)
]

pub unsigned_fits : (w : operand.Width) (n : ℕ) (b : List ℕ) → IsBytes b → Unsigned (number_width w) n b → n < 2 ^ 64
unsigned_fits B1 n b h p = let at_0 = byte_at b 0 h in omega (arith, p.1)
unsigned_fits B4 n b h p = let at_0 = byte_at b 0 h in let at_1 = byte_at b 1 h in let at_2 = byte_at b 2 h in let at_3 = byte_at b 3 h in omega (arith, p.1)
unsigned_fits B8 n b h p =
    let at_0 = byte_at b 0 h in let at_1 = byte_at b 1 h in let at_2 = byte_at b 2 h in let at_3 = byte_at b 3 h in
    let at_4 = byte_at b 4 h in let at_5 = byte_at b 5 h in let at_6 = byte_at b 6 h in let at_7 = byte_at b 7 h in
    omega (arith, p.1)

-- ---- memory operands

two_to_field : (k : ℕ) → k < 4 → 2 ^ k < 2 ^ 64
two_to_field k h = let below : k ≤ 3 = omega arith in let le : 2 ^ k ≤ 2 ^ 3 = pow_mono below in omega arith

displacement_fits : (x : Displacement) (d : ℤ) (b : List ℕ) → Displaced x d b → unsigned_abs d < 2 ^ 64
displacement_fits nothing d b p = rw (p.0) (lit< tt)
displacement_fits disp8 d b p = signed8_fits d b p
displacement_fits disp32 d b p = signed32_fits d b p

-- all of a memory operand but its displacement
record IsAddress (a : Address) : Type 0 where
  rip_alone : a.rip ≡ true → (a.base ≡ None) × (a.index ≡ None)
  no_scale : a.index ≡ None → a.scale ≡ 1
  scale : a.scale < 2 ^ 64

-- where there is an address, it is regular
abbrev IfAddress : Option Address → Type 0
IfAddress None = Unit {0}
IfAddress (Some a) = IsAddress a

addressed : (o : Option Address) → IfAddress o → (mem : Mem) (b : List ℕ) → Addressed o mem b → IsMemory mem
addressed None is mem b p = absurd p
addressed (Some a) is mem b (d, p, e) =
    subst (λ (m : Mem). IsMemory m) (sym e) (record { rip_alone = is.rip_alone; no_scale = is.no_scale; scale = is.scale; disp = displacement_fits a.displacement d b p })

either : (t : Bool) (o p : Option Address) → (t ≡ true → IfAddress o) → (t ≡ false → IfAddress p) → IfAddress (if t then o else p)
either true o p f g = f refl
either false o p f g = g refl

absent : (t : Bool) (r : Reg) → (if t then Some r else None) ≡ None → t ≡ false
absent true r e = absurd (cc)
absent false r e = refl

-- without index the scale bits are 0
scale_is_1 : (indexed : Bool) (field : ℕ) → (indexed || field == 0) ≡ true → indexed ≡ false → 2 ^ field ≡ 1
scale_is_1 true field p e = absurd (cc)
scale_is_1 false field p e = ap (λ (k : ℕ). 2 ^ k) (eqb-true field 0 p)

in_sib : (rex : Option ℕ) (modrm sib : ℕ) → sib < 256 → IfAddress (sib_address rex modrm sib)
in_sib rex modrm sib small =
    either _ (Some (record { base = sib_base rex modrm sib; index = sib_index rex sib; scale = 2 ^ high_field sib; rip = false; displacement = sib_displacement modrm sib })) None (λ e. record {
      rip_alone = λ r. absurd (cc);
      no_scale = λ none. scale_is_1 (has_index rex sib) (high_field sib) (and_parts (has_index rex sib || high_field sib == 0) _ e).0 (absent (has_index rex sib) _ none);
      scale = two_to_field (high_field sib) (omega arith);
    }) (λ e. tt)

in_modrm : (rex : Option ℕ) (modrm : ℕ) → IfAddress (modrm_address rex modrm)
in_modrm rex modrm =
    either (rex_x rex) None _ (λ e. tt) (λ e. either (high_field modrm == 0 && low_field modrm == 5) _ _
    (λ e. either (rex_b rex) None _ (λ e. tt) (λ e. record { rip_alone = λ r. (refl, refl); no_scale = λ none. refl; scale = lit< tt }))
    (λ e. record { rip_alone = λ r. absurd (cc); no_scale = λ none. refl; scale = lit< tt }))

by_where : (t : Bool) (P Q : Type 0) (C : Type 0) → (P → C) → (Q → C) → Where t P Q → C
by_where true P Q C p q w = p w
by_where false P Q C p q w = q w

memory_is : (rex : Option ℕ) (modrm : ℕ) (mem : Mem) (b : List ℕ) → IsBytes b → MemoryBytes rex modrm mem b → IsMemory mem
memory_is rex modrm mem b h w =
    by_where (has_sib modrm) _ _ (IsMemory mem) (λ p. with_sib p.0 p.1 p.2 p.3) (λ p. addressed (modrm_address rex modrm) (in_modrm rex modrm) mem b p) w
  where
    with_sib : (sib : ℕ) (rest : List ℕ) → Addressed (sib_address rex modrm sib) mem rest → b ≡ sib ∷ rest → IsMemory mem
    with_sib sib rest p e = addressed (sib_address rex modrm sib) (in_sib rex modrm sib (All-head (λ x. x < 256) sib rest (All-same (λ x. x < 256) (sib ∷ rest) b (sym e) h))) mem rest p

pub memory_operand_is : (rex : Option ℕ) (modrm : ℕ) (mem : Mem) (b : List ℕ) → IsBytes b → MemoryOperandBytes rex modrm mem b → IsMemory mem
memory_operand_is rex modrm mem b h w = by_where (is_register modrm) ⊥ _ (IsMemory mem) (λ p. absurd p) (λ p. memory_is rex modrm mem b h p) w

-- an operand's word is one
abbrev pub IsOperand : Rm → Type 0
IsOperand x = IsWord (operand_word x)

pub operand_is : (rex : Option ℕ) (is_byte : Bool) (modrm : ℕ) (x : Rm) (b : List ℕ) → IsBytes b → RmBytes rex is_byte modrm x b → IsOperand x
operand_is rex is_byte modrm x b h w =
    by_where (is_register modrm) _ _ (IsOperand x) (λ p. subst IsOperand (sym p.1.0) tt) (λ p. subst IsOperand (sym p.2) (memory_is rex modrm p.0 b h p.1)) w
