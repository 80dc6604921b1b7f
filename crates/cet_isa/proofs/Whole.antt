-- The reader of a whole instruction reads what `Form` says.
use Rattle.std.proofs.Common.{◌≡◌, ℕ, zero, suc, ◌+◌, ◌-◌, ◌<◌, ◌≤◌, Bool, true, false, ◌&&◌, ◌⊎◌, inl, inr, List, [], ◌∷◌, ◌++◌, replicate, Option, Some, None, Err, refl, sym, ap, subst, ◌∙◌, append_assoc, arith}
use Rattle.std.specs.Prelude.{if◌then◌else◌, ◌==◌, IsTrue}
use Rattle.std.proofs.lemmas.Bool.{eqb-true, ltb-true, leb-true}
use Rattle.cet_isa.specs.declared.instruction.Insn.{Insn}
use Rattle.cet_isa.specs.declared.decode_error.DecodeError.TheVariants.{Outside}
use Rattle.cet_isa.specs.Reader.{Read}
use Rattle.cet_isa.specs.Operand.{Where, is_rex}
use Rattle.cet_isa.specs.Row.{Row, NoRow, RowBytes}
use Rattle.cet_isa.specs.PrefixedMap.{Prefix, none, mandatory, lock, notrack, pads, pads_segment, prefix_bytes, IsPrefix, takes_rex, rex_bytes, IsRex, row}
use Rattle.cet_isa.specs.Form.{IsBytes, Form}
use Rattle.cet_isa.specs.Decoded.{row_at, opcode_at, rex_at, after_prefix, behind_pads, after_pads, instruction_at}
use Rattle.cet_isa.proofs.Joins.{Reads, Extends, Behind, reads_behind, extends_behind, reads_never, extends_never}
use Rattle.cet_isa.proofs.Parts.{reads_where, extends_where, inhabited_else, reads_if, extends_if, reads_row}
use Rattle.cet_isa.proofs.Map.{May, in_row, live_row, live_pads, live_nop, true_or_false}

-- ---- the relation that follows the reader

abbrev pub OpcodeBytes : Prefix → Option ℕ → Insn → List ℕ → Type 0
OpcodeBytes prefix rex = Behind (λ opcode. RowBytes rex (row prefix rex opcode))

abbrev pub RexBytes : Prefix → ℕ → Insn → List ℕ → Type 0
RexBytes prefix byte i b = IsTrue (takes_rex prefix (Some byte)) × OpcodeBytes prefix (Some byte) i b

abbrev pub AfterPrefix : Prefix → Insn → List ℕ → Type 0
AfterPrefix prefix = Behind (λ first i rest. Where (is_rex first) (RexBytes prefix first i rest) (RowBytes None (row prefix None first) i rest))

abbrev pub BehindPads : ℕ → ℕ → Insn → List ℕ → Type 0
BehindPads n first i rest = Where (first == 0x2E) (OpcodeBytes (pads_segment (suc n)) None i rest) (RowBytes None (row (pads n) None first) i rest)

abbrev pub Pads : ℕ → ℕ → Insn → List ℕ → Type 0
Pads zero n = Behind (λ first i rest. Where (first == 0x66) ⊥ (BehindPads n first i rest))
Pads (suc left) n = Behind (λ first i rest. Where (first == 0x66) (Pads left (suc n) i rest) (BehindPads n first i rest))

abbrev pub FirstByte : ℕ → Insn → List ℕ → Type 0
FirstByte first i rest =
    Where (is_rex first) (RexBytes none first i rest) (
    Where (first == 0xF3) (AfterPrefix mandatory i rest) (
    Where (first == 0xF0) (AfterPrefix lock i rest) (
    Where (first == 0x3E) (AfterPrefix notrack i rest) (
    Where (first == 0x66) (Pads 5 0 i rest) (
    Where (first == 0x2E) (OpcodeBytes (pads_segment 0) None i rest)
    (RowBytes None (row none None first) i rest))))))

abbrev pub Instruction : Insn → List ℕ → Type 0
Instruction = Behind FirstByte

-- ---- the reader reads it

reads_opcode : (prefix : Prefix) (rex : Option ℕ) → Reads (opcode_at prefix rex) (OpcodeBytes prefix rex)
reads_opcode prefix rex = reads_behind (λ o. row_at rex (row prefix rex o)) (λ o. RowBytes rex (row prefix rex o)) (λ o. reads_row rex (row prefix rex o))

extends_opcode : (prefix : Prefix) (rex : Option ℕ) → May prefix rex → Extends (opcode_at prefix rex) (OpcodeBytes prefix rex)
extends_opcode prefix rex m =
    let l = live_row prefix rex m in
    extends_behind (λ o. row_at rex (row prefix rex o)) (λ o. RowBytes rex (row prefix rex o)) (λ o. (in_row prefix rex m o).at) l.opcode l.is_byte l.live.at

reads_rex : (prefix : Prefix) (byte : ℕ) → Reads (rex_at prefix byte) (RexBytes prefix byte)
reads_rex prefix byte = reads_if (takes_rex prefix (Some byte)) _ _ (reads_opcode prefix (Some byte))

extends_when : {A : Type 0} (t : Bool) (R : List ℕ → Read A) (P : A → List ℕ → Type 0) → (t ≡ true → Extends R P) → Extends (λ b. if t then R b else Err Outside) (λ x a. IsTrue t × P x a)
extends_when true R P r b h = extends_if true R P (r refl) b h
extends_when false R P r b h = absurd cc

extends_rex : (prefix : Prefix) (byte : ℕ) → Extends (rex_at prefix byte) (RexBytes prefix byte)
extends_rex prefix byte = extends_when (takes_rex prefix (Some byte)) _ _ (λ e. extends_opcode prefix (Some byte) e)

module _ (prefix : Prefix) where
  rex_or_opcode : ℕ → List ℕ → Read Insn
  rex_or_opcode first b = if is_rex first then rex_at prefix first b else row_at None (row prefix None first) b

  reads_prefix : Reads (after_prefix prefix) (AfterPrefix prefix)
  unfolding rex_or_opcode
  reads_prefix = reads_behind (rex_or_opcode) (λ first i rest. Where (is_rex first) (RexBytes prefix first i rest) (RowBytes None (row prefix None first) i rest))
      (λ first. reads_where (is_rex first) _ _ _ _ (reads_rex prefix first) (reads_row None (row prefix None first)))

  extends_prefix : Extends (after_prefix prefix) (AfterPrefix prefix)
  unfolding rex_or_opcode
  extends_prefix =
      let l = live_row prefix None tt in
      extends_behind (rex_or_opcode) (λ first i rest. Where (is_rex first) (RexBytes prefix first i rest) (RowBytes None (row prefix None first) i rest))
      (λ first. extends_where (is_rex first) _ _ _ _ (extends_rex prefix first) ((in_row prefix None tt first).at))
      l.opcode l.is_byte (inhabited_else (is_rex l.opcode) _ _ l.no_rex l.live.at)

reads_behind_pads : (n first : ℕ) → Reads (behind_pads n first) (BehindPads n first)
reads_behind_pads n first = reads_where (first == 0x2E) _ _ _ _ (reads_opcode (pads_segment (suc n)) None) (reads_row None (row (pads n) None first))

extends_behind_pads : (n first : ℕ) → Extends (behind_pads n first) (BehindPads n first)
extends_behind_pads n first = extends_where (first == 0x2E) _ _ _ _ (extends_opcode (pads_segment (suc n)) None tt) ((in_row (pads n) None tt first).at)

reads_pads : (left n : ℕ) → Reads (after_pads left n) (Pads left n)
unfolding after_pads
reads_pads zero n = reads_behind _ _ (λ first. reads_where (first == 0x66) _ _ _ _ reads_never (reads_behind_pads n first))
reads_pads (suc left) n = reads_behind _ _ (λ first. reads_where (first == 0x66) _ _ _ _ (reads_pads left (suc n)) (reads_behind_pads n first))

extends_pads : (left n : ℕ) → Extends (after_pads left n) (Pads left n)
unfolding after_pads
extends_pads zero n = extends_behind _ _ (λ first. extends_where (first == 0x66) _ _ _ _ extends_never (extends_behind_pads n first)) 0x0F (omega arith) (live_pads n).at
extends_pads (suc left) n = extends_behind _ _ (λ first. extends_where (first == 0x66) _ _ _ _ (extends_pads left (suc n)) (extends_behind_pads n first)) 0x0F (omega arith) (live_pads n).at

abbrev first_at : ℕ → List ℕ → Read Insn
first_at first rest =
    if is_rex first then rex_at none first rest else
    if first == 0xF3 then after_prefix mandatory rest else
    if first == 0xF0 then after_prefix lock rest else
    if first == 0x3E then after_prefix notrack rest else
    if first == 0x66 then after_pads 5 0 rest else
    if first == 0x2E then opcode_at (pads_segment 0) None rest else
    row_at None (row none None first) rest

reads_first : (first : ℕ) → Reads (first_at first) (FirstByte first)
reads_first first =
    reads_where (is_rex first) _ _ _ _ (reads_rex none first) (
    reads_where (first == 0xF3) _ _ _ _ (reads_prefix mandatory) (
    reads_where (first == 0xF0) _ _ _ _ (reads_prefix lock) (
    reads_where (first == 0x3E) _ _ _ _ (reads_prefix notrack) (
    reads_where (first == 0x66) _ _ _ _ (reads_pads 5 0) (
    reads_where (first == 0x2E) _ _ _ _ (reads_opcode (pads_segment 0) None) (reads_row None (row none None first)))))))

extends_first : (first : ℕ) → Extends (first_at first) (FirstByte first)
extends_first first =
    extends_where (is_rex first) _ _ _ _ (extends_rex none first) (
    extends_where (first == 0xF3) _ _ _ _ (extends_prefix mandatory) (
    extends_where (first == 0xF0) _ _ _ _ (extends_prefix lock) (
    extends_where (first == 0x3E) _ _ _ _ (extends_prefix notrack) (
    extends_where (first == 0x66) _ _ _ _ (extends_pads 5 0) (
    extends_where (first == 0x2E) _ _ _ _ (extends_opcode (pads_segment 0) None tt) ((in_row none None tt first).at))))))

pub reads_instruction : Reads instruction_at Instruction
unfolding instruction_at
reads_instruction = reads_behind first_at FirstByte reads_first

pub extends_instruction : Extends instruction_at Instruction
unfolding instruction_at
extends_instruction = extends_behind first_at FirstByte extends_first 0x90 (omega arith) live_nop.at

-- ---- and it says what `Form` says

where_cases : (t : Bool) (P Q : Type 0) → Where t P Q → ((t ≡ true) × P) ⊎ ((t ≡ false) × Q)
where_cases true P Q w = inl (refl, w)
where_cases false P Q w = inr (refl, w)

where_then : (t : Bool) (P Q : Type 0) → t ≡ true → P → Where t P Q
where_then true P Q e p = p
where_then false P Q e p = absurd cc

where_else : (t : Bool) (P Q : Type 0) → t ≡ false → Q → Where t P Q
where_else false P Q e q = q
where_else true P Q e q = absurd cc

-- a form but for its items being bytes
pub record Parts (i : Insn) (b : List ℕ) : Type 0 where
  pub prefix : Prefix
  pub rex : Option ℕ
  pub opcode : ℕ
  pub operands : List ℕ
  pub whole : b ≡ prefix_bytes prefix ++ (rex_bytes rex ++ (opcode ∷ operands))
  pub is_prefix : IsPrefix prefix
  pub is_rex : IsRex prefix rex
  pub row_bytes : RowBytes rex (row prefix rex opcode) i operands

plain_parts : (i : Insn) (b : List ℕ) (prefix : Prefix) (opcode : ℕ) (operands : List ℕ) → IsPrefix prefix → RowBytes None (row prefix None opcode) i operands
    → b ≡ prefix_bytes prefix ++ (opcode ∷ operands) → Parts i b
plain_parts i b prefix opcode operands q r e = record { prefix = prefix; rex = None; opcode = opcode; operands = operands; whole = e; is_prefix = q; is_rex = tt; row_bytes = r }

opcode_parts : (i : Insn) (b rest : List ℕ) (prefix : Prefix) → IsPrefix prefix → OpcodeBytes prefix None i rest → b ≡ prefix_bytes prefix ++ rest → Parts i b
opcode_parts i b rest prefix q (o, operands, r, e) h = plain_parts i b prefix o operands q r (h ∙ ap (λ (l : List ℕ). prefix_bytes prefix ++ l) e)

rex_parts : (i : Insn) (b rest : List ℕ) (prefix : Prefix) (byte : ℕ) → IsPrefix prefix → is_rex byte ≡ true → RexBytes prefix byte i rest → b ≡ prefix_bytes prefix ++ (byte ∷ rest) → Parts i b
rex_parts i b rest prefix byte q x (t, (o, operands, r, e)) h =
    record { prefix = prefix; rex = Some byte; opcode = o; operands = operands; whole = h ∙ ap (λ (l : List ℕ). prefix_bytes prefix ++ (byte ∷ l)) e; is_prefix = q; is_rex = (x, t); row_bytes = r }

prefix_parts : (i : Insn) (b rest : List ℕ) (prefix : Prefix) → IsPrefix prefix → AfterPrefix prefix i rest → b ≡ prefix_bytes prefix ++ rest → Parts i b
prefix_parts i b rest prefix q (first, more, w, e) h =
    let whole : b ≡ prefix_bytes prefix ++ (first ∷ more) = h ∙ ap (λ (l : List ℕ). prefix_bytes prefix ++ l) e in
    elim (where_cases (is_rex first) _ _ w) [
      | inl c ↦ rex_parts i b more prefix first q c.0 c.1 whole
      | inr c ↦ plain_parts i b prefix first more q c.1 whole
    ]

replicate_shift : (n x : ℕ) (r : List ℕ) → replicate n x ++ (x ∷ r) ≡ x ∷ (replicate n x ++ r)
replicate_shift zero x r = refl
replicate_shift (suc n) x r = ap (λ (l : List ℕ). x ∷ l) (replicate_shift n x r)

behind_pads_parts : (i : Insn) (b rest : List ℕ) (n first : ℕ) → n ≤ 5 → BehindPads n first i rest → b ≡ (0x66 ∷ replicate n 0x66) ++ (first ∷ rest) → Parts i b
behind_pads_parts i b rest n first le w h =
    elim (where_cases (first == 0x2E) _ _ w) [
      | inl c ↦ opcode_parts i b rest (pads_segment (suc n)) (omega arith) c.1
          (h ∙ ap (λ (x : ℕ). (0x66 ∷ replicate n 0x66) ++ (x ∷ rest)) (eqb-true first 0x2E c.0) ∙ sym (append_assoc (0x66 ∷ replicate n 0x66) (0x2E ∷ []) rest))
      | inr c ↦ plain_parts i b (pads n) first rest (omega arith) c.1 h
    ]

pads_parts : (left n : ℕ) (i : Insn) (b rest : List ℕ) → left + n ≤ 5 → Pads left n i rest → b ≡ (0x66 ∷ replicate n 0x66) ++ rest → Parts i b
pads_parts zero n i b rest le (first, more, w, e) h =
    elim (where_cases (first == 0x66) _ _ w) [
      | inl c ↦ absurd c.1
      | inr c ↦ behind_pads_parts i b more n first (omega arith) c.1 (h ∙ ap (λ (l : List ℕ). (0x66 ∷ replicate n 0x66) ++ l) e)
    ]
pads_parts (suc left) n i b rest le (first, more, w, e) h =
    elim (where_cases (first == 0x66) _ _ w) [
      | inl c ↦ pads_parts left (suc n) i b more (omega arith) c.1
          (h ∙ ap (λ (l : List ℕ). (0x66 ∷ replicate n 0x66) ++ l) e ∙ ap (λ (x : ℕ). (0x66 ∷ replicate n 0x66) ++ (x ∷ more)) (eqb-true first 0x66 c.0)
          ∙ ap (λ (l : List ℕ). 0x66 ∷ l) (replicate_shift n 0x66 more))
      | inr c ↦ behind_pads_parts i b more n first (omega arith) c.1 (h ∙ ap (λ (l : List ℕ). (0x66 ∷ replicate n 0x66) ++ l) e)
    ]

first_is : (b rest : List ℕ) (first x : ℕ) → b ≡ first ∷ rest → (first == x) ≡ true → b ≡ x ∷ rest
first_is b rest first x h e = h ∙ ap (λ (y : ℕ). y ∷ rest) (eqb-true first x e)

pub to_parts : (i : Insn) (b : List ℕ) → Instruction i b → Parts i b
to_parts i b (first, rest, w, h) =
    elim (where_cases (is_rex first) _ _ w) [
      | inl c ↦ rex_parts i b rest none first tt c.0 c.1 h
      | inr c ↦ elim (where_cases (first == 0xF3) _ _ c.1) [
        | inl d ↦ prefix_parts i b rest mandatory tt d.1 (first_is b rest first 0xF3 h d.0)
        | inr d ↦ elim (where_cases (first == 0xF0) _ _ d.1) [
          | inl e ↦ prefix_parts i b rest lock tt e.1 (first_is b rest first 0xF0 h e.0)
          | inr e ↦ elim (where_cases (first == 0x3E) _ _ e.1) [
            | inl f ↦ prefix_parts i b rest notrack tt f.1 (first_is b rest first 0x3E h f.0)
            | inr f ↦ elim (where_cases (first == 0x66) _ _ f.1) [
              | inl g ↦ pads_parts 5 0 i b rest (omega arith) g.1 (first_is b rest first 0x66 h g.0)
              | inr g ↦ elim (where_cases (first == 0x2E) _ _ g.1) [
                | inl j ↦ opcode_parts i b rest (pads_segment 0) (omega arith) j.1 (first_is b rest first 0x2E h j.0)
                | inr j ↦ plain_parts i b none first rest tt j.1 h
              ]
            ]
          ]
        ]
      ]
    ]

-- no opcode map has a row for the bytes of REX
sixteen : (P : ℕ → Type 0) → P 0x40 → P 0x41 → P 0x42 → P 0x43 → P 0x44 → P 0x45 → P 0x46 → P 0x47 → P 0x48 → P 0x49 → P 0x4A → P 0x4B → P 0x4C → P 0x4D → P 0x4E → P 0x4F
    → (k : ℕ) → k < 16 → P (0x40 + k)
sixteen P a b c d e f g h i j k l m n o p zero lt = a
sixteen P a b c d e f g h i j k l m n o p (suc zero) lt = b
sixteen P a b c d e f g h i j k l m n o p (suc (suc zero)) lt = c
sixteen P a b c d e f g h i j k l m n o p (suc (suc (suc zero))) lt = d
sixteen P a b c d e f g h i j k l m n o p (suc (suc (suc (suc zero)))) lt = e
sixteen P a b c d e f g h i j k l m n o p (suc (suc (suc (suc (suc zero))))) lt = f
sixteen P a b c d e f g h i j k l m n o p (suc (suc (suc (suc (suc (suc zero)))))) lt = g
sixteen P a b c d e f g h i j k l m n o p (suc (suc (suc (suc (suc (suc (suc zero))))))) lt = h
sixteen P a b c d e f g h i j k l m n o p (suc (suc (suc (suc (suc (suc (suc (suc zero)))))))) lt = i
sixteen P a b c d e f g h i j k l m n o p (suc (suc (suc (suc (suc (suc (suc (suc (suc zero))))))))) lt = j
sixteen P a b c d e f g h i j k l m n o p (suc (suc (suc (suc (suc (suc (suc (suc (suc (suc zero)))))))))) lt = k
sixteen P a b c d e f g h i j k l m n o p (suc (suc (suc (suc (suc (suc (suc (suc (suc (suc (suc zero))))))))))) lt = l
sixteen P a b c d e f g h i j k l m n o p (suc (suc (suc (suc (suc (suc (suc (suc (suc (suc (suc (suc zero)))))))))))) lt = m
sixteen P a b c d e f g h i j k l m n o p (suc (suc (suc (suc (suc (suc (suc (suc (suc (suc (suc (suc (suc zero))))))))))))) lt = n
sixteen P a b c d e f g h i j k l m n o p (suc (suc (suc (suc (suc (suc (suc (suc (suc (suc (suc (suc (suc (suc zero)))))))))))))) lt = o
sixteen P a b c d e f g h i j k l m n o p (suc (suc (suc (suc (suc (suc (suc (suc (suc (suc (suc (suc (suc (suc (suc zero))))))))))))))) lt = p
sixteen P a b c d e f g h i j k l m n o p (suc (suc (suc (suc (suc (suc (suc (suc (suc (suc (suc (suc (suc (suc (suc (suc q)))))))))))))))) lt = absurd (omega arith)

both_are : (s t : Bool) → (s && t) ≡ true → (s ≡ true) × (t ≡ true)
both_are true t h = (refl, h)
both_are false t h = absurd cc

rex_bounds : (x : ℕ) → is_rex x ≡ true → (0x40 ≤ x) × (x < 0x50)
rex_bounds x h = let b = both_are _ _ h in (leb-true 0x40 x b.0, ltb-true x 0x50 b.1)

no_rex_row : (prefix : Prefix) → ((k : ℕ) → k < 16 → row prefix None (0x40 + k) ≡ NoRow) → (x : ℕ) → is_rex x ≡ true → row prefix None x ≡ NoRow
no_rex_row prefix each x h =
    let b = rex_bounds x h in
    let e : 0x40 + (x - 0x40) ≡ x = omega arith in
    subst (λ (y : ℕ). row prefix None y ≡ NoRow) e (each (x - 0x40) (omega arith))

rex_is_no_opcode : (prefix : Prefix) → ((k : ℕ) → k < 16 → row prefix None (0x40 + k) ≡ NoRow)
rex_is_no_opcode none = sixteen (λ (x : ℕ). row none None x ≡ NoRow) refl refl refl refl refl refl refl refl refl refl refl refl refl refl refl refl
rex_is_no_opcode mandatory = sixteen (λ (x : ℕ). row mandatory None x ≡ NoRow) refl refl refl refl refl refl refl refl refl refl refl refl refl refl refl refl
rex_is_no_opcode lock = sixteen (λ (x : ℕ). row lock None x ≡ NoRow) refl refl refl refl refl refl refl refl refl refl refl refl refl refl refl refl
rex_is_no_opcode notrack = sixteen (λ (x : ℕ). row notrack None x ≡ NoRow) refl refl refl refl refl refl refl refl refl refl refl refl refl refl refl refl
rex_is_no_opcode (pads zero) = sixteen (λ (x : ℕ). row (pads zero) None x ≡ NoRow) refl refl refl refl refl refl refl refl refl refl refl refl refl refl refl refl
rex_is_no_opcode (pads (suc n)) = sixteen (λ (x : ℕ). row (pads (suc n)) None x ≡ NoRow) refl refl refl refl refl refl refl refl refl refl refl refl refl refl refl refl
rex_is_no_opcode (pads_segment n) = sixteen (λ (x : ℕ). row (pads_segment n) None x ≡ NoRow) refl refl refl refl refl refl refl refl refl refl refl refl refl refl refl refl

-- an opcode byte with a row is no byte without one
other : (prefix : Prefix) (opcode x : ℕ) (i : Insn) (operands : List ℕ) → row prefix None x ≡ NoRow → RowBytes None (row prefix None opcode) i operands → (opcode == x) ≡ false
other prefix opcode x i operands e r =
    elim (true_or_false (opcode == x)) [
      | inl h ↦ absurd (subst (λ (r : Row). RowBytes None r i operands) (ap (λ (y : ℕ). row prefix None y) (eqb-true opcode x h) ∙ e) r)
      | inr h ↦ h
    ]

no_rex_opcode : (prefix : Prefix) (opcode : ℕ) (i : Insn) (operands : List ℕ) → RowBytes None (row prefix None opcode) i operands → is_rex opcode ≡ false
no_rex_opcode prefix opcode i operands r =
    elim (true_or_false (is_rex opcode)) [
      | inl h ↦ absurd (subst (λ (r : Row). RowBytes None r i operands) (no_rex_row prefix (rex_is_no_opcode prefix) opcode h) r)
      | inr h ↦ h
    ]

-- behind the prefix: a REX or none, and the opcode
from_rex : (i : Insn) (prefix : Prefix) (rex : Option ℕ) (opcode : ℕ) (operands : List ℕ) → IsRex prefix rex → RowBytes rex (row prefix rex opcode) i operands
    → AfterPrefix prefix i (rex_bytes rex ++ (opcode ∷ operands))
from_rex i prefix None opcode operands x r = (opcode, operands, where_else (is_rex opcode) _ _ (no_rex_opcode prefix opcode i operands r) r, refl)
from_rex i prefix (Some byte) opcode operands x r = (byte, opcode ∷ operands, where_then (is_rex byte) _ _ x.0 (x.1, (opcode, operands, r, refl)), refl)

from_none : (i : Insn) (rex : Option ℕ) (opcode : ℕ) (operands : List ℕ) → IsRex none rex → RowBytes rex (row none rex opcode) i operands
    → Instruction i (rex_bytes rex ++ (opcode ∷ operands))
from_none i (Some byte) opcode operands x r = (byte, opcode ∷ operands, where_then (is_rex byte) _ _ x.0 (x.1, (opcode, operands, r, refl)), refl)
from_none i None opcode operands x r = (
  opcode,
  operands,
  where_else (is_rex opcode) _ _ (no_rex_opcode none opcode i operands r) (
      where_else (opcode == 0xF3) _ _ (other none opcode 0xF3 i operands refl r) (
      where_else (opcode == 0xF0) _ _ (other none opcode 0xF0 i operands refl r) (
      where_else (opcode == 0x3E) _ _ (other none opcode 0x3E i operands refl r) (
      where_else (opcode == 0x66) _ _ (other none opcode 0x66 i operands refl r) (
      where_else (opcode == 0x2E) _ _ (other none opcode 0x2E i operands refl r) r))))),
  refl,
)

no_pads_row : (n x : ℕ) → (x == 0x90) ≡ false → (x == 0x0F) ≡ false → row (pads n) None x ≡ NoRow
no_pads_row zero x e f = rw (e, f) refl
no_pads_row (suc n) x e f = rw f refl

from_pads : (k left n : ℕ) (i : Insn) (opcode : ℕ) (operands : List ℕ) (m : ℕ) → k ≤ left → m ≡ n + k → RowBytes None (row (pads m) None opcode) i operands
    → Pads left n i (replicate k 0x66 ++ (opcode ∷ operands))
from_pads zero left n i opcode operands m le e r =
    let same : m ≡ n = omega arith in
    let s : RowBytes None (row (pads n) None opcode) i operands = subst (λ (x : ℕ). RowBytes None (row (pads x) None opcode) i operands) same r in
    let w : BehindPads n opcode i operands = where_else (opcode == 0x2E) _ _ (other (pads n) opcode 0x2E i operands (no_pads_row n 0x2E refl refl) s) s in
    last left n i opcode operands (other (pads n) opcode 0x66 i operands (no_pads_row n 0x66 refl refl) s) w
  where
    last : (left n : ℕ) (i : Insn) (opcode : ℕ) (operands : List ℕ) → (opcode == 0x66) ≡ false → BehindPads n opcode i operands → Pads left n i (opcode ∷ operands)
    last zero n i opcode operands h w = (opcode, operands, where_else (opcode == 0x66) _ _ h w, refl)
    last (suc left) n i opcode operands h w = (opcode, operands, where_else (opcode == 0x66) _ _ h w, refl)
from_pads (suc k) zero n i opcode operands m le e r = absurd (omega arith)
from_pads (suc k) (suc left) n i opcode operands m le e r = (0x66, replicate k 0x66 ++ (opcode ∷ operands), from_pads k left (suc n) i opcode operands m (omega arith) (omega arith) r, refl)

from_segment : (k left n : ℕ) (i : Insn) (rest : List ℕ) (m : ℕ) → k ≤ left → m ≡ suc (n + k) → OpcodeBytes (pads_segment m) None i rest
    → Pads left n i (replicate k 0x66 ++ (0x2E ∷ rest))
from_segment zero left n i rest m le e r =
    let same : m ≡ suc n = omega arith in
    last left n i rest (subst (λ (x : ℕ). OpcodeBytes (pads_segment x) None i rest) same r)
  where
    last : (left n : ℕ) (i : Insn) (rest : List ℕ) → OpcodeBytes (pads_segment (suc n)) None i rest → Pads left n i (0x2E ∷ rest)
    last zero n i rest r = (0x2E, rest, r, refl)
    last (suc left) n i rest r = (0x2E, rest, r, refl)
from_segment (suc k) zero n i rest m le e r = absurd (omega arith)
from_segment (suc k) (suc left) n i rest m le e r = (0x66, replicate k 0x66 ++ (0x2E ∷ rest), from_segment k left (suc n) i rest m (omega arith) (omega arith) r, refl)

spelled_out : (i : Insn) (prefix : Prefix) (rex : Option ℕ) (opcode : ℕ) (operands : List ℕ) → IsPrefix prefix → IsRex prefix rex → RowBytes rex (row prefix rex opcode) i operands
    → Instruction i (prefix_bytes prefix ++ (rex_bytes rex ++ (opcode ∷ operands)))
spelled_out i none rex opcode operands q x r = from_none i rex opcode operands x r
spelled_out i mandatory rex opcode operands q x r = (0xF3, rex_bytes rex ++ (opcode ∷ operands), from_rex i mandatory rex opcode operands x r, refl)
spelled_out i lock rex opcode operands q x r = (0xF0, rex_bytes rex ++ (opcode ∷ operands), from_rex i lock rex opcode operands x r, refl)
spelled_out i notrack rex opcode operands q x r = (0x3E, rex_bytes rex ++ (opcode ∷ operands), from_rex i notrack rex opcode operands x r, refl)
spelled_out i (pads n) (Some byte) opcode operands q x r = absurd (let f = x.1 in cc)
spelled_out i (pads n) None opcode operands q x r = (0x66, replicate n 0x66 ++ (opcode ∷ operands), from_pads n 5 0 i opcode operands n (omega arith) (omega arith) r, refl)
spelled_out i (pads_segment n) (Some byte) opcode operands q x r = absurd (let f = x.1 in cc)
spelled_out i (pads_segment zero) None opcode operands q x r = (0x2E, opcode ∷ operands, (opcode, operands, r, refl), refl)
spelled_out i (pads_segment (suc n)) None opcode operands q x r = (
  0x66,
  replicate n 0x66 ++ (0x2E ∷ (opcode ∷ operands)),
  from_segment n 5 0 i (opcode ∷ operands) (suc n) (omega arith) (omega arith) (opcode, operands, r, refl),
  append_assoc (0x66 ∷ replicate n 0x66) (0x2E ∷ []) (opcode ∷ operands),
)

pub from_form : (i : Insn) (b : List ℕ) → Form i b → Instruction i b
from_form i b f = subst (λ (l : List ℕ). Instruction i l) (sym f.whole) (spelled_out i f.prefix f.rex f.opcode f.operands f.is_prefix f.is_rex f.row_bytes)

pub to_form : (i : Insn) (b : List ℕ) → IsBytes b → Instruction i b → Form i b
to_form i b y t =
    let p = to_parts i b t in
    record { prefix = p.prefix; rex = p.rex; opcode = p.opcode; operands = p.operands; whole = p.whole; is_bytes = y; is_prefix = p.is_prefix; is_rex = p.is_rex; row_bytes = p.row_bytes }
