-- An operand or a number that bytes spell has canonical bytes.
use Rattle.std.proofs.Common.{◌≡◌, ℕ, zero, suc, ◌^◌, ◌<◌, Bool, true, false, not, ◌&&◌, ◌||◌, List, [], ◌∷◌, ◌++◌, length, ℤ, pos, negsuc, Option, Some, None, refl, sym, ap, subst, ◌∙◌, arith}
use Rattle.std.specs.Prelude.{if◌then◌else◌, ◌==◌, FitsSigned, slice_index}
use Rattle.std.specs.Option.{option_map, option_zip, option_and_then}
use Rattle.std.specs.Int as int
use Rattle.std.specs.Int.{w8, w32, w64, from_le_bytes}
use Rattle.std.proofs.Math.Facts.{sfits_to_z}
use Rattle.std.proofs.lemmas.Bool.{eqb-true, ltb-true, lt-ltb}
use Rattle.std.proofs.lemmas.List.{take_at, drop_at}
use Rattle.std.proofs.lemmas.List.Elements.{All-take, All-drop, All-tail}
use Rattle.std.proofs.lemmas.Option.{same_Some}
use Rattle.cet_isa.specs.declared.register.Reg.{Reg}
use Rattle.cet_isa.specs.declared.operand.Width.{Width}
use Rattle.cet_isa.specs.declared.operand.Width.TheVariants.{B1, B4, B8}
use Rattle.cet_isa.specs.declared.operand.Mem.{Mem}
use Rattle.cet_isa.specs.declared.operand.Rm.{Rm}
use Rattle.cet_isa.specs.declared.operand.Rm.TheVariants as rm
use Rattle.cet_isa.specs.Operand.{Where, Unsigned, Signed, number_width, register, rex_x, rex_b, extended, high_field, middle_field, low_field, Displacement, nothing, disp8, disp32, Address, displaced, has_sib, has_index, has_base, modrm_address, sib_address, sib_index, sib_base, sib_displacement, Displaced, Addressed, MemoryBytes, is_register, RmBytes, MemoryOperandBytes}
use Rattle.cet_isa.specs.Form.{IsBytes}
use Rattle.cet_isa.specs.Canonical.{fits, signed, unsigned, number, is_zero, shortest_displacement, displacement_bytes, Index, scale_field, index_of, indexed, memory, register_field, register_or_memory}

-- ---- what is given

pub record Given {A : Type 0} (o : Option A) : Type 0 where
  pub value : A
  pub is : o ≡ Some value

pub given : {A : Type 0} (x : A) → Given (Some x)
given x = record { value = x; is = refl }

pub given_map : {A B : Type 0} (f : A → B) (o : Option A) → Given o → Given (option_map f o)
given_map f o g = subst (λ (p : Option _). Given (option_map f p)) (sym g.is) (given (f g.value))

pub given_zip : {A B : Type 0} (o : Option A) (p : Option B) → Given o → Given p → Given (option_zip o p)
given_zip o p g h = rw (g.is, h.is) (given (g.value, h.value))

pub given_then : {A B : Type 0} (f : A → Option B) (o : Option A) → Given o → ((x : A) → Given (f x)) → Given (option_and_then f o)
given_then f o g h = rw g.is (h g.value)

pub by_where : (t : Bool) (P Q : Type 0) (C : Type 0) → (P → C) → (Q → C) → Where t P Q → C
by_where true P Q C p q w = p w
by_where false P Q C p q w = q w

-- ---- parts of a list of bytes

pub left_bytes : (a b : List ℕ) → IsBytes (a ++ b) → IsBytes a
left_bytes a b y = subst (λ (l : List ℕ). IsBytes l) (take_at a b (length a) refl) (All-take (λ x. x < 256) (length a) (a ++ b) y)

pub right_bytes : (a b : List ℕ) → IsBytes (a ++ b) → IsBytes b
right_bytes a b y = subst (λ (l : List ℕ). IsBytes l) (drop_at a b (length a) refl) (All-drop (λ x. x < 256) (length a) (a ++ b) y)

pub first_byte : (x : ℕ) (b : List ℕ) → IsBytes (x ∷ b) → x < 256
first_byte x b y = y 0 0 (omega arith)

pub rest_bytes : (x : ℕ) (b : List ℕ) → IsBytes (x ∷ b) → IsBytes b
rest_bytes x b y = All-tail (λ x. x < 256) x b y

-- ---- numbers: what bytes say fits

byte_in : (b : List ℕ) (k : ℕ) → IsBytes b → k < length b → slice_index b k < 256
byte_in b k y lt = y k 0 lt

from_1 : (b : List ℕ) → IsBytes b → length b ≡ 1 → from_le_bytes w8 b < 256
from_1 b y e = byte_in b 0 y (omega arith)

from_4 : (b : List ℕ) → IsBytes b → length b ≡ 4 → from_le_bytes w32 b < 2 ^ 32
from_4 b y e = omega (arith, byte_in b 0 y (omega arith), byte_in b 1 y (omega arith), byte_in b 2 y (omega arith), byte_in b 3 y (omega arith))

from_8 : (b : List ℕ) → IsBytes b → length b ≡ 8 → from_le_bytes w64 b < 2 ^ 64
from_8 b y e = omega (
  arith,
  byte_in b 0 y (omega arith),
  byte_in b 1 y (omega arith),
  byte_in b 2 y (omega arith),
  byte_in b 3 y (omega arith),
  byte_in b 4 y (omega arith),
  byte_in b 5 y (omega arith),
  byte_in b 6 y (omega arith),
  byte_in b 7 y (omega arith),
)

pub given_when : {A : Type 0} (t : Bool) (x : A) → t ≡ true → Given (if t then Some x else None)
given_when true x e = given x
given_when false x e = absurd cc

pub record IsConstant (w : Width) (n : ℕ) : Type 0 where
  pub at : Given (unsigned (number_width w) n)

pub constant_given : (w : Width) (n : ℕ) (b : List ℕ) → IsBytes b → Unsigned (number_width w) n b → IsConstant w n
constant_given B1 n b y u = record { at = given_when _ _ (lt-ltb _ _ (subst (λ (m : ℕ). m < 256) (sym u.1) (from_1 b y u.0))) }
constant_given B4 n b y u = record { at = given_when _ _ (lt-ltb _ _ (subst (λ (m : ℕ). m < 2 ^ 32) (sym u.1) (from_4 b y u.0))) }
constant_given B8 n b y u = record { at = given_when _ _ (lt-ltb _ _ (subst (λ (m : ℕ). m < 2 ^ 64) (sym u.1) (from_8 b y u.0))) }

fits8 : (z : ℤ) → FitsSigned w8 z → fits w8 z ≡ true
fits8 (pos n) f = lt-ltb _ _ f.sfits
fits8 (negsuc n) f = lt-ltb _ _ f.sfits

fits32 : (z : ℤ) → FitsSigned w32 z → fits w32 z ≡ true
fits32 (pos n) f = lt-ltb _ _ f.sfits
fits32 (negsuc n) f = lt-ltb _ _ f.sfits

pub signed8_fits : (z : ℤ) (b : List ℕ) → IsBytes b → Signed w8 z b → fits w8 z ≡ true
signed8_fits z b y s = fits8 z (subst (λ (z : ℤ). FitsSigned w8 z) (sym s.1) (sfits_to_z (record { fits = from_1 b y s.0 })))

pub signed32_fits : (z : ℤ) (b : List ℕ) → IsBytes b → Signed w32 z b → fits w32 z ≡ true
signed32_fits z b y s = fits32 z (subst (λ (z : ℤ). FitsSigned w32 z) (sym s.1) (sfits_to_z (record { fits = from_4 b y s.0 })))

pub wider : (z : ℤ) → fits w8 z ≡ true → fits w32 z ≡ true
wider (pos n) e = let lt : n < 128 = ltb-true _ _ e in lt-ltb _ _ (omega arith)
wider (negsuc n) e = let lt : n < 128 = ltb-true _ _ e in lt-ltb _ _ (omega arith)

-- ---- memory operands

displaced_fits : (kind : Displacement) (d : ℤ) (b : List ℕ) → IsBytes b → Displaced kind d b → fits w32 d ≡ true
displaced_fits nothing d b y p = rw p.0 refl
displaced_fits disp8 d b y p = wider d (signed8_fits d b y p)
displaced_fits disp32 d b y p = signed32_fits d b y p

pub signed_given : (w : int.Width) (z : ℤ) → fits w z ≡ true → Given (signed w z)
signed_given w z e = given_when (fits w z) _ e

displacement_given : (base : Reg) (d : ℤ) → fits w32 d ≡ true → Given (displacement_bytes (shortest_displacement base d) d)
displacement_given base d e = by_zero (is_zero d && not (low_field (number base) == 5))
  where
    by_size : (t : Bool) → fits w8 d ≡ t → Given (displacement_bytes (if t then disp8 else disp32) d)
    by_size true f = signed_given w8 d f
    by_size false f = signed_given w32 d e

    by_zero : (t : Bool) → Given (displacement_bytes (if t then nothing else if fits w8 d then disp8 else disp32) d)
    by_zero true = given []
    by_zero false = by_size (fits w8 d) refl

indexed_given : (base : Option Reg) (d : ℤ) (x : Index) → fits w32 d ≡ true → Given (indexed base d x)
indexed_given None d x e = given_map _ (signed w32 d) (signed_given w32 d e)
indexed_given (Some base) d x e = given_map _ _ (displacement_given base d e)

pub record IsMem (mem : Mem) : Type 0 where
  pub at : Given (memory mem)

-- an address that has a canonical form, whatever the displacement
record IsAddress (a : Address) : Type 0 where
  at : (d : ℤ) → fits w32 d ≡ true → IsMem (displaced a d)

rip_address : IsAddress (record { base = None; index = None; scale = 1; rip = true; displacement = disp32 })
rip_address = record { at = λ d e. record { at = given_map _ (signed w32 d) (signed_given w32 d e) } }

indexed_address : (base index : Option Reg) (scale : ℕ) (kind : Displacement) → Given (index_of index scale) → IsAddress (record { base = base; index = index; scale = scale; rip = false; displacement = kind })
indexed_address base index scale kind g = record { at = λ d e. record { at = given_then (indexed base d) (index_of index scale) g (λ x. indexed_given base d x e) } }

-- an address, if there is one
record IfAddress (o : Option Address) : Type 0 where
  at : (a : Address) → o ≡ Some a → IsAddress a

no_address : IfAddress None
no_address = record { at = λ a e. absurd cc }

an_address : (a : Address) → IsAddress a → IfAddress (Some a)
an_address a h = record { at = λ b e. subst (λ (x : Address). IsAddress x) (same_Some a b e) h }

either_address : (t : Bool) (o p : Option Address) → IfAddress o → IfAddress p → IfAddress (if t then o else p)
either_address true o p h k = h
either_address false o p h k = k

by_modrm : (rex : Option ℕ) (modrm : ℕ) → IfAddress (modrm_address rex modrm)
by_modrm rex modrm = search (either_address, no_address, an_address, rip_address, indexed_address, given)

each_number : (P : ℕ → Type 0) → P 0 → P 1 → P 2 → P 3 → P 4 → P 5 → P 6 → P 7 → P 8 → P 9 → P 10 → P 11 → P 12 → P 13 → P 14 → P 15 → (n : ℕ) → n < 16 → P n
each_number P a b c d e f g h i j k l m n o p zero lt = a
each_number P a b c d e f g h i j k l m n o p (suc zero) lt = b
each_number P a b c d e f g h i j k l m n o p (suc (suc zero)) lt = c
each_number P a b c d e f g h i j k l m n o p (suc (suc (suc zero))) lt = d
each_number P a b c d e f g h i j k l m n o p (suc (suc (suc (suc zero)))) lt = e
each_number P a b c d e f g h i j k l m n o p (suc (suc (suc (suc (suc zero))))) lt = f
each_number P a b c d e f g h i j k l m n o p (suc (suc (suc (suc (suc (suc zero)))))) lt = g
each_number P a b c d e f g h i j k l m n o p (suc (suc (suc (suc (suc (suc (suc zero))))))) lt = h
each_number P a b c d e f g h i j k l m n o p (suc (suc (suc (suc (suc (suc (suc (suc zero)))))))) lt = i
each_number P a b c d e f g h i j k l m n o p (suc (suc (suc (suc (suc (suc (suc (suc (suc zero))))))))) lt = j
each_number P a b c d e f g h i j k l m n o p (suc (suc (suc (suc (suc (suc (suc (suc (suc (suc zero)))))))))) lt = k
each_number P a b c d e f g h i j k l m n o p (suc (suc (suc (suc (suc (suc (suc (suc (suc (suc (suc zero))))))))))) lt = l
each_number P a b c d e f g h i j k l m n o p (suc (suc (suc (suc (suc (suc (suc (suc (suc (suc (suc (suc zero)))))))))))) lt = m
each_number P a b c d e f g h i j k l m n o p (suc (suc (suc (suc (suc (suc (suc (suc (suc (suc (suc (suc (suc zero))))))))))))) lt = n
each_number P a b c d e f g h i j k l m n o p (suc (suc (suc (suc (suc (suc (suc (suc (suc (suc (suc (suc (suc (suc zero)))))))))))))) lt = o
each_number P a b c d e f g h i j k l m n o p (suc (suc (suc (suc (suc (suc (suc (suc (suc (suc (suc (suc (suc (suc (suc zero))))))))))))))) lt = p
each_number P a b c d e f g h i j k l m n o p (suc (suc (suc (suc (suc (suc (suc (suc (suc (suc (suc (suc (suc (suc (suc (suc q)))))))))))))))) lt = absurd (omega arith)

pub register_number : (n : ℕ) → n < 16 → number (register n) ≡ n
register_number = each_number (λ n. number (register n) ≡ n) refl refl refl refl refl refl refl refl refl refl refl refl refl refl refl refl

scale_given : (n : ℕ) → n < 4 → Given (scale_field (2 ^ n))
scale_given zero lt = given 0
scale_given (suc zero) lt = given 1
scale_given (suc (suc zero)) lt = given 2
scale_given (suc (suc (suc zero))) lt = given 3
scale_given (suc (suc (suc (suc n)))) lt = absurd (omega arith)

-- the scale and the index of SIB, where they are allowed
register_index : (reg : Reg) (scale : ℕ) → (number reg == 4) ≡ false → scale < 4 → Given (index_of (Some reg) (2 ^ scale))
register_index reg scale other small = rw other (given_map _ (scale_field (2 ^ scale)) (scale_given scale small))

index_given : (ext scale : ℕ) → ext < 16 → scale < 4 → (not (ext == 4) || scale == 0) ≡ true → Given (index_of (if not (ext == 4) then Some (register ext) else None) (2 ^ scale))
index_given ext scale lt small allowed = by_test (ext == 4) refl allowed
  where
    by_test : (t : Bool) → (ext == 4) ≡ t → (not t || scale == 0) ≡ true → Given (index_of (if not t then Some (register ext) else None) (2 ^ scale))
    by_test true e h = rw (eqb-true scale 0 h) (given _)
    by_test false e h = register_index (register ext) scale (ap (λ (n : ℕ). n == 4) (register_number ext lt) ∙ e) small

extended_small : (bit : Bool) (field : ℕ) → field < 8 → extended bit field < 16
extended_small true field lt = omega arith
extended_small false field lt = omega arith

by_sib : (rex : Option ℕ) (modrm sib : ℕ) → sib < 256 → IfAddress (sib_address rex modrm sib)
by_sib rex modrm sib small = allowed (has_index rex sib || high_field sib == 0) (has_base modrm sib || not (rex_b rex)) refl
  where
    allowed : (s t : Bool) → (has_index rex sib || high_field sib == 0) ≡ s
        → IfAddress (if s && t then Some (record { base = sib_base rex modrm sib; index = sib_index rex sib; scale = 2 ^ high_field sib; rip = false; displacement = sib_displacement modrm sib }) else None)
    allowed true true e =
        an_address _ (indexed_address (sib_base rex modrm sib) (sib_index rex sib) (2 ^ high_field sib) (sib_displacement modrm sib)
        (index_given (extended (rex_x rex) (middle_field sib)) (high_field sib) (extended_small (rex_x rex) (middle_field sib) (omega arith)) (omega arith) e))
    allowed true false e = no_address
    allowed false t e = no_address

addressed_given : (o : Option Address) (mem : Mem) (b : List ℕ) → IsBytes b → IfAddress o → Addressed o mem b → IsMem mem
addressed_given None mem b y h p = absurd p
addressed_given (Some a) mem b y h (d, p, e) = subst (λ (m : Mem). IsMem m) (sym e) ((h.at a refl).at d (displaced_fits a.displacement d b y p))

memory_given : (rex : Option ℕ) (modrm : ℕ) (mem : Mem) (b : List ℕ) → IsBytes b → MemoryBytes rex modrm mem b → IsMem mem
memory_given rex modrm mem b y w = by_where (has_sib modrm) _ _ (IsMem mem) (λ p. with_sib p.0 p.1 p.2 (subst (λ (l : List ℕ). IsBytes l) p.3 y)) (λ p. addressed_given (modrm_address rex modrm) mem b y (by_modrm rex modrm) p) w
  where
    with_sib : (sib : ℕ) (rest : List ℕ) → Addressed (sib_address rex modrm sib) mem rest → IsBytes (sib ∷ rest) → IsMem mem
    with_sib sib rest p y = addressed_given (sib_address rex modrm sib) mem rest (rest_bytes sib rest y) (by_sib rex modrm sib (first_byte sib rest y)) p

-- ---- register or memory

pub record IsRm (operand : Rm) : Type 0 where
  pub at : (byte : Bool) → Given (register_or_memory byte operand)

pub register_rm : (reg : Reg) → IsRm (rm.Reg reg)
register_rm reg = record { at = λ byte. given (register_field byte reg) }

memory_rm : (mem : Mem) → IsMem mem → IsRm (rm.Mem mem)
memory_rm mem h = record { at = λ byte. h.at }

pub rm_given : (rex : Option ℕ) (is_byte : Bool) (modrm : ℕ) (operand : Rm) (b : List ℕ) → IsBytes b → RmBytes rex is_byte modrm operand b → IsRm operand
rm_given rex is_byte modrm operand b y w =
    by_where (is_register modrm) _ _ (IsRm operand) (λ p. subst (λ (x : Rm). IsRm x) (sym p.1.0) (register_rm _)) (λ p. subst (λ (x : Rm). IsRm x) (sym p.2) (memory_rm p.0 (memory_given rex modrm p.0 b y p.1))) w

pub memory_operand_given : (rex : Option ℕ) (modrm : ℕ) (mem : Mem) (b : List ℕ) → IsBytes b → MemoryOperandBytes rex modrm mem b → IsMem mem
memory_operand_given rex modrm mem b y w = by_where (is_register modrm) _ _ (IsMem mem) (λ p. absurd p) (λ p. memory_given rex modrm mem b y p) w
