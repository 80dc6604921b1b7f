-- What the parts of a canonical form say when they are read: fields of a byte, bits of REX, registers and numbers.
use Rattle.std.proofs.Common.{◌≡◌, ℕ, zero, suc, ◌*◌, ◌^◌, ◌<◌, Bool, true, false, not, ◌||◌, List, [], length, ℤ, pos, negsuc, Option, Some, None, refl, sym, ap, subst, ◌∙◌, arith, mod-lt, to_z-of_z}
use Rattle.std.specs.Prelude.{if◌then◌else◌, FitsSigned}
use Rattle.std.specs.Int as int
use Rattle.std.specs.Int.{w8, w32, w64, byte_len, byte_at, bytes_low_first, to_le_bytes, from_le_bytes, cast_signed, cast_unsigned}
use Rattle.std.proofs.lemmas.Bool.{ltb-true}
use Rattle.std.proofs.lemmas.Nat.{from_le_bytes-to_le_bytes_4, from_le_bytes-to_le_bytes_8}
use Rattle.std.proofs.lemmas.Option.{cond_some}
use Rattle.cet_isa.specs.declared.register.Reg.{Reg}
use Rattle.cet_isa.specs.declared.register.Reg.TheVariants.{Rax, Rcx, Rdx, Rbx, Rsp, Rbp, Rsi, Rdi, R8, R9, R10, R11, R12, R13, R14, R15}
use Rattle.cet_isa.specs.declared.operand.Width.{Width}
use Rattle.cet_isa.specs.declared.operand.Width.TheVariants.{B1, B4, B8}
use Rattle.cet_isa.specs.Operand.{Unsigned, Signed, number_width, register, is_rex, rex_w, rex_r, rex_x, rex_b, extended, high_field, middle_field, low_field, names_register}
use Rattle.cet_isa.specs.PrefixedMap.{Prefix, takes_rex, rex_bytes, IsRex}
use Rattle.cet_isa.specs.Form.{IsBytes}
use Rattle.cet_isa.specs.Canonical.{fits, signed, unsigned, number, is_extended, needs_rex, Rex, rex_byte, shortest_rex, fields}
use Rattle.cet_isa.proofs.Joins.{nil_bytes, cons_bytes}

-- ---- three fields in a byte

pub fields_high : (high middle low : ℕ) → middle < 8 → low < 8 → high_field (fields high middle low) ≡ high
fields_high high middle low p q = omega arith

pub fields_middle : (high middle low : ℕ) → middle < 8 → low < 8 → middle_field (fields high middle low) ≡ middle
fields_middle high middle low p q = omega arith

pub fields_low : (high middle low : ℕ) → low < 8 → low_field (fields high middle low) ≡ low
fields_low high middle low q = omega arith

pub fields_byte : (high middle low : ℕ) → high < 4 → middle < 8 → low < 8 → fields high middle low < 256
fields_byte high middle low p q r = omega arith

pub low_small : (n : ℕ) → low_field n < 8
low_small n = omega arith

-- ---- registers

pub each_register : (P : Reg → Type 0) → P Rax → P Rcx → P Rdx → P Rbx → P Rsp → P Rbp → P Rsi → P Rdi → P R8 → P R9 → P R10 → P R11 → P R12 → P R13 → P R14 → P R15 → (reg : Reg) → P reg
each_register P a b c d e f g h i j k l m n o p Rax = a
each_register P a b c d e f g h i j k l m n o p Rcx = b
each_register P a b c d e f g h i j k l m n o p Rdx = c
each_register P a b c d e f g h i j k l m n o p Rbx = d
each_register P a b c d e f g h i j k l m n o p Rsp = e
each_register P a b c d e f g h i j k l m n o p Rbp = f
each_register P a b c d e f g h i j k l m n o p Rsi = g
each_register P a b c d e f g h i j k l m n o p Rdi = h
each_register P a b c d e f g h i j k l m n o p R8 = i
each_register P a b c d e f g h i j k l m n o p R9 = j
each_register P a b c d e f g h i j k l m n o p R10 = k
each_register P a b c d e f g h i j k l m n o p R11 = l
each_register P a b c d e f g h i j k l m n o p R12 = m
each_register P a b c d e f g h i j k l m n o p R13 = n
each_register P a b c d e f g h i j k l m n o p R14 = o
each_register P a b c d e f g h i j k l m n o p R15 = p

-- a field and the bit above it name the register
pub number_register : (reg : Reg) → register (extended (is_extended (number reg)) (low_field (number reg))) ≡ reg
number_register = each_register (λ reg. register (extended (is_extended (number reg)) (low_field (number reg))) ≡ reg) refl refl refl refl refl refl refl refl refl refl refl refl refl refl refl refl

-- a register that needs no REX, for its number or for a byte, is named by its field
unextended_named : (reg : Reg) (byte : Bool) → is_extended (number reg) ≡ false → needs_rex byte reg ≡ false → names_register None byte (low_field (number reg)) ≡ true
unextended_named = each_register (λ reg. (byte : Bool) → is_extended (number reg) ≡ false → needs_rex byte reg ≡ false → names_register None byte (low_field (number reg)) ≡ true)
    named named named named four four four four (λ byte p q. absurd cc) (λ byte p q. absurd cc) (λ byte p q. absurd cc) (λ byte p q. absurd cc) (λ byte p q. absurd cc) (λ byte p q. absurd cc) (λ byte p q. absurd cc) (λ byte p q. absurd cc)
  where
    named : (byte : Bool) → false ≡ false → false ≡ false → true ≡ true
    named byte p q = refl

    four : (byte : Bool) → false ≡ false → not (not byte) ≡ false → not byte ≡ true
    four true p q = absurd cc
    four false p q = refl

-- ---- REX

-- the bits that the form asks for are those of its REX byte, or of none
pub record Says (want : Rex) (rex : Option ℕ) : Type 0 where
  pub w : rex_w rex ≡ want.w
  pub r : rex_r rex ≡ want.r
  pub x : rex_x rex ≡ want.x
  pub b : rex_b rex ≡ want.b

record ByteSays (want : Rex) : Type 0 where
  says : Says want (Some (rex_byte want))
  valid : is_rex (rex_byte want) ≡ true
  small : rex_byte want < 256

byte_says : (w r x b n : Bool) → ByteSays (record { w = w; r = r; x = x; b = b; needed = n })
byte_says true true true true n = record { says = record { w = refl; r = refl; x = refl; b = refl }; valid = refl; small = omega arith }
byte_says true true true false n = record { says = record { w = refl; r = refl; x = refl; b = refl }; valid = refl; small = omega arith }
byte_says true true false true n = record { says = record { w = refl; r = refl; x = refl; b = refl }; valid = refl; small = omega arith }
byte_says true true false false n = record { says = record { w = refl; r = refl; x = refl; b = refl }; valid = refl; small = omega arith }
byte_says true false true true n = record { says = record { w = refl; r = refl; x = refl; b = refl }; valid = refl; small = omega arith }
byte_says true false true false n = record { says = record { w = refl; r = refl; x = refl; b = refl }; valid = refl; small = omega arith }
byte_says true false false true n = record { says = record { w = refl; r = refl; x = refl; b = refl }; valid = refl; small = omega arith }
byte_says true false false false n = record { says = record { w = refl; r = refl; x = refl; b = refl }; valid = refl; small = omega arith }
byte_says false true true true n = record { says = record { w = refl; r = refl; x = refl; b = refl }; valid = refl; small = omega arith }
byte_says false true true false n = record { says = record { w = refl; r = refl; x = refl; b = refl }; valid = refl; small = omega arith }
byte_says false true false true n = record { says = record { w = refl; r = refl; x = refl; b = refl }; valid = refl; small = omega arith }
byte_says false true false false n = record { says = record { w = refl; r = refl; x = refl; b = refl }; valid = refl; small = omega arith }
byte_says false false true true n = record { says = record { w = refl; r = refl; x = refl; b = refl }; valid = refl; small = omega arith }
byte_says false false true false n = record { says = record { w = refl; r = refl; x = refl; b = refl }; valid = refl; small = omega arith }
byte_says false false false true n = record { says = record { w = refl; r = refl; x = refl; b = refl }; valid = refl; small = omega arith }
byte_says false false false false n = record { says = record { w = refl; r = refl; x = refl; b = refl }; valid = refl; small = omega arith }

none_set : (w r x b n : Bool) → (w || r || x || b || n) ≡ false → (w ≡ false) × (r ≡ false) × (x ≡ false) × (b ≡ false) × (n ≡ false)
none_set false false false false false e = (refl, refl, refl, refl, refl)
none_set false false false false true e = absurd cc
none_set false false false true n e = absurd cc
none_set false false true b n e = absurd cc
none_set false true x b n e = absurd cc
none_set true r x b n e = absurd cc

-- what holds of the REX that a form asks for
pub record IsRexOf (want : Rex) (rex : Option ℕ) : Type 0 where
  pub says : Says want rex
  pub absent : rex ≡ None → want.needed ≡ false
  pub is_bytes : IsBytes (rex_bytes rex)
  pub valid : (prefix : Prefix) → takes_rex prefix rex ≡ true → IsRex prefix rex

rex_chosen : (want : Rex) (t : Bool) → (t ≡ false → (want.w ≡ false) × (want.r ≡ false) × (want.x ≡ false) × (want.b ≡ false) × (want.needed ≡ false)) → IsRexOf want (if t then Some (rex_byte want) else None)
rex_chosen want true all_false =
    let byte = byte_says want.w want.r want.x want.b want.needed in
    record { says = byte.says; absent = λ e. absurd cc; is_bytes = cons_bytes (rex_byte want) [] byte.small nil_bytes; valid = λ prefix e. (byte.valid, e) }
rex_chosen want false all_false =
    let f = all_false refl in
    record { says = record { w = sym f.0; r = sym f.1; x = sym f.2; b = sym f.3 }; absent = λ e. f.4; is_bytes = nil_bytes; valid = λ prefix e. tt }

pub rex_of : (want : Rex) → IsRexOf want (shortest_rex want)
rex_of want = rex_chosen want _ (none_set want.w want.r want.x want.b want.needed)

-- a register is named, where its high bit is that bit of REX, and REX is there where needed
pub register_named : (rex : Option ℕ) (high : Option ℕ → Bool) (byte : Bool) (reg : Reg) → high None ≡ false → high rex ≡ is_extended (number reg) → (rex ≡ None → needs_rex byte reg ≡ false)
    → names_register rex byte (low_field (number reg)) ≡ true
register_named None high byte reg z e n = unextended_named reg byte (sym e ∙ z) (n refl)
register_named (Some x) high byte reg z e n = refl

-- ---- numbers

byte_small : (i n : ℕ) → byte_at i n < 256
byte_small zero n = mod-lt n (omega arith)
byte_small (suc i) n = mod-lt _ (omega arith)

low_bytes : (i k n : ℕ) → IsBytes (bytes_low_first i k n)
low_bytes i zero n = nil_bytes
low_bytes i (suc k) n = cons_bytes (byte_at i n) (bytes_low_first (suc i) k n) (byte_small i n) (low_bytes (suc i) k n)

pub number_bytes : (w : int.Width) (n : ℕ) → IsBytes (to_le_bytes w n)
number_bytes w n = low_bytes 0 (byte_len w) n

from_le_bytes-to_le_bytes_1 : (n : ℕ) → n < 256 → from_le_bytes w8 (to_le_bytes w8 n) ≡ n
from_le_bytes-to_le_bytes_1 n lt = omega arith

-- the bytes of a number are such bytes, and are that number
pub record IsUnsigned (w : int.Width) (n : ℕ) (b : List ℕ) : Type 0 where
  pub is_bytes : IsBytes b
  pub says : Unsigned w n b

pub record IsSigned (w : int.Width) (z : ℤ) (b : List ℕ) : Type 0 where
  pub is_bytes : IsBytes b
  pub says : Signed w z b

unsigned_given : (w : int.Width) (n : ℕ) (b : List ℕ) → length (to_le_bytes w n) ≡ byte_len w → (n < 2 ^ (8 * byte_len w) → from_le_bytes w (to_le_bytes w n) ≡ n) → unsigned w n ≡ Some b → IsUnsigned w n b
unsigned_given w n b size back e =
    let parts = cond_some _ _ _ e in
    subst (λ (l : List ℕ). IsUnsigned w n l) parts.1 (record { is_bytes = number_bytes w n; says = (size, sym (back (ltb-true _ _ parts.0))) })

pub unsigned_says : (w : Width) (n : ℕ) (b : List ℕ) → unsigned (number_width w) n ≡ Some b → IsUnsigned (number_width w) n b
unsigned_says B1 n b e = unsigned_given w8 n b refl (from_le_bytes-to_le_bytes_1 n) e
unsigned_says B4 n b e = unsigned_given w32 n b refl (from_le_bytes-to_le_bytes_4 n) e
unsigned_says B8 n b e = unsigned_given w64 n b refl (from_le_bytes-to_le_bytes_8 n) e

pub fits_signed8 : (z : ℤ) → fits w8 z ≡ true → FitsSigned w8 z
fits_signed8 (pos n) e = record { sfits = ltb-true _ _ e }
fits_signed8 (negsuc n) e = record { sfits = ltb-true _ _ e }

pub fits_signed32 : (z : ℤ) → fits w32 z ≡ true → FitsSigned w32 z
fits_signed32 (pos n) e = record { sfits = ltb-true _ _ e }
fits_signed32 (negsuc n) e = record { sfits = ltb-true _ _ e }

cast8_small : (z : ℤ) → fits w8 z ≡ true → cast_unsigned w8 z < 256
cast8_small (pos n) e = let lt : n < 128 = ltb-true _ _ e in omega arith
cast8_small (negsuc n) e = omega arith

cast32_small : (z : ℤ) → fits w32 z ≡ true → cast_unsigned w32 z < 2 ^ 32
cast32_small (pos n) e = let lt : n < 2147483648 = ltb-true _ _ e in omega arith
cast32_small (negsuc n) e = omega arith

signed_given : (w : int.Width) (z : ℤ) (b : List ℕ) → ((n : ℕ) → length (to_le_bytes w n) ≡ byte_len w) → (fits w z ≡ true → from_le_bytes w (to_le_bytes w (cast_unsigned w z)) ≡ cast_unsigned w z) → (fits w z ≡ true → FitsSigned w z)
    → signed w z ≡ Some b → IsSigned w z b
signed_given w z b size back within e =
    let parts = cond_some _ _ _ e in
    subst (λ (l : List ℕ). IsSigned w z l) parts.1 (record {
      is_bytes = number_bytes w (cast_unsigned w z);
      says = (size (cast_unsigned w z), sym (to_z-of_z (within parts.0)) ∙ ap (cast_signed w) (sym (back parts.0)));
    })

pub signed8_says : (z : ℤ) (b : List ℕ) → signed w8 z ≡ Some b → IsSigned w8 z b
signed8_says z b e = signed_given w8 z b (λ n. refl) (λ f. from_le_bytes-to_le_bytes_1 _ (cast8_small z f)) (fits_signed8 z) e

pub signed32_says : (z : ℤ) (b : List ℕ) → signed w32 z ≡ Some b → IsSigned w32 z b
signed32_says z b e = signed_given w32 z b (λ n. refl) (λ f. from_le_bytes-to_le_bytes_4 _ (cast32_small z f)) (fits_signed32 z) e
