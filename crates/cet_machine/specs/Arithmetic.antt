-- Arithmetic on operands of 8, 32 or 64 bits, and the status flags (SDM volume 1, 3.4.3.1, and in volume 2 the page of each instruction).
-- An operation has an exact whole number as its value. The result is what is left of it in the operand's bits, and the flags say whether
-- the whole of it fits there.
use Rattle.std.specs.Prelude.{ℕ, ◌+◌, ◌-◌, ◌*◌, ◌^◌, Bool, false, not, ◌&&◌, ◌||◌, ◌==◌, ℤ, pos, ◌+ℤ◌, ◌-ℤ◌, neg_ℤ, unsigned_abs, int_lt, int_le, bit_and, bit_or, bit_xor}
use Rattle.std.specs.Bool.{beq}
use Rattle.std.specs.Int.{bit_at, cast_signed, from_bool, int_rem_euclid}
use Rattle.cet_isa.specs.declared.operand.Width.{Width}
use Rattle.cet_isa.specs.declared.operand.Width.TheVariants.{B1, B4, B8}
use Rattle.cet_isa.specs.declared.operation.AluOp.{AluOp}
use Rattle.cet_isa.specs.declared.operation.AluOp.TheVariants.{Add, Or, Adc, Sbb, And, Sub, Xor, Cmp}
use Rattle.cet_isa.specs.declared.operation.UnOp.{UnOp}
use Rattle.cet_isa.specs.declared.operation.UnOp.TheVariants.{Inc, Dec, Not, Neg}
use Rattle.cet_isa.specs.declared.operation.Cond.{Cond}
use Rattle.cet_isa.specs.declared.operation.Cond.TheVariants.{O, No, B, Ae, E, Ne, Be, A, S, Ns, L, Ge, Le, G}
use Rattle.cet_isa.specs.declared.registers.Flags.{Flags}
use Rattle.cet_isa.specs.Operand.{number_width}

-- ---- operands

abbrev pub bytes_of : Width → ℕ
bytes_of B1 = 1
bytes_of B4 = 4
bytes_of B8 = 8

abbrev pub bits : Width → ℕ
bits B1 = 8
bits B4 = 32
bits B8 = 64

-- bit k of n is 1
abbrev pub bit : ℕ → ℕ → Bool
bit n k = bit_at n k == 1

-- one of the two is set, and the other is not
abbrev pub differ : Bool → Bool → Bool
differ a b = not (beq a b)

-- the sign
abbrev pub top_bit : Width → ℕ → Bool
top_bit w n = bit n (bits w - 1)

-- in two's complement
abbrev pub signed_of : Width → ℕ → ℤ
signed_of w n = cast_signed (number_width w) n

-- ---- exact values

-- what is left of z in k bits: z modulo 2^k, from 0 to 2^k - 1
abbrev pub low_bits : ℕ → ℤ → ℕ
low_bits k z = unsigned_abs (int_rem_euclid z (pos (2 ^ k)))

-- 0 to 2^k - 1 for k bits
abbrev pub fits_unsigned : Width → ℤ → Bool
fits_unsigned w z = int_le (pos 0) z && int_lt z (pos (2 ^ bits w))

-- -2^(k-1) to 2^(k-1) - 1 for k bits
abbrev pub fits_signed : Width → ℤ → Bool
fits_signed w z = int_le (neg_ℤ (pos (2 ^ (bits w - 1)))) z && int_lt z (pos (2 ^ (bits w - 1)))

-- ---- flags

-- what an operation leaves undefined: the bits of a number that the run chooses
abbrev pub free_flags : ℕ → Flags
free_flags n = record { cf = bit n 0; zf = bit n 1; sf = bit n 2; of = bit n 3 }

-- the four flags in EFLAGS, whose bit 1 is always 1 (SDM volume 1, figure 3-8)
abbrev pub flags_word : Flags → ℕ
flags_word f = from_bool f.cf + 2 ^ 1 + from_bool f.zf * 2 ^ 6 + from_bool f.sf * 2 ^ 7 + from_bool f.of * 2 ^ 11

abbrev pub flags_of_word : ℕ → Flags
flags_of_word n = record { cf = bit n 0; zf = bit n 6; sf = bit n 7; of = bit n 11 }

-- SDM volume 1, appendix B
abbrev pub holds : Cond → Flags → Bool
holds O f = f.of
holds No f = not f.of
holds B f = f.cf
holds Ae f = not f.cf
holds E f = f.zf
holds Ne f = not f.zf
holds Be f = f.cf || f.zf
holds A f = not (f.cf || f.zf)
holds S f = f.sf
holds Ns f = not f.sf
holds L f = differ f.sf f.of
holds Ge f = not (differ f.sf f.of)
holds Le f = f.zf || differ f.sf f.of
holds G f = not (f.zf || differ f.sf f.of)

-- ---- operations

-- Sums and differences: the result and the flags for the exact whole number of the operands read as unsigned numbers, and for that of the
-- operands read as signed ones. CF says that the first does not fit, OF that the second does not.
abbrev pub outcome : Width → ℤ → ℤ → ℕ × Flags
outcome w unsigned signed =
    let result = low_bits (bits w) unsigned in (
      result,
      record {
        cf = not (fits_unsigned w unsigned);
        zf = result == 0;
        sf = top_bit w result;
        of = not (fits_signed w signed);
      },
    )

-- the same, where `exact` makes the whole number of what the operands are read as
abbrev pub arithmetic : Width → ((ℕ → ℤ) → ℤ) → ℕ × Flags
arithmetic w exact = outcome w (exact (λ n. pos n)) (exact (signed_of w))

abbrev pub logical : Width → ℕ → ℕ × Flags
logical w result = (result, record { cf = false; zf = result == 0; sf = top_bit w result; of = false })

-- the same with CF as before
abbrev pub with_carry : Bool → ℕ × Flags → ℕ × Flags
with_carry cf r = (r.0, record (r.1) { cf = cf })

-- The result and the flags, where `old` are the flags before. CMP answers the difference, which no instruction writes.
unfoldable pub alu : AluOp → Width → ℕ → ℕ → Flags → ℕ × Flags
alu Add w x y old = arithmetic w (λ value. value x +ℤ value y)
alu Or w x y old = logical w (bit_or x y)
alu Adc w x y old = arithmetic w (λ value. value x +ℤ value y +ℤ pos (from_bool old.cf))
alu Sbb w x y old = arithmetic w (λ value. value x -ℤ value y -ℤ pos (from_bool old.cf))
alu And w x y old = logical w (bit_and x y)
alu Sub w x y old = arithmetic w (λ value. value x -ℤ value y)
alu Xor w x y old = logical w (bit_xor x y)
alu Cmp w x y old = arithmetic w (λ value. value x -ℤ value y)

unfoldable pub unary : UnOp → Width → ℕ → Flags → ℕ × Flags
unary Inc w x old = with_carry old.cf (arithmetic w (λ value. value x +ℤ pos 1))
unary Dec w x old = with_carry old.cf (arithmetic w (λ value. value x -ℤ pos 1))
unary Not w x old = (2 ^ bits w - 1 - x, old)
unary Neg w x old = arithmetic w (λ value. neg_ℤ (value x))
