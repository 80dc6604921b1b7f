-- Products and quotients (SDM volume 2, "MUL", "IMUL", "DIV", "IDIV"). `free` has the flags that are left undefined.
use Rattle.std.specs.Prelude.{ℕ, ◌+◌, ◌*◌, ◌/◌, ◌^◌, Bool, true, not, ◌||◌, ◌==◌, if◌then◌else◌, ℤ, pos, ◌*ℤ◌, unsigned_abs, int_div, int_rem, Option, Some, None}
use Rattle.std.specs.Int as int
use Rattle.std.specs.Int.{w16, w64, w128, cast_signed}
use Rattle.cet_isa.specs.declared.operand.Width.{Width}
use Rattle.cet_isa.specs.declared.operand.Width.TheVariants.{B1, B4, B8}
use Rattle.cet_isa.specs.declared.registers.Flags.{Flags}
use Rattle.cet_machine.specs.Arithmetic.{bits, signed_of, low_bits, fits_unsigned, fits_signed, free_flags}

-- an operand's value, signed or unsigned
abbrev pub value_of : Bool → Width → ℕ → ℤ
value_of signed w n = if signed then signed_of w n else pos n

-- the same for numbers of twice the operand's bits
abbrev pub double_width : Width → int.Width
double_width B1 = w16
double_width B4 = w64
double_width B8 = w128

abbrev pub double_value_of : Bool → Width → ℕ → ℤ
double_value_of signed w n = if signed then cast_signed (double_width w) n else pos n

abbrev pub fits : Bool → Width → ℤ → Bool
fits signed w z = if signed then fits_signed w z else fits_unsigned w z

-- ---- products

abbrev pub product : Bool → Width → ℕ → ℕ → ℤ
product signed w x y = value_of signed w x *ℤ value_of signed w y

-- CF and OF say that the product does not fit its low half; ZF and SF are undefined
abbrev pub product_flags : Bool → ℕ → Flags
product_flags over free = record (free_flags free) { cf = over; of = over }

-- IMUL with two or three operands: the low half
unfoldable pub imul : Width → ℕ → ℕ → ℕ → ℕ × Flags
imul w x y free =
    let exact = product true w x y in (low_bits (bits w) exact, product_flags (not (fits true w exact)) free)

-- MUL, and IMUL with one operand: the low half, the high half
unfoldable pub mul : Bool → Width → ℕ → ℕ → ℕ → ℕ × ℕ × Flags
mul signed w x y free =
    let exact = product signed w x y in
    (low_bits (bits w) exact, low_bits (2 * bits w) exact / 2 ^ bits w, product_flags (not (fits signed w exact)) free)

-- ---- quotients

-- the quotient of whole numbers, rounded toward 0, and the remainder; `None`, a divide error, just where the divisor is 0 or the quotient
-- does not fit
abbrev pub quotient : Bool → Width → ℤ → ℤ → Option (ℕ × ℕ)
quotient signed w dividend divisor =
    if (unsigned_abs divisor == 0) || not (fits signed w (int_div dividend divisor)) then None else
    Some (low_bits (bits w) (int_div dividend divisor), low_bits (bits w) (int_rem dividend divisor))

-- DIV and IDIV: the dividend has the bits of `high`, and below them those of `low`
unfoldable pub div : Bool → Width → ℕ → ℕ → ℕ → Option (ℕ × ℕ)
div signed w high low by = quotient signed w (double_value_of signed w (high * 2 ^ bits w + low)) (value_of signed w by)
