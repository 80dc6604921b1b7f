-- The product of two operands in two's complement fits 128 bits.
use Rattle.std.proofs.Common.{◌≡◌, ℕ, ◌^◌, ℤ, ◌*ℤ◌, arith, FitsSigned, lit<}
use Rattle.std.proofs.lemmas.Int.{ints, to_z-of_z, fits_signed_mul}
use Rattle.std.specs.Prelude.{true}
use Rattle.std.specs.Int.{w64, w128, cast_signed, cast_unsigned}
use Rattle.std.specs.Int.Signed.{nat_abs-le}
use Rattle.cet_isa.specs.declared.operand.Width.{Width}
use Rattle.cet_machine.specs.Arithmetic.{signed_of}
use Rattle.cet_machine.specs.Products.{product}

-- as machine words pass the numbers on
abbrev passed : ℤ → ℤ
passed z = cast_signed w128 (cast_unsigned w128 z)

wide : (a : ℤ) → FitsSigned w64 a → FitsSigned w128 a
wide a f = omega (arith, ints)

product_fits : (a b : ℤ) → FitsSigned w64 a → FitsSigned w64 b → FitsSigned w128 (a *ℤ b)
product_fits a b f g = fits_signed_mul w128 a b (2 ^ 63) (2 ^ 63) (nat_abs-le a f.sfits) (nat_abs-le b g.sfits) (lit< tt)

pub product_passed : (w : Width) (x y : ℕ) (a b : ℤ) → a ≡ signed_of w x → b ≡ signed_of w y → FitsSigned w64 a → FitsSigned w64 b → passed (passed a *ℤ passed b) ≡ product true w x y
product_passed w x y a b e d f g =
    rw (to_z-of_z w128 a (wide a f), to_z-of_z w128 b (wide b g), to_z-of_z w128 (a *ℤ b) (product_fits a b f g), e, d)
