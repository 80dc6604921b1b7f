-- Quotients of whole numbers with a sign.
use Rattle.std.proofs.Common.{◌≡◌, ℕ, true, false, ℤ, pos, negsuc, arith, Some, sym, ap, ◌∙◌, FitsSigned}
use Rattle.std.proofs.lemmas.Bool.Decides.{nat_tests}
use Rattle.std.proofs.lemmas.Int.{to_z-of_z, rem_is}
use Rattle.std.specs.Prelude.{◌==◌, int_div, int_rem, unsigned_abs}
use Rattle.std.specs.Int.{w128, IsNonZero, CanDivide, cast_signed, cast_unsigned}
use Rattle.cet_isa.specs.declared.operand.Width.{Width}
use Rattle.cet_machine.specs.Arithmetic.{bits, low_bits, fits_signed}
use Rattle.cet_machine.specs.Products.{quotient}

not_zero : (d : ℤ) → IsNonZero w128 d → (unsigned_abs d == 0) ≡ false
not_zero (pos n) h = grind (arith, nat_tests)
not_zero (negsuc n) h = grind (arith, nat_tests)

pub signed_quotient_is : (w : Width) (z d q : ℤ) (low rest : ℕ) → IsNonZero w128 d → q ≡ int_div z d → fits_signed w q ≡ true → low ≡ low_bits (bits w) q → rest ≡ low_bits (bits w) (int_rem z d) → Some (low, rest) ≡ quotient true w z d
signed_quotient_is w z d q low rest some e fits a b = rw (not_zero d some, ← e, fits, a, b)

-- the same, as machine words pass the numbers on
abbrev passed : ℤ → ℤ
passed z = cast_signed w128 (cast_unsigned w128 z)

pub signed_quotient_passed : (w : Width) (z d q : ℤ) (low rest : ℕ) → FitsSigned w128 z → FitsSigned w128 d → CanDivide w128 (passed z) (passed d) × (q ≡ int_div (passed z) (passed d)) → true ≡ fits_signed w (passed q) → low ≡ low_bits (bits w) (passed q) → rest ≡ low_bits (bits w) (passed (int_rem (passed z) (passed d))) → Some (low, rest) ≡ quotient true w z d
signed_quotient_passed w z d q low rest fz fd h t a b =
    let k = rw (to_z-of_z w128 z fz, to_z-of_z w128 d fd) at h in
    let fq : FitsSigned w128 q = rw k.1 (k.0.1) in
    signed_quotient_is w z d q low rest k.0.0 k.1 (sym (rw (to_z-of_z w128 q fq) at t)) (rw (to_z-of_z w128 q fq) at a) (b ∙ ap (low_bits (bits w)) (rem_is w128 z d fz fd))
