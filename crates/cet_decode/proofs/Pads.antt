-- One step of the reader behind 66, whatever count is left.
use Rattle.std.proofs.Common.{◌≡◌, ℕ, zero, suc, ◌+◌, ◌-◌, Bool, true, false, eqb, List, [], ◌∷◌, Err, refl, arith, ap}
use Rattle.std.specs.Prelude.{if◌then◌else◌, ◌==◌}
use Rattle.std.proofs.lemmas.Bool.Decides.{nat_tests}
use Rattle.cet_isa.specs.declared.decode_error.DecodeError.TheVariants.{Outside}
use Rattle.cet_isa.specs.Reader.{◌>>=◌, byte_at}
use Rattle.cet_isa.specs.Decoded.{after_pads, behind_pads}

not_zero : (n : ℕ) → (suc n == 0) ≡ false
not_zero n = grind (arith, nat_tests)

pub pads_step : (left n : ℕ) (bytes : List ℕ) → after_pads left n bytes ≡ (byte_at bytes >>= λ first.
    if first.0 == 0x66 then (if left == 0 then Err Outside else after_pads (left - 1) (n + 1) first.1) else behind_pads n first.0 first.1)
unfolding after_pads
pads_step zero n bytes = refl
pads_step (suc left) n bytes = let e : suc left - 1 ≡ left = omega arith in let f : n + 1 ≡ suc n = omega arith in let z = not_zero left in rw (e, f, z) refl
