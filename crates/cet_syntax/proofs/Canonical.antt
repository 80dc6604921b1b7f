-- Values without a form.
use Rattle.std.proofs.Common.{◌≡◌, ℕ, false, List, Option, Some, None, refl}
use Rattle.std.specs.Prelude.{is_some}
use Rattle.cet_isa.specs.declared.instruction.Insn.{Insn}
use Rattle.cet_isa.specs.Form.{Form}
use Rattle.cet_isa.specs.Canonical.{canonical}
use Rattle.cet_isa.specs.Law.{CanonicalIsForm}

by_cases : (o : Option (List ℕ)) → ((b : List ℕ) → o ≡ Some b → ⊥) → is_some o ≡ false
by_cases None never = refl
by_cases (Some b) never = absurd (never b refl)

-- a value without a form has no canonical form
pub no_canonical : CanonicalIsForm → (i : Insn) → ((b : List ℕ) → ¬ Form i b) → is_some (canonical i) ≡ false
no_canonical canonical_is_form i none = by_cases (canonical i) (λ b is. none b (canonical_is_form i b is))
