-- The clauses of `encode`, by the laws of canonical forms.
use Rattle.std.proofs.Common.{◌≡◌, ℕ, List, ◌++◌, length, Option, Some, None, Result, Ok, Err, ◌↔◌, IsErr, IfOk, refl}
use Rattle.std.specs.Option.{ok_or}
use Rattle.cet_isa.specs.declared.instruction.Insn.{Insn}
use Rattle.cet_isa.specs.Form.{Form}
use Rattle.cet_isa.specs.Decoded.{decoded}
use Rattle.cet_isa.specs.Canonical.{canonical}
use Rattle.cet_isa.specs.Law.{FormIsDecoded, CanonicalIsForm, FormHasCanonical}
use Rattle.cet_encode.specs.declared.EncodeError.{EncodeError}

ok_is : (o : Option (List ℕ)) (error : EncodeError) (code : List ℕ) → Ok code ≡ ok_or o error → o ≡ Some code
ok_is None error code e = absurd cc
ok_is (Some x) error code e = cc

err_is : (o : Option (List ℕ)) (error told : EncodeError) → Err told ≡ ok_or o error → o ≡ None
err_is None error told e = cc
err_is (Some x) error told e = absurd cc

pub answer_decoded : CanonicalIsForm → FormIsDecoded → (i : Insn) (error : EncodeError) (r : Result (List ℕ) EncodeError) → r ≡ ok_or (canonical i) error
    → IfOk r (λ code. (more : List ℕ) → decoded (code ++ more) ≡ Ok (i, length code))
answer_decoded is_form is_decoded i error (Ok code) e = λ more. is_decoded i code more (is_form i code (ok_is (canonical i) error code e))
answer_decoded is_form is_decoded i error (Err told) e = tt

pub answer_none : CanonicalIsForm → FormHasCanonical → (i : Insn) (error : EncodeError) (r : Result (List ℕ) EncodeError) → r ≡ ok_or (canonical i) error
    → IsErr r ↔ ((b : List ℕ) → ¬ Form i b)
answer_none is_form has_canonical i error (Ok code) e = ((λ err. absurd cc), (λ none. absurd (none code (is_form i code (ok_is (canonical i) error code e)))))
answer_none is_form has_canonical i error (Err told) e = ((λ err b form. no_canonical (has_canonical i b form) (err_is (canonical i) error told e)), (λ none. refl))
  where
    no_canonical : (c : List ℕ) × (canonical i ≡ Some c) → canonical i ≡ None → ⊥
    no_canonical c none = let some = c.1 in cc
