-- The clauses of `decode`, for an answer that is `decoded`.
use Rattle.std.proofs.Common.{◌≡◌, ℕ, ◌<◌, ◌≤◌, ◌-◌, List, [], ◌∷◌, Ok, Err, ◌↔◌, IfOk, IsErrOf, Fits, refl, sym, ap, ◌∙◌, arith, length, get_or, take, drop, w8}
use Rattle.std.proofs.Math.Seq.{take-length}
use Rattle.std.proofs.lemmas.List.Elements.{All-from_get_or}
use Rattle.cet_isa.specs.declared.instruction.Insn.{Insn}
use Rattle.cet_isa.specs.declared.decode_error.DecodeError.TheVariants.{Short, Outside}
use Rattle.cet_isa.specs.Decoded.{Decoding, decoded}
use Rattle.cet_isa.specs.Law.{IsBytes, Begins, IsProperPrefix, IsNoForm}
use Rattle.cet_isa.proofs.Laws.{decoded_is_form, short_is_proper_prefix}
use Rattle.cet_isa.proofs.Heads.{begins_decoded, prefix_short, none_outside, outside_none}

-- what a slice of bytes holds
pub bytes_of_slice : (b : List ℕ) → ((i : ℕ) → Fits w8 (get_or b i 0)) → IsBytes b
bytes_of_slice b fits = All-from_get_or (λ x. x < 256) b 0 (λ i _. omega (arith, fits i))

pub answer_found : (b : List ℕ) (r : Decoding) → IsBytes b → r ≡ decoded b → IfOk r (λ x. Begins b x.0 x.1)
answer_found b (Ok x) bytes e = decoded_is_form b x.0 x.1 bytes (sym e)
answer_found b (Err x) bytes e = tt

pub answer_only : (b : List ℕ) (r : Decoding) → r ≡ decoded b → (i : Insn) (n : ℕ) → Begins b i n → r ≡ Ok (i, n)
answer_only b r e i n begins = e ∙ begins_decoded b i n begins

pub answer_short : (b : List ℕ) (r : Decoding) → IsBytes b → r ≡ decoded b → IsErrOf r Short ↔ IsProperPrefix b
answer_short b r bytes e = ((λ short. short_is_proper_prefix b bytes (sym e ∙ short)), (λ prefix. e ∙ prefix_short b bytes prefix))

pub answer_outside : (b : List ℕ) (r : Decoding) → IsBytes b → r ≡ decoded b → IsErrOf r Outside ↔ IsNoForm b
answer_outside b r bytes e = ((λ outside. outside_none b (sym e ∙ outside)), (λ none. e ∙ none_outside b bytes none))
