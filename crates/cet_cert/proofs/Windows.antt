-- What is decoded where there is no byte.
use Rattle.std.proofs.Common.{◌≡◌, ℕ, List, [], take, Err, ap, ◌∙◌, arith}
use Rattle.std.proofs.lemmas.List.{take_all}
use Rattle.cet_isa.specs.declared.decode_error.DecodeError.TheVariants.{Short}
use Rattle.cet_isa.specs.Decoded.{instruction_at, decoded}

pub no_code : (bytes : List ℕ) (left : ℕ) → bytes ≡ [] → decoded (take left bytes) ≡ Err Short
unfolding decoded instruction_at
no_code bytes left none = ap (λ (b : List ℕ). decoded (take left b)) none ∙ ap decoded (take_all left [] (omega arith))
