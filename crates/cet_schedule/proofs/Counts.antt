-- How many fields there are.
use Rattle.std.proofs.Common.{◌≡◌, ℕ, ◌<◌, ◌==◌, List, [], ◌∷◌, length, Some, None, refl, ap, ◌∙◌, arith}
use Rattle.std.proofs.lemmas.List.Splits.{length-slice_split}
use Rattle.cet_schedule.specs.Fields.{parts, two_of, three_of}

-- there is one part at least
pub some_parts : (byte : ℕ) (cs : List ℕ) → 0 < length (parts byte cs)
unfolding parts
some_parts byte cs = omega (arith, length-slice_split (λ c. c == byte) cs)

others_make_three : (a b : List ℕ) (others : List (List ℕ)) → 0 < length others → two_of (a ∷ b ∷ others) ≡ None
others_make_three a b [] some = absurd (omega arith)
others_make_three a b (c ∷ others) some = refl

pub three_are_not_two : (fields : List (List ℕ)) (a b : List ℕ) (byte : ℕ) (second rest : List ℕ) → fields ≡ a ∷ parts byte second → parts byte second ≡ b ∷ parts byte rest → two_of fields ≡ None
three_are_not_two fields a b byte second rest e f =
    ap two_of (e ∙ ap (λ (others : List (List ℕ)). a ∷ others) f) ∙ others_make_three a b (parts byte rest) (some_parts byte rest)

pub three : (a b c : List ℕ) (others : List (List ℕ)) → two_of others ≡ Some (b, c) → three_of (a ∷ others) ≡ Some (a, b, c)
three a b c [] is = absurd cc
three a b c (x ∷ []) is = absurd cc
three a b c (x ∷ y ∷ []) is = let same : (x, y) ≡ (b, c) = cc in ap (λ (p : List ℕ × List ℕ). Some (a, p.0, p.1)) same
three a b c (x ∷ y ∷ z ∷ others) is = absurd cc
