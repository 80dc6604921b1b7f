-- The parts of a text, one after another.
use Rattle.std.proofs.Common.{◌≡◌, ℕ, ◌+◌, ◌-◌, ◌<◌, ◌≤◌, ◌==◌, List, [], ◌∷◌, length, take, drop, get_or, sym, ap, ◌∙◌, arith, length-drop}
use Rattle.std.specs.List.{position_or_len, slice_split}
use Rattle.std.proofs.lemmas.Bool.{eq-eqb, ne_eqb}
use Rattle.std.proofs.lemmas.List.{take_all}
use Rattle.std.proofs.lemmas.List.Splits.{slice_split_first, slice_split_none}
use Rattle.std.proofs.lemmas.List.Sums.{position_or_len_is, fails_before_first}
use Rattle.cet_schedule.specs.Fields.{parts}

-- no byte before place i is like this
abbrev pub IsBefore : ℕ → List ℕ → ℕ → Type 0
IsBefore byte cs i = (k : ℕ) → k < i → get_or cs k 0 ≡ byte → ⊥

place_is : (byte : ℕ) (cs : List ℕ) (i : ℕ) → i ≤ length cs → IsBefore byte cs i → (i < length cs → get_or cs i 0 ≡ byte) → position_or_len (λ c. c == byte) cs ≡ i
place_is byte cs i within none here =
    position_or_len_is (λ c. c == byte) cs i 0 within (λ k below. ne_eqb (get_or cs k 0) byte (none k below)) (λ inside. eq-eqb (get_or cs i 0) byte (here inside))

-- the first part ends before the first byte like this
pub parts_first : (byte : ℕ) (cs : List ℕ) (i : ℕ) → i < length cs → IsBefore byte cs i → get_or cs i 0 ≡ byte → parts byte cs ≡ take i cs ∷ parts byte (drop (i + 1) cs)
unfolding parts
parts_first byte cs i inside none here =
    let place = place_is byte cs i (omega arith) none (λ _. here) in
    slice_split_first (λ c. c == byte) cs 0 (omega (arith, place)) ∙ ap (λ (n : ℕ). take n cs ∷ slice_split (λ c. c == byte) (drop (n + 1) cs)) place

-- where there is none, all of it is one part
pub parts_none : (byte : ℕ) (cs : List ℕ) (i : ℕ) → i ≡ length cs → IsBefore byte cs i → parts byte cs ≡ cs ∷ []
unfolding parts
parts_none byte cs i end none =
    let place = place_is byte cs i (omega arith) none (λ inside. absurd (omega arith)) in
    slice_split_none (λ c. c == byte) cs (λ k d below. fails_before_first (λ c. c == byte) cs k d (omega (arith, place)))

-- the same, where what is behind it is cut to its length
pub parts_cut : (byte : ℕ) (cs : List ℕ) (i : ℕ) → i < length cs → IsBefore byte cs i → get_or cs i 0 ≡ byte
    → parts byte cs ≡ take i cs ∷ parts byte (take (length cs - (i + 1)) (drop (i + 1) cs))
parts_cut byte cs i inside none here =
    parts_first byte cs i inside none here
    ∙ ap (λ (rest : List ℕ). take i cs ∷ parts byte rest) (sym (take_all (length cs - (i + 1)) (drop (i + 1) cs) (omega (arith, length-drop (i + 1) cs))))
