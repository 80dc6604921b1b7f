-- The parts of a text, one after another.
use Rattle.std.proofs.Common.{◌≡◌, ℕ, suc, ◌+◌, ◌<◌, ◌≤◌, not, cond, eqb, ◌==◌, List, [], ◌∷◌, length, take, drop, Option, Some, None, refl, sym, ap, ◌∙◌, ⊎_elim, inl, inr, ◌⊎◌, arith}
use Rattle.std.specs.List.{position_or_len, after_first, slice_split}
use Rattle.std.proofs.lemmas.List.{length-take, take_all}
use Rattle.std.proofs.lemmas.List.Splits.{slice_split_first, slice_split_none}
use Rattle.std.proofs.lemmas.List.Sums.{fails_before_first, prefix_len-le-length}
use Rattle.std.proofs.lemmas.Bool.Decides.{eqb_tells}
use Rattle.cet_syntax.specs.Pieces.{before, behind}
use Rattle.cet_syntax.specs.Lines.{parts}
use Rattle.cet_syntax.proofs.Labels.{behind_shorter}

-- the parts that are left, where something is
abbrev pub parts_left : ℕ → Option (List ℕ) → List (List ℕ)
parts_left byte None = []
parts_left byte (Some text) = parts byte text

-- how much is left
abbrev pub left : Option (List ℕ) → ℕ
left None = 0
left (Some text) = suc (length text)

place : ℕ → List ℕ → ℕ
place byte cs = position_or_len (λ c. c == byte) cs

within : (byte : ℕ) (cs : List ℕ) → position_or_len (λ c. c == byte) cs ≤ length cs
within byte cs = prefix_len-le-length (λ c. not (c == byte)) cs

size_is : (byte : ℕ) (cs : List ℕ) → length (before byte cs) ≡ position_or_len (λ c. c == byte) cs
size_is byte cs = let w = within byte cs in omega (arith, length-take (position_or_len (λ c. c == byte) cs) cs, w)

behind-some : (byte : ℕ) (cs : List ℕ) → position_or_len (λ c. c == byte) cs < length cs → behind byte cs ≡ Some (after_first (λ c. c == byte) cs)
behind-some byte cs less = by_size (length (before byte cs)) (size_is byte cs) where
  by_size : (n : ℕ) → n ≡ position_or_len (λ c. c == byte) cs → cond (eqb n (length cs)) None (Some (drop (n + 1) cs)) ≡ Some (drop (position_or_len (λ c. c == byte) cs + 1) cs)
  by_size n same = ⊎_elim (λ t. absurd (omega (arith, t.1))) (λ t. rw (t.0, same) refl) (eqb_tells n (length cs))

behind-none : (byte : ℕ) (cs : List ℕ) → position_or_len (λ c. c == byte) cs ≡ length cs → behind byte cs ≡ None
behind-none byte cs whole = by_size (length (before byte cs)) (size_is byte cs) where
  by_size : (n : ℕ) → n ≡ position_or_len (λ c. c == byte) cs → cond (eqb n (length cs)) None (Some (drop (n + 1) cs)) ≡ None
  by_size n same = ⊎_elim (λ t. rw (t.0) refl) (λ t. absurd (t.1 (same ∙ whole))) (eqb_tells n (length cs))

by_place : (byte : ℕ) (cs : List ℕ) → (position_or_len (λ c. c == byte) cs < length cs) ⊎ (position_or_len (λ c. c == byte) cs ≡ length cs) → slice_split (λ c. c == byte) cs ≡ before byte cs ∷ parts_left byte (behind byte cs)
unfolding parts
by_place byte cs (inl less) = slice_split_first (λ c. c == byte) cs 0 less ∙ ap (λ (o : Option (List ℕ)). before byte cs ∷ parts_left byte o) (sym (behind-some byte cs less))
by_place byte cs (inr whole) =
    let all : before byte cs ≡ cs = ap (λ (n : ℕ). take n cs) whole ∙ take_all (length cs) cs (omega arith) in
    slice_split_none (λ c. c == byte) cs (λ k d below. fails_before_first (λ c. c == byte) cs k d (omega arith))
    ∙ ap (λ (first : List ℕ). first ∷ []) (sym all) ∙ ap (λ (o : Option (List ℕ)). before byte cs ∷ parts_left byte o) (sym (behind-none byte cs whole))

split : (m n : ℕ) → m ≤ n → (m < n) ⊎ (m ≡ n)
split m n le = ⊎_elim (λ t. inr t.1) (λ t. inl (let apart = t.1 in omega arith)) (eqb_tells m n)

-- the first part, and those behind it
pub parts-step : (byte : ℕ) (cs : List ℕ) → parts byte cs ≡ before byte cs ∷ parts_left byte (behind byte cs)
unfolding parts
parts-step byte cs = by_place byte cs (split _ _ (within byte cs))

-- less is left behind a part
pub left-behind : (byte : ℕ) (cs : List ℕ) (o : Option (List ℕ)) → o ≡ behind byte cs → left o < left (Some cs)
left-behind byte cs None is = omega arith
left-behind byte cs (Some rest) is = let less : length rest < length cs = behind_shorter byte cs rest (sym is) in omega arith
