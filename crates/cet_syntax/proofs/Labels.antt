-- Labels at the head of a piece.
use Rattle.std.proofs.Common.{◌≡◌, ℕ, zero, suc, ◌+◌, ◌<◌, ◌≤◌, Bool, true, false, cond, eqb, ◌==◌, List, ◌∷◌, length, drop, Option, Some, None, refl, ap, arith, length-drop}
use Rattle.std.specs.Option.{option_map_or, option_map, option_zip}
use Rattle.std.specs.List.{prefix_len, position_or_len}
use Rattle.std.proofs.lemmas.Bool.Decides.{nat_tests}
use Rattle.std.proofs.lemmas.List.{length-take}
use Rattle.cet_syntax.specs.declared.lines.Item.{Item}
use Rattle.cet_syntax.specs.declared.lines.Item.TheVariants.{Label}
use Rattle.cet_syntax.specs.Name.{name_of}
use Rattle.cet_syntax.specs.Pieces.{before, behind, trimmed_front, is_space}
use Rattle.cet_syntax.specs.Lines.{Labelled, label_at, items_within, unlabelled}

front_shorter : (cs : List ℕ) → length (trimmed_front cs) ≤ length cs
front_shorter cs = omega (arith, length-drop (prefix_len is_space cs) cs)

by_test : (b : Bool) (size : ℕ) (cs rest : List ℕ) → (b ≡ false → size < length cs) → cond b None (Some (drop (size + 1) cs)) ≡ Some rest → length rest < length cs
by_test true size cs rest below is = absurd cc
by_test false size cs rest below is =
    let same : drop (size + 1) cs ≡ rest = cc in
    let less : size < length cs = below refl in
    rw (← same) (omega (arith, length-drop (size + 1) cs))

apart : (m n : ℕ) → m ≤ n → eqb m n ≡ false → m < n
apart m n le differ = grind (arith, nat_tests)

before_shorter : (byte : ℕ) (cs : List ℕ) → length (before byte cs) ≤ length cs
before_shorter byte cs = omega (arith, length-take (position_or_len (λ c. c == byte) cs) cs)

pub behind_shorter : (byte : ℕ) (cs rest : List ℕ) → behind byte cs ≡ Some rest → length rest < length cs
behind_shorter byte cs rest is = by_test (eqb (length (before byte cs)) (length cs)) (length (before byte cs)) cs rest (apart _ _ (before_shorter byte cs)) is

from_parts : (name : Option (List ℕ)) (o : Option (List ℕ)) (cs : List ℕ) (l : Labelled) → ((rest : List ℕ) → o ≡ Some rest → length rest < length cs)
    → option_map (λ parts. record { name = parts.0; rest = trimmed_front parts.1 }) (option_zip name o) ≡ Some l → length l.rest < length cs
from_parts None o cs l shorter is = absurd cc
from_parts (Some n) None cs l shorter is = absurd cc
from_parts (Some n) (Some rest) cs l shorter is =
    let same : trimmed_front rest ≡ l.rest = cc in
    let less : length rest < length cs = shorter rest refl in
    rw (← same) (omega (arith, front_shorter rest))

-- what stands behind a label is shorter than the whole
pub shrinks : (cs : List ℕ) (l : Labelled) → label_at cs ≡ Some l → length l.rest < length cs
shrinks cs l is = from_parts (name_of (before 58 cs)) (behind 58 cs) cs l (behind_shorter 58 cs) is

-- with enough of them, the count of labels does not matter
step : (m n : ℕ) (cs : List ℕ) (o : Option Labelled) → ((l : Labelled) → o ≡ Some l → length l.rest < length cs) → ((rest : List ℕ) → length rest < length cs → items_within m rest ≡ items_within n rest)
    → option_map_or (λ l. Label l.name ∷ items_within m l.rest) o (unlabelled cs) ≡ option_map_or (λ l. Label l.name ∷ items_within n l.rest) o (unlabelled cs)
step m n cs None shorter same = refl
step m n cs (Some l) shorter same = ap (λ (items : List Item). Label l.name ∷ items) (same l.rest (shorter l refl))

pub enough : (m n : ℕ) (cs : List ℕ) → length cs < m → length cs < n → items_within m cs ≡ items_within n cs
enough zero n cs a b = absurd (omega arith)
enough (suc m) zero cs a b = absurd (omega arith)
enough (suc m) (suc n) cs a b = step m n cs (label_at cs) (shrinks cs) (λ rest less. enough m n rest (omega arith) (omega arith))
