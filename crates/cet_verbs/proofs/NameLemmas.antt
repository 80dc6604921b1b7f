-- The texts behind references.
use Rattle.std.proofs.Common.{◌≡◌, ℕ, ◌<◌, List, length, get_or, Bor}
use Rattle.std.proofs.lemmas.List.{get_or-map, length-map}
use Rattle.cet_verbs.specs.Named.{names_of}

-- the text of the name at a place
pub name_at : (names : List (Bor (List ℕ))) (i : ℕ) (name : Bor (List ℕ)) (d : List ℕ) → i < length names → get_or (names_of names) i d ≡ (get_or names i name).now
name_at names i name d below = get_or-map (λ (n : Bor (List ℕ)). n.now) names i name d below

pub length-names_of : (names : List (Bor (List ℕ))) → length (names_of names) ≡ length names
length-names_of names = length-map names (λ (n : Bor (List ℕ)). n.now)
