-- The bytes of the parts of a site, from a part on.
use Rattle.std.proofs.Common.{◌≡◌, ℕ, ◌+◌, ◌<◌, ◌≤◌, List, [], ◌++◌, ◌∷◌, length, drop, get_or, ap, sym, ◌∙◌, append_assoc}
use Rattle.std.proofs.lemmas.List.{at_drop_more, at_drop_all, append-nil}
use Rattle.cet_asm.specs.declared.part.Part.{Part}
use Rattle.cet_asm.specs.declared.placed.Spot.{Spot}
use Rattle.cet_asm.specs.Emitted.{part_size, part_emitted, parts_emitted}

pub parts_more : (parts : List Part) (spot : Spot) (place i size : ℕ) (part : Part) (old new start : List ℕ) → i < length parts → part ≡ get_or parts i part → size ≡ part_size part
    → new ≡ old ++ (part_emitted parts spot place part).bytes → old ++ (parts_emitted parts spot place (drop i parts)).bytes ≡ start
    → new ++ (parts_emitted parts spot (place + size) (drop (i + 1) parts)).bytes ≡ start
parts_more parts spot place i size part old new start lt is count more before =
    let rest = drop (i + 1) parts in
    let F : List Part → List ℕ = λ ps. (parts_emitted parts spot place ps).bytes in
    let split : F (drop i parts) ≡ F (get_or parts i part ∷ rest) = at_drop_more F parts i part lt in
    let here : F (get_or parts i part ∷ rest) ≡ F (part ∷ rest) = ap (λ p. F (p ∷ rest)) (sym is) in
    let behind : List ℕ = (parts_emitted parts spot (place + part_size part) rest).bytes in
    ap (λ (n : ℕ). new ++ (parts_emitted parts spot (place + n) rest).bytes) count
    ∙ (ap (λ (n : List ℕ). n ++ behind) more
    ∙ (append_assoc old (part_emitted parts spot place part).bytes behind ∙ (ap (λ (n : List ℕ). old ++ n) (sym here ∙ sym split) ∙ before)))

pub parts_end : (parts : List Part) (spot : Spot) (place i : ℕ) (out start : List ℕ) → length parts ≤ i → out ++ (parts_emitted parts spot place (drop i parts)).bytes ≡ start → out ≡ start
parts_end parts spot place i out start all before =
    let none : (parts_emitted parts spot place (drop i parts)).bytes ≡ [] = at_drop_all (λ (ps : List Part). (parts_emitted parts spot place ps).bytes) parts i all in
    sym (append-nil out) ∙ (ap (λ (n : List ℕ). out ++ n) (sym none) ∙ before)
