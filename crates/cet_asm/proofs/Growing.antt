-- What loops grow from the front of a list.
use Rattle.std.proofs.Common.{◌≡◌, ℕ, ◌+◌, ◌<◌, ◌≤◌, Bool, true, false, cond, List, [], ◌∷◌, ◌++◌, length, drop, get_or, map, filter, refl, ap, sym, ◌∙◌, arith, append_assoc}
use Rattle.std.specs.List.{flat_map, sum_by}
use Rattle.std.proofs.lemmas.List.{at_drop_more, at_drop_all, append-nil}
use Rattle.std.proofs.lemmas.List.Sums.{sum_by-cons}

-- an element more: what is to come of the rest stays the same
pub grown : {X Y : Type 0} (G : List X → List Y) → ((x : X) (rest : List X) → G (x ∷ rest) ≡ G (x ∷ []) ++ G rest) → (xs : List X) (i : ℕ) (x : X) (old new start : List Y)
    → i < length xs → x ≡ get_or xs i x → new ≡ old ++ G (x ∷ []) → old ++ G (drop i xs) ≡ start → new ++ G (drop (i + 1) xs) ≡ start
grown G splits xs i x old new start lt is more before =
    let rest = drop (i + 1) xs in
    let split : G (drop i xs) ≡ G (get_or xs i x ∷ rest) = at_drop_more G xs i x lt in
    let here : G (get_or xs i x ∷ rest) ≡ G (x ∷ rest) = ap (λ y. G (y ∷ rest)) (sym is) in
    let whole : G (x ∷ []) ++ G rest ≡ G (drop i xs) = sym (splits x rest) ∙ (sym here ∙ sym split) in
    ap (λ n. n ++ G rest) more ∙ (append_assoc old (G (x ∷ [])) (G rest) ∙ (ap (λ t. old ++ t) whole ∙ before))

-- nothing is to come at the end
pub ended : {X Y : Type 0} (G : List X → List Y) (xs : List X) (i : ℕ) (out start : List Y) → G [] ≡ [] → length xs ≤ i → out ++ G (drop i xs) ≡ start → out ≡ start
ended G xs i out start empty all before = sym (append-nil out) ∙ (ap (λ t. out ++ t) (sym (at_drop_all G xs i all ∙ empty)) ∙ before)

pub flat_split : {X Y : Type 0} (f : X → List Y) (t : X → Bool) (x : X) (rest : List X) → flat_map f (filter t (x ∷ rest)) ≡ flat_map f (filter t (x ∷ [])) ++ flat_map f (filter t rest)
flat_split f t x rest =
    elim (t x) as (λ b. flat_map f (cond b (x ∷ filter t rest) (filter t rest)) ≡ flat_map f (cond b (x ∷ []) []) ++ flat_map f (filter t rest))
    [ true ↦ ap (λ h. h ++ flat_map f (filter t rest)) (sym (append-nil (f x))) | false ↦ refl ]

pub map_split : {X Y : Type 0} (g : X → Y) (t : X → Bool) (x : X) (rest : List X) → map g (filter t (x ∷ rest)) ≡ map g (filter t (x ∷ [])) ++ map g (filter t rest)
map_split g t x rest =
    elim (t x) as (λ b. map g (cond b (x ∷ filter t rest) (filter t rest)) ≡ map g (cond b (x ∷ []) []) ++ map g (filter t rest)) [ true ↦ refl | false ↦ refl ]

sum_true : {X : Type 0} (f : X → ℕ) (x : X) (rest : List X) → sum_by f (x ∷ rest) ≡ sum_by f (x ∷ []) + sum_by f rest
sum_true f x rest = omega (arith, sum_by-cons f x rest)

pub sum_split : {X : Type 0} (f : X → ℕ) (t : X → Bool) (x : X) (rest : List X) → sum_by f (filter t (x ∷ rest)) ≡ sum_by f (filter t (x ∷ [])) + sum_by f (filter t rest)
sum_split f t x rest =
    elim (t x) as (λ b. sum_by f (cond b (x ∷ filter t rest) (filter t rest)) ≡ sum_by f (cond b (x ∷ []) []) + sum_by f (filter t rest))
    [ true ↦ sum_true f x (filter t rest) | false ↦ omega arith ]
