-- Lists that are gone through item by item, and the first fault of what the items give.
use Rattle.std.proofs.Common.{◌≡◌, ℕ, zero, suc, ◌+◌, ◌<◌, ◌≤◌, List, [], ◌∷◌, ◌++◌, length, get_or, take, drop, refl, sym, ap, subst, ◌∙◌, add-zero, arith}
use Rattle.std.specs.List.{flat_map, enumerate_from}
use Rattle.std.proofs.lemmas.List.{append-nil, take_more, take-append-drop, length-take-le, get_or_default}
use Rattle.std.proofs.lemmas.Grind.{flat_map-append}
use Rattle.cet_link.specs.declared.error.LinkError.{LinkError}
use Rattle.cet_link.specs.First.{IsFirst}
use Rattle.cet_link.proofs.FaultLemmas.{IsFirst-front, IsFirst-back, none-append}

pub take_all : {X : Type 0} (xs : List X) (i : ℕ) → length xs ≤ i → take i xs ≡ xs
take_all [] zero h = refl
take_all [] (suc i) h = refl
take_all (x ∷ xs) zero h = absurd (omega arith)
take_all (x ∷ xs) (suc i) h = ap (λ ys. x ∷ ys) (take_all xs i (omega arith))

-- the items up to one, and it
pub take_one : {X : Type 0} (xs : List X) (i : ℕ) (x : X) → i < length xs → x ≡ get_or xs i x → take (i + 1) xs ≡ take i xs ++ x ∷ []
take_one xs i x lt is = take_more xs i x lt ∙ ap (λ y. take i xs ++ y ∷ []) (sym is)

pub flat_more : {X Y : Type 0} (f : X → List Y) (xs : List X) (i : ℕ) (x : X) → i < length xs → x ≡ get_or xs i x → flat_map f (take (i + 1) xs) ≡ flat_map f (take i xs) ++ f x
flat_more f xs i x lt is =
    ap (flat_map f) (take_one xs i x lt is) ∙ flat_map-append f (take i xs) (x ∷ []) ∙ ap (λ ys. flat_map f (take i xs) ++ ys) (append-nil (f x))

enumerate_from-append : {X : Type 0} (n : ℕ) (xs ys : List X) → enumerate_from n (xs ++ ys) ≡ enumerate_from n xs ++ enumerate_from (n + length xs) ys
enumerate_from-append n [] ys = rw add-zero refl
enumerate_from-append n (x ∷ xs) ys =
    let same : (n + 1) + length xs ≡ n + length (x ∷ xs) = omega arith in
    ap (λ zs. (n, x) ∷ zs) (enumerate_from-append (n + 1) xs ys ∙ ap (λ k. enumerate_from (n + 1) xs ++ enumerate_from k ys) same)

-- what each item with its number gives, for the items up to one, and it
pub each_more : {X Y : Type 0} (f : ℕ × X → List Y) (xs : List X) (i : ℕ) (x : X) → i < length xs → x ≡ get_or xs i x
    → flat_map f (enumerate_from 0 (take (i + 1) xs)) ≡ flat_map f (enumerate_from 0 (take i xs)) ++ f (i, x)
each_more f xs i x lt is =
    let more : take (i + 1) xs ≡ take i xs ++ x ∷ [] = take_more xs i x lt ∙ ap (λ y. take i xs ++ y ∷ []) (sym is) in
    let long : length (take i xs) ≡ i = length-take-le i xs (omega arith) in
    ap (λ ys. flat_map f (enumerate_from 0 ys)) more
    ∙ ap (flat_map f) (enumerate_from-append 0 (take i xs) (x ∷ []))
    ∙ flat_map-append f (enumerate_from 0 (take i xs)) (enumerate_from (0 + length (take i xs)) (x ∷ []))
    ∙ ap (λ ys. flat_map f (enumerate_from 0 (take i xs)) ++ ys) (ap (λ k. flat_map f (enumerate_from k (x ∷ []))) (omega (arith, long)) ∙ append-nil (f (i, x)))

-- ---- faults

pub flat_none : {X : Type 0} (f : X → List LinkError) (xs : List X) (i : ℕ) (x : X) → i < length xs → x ≡ get_or xs i x → flat_map f (take i xs) ≡ [] → f x ≡ [] → flat_map f (take (i + 1) xs) ≡ []
flat_none f xs i x lt is none one = flat_more f xs i x lt is ∙ none-append _ _ none one

pub flat_first : {X : Type 0} (e : LinkError) (f : X → List LinkError) (xs : List X) (i : ℕ) (x : X) → i < length xs → x ≡ get_or xs i x → flat_map f (take i xs) ≡ [] → IsFirst e (f x)
    → IsFirst e (flat_map f xs)
flat_first e f xs i x lt is none one =
    let whole : flat_map f xs ≡ flat_map f (take (i + 1) xs) ++ flat_map f (drop (i + 1) xs) =
    ap (flat_map f) (sym (take-append-drop (i + 1) xs)) ∙ flat_map-append f (take (i + 1) xs) (drop (i + 1) xs) in
    subst (IsFirst e) (sym whole) (IsFirst-front e _ _ (subst (IsFirst e) (sym (flat_more f xs i x lt is)) (IsFirst-back e _ _ none one)))

-- the same of an item that was read by its index
pub flat_none_at : {X : Type 0} (f : X → List LinkError) (xs : List X) (i : ℕ) (d : X) → i < length xs → flat_map f (take i xs) ≡ [] → f (get_or xs i d) ≡ [] → flat_map f (take (i + 1) xs) ≡ []
flat_none_at f xs i d lt none one = flat_none f xs i (get_or xs i d) lt (get_or_default xs i d (get_or xs i d) lt) none one

pub flat_first_at : {X : Type 0} (e : LinkError) (f : X → List LinkError) (xs : List X) (i : ℕ) (d : X) → i < length xs → flat_map f (take i xs) ≡ [] → IsFirst e (f (get_or xs i d)) → IsFirst e (flat_map f xs)
flat_first_at e f xs i d lt none one = flat_first e f xs i (get_or xs i d) lt (get_or_default xs i d (get_or xs i d) lt) none one

-- the same of items with their numbers
pub each_none : {X : Type 0} (f : ℕ × X → List LinkError) (xs : List X) (i : ℕ) (x : X) → i < length xs → x ≡ get_or xs i x
    → flat_map f (enumerate_from 0 (take i xs)) ≡ [] → f (i, x) ≡ [] → flat_map f (enumerate_from 0 (take (i + 1) xs)) ≡ []
each_none f xs i x lt is none one = each_more f xs i x lt is ∙ none-append _ _ none one

pub each_first : {X : Type 0} (e : LinkError) (f : ℕ × X → List LinkError) (xs : List X) (i : ℕ) (x : X) → i < length xs → x ≡ get_or xs i x
    → flat_map f (enumerate_from 0 (take i xs)) ≡ [] → IsFirst e (f (i, x)) → IsFirst e (flat_map f (enumerate_from 0 xs))
each_first e f xs i x lt is none one =
    let here = take (i + 1) xs in
    let rest = enumerate_from (0 + length here) (drop (i + 1) xs) in
    let whole : flat_map f (enumerate_from 0 xs) ≡ flat_map f (enumerate_from 0 here) ++ flat_map f rest =
    ap (λ ys. flat_map f (enumerate_from 0 ys)) (sym (take-append-drop (i + 1) xs)) ∙ ap (flat_map f) (enumerate_from-append 0 here (drop (i + 1) xs)) ∙ flat_map-append f (enumerate_from 0 here) rest in
    subst (IsFirst e) (sym whole) (IsFirst-front e _ _ (subst (IsFirst e) (sym (each_more f xs i x lt is)) (IsFirst-back e _ _ none one)))
