-- Lists whose items go together, place by place.
use Rattle.std.proofs.Common.{◌≡◌, ℕ, suc, ◌+◌, ◌<◌, List, [], ◌∷◌, ◌++◌, length, get_or, take, Vec, refl, sym, ap, subst, ◌∙◌}
use Rattle.std.specs.Global.{Global}
use Rattle.std.proofs.lemmas.List.{take_more, map-append, get_or-map, length-map}
use Rattle.cet_verbs.specs.Notes.{AllBoth, items_of}

-- one more item at the end of each
AllBoth-push : {A B : Type 0} (R : A → B → Type 0) (xs : List A) (ys : List B) (x : A) (y : B) → AllBoth R xs ys → R x y → AllBoth R (xs ++ x ∷ []) (ys ++ y ∷ [])
AllBoth-push R [] [] x y each here = (here, tt)
AllBoth-push R [] (b ∷ ys) x y each here = absurd each
AllBoth-push R (a ∷ xs) [] x y each here = absurd each
AllBoth-push R (a ∷ xs) (b ∷ ys) x y each here = (each.0, AllBoth-push R xs ys x y each.1 here)

-- one more of the first i
pub AllBoth-more : {A B : Type 0} (R : A → B → Type 0) (xs : List A) (ys : List B) (i : ℕ) (x : A) (y : B) → i < length xs → x ≡ get_or xs i x → AllBoth R (take i xs) ys → R x y → AllBoth R (take (i + 1) xs) (ys ++ y ∷ [])
AllBoth-more {A} R xs ys i x y below is each here =
    let more : take (i + 1) xs ≡ take i xs ++ x ∷ [] = take_more xs i x below ∙ ap (λ (z : A). take i xs ++ z ∷ []) (sym is) in
    subst (λ (front : List A). AllBoth R front (ys ++ y ∷ [])) (sym more) (AllBoth-push R (take i xs) ys x y each here)

pub AllBoth-length : {A B : Type 0} (R : A → B → Type 0) (xs : List A) (ys : List B) → AllBoth R xs ys → length xs ≡ length ys
AllBoth-length R [] [] each = refl
AllBoth-length R [] (b ∷ ys) each = absurd each
AllBoth-length R (a ∷ xs) [] each = absurd each
AllBoth-length R (a ∷ xs) (b ∷ ys) each = ap suc (AllBoth-length R xs ys each.1)

-- the bytes that were read by their place
pub items_at : (held : List (Vec ℕ Global)) (i : ℕ) (bytes : Vec ℕ Global) (d : List ℕ) → i < length held → bytes ≡ get_or held i bytes → get_or (items_of held) i d ≡ bytes.items
items_at held i bytes d below is = get_or-map (λ (v : Vec ℕ Global). v.items) held i bytes d below ∙ ap (λ (v : Vec ℕ Global). v.items) (sym is)

pub length-items_of : (held : List (Vec ℕ Global)) → length (items_of held) ≡ length held
length-items_of held = length-map held (λ (v : Vec ℕ Global). v.items)

pub items_of-push : (old new : List (Vec ℕ Global)) (bytes : Vec ℕ Global) → new ≡ old ++ bytes ∷ [] → items_of new ≡ items_of old ++ bytes.items ∷ []
items_of-push old new bytes pushed = ap items_of pushed ∙ map-append (λ (v : Vec ℕ Global). v.items) old (bytes ∷ [])
