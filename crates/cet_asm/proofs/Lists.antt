-- Lists, searched and grown.
use Rattle.std.proofs.Common.{◌≡◌, ℕ, ◌+◌, Bool, true, false, cond, ◌||◌, List, [], ◌∷◌, ◌++◌, length, map, filter, Option, Some, None, is_some, refl, ap, sym, ◌∙◌, arith, not}
use Rattle.std.specs.Option.{option_or}
use Rattle.std.specs.List.{position_from, list_any, flat_map}
use Rattle.std.specs.Str.{bytes_eq}
use Rattle.std.proofs.lemmas.Slice.Eq.{bytes_eq-Decides}
use Rattle.std.proofs.lemmas.Bool.Decides.{same_from_decides}

pub bytes_eq-comm : (xs ys : List ℕ) → bytes_eq xs ys ≡ bytes_eq ys xs
bytes_eq-comm xs ys =
    let there = bytes_eq-Decides xs ys in
    let back = bytes_eq-Decides ys xs in
    same_from_decides (bytes_eq xs ys) (bytes_eq ys xs) there (λ t. sym (back.0 t), λ e. back.1 (sym e))

pub position_from-push : {K : Type 0} (t : K → Bool) (i n : ℕ) (x : K) (xs : List K) → n ≡ i + length xs
    → position_from t i (xs ++ x ∷ []) ≡ option_or (position_from t i xs) (cond (t x) (Some n) None)
position_from-push t i n x [] is = let same : n ≡ i = omega arith in ap (λ (k : ℕ). cond (t x) (Some k) None) (sym same)
position_from-push t i n x (y ∷ ys) is =
    elim (t y) as (λ b. cond b (Some i) (position_from t (i + 1) (ys ++ x ∷ [])) ≡ option_or (cond b (Some i) (position_from t (i + 1) ys)) (cond (t x) (Some n) None))
    [ true ↦ refl | false ↦ position_from-push t (i + 1) n x ys (omega arith) ]

pub found-any : {K : Type 0} (t : K → Bool) (i : ℕ) (xs : List K) → is_some (position_from t i xs) ≡ list_any t xs
found-any t i [] = refl
found-any t i (x ∷ xs) =
    elim (t x) as (λ b. is_some (cond b (Some i) (position_from t (i + 1) xs)) ≡ (b || list_any t xs)) [ true ↦ refl | false ↦ found-any t (i + 1) xs ]

pub any-same : {K : Type 0} (p q : K → Bool) (xs : List K) → ((x : K) → p x ≡ q x) → list_any p xs ≡ list_any q xs
any-same p q [] same = refl
any-same p q (x ∷ xs) same = let here = same x in let rest = any-same p q xs same in cc

pub filter-same : {K : Type 0} (p q : K → Bool) (xs : List K) → ((x : K) → p x ≡ q x) → filter p xs ≡ filter q xs
filter-same p q [] same = refl
filter-same p q (x ∷ xs) same = let here = same x in let rest = filter-same p q xs same in cc

pub map-same : {K L : Type 0} (f g : K → L) (xs : List K) → ((x : K) → f x ≡ g x) → map f xs ≡ map g xs
map-same f g [] same = refl
map-same f g (x ∷ xs) same = let here = same x in let rest = map-same f g xs same in cc

pub flat_map-same : {K L : Type 0} (f g : K → List L) (xs : List K) → ((x : K) → f x ≡ g x) → flat_map f xs ≡ flat_map g xs
flat_map-same f g [] same = refl
flat_map-same f g (x ∷ xs) same = let here = same x in let rest = flat_map-same f g xs same in cc

or_swap : (a b c : Bool) → (a || (b || c)) ≡ (b || (a || c))
or_swap true true c = refl
or_swap true false c = refl
or_swap false true c = refl
or_swap false false c = refl

or_assoc : (a b c : Bool) → (a || (b || c)) ≡ ((a || b) || c)
or_assoc true b c = refl
or_assoc false b c = refl

parted : {K : Type 0} (p : K → Bool) (x : K) (others passed : List K) (whole b : Bool) → whole ≡ (list_any p others || list_any p passed)
    → (p x || whole) ≡ (list_any p (cond (not b) (x ∷ others) others) || list_any p (cond b (x ∷ passed) passed))
parted p x others passed whole true is = ap (λ (w : Bool). p x || w) is ∙ or_swap (p x) (list_any p others) (list_any p passed)
parted p x others passed whole false is = ap (λ (w : Bool). p x || w) is ∙ or_assoc (p x) (list_any p others) (list_any p passed)

-- what passes a test is among those that another test leaves or among those that it takes
pub any-parted : {K : Type 0} (p q : K → Bool) (xs : List K) → list_any p xs ≡ (list_any p (filter (λ x. not (q x)) xs) || list_any p (filter q xs))
any-parted p q [] = refl
any-parted p q (x ∷ xs) = parted p x (filter (λ y. not (q y)) xs) (filter q xs) (list_any p xs) (q x) (any-parted p q xs)

pub map-map : {K L M : Type 0} (f : K → L) (g : L → M) (xs : List K) → map g (map f xs) ≡ map (λ x. g (f x)) xs
map-map f g [] = refl
map-map f g (x ∷ xs) = ap (λ rest. g (f x) ∷ rest) (map-map f g xs)

pub any-map : {K L : Type 0} (f : K → L) (p : L → Bool) (xs : List K) → list_any p (map f xs) ≡ list_any (λ x. p (f x)) xs
any-map f p [] = refl
any-map f p (x ∷ xs) = ap (λ (rest : Bool). p (f x) || rest) (any-map f p xs)

-- a loop from the front: what is to come is the same
pub or_first : {A : Type 0} (a b c : Option A) → option_or (option_or a b) c ≡ option_or a (option_or b c)
or_first None b c = refl
or_first (Some x) b c = refl

pub or_nothing : {A : Type 0} (a : Option A) → option_or a None ≡ a
or_nothing None = refl
or_nothing (Some x) = refl
