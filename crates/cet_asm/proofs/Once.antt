-- How many different names a list has, with one name more.
use Rattle.std.proofs.Common.{◌≡◌, ℕ, ◌+◌, Bool, true, false, cond, ◌||◌, List, [], ◌∷◌, ◌++◌, length, refl, sym, ◌∙◌, ap, arith}
use Rattle.std.specs.Str.{bytes_eq}
use Rattle.std.proofs.lemmas.Slice.Eq.{bytes_eq-Decides}
use Rattle.std.proofs.lemmas.List.Folds.{list_any-append}
use Rattle.cet_asm.specs.Assembled.{is_among, each_once}

pub same_text : (a b : List ℕ) → bytes_eq a b ≡ true → a ≡ b
same_text a b h = (bytes_eq-Decides a b).0 h

pub bytes_eq-refl : (a : List ℕ) → bytes_eq a a ≡ true
bytes_eq-refl a = (bytes_eq-Decides a a).1 refl

pub is_among-append : (q : List ℕ) (xs ys : List (List ℕ)) → is_among q (xs ++ ys) ≡ (is_among q xs || is_among q ys)
is_among-append q xs ys = list_any-append _ xs ys

swap : (a b c : Bool) → (a || (b || c)) ≡ (b || (a || c))
swap true true c = refl
swap true false c = refl
swap false b c = refl

-- each_once reads the names seen by is_among alone
pub each_once-same_seen : (s t : List (List ℕ)) → ((q : List ℕ) → is_among q s ≡ is_among q t) → (ys : List (List ℕ)) → each_once s ys ≡ each_once t ys
each_once-same_seen s t same [] = refl
each_once-same_seen s t same (y ∷ ys) =
    rw (same y) (elim (is_among y t) as (λ b. cond b (each_once s ys) (y ∷ each_once (y ∷ s) ys) ≡ cond b (each_once t ys) (y ∷ each_once (y ∷ t) ys)) [
      | true ↦ each_once-same_seen s t same ys
      | false ↦ ap (λ zs. y ∷ zs) (each_once-same_seen (y ∷ s) (y ∷ t) (λ q. ap (λ b. bytes_eq y q || b) (same q)) ys)
    ])

pub bytes_eq-comm : (a b : List ℕ) → bytes_eq a b ≡ bytes_eq b a
bytes_eq-comm a b = by_cases (bytes_eq a b) refl (bytes_eq b a) refl where
  by_cases : (x : Bool) → bytes_eq a b ≡ x → (y : Bool) → bytes_eq b a ≡ y → bytes_eq a b ≡ bytes_eq b a
  by_cases true e true d = e ∙ sym d
  by_cases false e false d = e ∙ sym d
  by_cases true e false d = let h = same_text a b e in let f : bytes_eq b a ≡ true = rw h (bytes_eq-refl b) in cc
  by_cases false e true d = let h = same_text b a d in let f : bytes_eq a b ≡ true = rw h (bytes_eq-refl a) in cc

true_right : (b : Bool) → (b || true) ≡ true
true_right true = refl
true_right false = refl

Later : List ℕ → List (List ℕ) → Type 0
Later n ys = (s t : List (List ℕ)) → ((q : List ℕ) → is_among q s ≡ (bytes_eq n q || is_among q t)) → is_among n t ≡ false → length (each_once s ys) + 1 ≡ length (each_once t ys) + cond (is_among n ys) 0 1

more_later : (n y : List ℕ) (ys : List (List ℕ)) → Later n ys → Later n (y ∷ ys)
unfolding Later
more_later n y ys later s t same out = by_name (bytes_eq n y) refl (is_among y t) refl where
  by_name : (b : Bool) → bytes_eq n y ≡ b → (c : Bool) → is_among y t ≡ c → length (each_once s (y ∷ ys)) + 1 ≡ length (each_once t (y ∷ ys)) + cond (is_among n (y ∷ ys)) 0 1
  by_name true e c d =
      let same_name = same_text n y e in
      let sy : is_among y s ≡ true = rw (same y, e) refl in
      let ty : is_among y t ≡ false = rw (← same_name) out in
      let back : bytes_eq y n ≡ true = bytes_eq-comm y n ∙ e in
      let kept = each_once-same_seen s (y ∷ t) (λ q. rw (← same_name) (same q)) ys in
      rw (sy, ty, back) (omega (arith, ap length kept))
  by_name false apart true e =
      let sy : is_among y s ≡ true = rw (same y, apart) e in
      let back : bytes_eq y n ≡ false = bytes_eq-comm y n ∙ apart in
      rw (sy, e, back) (later s t same out)
  by_name false apart false e =
      let sy : is_among y s ≡ false = rw (same y, apart) e in
      let back : bytes_eq y n ≡ false = bytes_eq-comm y n ∙ apart in
      let more = later (y ∷ s) (y ∷ t) (λ q. rw (same q) (swap (bytes_eq y q) (bytes_eq n q) (is_among q t))) (rw back out) in
      rw (sy, e, back) (omega (arith, more))

-- one name more among those seen: the names that follow are one fewer where it comes among them
seen_more : (n : List ℕ) (ys : List (List ℕ)) → Later n ys
unfolding Later
seen_more n [] = λ s t same out. refl
seen_more n (y ∷ ys) = more_later n y ys (seen_more n ys)

OneMore : List ℕ → List (List ℕ) → List (List ℕ) → Type 0
OneMore n xs ys = (seen : List (List ℕ)) → length (each_once seen (xs ++ n ∷ ys)) ≡ length (each_once seen (xs ++ ys)) + cond (is_among n seen || (is_among n xs || is_among n ys)) 0 1

no_more : (n : List ℕ) (ys : List (List ℕ)) → OneMore n [] ys
unfolding OneMore Later
no_more n ys seen = by_seen (is_among n seen) refl where
  by_seen : (b : Bool) → is_among n seen ≡ b → length (each_once seen (n ∷ ys)) ≡ length (each_once seen ys) + cond (is_among n seen || is_among n ys) 0 1
  by_seen true e = rw e (omega arith)
  by_seen false e = let more = seen_more n ys (n ∷ seen) seen (λ q. refl) e in rw e (omega (arith, more))

Skips : List ℕ → List ℕ → List (List ℕ) → List (List ℕ) → List (List ℕ) → Type 0
Skips n x xs ys seen = length (each_once seen (x ∷ (xs ++ n ∷ ys))) ≡ length (each_once seen (x ∷ (xs ++ ys))) + cond (is_among n seen || ((bytes_eq x n || is_among n xs) || is_among n ys)) 0 1

some_more : (n x : List ℕ) (xs ys : List (List ℕ)) → OneMore n xs ys → (seen : List (List ℕ)) → (b : Bool) → is_among x seen ≡ b → (c : Bool) → bytes_eq x n ≡ c → Skips n x xs ys seen
unfolding OneMore Skips
some_more n x xs ys later seen true e true d =
    let same_name = same_text x n d in
    let sn : is_among n seen ≡ true = rw (← same_name) e in
    let more = later seen in
    let less = rw sn at more in
    rw (e, sn) less
some_more n x xs ys later seen true e false d = rw (e, d) (later seen)
some_more n x xs ys later seen false e true d = let more = later (x ∷ seen) in let less = rw d at more in rw (e, d, true_right) (omega (arith, less))
some_more n x xs ys later seen false e false d = let more = later (x ∷ seen) in let less = rw d at more in rw (e, d) (omega (arith, less))

-- one name more in a list
pub each_once-one_more : (n : List ℕ) (seen xs ys : List (List ℕ)) → length (each_once seen (xs ++ n ∷ ys)) ≡ length (each_once seen (xs ++ ys)) + cond (is_among n seen || (is_among n xs || is_among n ys)) 0 1
unfolding OneMore Skips
each_once-one_more n seen xs ys = by_list xs seen where
  by_list : (xs : List (List ℕ)) → OneMore n xs ys
  by_list [] = no_more n ys
  by_list (x ∷ xs) = λ seen. some_more n x xs ys (by_list xs) seen (is_among x seen) refl (bytes_eq x n) refl
