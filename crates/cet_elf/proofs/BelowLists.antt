-- What the numbers below the length of a list give, by the items of the list.
use Rattle.std.proofs.Common.{◌≡◌, ℕ, zero, suc, ◌+◌, ◌-◌, ◌≤◌, ◌<◌, Bool, true, false, not, ◌&&◌, is_some, List, [], ◌∷◌, ◌++◌, length, get_or, Some, None, All, inl, inr, refl, sym, ap, ◌∙◌, arith}
use Rattle.std.specs.List.{flat_map, sum_by}
use Rattle.std.proofs.lemmas.Bool.{cases_lt}
use Rattle.std.proofs.lemmas.List.{append-nil, append_assoc, length-append, get_or_append_left, get_or-append_right, get_or_at}
use Rattle.std.proofs.lemmas.List.Elements.{All-get_or}
use Rattle.std.proofs.lemmas.List.Sums.{sum_by-cons}
use Rattle.cet_elf.specs.Below.{each_below, count_below, sum_below, first_below}

pub each-shift : {X : Type 0} (n : ℕ) (f : ℕ → List X) → each_below (suc n) f ≡ f 0 ++ each_below n (λ k. f (suc k))
each-shift zero f = sym (append-nil (f 0))
each-shift {X = X} (suc n) f =
    ap (λ (r : List X). r ++ f (suc n)) (each-shift n f) ∙ append_assoc (f 0) (each_below n (λ k. f (suc k))) (f (suc n))

pub each-list : {X A : Type 0} (f : ℕ → List A) (g : X → List A) (xs : List X) (d : X) → ((i : ℕ) → i < length xs → f i ≡ g (get_or xs i d)) → each_below (length xs) f ≡ flat_map g xs
each-list f g [] d h = refl
each-list {A = A} f g (x ∷ xs) d h =
    each-shift (length xs) f
    ∙ ap (λ (r : List A). r ++ each_below (length xs) (λ k. f (suc k))) (h 0 (omega arith))
    ∙ ap (λ (r : List A). g x ++ r) (each-list (λ k. f (suc k)) g xs d (λ i lt. h (suc i) (omega arith)))

pub each-nil : {X : Type 0} (n : ℕ) (f : ℕ → List X) → ((i : ℕ) → i < n → f i ≡ []) → each_below n f ≡ []
each-nil zero f h = refl
each-nil {X = X} (suc n) f h =
    ap (λ (r : List X). each_below n f ++ r) (h n (omega arith)) ∙ append-nil (each_below n f) ∙ each-nil n f (λ i lt. h i (omega arith))

sum-shift : (n : ℕ) (f : ℕ → ℕ) → sum_below (suc n) f ≡ f 0 + sum_below n (λ k. f (suc k))
sum-shift zero f = omega arith
sum-shift (suc n) f = let h = sum-shift n f in omega arith

pub sum-list : {X : Type 0} (f : ℕ → ℕ) (g : X → ℕ) (xs : List X) (d : X) → ((i : ℕ) → i < length xs → f i ≡ g (get_or xs i d)) → sum_below (length xs) f ≡ sum_by g xs
sum-list f g [] d h = refl
sum-list f g (x ∷ xs) d h =
    let first : f 0 ≡ g x = h 0 (omega arith) in
    let others = sum-list (λ k. f (suc k)) g xs d (λ i lt. h (suc i) (omega arith)) in
    omega (arith, sum-shift (length xs) f, sum_by-cons g x xs)

pub sum-le : (n j : ℕ) (f : ℕ → ℕ) → j ≤ n → sum_below j f ≤ sum_below n f
sum-le zero j f le = let e : j ≡ 0 = omega arith in rw e (omega arith)
sum-le (suc n) j f le = elim (cases_lt j (suc n)) [
  | inl lt ↦ let h = sum-le n j f (omega arith) in omega arith
  | inr ge ↦ let e : j ≡ suc n = omega arith in rw e (omega arith)
]

pub count-all : (n : ℕ) (p : ℕ → Bool) → ((j : ℕ) → j < n → p j ≡ true) → count_below n p ≡ n
count-all zero p h = refl
count-all (suc n) p h = let e = count-all n p (λ j lt. h j (omega arith)) in rw (h n (omega arith)) (omega arith)

pub count-after : (n : ℕ) (p : ℕ → Bool) → p 0 ≡ false → ((j : ℕ) → j < n → p (suc j) ≡ true) → count_below (suc n) p ≡ n
count-after zero p first h = rw first (omega arith)
count-after (suc n) p first h = let e = count-after n p first (λ j lt. h j (omega arith)) in rw (h n (omega arith)) (omega arith)

pub first-none : (n : ℕ) (p : ℕ → Bool) → ((j : ℕ) → j < n → p j ≡ false) → first_below n p ≡ None
first-none zero p h = refl
first-none (suc n) p h = rw (h n (omega arith), first-none n p (λ j lt. h j (omega arith))) refl

pub first-some : (n s : ℕ) (p : ℕ → Bool) → s < n → p s ≡ true → ((j : ℕ) → j < s → p j ≡ false) → first_below n p ≡ Some s
first-some zero s p lt at h = absurd (omega arith)
first-some (suc n) s p lt at h = elim (cases_lt s n) [
  | inl less ↦ rw (first-some n s p less at h) refl
  | inr ge ↦
      let e : n ≡ s = omega arith in
      let here : p n ≡ true = ap p e ∙ at in
      rw (here, first-none n p (λ j less. h j (omega arith))) (ap (λ (k : ℕ). Some k) e)
]

-- one item alone of a list passes the test
pub record OnlyOne {X : Type 0} (p : ℕ → Bool) (q : X → Bool) (front : List X) (x : X) (back : List X) (d : X) : Type 0 where
  pub test : (i : ℕ) → i < length (front ++ x ∷ back) → p i ≡ q (get_or (front ++ x ∷ back) i d)
  pub here : q x ≡ true
  pub before : All (λ y. q y ≡ false) front
  pub behind : All (λ y. q y ≡ false) back

pub OnlyOne-before : {X : Type 0} (p : ℕ → Bool) (q : X → Bool) (front : List X) (x : X) (back : List X) (d : X) → OnlyOne p q front x back d → (i : ℕ) → i < length front → p i ≡ false
OnlyOne-before p q front x back d h i lt =
    h.test i (omega (arith, length-append front (x ∷ back))) ∙ ap q (get_or_append_left front (x ∷ back) d i lt) ∙ All-get_or (λ y. q y ≡ false) front i d lt h.before

pub OnlyOne-behind : {X : Type 0} (p : ℕ → Bool) (q : X → Bool) (front : List X) (x : X) (back : List X) (d : X) → OnlyOne p q front x back d → (i : ℕ) → length front < i → i < length (front ++ x ∷ back) → p i ≡ false
OnlyOne-behind {X = X} p q front x back d h i past lt =
    let k : ℕ = i - length front - 1 in
    let e : i - length front ≡ suc k = omega arith in
    let long : k < length back = omega (arith, length-append front (x ∷ back)) in
    h.test i lt ∙ ap q (get_or-append_right front (x ∷ back) (length front) i d refl (omega arith) ∙ ap (λ (n : ℕ). get_or (x ∷ back) n d) e)
    ∙ All-get_or (λ y. q y ≡ false) back k d long h.behind

pub OnlyOne-first : {X : Type 0} (p : ℕ → Bool) (q : X → Bool) (front : List X) (x : X) (back : List X) (d : X) → OnlyOne p q front x back d → first_below (length (front ++ x ∷ back)) p ≡ Some (length front)
OnlyOne-first p q front x back d h =
    let lt : length front < length (front ++ x ∷ back) = omega (arith, length-append front (x ∷ back)) in
    let at : p (length front) ≡ true = h.test (length front) lt ∙ ap q (get_or_at front x back d (length front) refl) ∙ h.here in
    first-some (length (front ++ x ∷ back)) (length front) p lt at (OnlyOne-before p q front x back d h)

not_both : (b : Bool) → not (b && false) ≡ true
not_both true = refl
not_both false = refl

-- where it is met, none was met before
pub OnlyOne-met : {X : Type 0} (p : ℕ → Bool) (q : X → Bool) (front : List X) (x : X) (back : List X) (d : X) → OnlyOne p q front x back d → (i : ℕ) → i < length (front ++ x ∷ back) → not (p i && is_some (first_below i p)) ≡ true
OnlyOne-met p q front x back d h i lt = elim (cases_lt (length front) i) [
  | inl past ↦ rw (OnlyOne-behind p q front x back d h i past lt) refl
  | inr le ↦ rw (first-none i p (λ j less. OnlyOne-before p q front x back d h j (omega arith))) (not_both (p i))
]
