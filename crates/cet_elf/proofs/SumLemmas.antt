-- Sums and counts over the numbers below n, and lists that are joined.
use Rattle.std.proofs.Common.{◌≡◌, ℕ, zero, suc, ◌+◌, ◌≤◌, ◌<◌, Bool, true, false, eqb, List, [], ◌∷◌, length, All, inl, inr, refl, sym, subst, arith, length-append}
use Rattle.std.specs.Prelude.{if◌then◌else◌, sum_by}
use Rattle.std.proofs.lemmas.Bool.{cases_lt, cases_eq, eq-eqb, ne_eqb}
use Rattle.std.proofs.lemmas.List.Sums.{sum_by-append}
use Rattle.std.proofs.lemmas.List.Elements.{All-nil, All-append}
use Rattle.cet_elf.specs.Below.{each_below, count_below, sum_below}

-- what holds of each item of each list holds of all
pub All-each : {X : Type 0} (P : X → Type 0) (n : ℕ) (f : ℕ → List X) → ((i : ℕ) → i < n → All P (f i)) → All P (each_below n f)
All-each P zero f h = All-nil P
All-each P (suc n) f h = All-append P (each_below n f) (f n) (All-each P n f (λ i lt. h i (omega arith))) (h n (omega arith))

-- the length of joined lists
pub length-each : {X : Type 0} (n : ℕ) (f : ℕ → List X) → length (each_below n f) ≡ sum_below n (λ i. length (f i))
length-each zero f = refl
length-each (suc n) f = omega (arith, length-append (each_below n f) (f n), length-each n f)

pub sum_below-le : (n : ℕ) (f g : ℕ → ℕ) → ((i : ℕ) → i < n → f i ≤ g i) → sum_below n f ≤ sum_below n g
sum_below-le zero f g h = omega arith
sum_below-le (suc n) f g h = omega (arith, sum_below-le n f g (λ i lt. h i (omega arith)), h n (omega arith))

pub sum_below-same : (n : ℕ) (f g : ℕ → ℕ) → ((i : ℕ) → f i ≡ g i) → sum_below n f ≡ sum_below n g
sum_below-same zero f g h = refl
sum_below-same (suc n) f g h = omega (arith, sum_below-same n f g h, h n)

pub sum_below-add : (n : ℕ) (f g : ℕ → ℕ) → sum_below n (λ i. f i + g i) ≡ sum_below n f + sum_below n g
sum_below-add zero f g = refl
sum_below-add (suc n) f g = omega (arith, sum_below-add n f g)

sum_below-none : (n k : ℕ) (m : ℕ) → n ≤ k → sum_below n (λ i. if eqb k i then m else 0) ≡ 0
sum_below-none zero k m le = refl
sum_below-none (suc n) k m le =
    let rest = sum_below-none n k m (omega arith) in
    let test : eqb k n ≡ false = ne_eqb k n (λ e. omega arith) in
    rw test (omega arith)

-- a sum of which at most one number is not 0
pub sum_below-one : (n k m : ℕ) → sum_below n (λ i. if eqb k i then m else 0) ≤ m
sum_below-one zero k m = omega arith
sum_below-one (suc n) k m = elim (cases_eq k n) [
  | inl same ↦
      let none = sum_below-none n k m (omega arith) in
      let test : eqb k n ≡ true = eq-eqb k n same in
      rw test (omega arith)
  | inr other ↦
      let rest = sum_below-one n k m in
      let test : eqb k n ≡ false = ne_eqb k n other in
      rw test (omega arith)
]

-- a number that passes is counted
pub count_below-lt : (n k : ℕ) (p : ℕ → Bool) → k < n → p k ≡ true → count_below k p < count_below n p
count_below-lt zero k p lt h = absurd (omega arith)
count_below-lt (suc n) k p lt h = elim (cases_lt k n) [
  | inl less ↦ omega (arith, count_below-lt n k p less h)
  | inr le ↦
      let same : k ≡ n = omega arith in
      let one : ℕ = 1 in
      let here : (if p n then one else 0) ≡ one = subst (λ i. (if p i then one else 0) ≡ one) same (rw h refl) in
      subst (λ i. count_below i p < count_below n p + (if p n then 1 else 0)) (sym same) (rw here (omega arith))
]

-- a sum over the items that are kept is at most the sum over all numbers
pub sum_by-kept : {X : Type 0} (g : X → ℕ) (n : ℕ) (p : ℕ → Bool) (x : ℕ → X) → sum_by g (each_below n (λ i. if p i then x i ∷ [] else [])) ≤ sum_below n (λ i. g (x i))
sum_by-kept {X = X} g zero p x = omega arith
sum_by-kept {X = X} g (suc n) p x =
    let front = each_below n (λ i. if p i then x i ∷ [] else []) in
    let one = single (p n) (x n) in
    omega (arith, sum_by-append g front (if p n then x n ∷ [] else []), sum_by-kept g n p x)
  where
    single : (q : Bool) (y : X) → sum_by g (if q then y ∷ [] else []) ≤ g y
    single true y = omega arith
    single false y = omega arith

-- as many items are kept as numbers pass
pub length-kept : {X : Type 0} (n : ℕ) (p : ℕ → Bool) (x : ℕ → X) → length (each_below n (λ i. if p i then x i ∷ [] else [])) ≡ count_below n p
length-kept zero p x = refl
length-kept {X = X} (suc n) p x =
    let front = each_below n (λ i. if p i then x i ∷ [] else []) in
    let one = single (p n) (x n) in
    omega (arith, length-append front (if p n then x n ∷ [] else []), length-kept n p x)
  where
    single : (q : Bool) (y : X) → length (if q then y ∷ [] else []) ≡ (if q then 1 else 0)
    single true y = refl
    single false y = refl
