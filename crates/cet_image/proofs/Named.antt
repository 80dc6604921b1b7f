-- The functions that symbols name: sorted, each once.
use Rattle.std.proofs.Common.{eqb-true, Ok, Err, IfOk, ◌≡◌, ℕ, zero, suc, ◌<◌, ◌&&◌, ◌==◌, Bool, true, false, List, [], ◌∷◌, map, filter, slice_get, Some, inl, inr, ◌⊎◌, refl, sym, subst, ◌∙◌, arith}
use Rattle.std.specs.declared.result.Result.{Result}
use Rattle.std.specs.List.{Contains, Any, dedup, AllByRecursion}
use Rattle.std.specs.List.Sorted.{IsPermutation, IsSorted, IsStrictlySortedBy}
use Rattle.std.specs.Cmp.{IsTotalOrder, IsEquivalence}
use Rattle.std.specs.Ordering.{nat_cmp, ordering_then, eq_by_cmp}
use Rattle.std.specs.declared.cmp.Ordering.{Ordering}
use Rattle.std.specs.declared.cmp.Ordering.TheVariants.{Less}
use Rattle.std.proofs.lemmas.Cmp.{then_total, on_total, nat_cmp_total, on_equiv, and_equiv, nat_eq_equiv}
use Rattle.std.proofs.lemmas.Bool.Decides.{nat_tests}
use Rattle.std.proofs.lemmas.List.Sorted.{Contains-permutation, IsPermutation-sym}
use Rattle.std.proofs.lemmas.List.Kept.{Contains-dedup, Contains-from_dedup, IsStrictlySortedBy-dedup}
use Rattle.cet_base.specs.declared.outcomes.NoMemory.{NoMemory}
use Rattle.cet_elf.specs.declared.exec.ExecSymbol.{ExecSymbol}
use Rattle.cet_rules.specs.declared.function.Function.{Function}
use Rattle.cet_rules.specs.Regular.{Precedes}
use Rattle.cet_image.specs.Executable.{names_function, function_of, NamesFunction, AreFunctionsOf}

-- ---- the order

abbrev pub order : Function → Function → Ordering
order f g = ordering_then (nat_cmp f.start g.start) (nat_cmp f.size g.size)

order_total : IsTotalOrder order
order_total = then_total (on_total (λ (f : Function). f.start) nat_cmp_total) (on_total (λ (f : Function). f.size) nat_cmp_total)

abbrev pub same : Function → Function → Bool
same f g = (f.start == g.start) && (f.size == g.size)

same_ties : (f g : Function) → same f g ≡ eq_by_cmp order f g
same_ties f g = grind (arith, nat_tests)

same_equiv : IsEquivalence same
same_equiv = and_equiv (on_equiv (λ (f : Function). f.start) nat_eq_equiv) (on_equiv (λ (f : Function). f.size) nat_eq_equiv)

both_true : (x y : Bool) → (x && y) ≡ true → (x ≡ true) × (y ≡ true)
both_true true y e = (refl, e)
both_true false y e = cc

same_is : (f g : Function) → same f g ≡ true → f ≡ g
same_is f g e =
    let both = both_true (f.start == g.start) (f.size == g.size) e in
    let starts : f.start ≡ g.start = eqb-true f.start g.start both.0 in
    let sizes : f.size ≡ g.size = eqb-true f.size g.size both.1 in
    λ i. record { start = starts i; size = sizes i }

below_precedes : (f g : Function) → order f g ≡ Less → Precedes f g
below_precedes f g e = grind (arith, nat_tests)

-- ---- ascending lists

all_at : (P : Function → Type 0) (fs : List Function) (k : ℕ) (g : Function) → AllByRecursion P fs → slice_get fs k ≡ Some g → P g
all_at P [] k g all e = absurd (cc)
all_at P (f ∷ fs) zero g all e = let is : f ≡ g = cc in subst P is all.0
all_at P (f ∷ fs) (suc k) g all e = all_at P fs k g all.1 e

ascends : (fs : List Function) → IsStrictlySortedBy order fs → (j k : ℕ) (f g : Function) → j < k → slice_get fs j ≡ Some f → slice_get fs k ≡ Some g → Precedes f g
unfolding IsStrictlySortedBy
ascends [] up j k f g jk ej ek = absurd (cc)
ascends (x ∷ fs) up j zero f g jk ej ek = absurd (omega arith)
ascends (x ∷ fs) up zero (suc k) f g jk ej ek =
    let is : x ≡ f = cc in
    below_precedes f g (subst (λ (y : Function). order y g ≡ Less) is (all_at (λ y. order x y ≡ Less) fs k g up.0 ek))
ascends (x ∷ fs) up (suc j) (suc k) f g jk ej ek = ascends fs up.1 j k f g (omega arith) ej ek

-- ---- members

pub contains_here : {X : Type 0} (x : X) (xs : List X) → Contains (x ∷ xs) x
contains_here x xs = (0, omega arith, refl)

pub contains_later : {X : Type 0} (y x : X) (xs : List X) → Contains xs x → Contains (y ∷ xs) x
contains_later y x xs (k, within, is) = (suc k, omega arith, is)

pub contains_cases : {X : Type 0} (y x : X) (xs : List X) → Contains (y ∷ xs) x → (y ≡ x) ⊎ Contains xs x
contains_cases y x xs (zero, within, is) = inl is
contains_cases y x xs (suc k, within, is) = inr (k, omega arith, is)

any_here : {X : Type 0} (P : X → Type 0) (x : X) (xs : List X) → P x → Any P (x ∷ xs)
any_here P x xs p = (0, x, omega arith, refl, p)

any_later : {X : Type 0} (P : X → Type 0) (x : X) (xs : List X) → Any P xs → Any P (x ∷ xs)
any_later P x xs (k, y, within, is, p) = (suc k, y, omega arith, is, p)

any_cases : {X : Type 0} (P : X → Type 0) (x : X) (xs : List X) → Any P (x ∷ xs) → P x ⊎ Any P xs
any_cases P x xs (zero, y, within, is, p) = inl (subst P (sym is) p)
any_cases P x xs (suc k, y, within, is, p) = inr (k, y, omega arith, is, p)

abbrev named : List ExecSymbol → List Function
named symbols = map function_of (filter names_function symbols)

-- a symbol in front names one function more, or none
named_step : (f : Function) (s : ExecSymbol) (symbols : List ExecSymbol) (b : Bool) → names_function s ≡ b → (Contains (named symbols) f → Any (NamesFunction f) symbols) → Contains (named (s ∷ symbols)) f
    → Any (NamesFunction f) (s ∷ symbols)
named_step f s symbols true e others h = elim (contains_cases (function_of s) f (named symbols) (rw e at h)) [
  | inl is ↦ any_here (NamesFunction f) s symbols (e, is)
  | inr later ↦ any_later (NamesFunction f) s symbols (others later)
]
named_step f s symbols false e others h = any_later (NamesFunction f) s symbols (others (rw e at h))

named_from : (f : Function) (symbols : List ExecSymbol) → Contains (named symbols) f → Any (NamesFunction f) symbols
named_from f [] (k, within, is) = absurd (omega arith)
named_from f (s ∷ symbols) h = named_step f s symbols (names_function s) refl (named_from f symbols) h

named_later : (f : Function) (s : ExecSymbol) (symbols : List ExecSymbol) (b : Bool) → names_function s ≡ b → Contains (named symbols) f → Contains (named (s ∷ symbols)) f
named_later f s symbols true e h = rw e (contains_later (function_of s) f (named symbols) h)
named_later f s symbols false e h = rw e h

named_here : (f : Function) (s : ExecSymbol) (symbols : List ExecSymbol) → names_function s ≡ true → function_of s ≡ f → Contains (named (s ∷ symbols)) f
named_here f s symbols e is = rw e (subst (λ (g : Function). Contains (function_of s ∷ named symbols) g) is (contains_here (function_of s) (named symbols)))

named_to : (f : Function) (symbols : List ExecSymbol) → Any (NamesFunction f) symbols → Contains (named symbols) f
named_to f [] (k, s, within, is, p) = absurd (omega arith)
named_to f (s ∷ symbols) h = elim (any_cases (NamesFunction f) s symbols h) [
  | inl names ↦ named_here f s symbols names.0 names.1
  | inr later ↦ named_later f s symbols (names_function s) refl (named_to f symbols later)
]

-- sorted, and then each once, they are the functions of the symbols
pub sorted_are_functions : (symbols : List ExecSymbol) (xs ys zs : List Function) → xs ≡ named symbols → IsPermutation xs ys → IsSorted order ys → zs ≡ dedup same ys → AreFunctionsOf symbols zs
sorted_are_functions symbols xs ys zs from moved up once =
    rw once (record {
      ascending = ascends (dedup same ys) (IsStrictlySortedBy-dedup order_total same_ties ys up);
      named = λ f. (
        (λ c. named_from f symbols (subst (λ (l : List Function). Contains l f) from (Contains-permutation ys xs f (IsPermutation-sym xs ys moved) (Contains-from_dedup same ys f c)))),
        (λ a. Contains-dedup same_equiv same_is ys f (Contains-permutation xs ys f moved (subst (λ (l : List Function). Contains l f) (sym from) (named_to f symbols a)))),
      );
    })

-- a copy of them is what they are
pub copied : (symbols : List ExecSymbol) (items zs : List Function) (r : Result (List Function) NoMemory) → IfOk r (λ list. list ≡ items) → items ≡ zs → AreFunctionsOf symbols zs → IfOk r (AreFunctionsOf symbols)
copied symbols items zs (Ok list) is from are = subst (AreFunctionsOf symbols) (sym (is ∙ from)) are
copied symbols items zs (Err e) is from are = tt
