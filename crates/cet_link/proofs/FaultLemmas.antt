-- The first fault of lists that are joined.
use Rattle.std.proofs.Common.{◌≡◌, Bool, true, false, List, [], ◌∷◌, ◌++◌, Some, refl, sym, subst}
use Rattle.cet_link.specs.declared.error.LinkError.{LinkError}
use Rattle.cet_link.specs.declared.error.LinkError.TheVariants as errors
use Rattle.cet_link.specs.First.{where_true, first, IsFirst}

first-append : (e : LinkError) (xs ys : List LinkError) → first xs ≡ Some e → first (xs ++ ys) ≡ Some e
first-append e [] ys h = absurd cc
first-append e (x ∷ xs) ys h = h

-- a fault of the front is the first one
pub IsFirst-front : (e : LinkError) (xs ys : List LinkError) → IsFirst e xs → IsFirst e (xs ++ ys)
IsFirst-front e xs ys h = record { first = λ ne. first-append e xs ys (h.first ne) }

-- where the front has none, the first one is that of the rest
pub IsFirst-back : (e : LinkError) (xs ys : List LinkError) → xs ≡ [] → IsFirst e ys → IsFirst e (xs ++ ys)
IsFirst-back e xs ys none h = subst (λ zs. IsFirst e (zs ++ ys)) (sym none) h

pub none-append : (xs ys : List LinkError) → xs ≡ [] → ys ≡ [] → xs ++ ys ≡ []
none-append xs ys h k = rw (h, k) refl

pub none-front : (xs ys : List LinkError) → xs ++ ys ≡ [] → xs ≡ []
none-front [] ys h = refl
none-front (x ∷ xs) ys h = absurd cc

pub none-back : (xs ys : List LinkError) → xs ++ ys ≡ [] → ys ≡ []
none-back [] ys h = h
none-back (x ∷ xs) ys h = absurd cc

pub IsFirst-true : (test : Bool) (e : LinkError) → test ≡ true → IsFirst e (where_true test e)
IsFirst-true true e h = record { first = λ _. refl }
IsFirst-true false e h = absurd cc

pub where-false : (test : Bool) (e : LinkError) → test ≡ false → where_true test e ≡ []
where-false false e h = refl
where-false true e h = absurd cc

-- want of memory is free
pub IsFirst-memory : (xs : List LinkError) → IsFirst errors.NoMemory xs
IsFirst-memory xs = record { first = λ ne. absurd (ne refl) }

-- how a check that is made of checks finds its fault
pub ruleset checks = (IsFirst-front, IsFirst-back, none-append, IsFirst-true, where-false, IsFirst-memory)
