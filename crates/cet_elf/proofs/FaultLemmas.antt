-- The first fault of lists that are joined.
use Rattle.std.proofs.Common.{◌≡◌, Bool, true, false, List, [], ◌∷◌, ◌++◌, Some, refl, sym, subst}
use Rattle.cet_elf.specs.declared.error.ElfError.{ElfError}
use Rattle.cet_elf.specs.declared.error.ElfError.TheVariants as errors
use Rattle.cet_elf.specs.Faults.{broken, first, IsFirst}

first-append : (e : ElfError) (xs ys : List ElfError) → first xs ≡ Some e → first (xs ++ ys) ≡ Some e
first-append e [] ys h = absurd cc
first-append e (x ∷ xs) ys h = h

-- a fault of the front is the first one
pub IsFirst-front : (e : ElfError) (xs ys : List ElfError) → IsFirst e xs → IsFirst e (xs ++ ys)
IsFirst-front e xs ys h = record { first = λ ne. first-append e xs ys (h.first ne) }

-- where the front has none, the first one is that of the rest
pub IsFirst-back : (e : ElfError) (xs ys : List ElfError) → xs ≡ [] → IsFirst e ys → IsFirst e (xs ++ ys)
IsFirst-back e xs ys none h = subst (λ zs. IsFirst e (zs ++ ys)) (sym none) h

pub none-append : (xs ys : List ElfError) → xs ≡ [] → ys ≡ [] → xs ++ ys ≡ []
none-append xs ys h k = rw (h, k) refl

pub IsFirst-broken : (rule : Bool) (e : ElfError) → rule ≡ false → IsFirst e (broken rule e)
IsFirst-broken false e h = record { first = λ _. refl }
IsFirst-broken true e h = absurd cc

pub broken-true : (rule : Bool) (e : ElfError) → rule ≡ true → broken rule e ≡ []
broken-true true e h = refl
broken-true false e h = absurd cc

pub true-broken : (rule : Bool) (e : ElfError) → broken rule e ≡ [] → rule ≡ true
true-broken true e h = refl
true-broken false e h = absurd cc

-- want of memory is free
pub IsFirst-memory : (xs : List ElfError) → IsFirst errors.NoMemory xs
IsFirst-memory xs = record { first = λ ne. absurd (ne refl) }

-- how a check that is made of checks finds its fault
pub ruleset checks = (IsFirst-front, IsFirst-back, none-append, IsFirst-broken, broken-true)
