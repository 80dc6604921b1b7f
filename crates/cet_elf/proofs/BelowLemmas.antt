-- What the numbers below n give, number by number.
use Rattle.std.proofs.Common.{◌≡◌, ℕ, zero, suc, ◌+◌, ◌<◌, List, [], ◌++◌, inl, inr, refl, subst, add-one, arith}
use Rattle.std.proofs.lemmas.Bool.{cases_lt}
use Rattle.cet_elf.specs.declared.error.ElfError.{ElfError}
use Rattle.cet_elf.specs.Below.{each_below}
use Rattle.cet_elf.specs.Faults.{IsFirst}
use Rattle.cet_elf.proofs.FaultLemmas.{IsFirst-front, IsFirst-back}
use Rattle.cet_elf.proofs.TableLemmas.{none-front, none-back}

pub each-more : {X : Type 0} (i : ℕ) (f : ℕ → List X) → each_below (i + 1) f ≡ each_below i f ++ f i
each-more i f = rw add-one refl

-- none among all is none at each
pub each-none : (n i : ℕ) (f : ℕ → List ElfError) → i < n → each_below n f ≡ [] → f i ≡ []
each-none zero i f lt h = absurd (omega arith)
each-none (suc n) i f lt h = elim (cases_lt i n) [
  | inl less ↦ each-none n i f less (none-front (each_below n f) (f n) h)
  | inr le ↦ let is : n ≡ i = omega arith in subst (λ k. f k ≡ []) is (none-back (each_below n f) (f n) h)
]

-- a step of a loop that found none
pub each-none-more : (i : ℕ) (f : ℕ → List ElfError) → each_below i f ≡ [] → f i ≡ [] → each_below (i + 1) f ≡ []
each-none-more i f h k = rw (add-one, h, k) refl

-- the first fault of i, where the numbers below have none, is the first of all
pub IsFirst-each : (e : ElfError) (n i : ℕ) (f : ℕ → List ElfError) → i < n → each_below i f ≡ [] → IsFirst e (f i) → IsFirst e (each_below n f)
IsFirst-each e zero i f lt none h = absurd (omega arith)
IsFirst-each e (suc n) i f lt none h = elim (cases_lt i n) [
  | inl less ↦ IsFirst-front e (each_below n f) (f n) (IsFirst-each e n i f less none h)
  | inr le ↦
      let is : i ≡ n = omega arith in
      IsFirst-back e (each_below n f) (f n) (subst (λ k. each_below k f ≡ []) is none) (subst (λ k. IsFirst e (f k)) is h)
]

pub ruleset loops = (each-none-more, IsFirst-each)
