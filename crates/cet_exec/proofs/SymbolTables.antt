-- The section that is the symbol table, and how many entries it has.
use Rattle.std.proofs.Common.{◌≡◌, ℕ, zero, suc, ◌/◌, ◌<◌, Bool, true, List, Some, None, inl, inr, refl, sym, ap, subst, arith}
use Rattle.std.proofs.lemmas.Bool.{cases_lt}
use Rattle.cet_elf.specs.Below.{first_below}
use Rattle.cet_elf.specs.Sections.{section}
use Rattle.cet_elf.specs.ObjectSymbols.{symbol_table, symbol_count}
use Rattle.cet_elf.proofs.SymbolLemmas.{IsTable-from, symbol_table-there}

pub symbol_count-some : (b : List ℕ) (i : ℕ) → symbol_table b ≡ Some i → (section b i).size / 24 ≡ symbol_count b
symbol_count-some b i e = sym (IsTable-from b i e).count

pub symbol_count-none : (b : List ℕ) → symbol_table b ≡ None → symbol_count b ≡ 0
unfolding symbol_count
symbol_count-none b e = rw e refl

-- a number that passes is the first below n, where none below it passes
pub first_below-first : (n i : ℕ) (p : ℕ → Bool) → i < n → first_below i p ≡ None → p i ≡ true → first_below n p ≡ Some i
first_below-first zero i p lt none h = absurd (omega arith)
first_below-first (suc n) i p lt none h = elim (cases_lt i n) [
  | inl less ↦ let e = first_below-first n i p less none h in rw e refl
  | inr le ↦
      let is : i ≡ n = omega arith in
      let f : first_below n p ≡ None = subst (λ k. first_below k p ≡ None) is none in
      let g : p n ≡ true = subst (λ k. p k ≡ true) is h in
      rw (f, g) (ap Some (sym is))
]

pub ruleset counts = (symbol_count-some, symbol_count-none, symbol_table-there)
