-- The symbol table: where its entries stand, and what is read of the first of them.
use Rattle.std.proofs.Common.{◌≡◌, ℕ, zero, suc, ◌+◌, ◌*◌, ◌/◌, ◌≤◌, ◌<◌, Bool, true, false, List, [], ◌∷◌, ◌++◌, length, Option, Some, None, is_some, refl, sym, ap, ◌∙◌, subst, add-one, arith}
use Rattle.std.specs.Prelude.{option_to_list, if◌then◌else◌}
use Rattle.cet_elf.specs.declared.symbols.Symbols.{Symbols}
use Rattle.cet_elf.specs.declared.object.Symbol.{Symbol}
use Rattle.cet_elf.specs.Below.{first_below, or_else}
use Rattle.cet_elf.specs.Fields.{is_part}
use Rattle.cet_elf.specs.Header.{section_count}
use Rattle.cet_elf.specs.Sections.{section, stored_size, string_table, HasSections}
use Rattle.std.proofs.lemmas.Bool.{eqb-true}
use Rattle.cet_elf.proofs.NumberLemmas.{count_below-le}
use Rattle.cet_elf.proofs.SumLemmas.{length-kept}
use Rattle.cet_elf.specs.ObjectSections.{is_symbol_table}
use Rattle.cet_elf.specs.ObjectSymbols.{symbol_table, symbol_count, symbol_names, symbol_place, is_kept_symbol, symbol_value, symbol_number}
use Rattle.cet_elf.specs.Numbers.{AreSymbols}
use Rattle.cet_elf.proofs.TableLemmas.{part-end}

-- the first number that passes is below n and passes
pub first_below-found : (n : ℕ) (p : ℕ → Bool) (i : ℕ) → first_below n p ≡ Some i → (i < n) × (p i ≡ true)
first_below-found zero p i h = absurd cc
first_below-found (suc n) p i h = found (λ j e. first_below-found n p j e) (first_below n p) (p n) refl refl h
  where
    found : ((j : ℕ) → first_below n p ≡ Some j → (j < n) × (p j ≡ true)) → (o : Option ℕ) (q : Bool) → first_below n p ≡ o → p n ≡ q → or_else o (if q then Some n else None) ≡ Some i → (i < suc n) × (p i ≡ true)
    found rest (Some j) q e f g =
        let is : j ≡ i = cc in
        let h = rest j e in (subst (λ k. k < suc n) is (omega (arith, h.0)), subst (λ k. p k ≡ true) is h.1)
    found rest None true e f g =
        let is : n ≡ i = cc in (omega arith, subst (λ k. p k ≡ true) is f)
    found rest None false e f g = absurd cc

-- what is known of the section that is the symbol table
pub record IsTable (b : List ℕ) (i : ℕ) : Type 0 where
  pub there : i < section_count b
  pub kind : (section b i).kind ≡ 2
  pub count : symbol_count b ≡ (section b i).size / 24
  pub names : symbol_names b ≡ string_table b (section b i).link
  pub place : (k : ℕ) → symbol_place b k ≡ (section b i).offset + 24 * k

pub IsTable-from : (b : List ℕ) (i : ℕ) → symbol_table b ≡ Some i → IsTable b i
unfolding symbol_table symbol_count symbol_names symbol_place
IsTable-from b i e =
    let h = first_below-found (section_count b) (is_symbol_table b) i e in
    record {
      there = h.0;
      kind = eqb-true _ 2 h.1;
      count = rw e refl;
      names = rw e refl;
      place = λ k. rw e refl;
    }

pub symbol_table-there : (b : List ℕ) (i : ℕ) → symbol_table b ≡ Some i → i < section_count b
symbol_table-there b i e = (IsTable-from b i e).there

pub symbol_table-names : (b : List ℕ) (i : ℕ) → symbol_table b ≡ Some i → string_table b (section b i).link ≡ symbol_names b
symbol_table-names b i e = sym (IsTable-from b i e).names

pub symbol_table-place : (b : List ℕ) (i k : ℕ) → symbol_table b ≡ Some i → (section b i).offset + 24 * k ≡ symbol_place b k
symbol_table-place b i k e = sym ((IsTable-from b i e).place k)

-- entries are in the file
pub symbol_table-inside : (b : List ℕ) (i k : ℕ) → HasSections b → symbol_table b ≡ Some i → k < symbol_count b → (section b i).offset + 24 * k + 24 ≤ length b
symbol_table-inside b i k h e lt =
    let t = IsTable-from b i e in
    let size : stored_size (section b i) ≡ (section b i).size = rw t.kind refl in
    let whole = h.inside i t.there in
    let part : is_part b (section b i).offset (section b i).size ≡ true = subst (λ n. is_part b (section b i).offset n ≡ true) size whole in
    let some : k < (section b i).size / 24 = omega (arith, t.count) in
    let end = part-end b (section b i).offset (section b i).size (omega arith) part in
    omega arith

-- so many symbols at most
pub AreSymbols-few : (b : List ℕ) (n : ℕ) (s : Symbols) → AreSymbols b n s → length s.list ≤ n
AreSymbols-few b n s h = omega (arith, ap length h.list, length-kept n (is_kept_symbol b) (symbol_value b), count_below-le n (is_kept_symbol b))

-- one more entry
pub AreSymbols-more : (b : List ℕ) (n : ℕ) (s t : Symbols) (o : Option Symbol) → AreSymbols b n s
    → o ≡ (if is_kept_symbol b n then Some (symbol_value b n) else None) → t.list ≡ s.list ++ option_to_list o → t.numbers.items ≡ s.numbers.items ++ (if is_some o then Some (length s.list) else None) ∷ []
    → AreSymbols b (n + 1) t
AreSymbols-more b n s t o h is list numbers =
    let count : length s.list ≡ symbol_number b n = ap length h.list ∙ length-kept n (is_kept_symbol b) (symbol_value b) in
    let one = listed (is_kept_symbol b n) (symbol_value b n) o is in
    let two = numbered (is_kept_symbol b n) (symbol_value b n) o (length s.list) (symbol_number b n) count is in
    record {
      list = rw (add-one, list, h.list, one) refl;
      numbers = rw (add-one, numbers, h.numbers, two) refl;
    }
  where
    listed : (q : Bool) (v : Symbol) (o : Option Symbol) → o ≡ (if q then Some v else None) → option_to_list o ≡ (if q then v ∷ [] else [])
    listed true v o e = rw e refl
    listed false v o e = rw e refl

    numbered : (q : Bool) (v : Symbol) (o : Option Symbol) (m k : ℕ) → m ≡ k → o ≡ (if q then Some v else None) → (if is_some o then Some m else None) ≡ (if q then Some k else None)
    numbered true v o m k same e = rw (e, same) refl
    numbered false v o m k same e = rw e refl

pub ruleset tables = (symbol_table-there, symbol_table-names, symbol_table-place, symbol_table-inside)

pub ruleset reads = (AreSymbols-few, AreSymbols-more)
