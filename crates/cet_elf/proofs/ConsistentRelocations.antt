-- The relocations of an object that was read keep what a link editor asks.
use Rattle.std.proofs.Common.{◌≡◌, ℕ, zero, suc, ◌+◌, ◌≤◌, ◌<◌, Bool, true, false, eqb, ltb, List, [], ◌∷◌, ◌++◌, length, All, inl, inr, refl, sym, ap, ◌∙◌, subst, add-one, length-append, arith}
use Rattle.std.specs.Prelude.{if◌then◌else◌, ◌==◌}
use Rattle.std.proofs.lemmas.Bool.{cases_Bool, cases_eq, eq-eqb, ne_eqb, ltb-true, leb-true, and_parts}
use Rattle.std.proofs.lemmas.List.Elements.{All-nil, All-cons}
use Rattle.cet_elf.specs.declared.error.ElfError.TheVariants.{Bounds, RelaType, SymbolIndex, TooMany}
use Rattle.cet_elf.specs.declared.entries.RelaEntry.{RelaEntry}
use Rattle.cet_elf.specs.declared.object.Rela.{Rela}
use Rattle.cet_elf.specs.Below.{each_below, count_below, sum_below}
use Rattle.cet_elf.specs.Faults.{broken}
use Rattle.cet_elf.specs.Header.{section_count}
use Rattle.cet_elf.specs.Sections.{section, section_place, stored, stored_size, HasSections}
use Rattle.cet_elf.specs.ObjectSymbols.{symbol_count, is_kept_symbol, symbol_value, symbols_of}
use Rattle.cet_elf.specs.ObjectRelocations.{is_rela_type, is_symbol_index, is_field_inside, is_read_rela, is_within_limit, rela_count, rela_place, rela_at, target_size, rela_faults, entry_faults, rela_section_faults, relocations_faults, rela_of, relas_in, relocations_of}
use Rattle.cet_elf.specs.Consistent.{IsConsistentRela}
use Rattle.cet_elf.proofs.FaultLemmas.{true-broken}
use Rattle.cet_elf.proofs.TableLemmas.{none-front, none-back}
use Rattle.cet_elf.proofs.BelowLemmas.{each-none}
use Rattle.cet_elf.proofs.NumberLemmas.{length-table}
use Rattle.cet_elf.specs.Numbers.{relocations_below}
use Rattle.cet_elf.proofs.RelocationLemmas.{none-read}
use Rattle.cet_elf.proofs.SumLemmas.{All-each, sum_below-same, sum_below-add, sum_below-one, count_below-lt, length-kept}
use Rattle.cet_elf.proofs.ConsistentSections.{length-stored}

pub length-symbols : (b : List ℕ) → length (symbols_of b) ≡ count_below (symbol_count b) (is_kept_symbol b)
unfolding symbols_of
length-symbols b = length-kept (symbol_count b) (is_kept_symbol b) (symbol_value b)

-- an entry without a fault
IsConsistentRela-from : (b : List ℕ) (size at : ℕ) (e : RelaEntry) → rela_faults b size at e ≡ [] → IsConsistentRela (length (symbols_of b)) size (rela_of b e)
unfolding rela_faults rela_of
IsConsistentRela-from b size at e h =
    let kinds = broken (is_rela_type e.kind) (RelaType (at + 8) e.kind) in
    let symbols = broken (is_symbol_index b e.symbol) (SymbolIndex (at + 8)) in
    let fields = broken (is_field_inside e.kind e.offset size) (Bounds at) in
    let two = none-front (kinds ++ symbols) fields h in
    let there = true-broken (is_symbol_index b e.symbol) (SymbolIndex (at + 8)) (none-back kinds symbols two) in
    let parts = and_parts (ltb e.symbol (symbol_count b)) (is_kept_symbol b e.symbol) there in
    let less = count_below-lt (symbol_count b) e.symbol (is_kept_symbol b) (ltb-true e.symbol (symbol_count b) parts.0) parts.1 in
    record {
      kind = true-broken (is_rela_type e.kind) (RelaType (at + 8) e.kind) (none-front kinds symbols two);
      symbol = omega (arith, length-symbols b);
      field = true-broken (is_field_inside e.kind e.offset size) (Bounds at) (none-back (kinds ++ symbols) fields h);
    }

-- the entries of a section without a fault
section_known : (b : List ℕ) (j : ℕ) → rela_section_faults b j ≡ [] → is_read_rela b j ≡ true → (is_within_limit b j ≡ true) × (each_below (rela_count b j) (entry_faults b j) ≡ [])
unfolding rela_section_faults
section_known b j h e =
    let limits = broken (is_within_limit b j) (TooMany (section_place b j)) in
    let entries = each_below (rela_count b j) (entry_faults b j) in
    let all : limits ++ entries ≡ [] = rw e at h in
    (true-broken (is_within_limit b j) (TooMany (section_place b j)) (none-front limits entries all), none-back limits entries all)

one_consistent : (b : List ℕ) (j i k : ℕ) → HasSections b → i < section_count b → rela_section_faults b j ≡ [] → (section b j).info ≡ i → is_read_rela b j ≡ true → k < rela_count b j
    → IsConsistentRela (length (symbols_of b)) (length (stored b (section b i))) (rela_of b (rela_at b j k))
one_consistent b j i k h lt none is read less =
    let faults = each-none (rela_count b j) k (entry_faults b j) less (section_known b j none read).1 in
    let size : target_size b j ≡ length (stored b (section b i)) = ap (λ n. stored_size (section b n)) is ∙ sym (length-stored b i h lt) in
    subst (λ n. IsConsistentRela (length (symbols_of b)) n (rela_of b (rela_at b j k))) size (IsConsistentRela-from b (target_size b j) (rela_place b j k) (rela_at b j k) faults)

read_consistent : (b : List ℕ) (j i : ℕ) → HasSections b → i < section_count b → rela_section_faults b j ≡ [] → (section b j).info ≡ i → is_read_rela b j ≡ true → All (IsConsistentRela (length (symbols_of b)) (length (stored b (section b i)))) (relas_in b j)
unfolding relas_in
read_consistent b j i h lt none is read =
    let P : Rela → Type 0 = IsConsistentRela (length (symbols_of b)) (length (stored b (section b i))) in
    All-each P (rela_count b j) (λ k. rela_of b (rela_at b j k) ∷ []) (λ k less. All-cons P (rela_of b (rela_at b j k)) [] (one_consistent b j i k h lt none is read less) (All-nil P))

relas_consistent : (b : List ℕ) (j i : ℕ) → HasSections b → i < section_count b → rela_section_faults b j ≡ [] → (section b j).info ≡ i → All (IsConsistentRela (length (symbols_of b)) (length (stored b (section b i)))) (relas_in b j)
relas_consistent b j i h lt none is =
    let P : Rela → Type 0 = IsConsistentRela (length (symbols_of b)) (length (stored b (section b i))) in
    elim (cases_Bool (is_read_rela b j)) [
      | inl read ↦ read_consistent b j i h lt none is read
      | inr passed ↦ subst (All P) (sym (none-read b j passed)) (All-nil P)
    ]

-- the relocations of a section
pub relocations_consistent : (b : List ℕ) (i : ℕ) → HasSections b → i < section_count b → relocations_faults b ≡ [] → All (IsConsistentRela (length (symbols_of b)) (length (stored b (section b i)))) (relocations_of b i)
unfolding relocations_faults relocations_of
relocations_consistent b i h lt none =
    let P : Rela → Type 0 = IsConsistentRela (length (symbols_of b)) (length (stored b (section b i))) in
    All-each P (section_count b) (λ j. if (section b j).info == i then relas_in b j else []) (λ j less.
    elim (cases_eq (section b j).info i) [
      | inl is ↦
          let test : eqb (section b j).info i ≡ true = eq-eqb (section b j).info i is in
          rw test (relas_consistent b j i h lt (each-none (section_count b) j (rela_section_faults b) less none) is)
      | inr other ↦
          let test : eqb (section b j).info i ≡ false = ne_eqb (section b j).info i other in
          rw test (All-nil P)
    ])

-- ---- how many there are

length-relas : (b : List ℕ) (j : ℕ) → length (relas_in b j) ≡ rela_count b j
unfolding relas_in
length-relas b j = length-table (rela_count b j) (λ k. rela_of b (rela_at b j k))

length_if : (q : Bool) (xs : List Rela) → length (if q then xs else []) ≡ (if q then length xs else 0)
length_if true xs = refl
length_if false xs = refl

-- all relocations that stand in the first m sections
all_below : (b : List ℕ) (n m : ℕ) → sum_below n (λ i. length (relocations_below b m i)) ≤ sum_below m (rela_count b)
all_below b n zero = omega (arith, zeros n)
  where
    zeros : (n : ℕ) → sum_below n (λ i. 0) ≡ 0
    zeros zero = refl
    zeros (suc n) = omega (arith, zeros n)
all_below b n (suc m) =
    let each = sum_below-same n (λ i. length (relocations_below b m i ++ (if (section b m).info == i then relas_in b m else []))) (λ i. length (relocations_below b m i) + (if (section b m).info == i then length (relas_in b m) else 0)) (λ i. length-append (relocations_below b m i) (if (section b m).info == i then relas_in b m else []) ∙ ap (λ k. length (relocations_below b m i) + k) (length_if ((section b m).info == i) (relas_in b m))) in
    let parts = sum_below-add n (λ i. length (relocations_below b m i)) (λ i. if (section b m).info == i then length (relas_in b m) else 0) in
    omega (arith, each, parts, sum_below-one n (section b m).info (length (relas_in b m)), all_below b n m, length-relas b m)

-- the limit holds up to each section
within_limit : (b : List ℕ) (n m : ℕ) → m ≤ n → ((j : ℕ) → j < n → rela_section_faults b j ≡ []) → sum_below m (rela_count b) ≤ 1000000
within_limit b n zero le none = omega arith
within_limit b n (suc m) le none = elim (cases_Bool (is_read_rela b m)) [
  | inl read ↦
      let limit = leb-true (sum_below (m + 1) (rela_count b)) 1000000 (section_known b m (none m (omega arith)) read).0 in
      subst (λ k. sum_below k (rela_count b) ≤ 1000000) (add-one m) limit
  | inr passed ↦
      let rest = within_limit b n m (omega arith) none in
      let zero : rela_count b m ≡ 0 = omega (arith, sym (length-relas b m) ∙ ap (λ (xs : List Rela). length xs) (none-read b m passed)) in
      omega arith
]

pub relocations_few : (b : List ℕ) → relocations_faults b ≡ [] → sum_below (section_count b) (λ i. length (relocations_of b i)) ≤ 1000000
unfolding relocations_faults relocations_of
relocations_few b none =
    omega (arith, all_below b (section_count b) (section_count b), within_limit b (section_count b) (section_count b) (omega arith) (λ j lt. each-none (section_count b) j (rela_section_faults b) lt none))
