-- Relocations: the look-up of their symbols, where their entries stand, and what is read of the first sections.
use Rattle.std.proofs.Common.{◌≡◌, ℕ, ◌+◌, ◌*◌, ◌/◌, ◌≤◌, ◌<◌, Bool, true, false, eqb, ltb, ◌&&◌, List, [], ◌++◌, length, get_or, Option, Some, None, refl, sym, ap, ◌∙◌, subst, inl, inr, arith}
use Rattle.std.specs.Prelude.{if◌then◌else◌}
use Rattle.std.proofs.lemmas.Bool.{cases_lt, cases_eq, lt-ltb, le-ltb, ltb-true, eqb-true, eq-eqb, ne_eqb, and_parts, or_cases}
use Rattle.std.proofs.lemmas.List.{get_or_past, append-nil, get_or-set_other, length-set}
use Rattle.std.proofs.Math.ListN.{set}
use Rattle.std.proofs.lemmas.Grind.{get_or-set_at}
use Rattle.cet_elf.specs.ObjectSections.{is_loaded, is_loaded_at, is_note}
use Rattle.cet_elf.specs.ObjectSymbols.{symbol_count, symbol_number}
use Rattle.cet_elf.specs.Fields.{is_part}
use Rattle.cet_elf.specs.Header.{section_count}
use Rattle.cet_elf.specs.declared.object.Rela.{Rela}
use Rattle.cet_elf.specs.Sections.{section, stored_size, HasSections}
use Rattle.cet_elf.specs.ObjectRelocations.{is_symbol_index, is_read_rela, is_target, rela_count, relas_in}
use Rattle.cet_elf.specs.Numbers.{symbol_numbers, number_if_kept, relocations_below, AreRelocations}
use Rattle.cet_elf.proofs.TableLemmas.{part-end}
use Rattle.cet_elf.proofs.BelowLemmas.{each-more}
use Rattle.cet_elf.proofs.NumberLemmas.{length-table, get_or-table}

-- what the table of numbers has at k
pub get_or-symbol_numbers : (b : List ℕ) (k : ℕ) → get_or (symbol_numbers b) k None ≡ (if is_symbol_index b k then Some (symbol_number b k) else None)
get_or-symbol_numbers b k = elim (cases_lt k (symbol_count b)) [
  | inl lt ↦
      let there : ltb k (symbol_count b) ≡ true = lt-ltb k (symbol_count b) lt in
      rw there (get_or-table (symbol_count b) k (number_if_kept b) None lt)
  | inr le ↦
      let absent : ltb k (symbol_count b) ≡ false = le-ltb k (symbol_count b) le in
      rw absent (get_or_past (symbol_numbers b) k None (omega (arith, length-table (symbol_count b) (number_if_kept b))))
]

-- a number that was found is that of a symbol that is there
pub number-found : (b : List ℕ) (ns : List (Option ℕ)) (k n : ℕ) → ns ≡ symbol_numbers b → get_or ns k None ≡ Some n → (is_symbol_index b k ≡ true) × (symbol_number b k ≡ n)
number-found b ns k n e h =
    go (is_symbol_index b k) (sym (ap (λ (xs : List (Option ℕ)). get_or xs k None) e ∙ get_or-symbol_numbers b k) ∙ h)
  where
    go : (q : Bool) → (if q then Some (symbol_number b k) else None) ≡ Some n → (q ≡ true) × (symbol_number b k ≡ n)
    go true f = (refl, cc)
    go false f = absurd cc

pub number-absent : (b : List ℕ) (ns : List (Option ℕ)) (k : ℕ) → ns ≡ symbol_numbers b → get_or ns k None ≡ None → is_symbol_index b k ≡ false
number-absent b ns k e h =
    go (is_symbol_index b k) (sym (ap (λ (xs : List (Option ℕ)). get_or xs k None) e ∙ get_or-symbol_numbers b k) ∙ h)
  where
    go : (q : Bool) → (if q then Some (symbol_number b k) else None) ≡ None → q ≡ false
    go true f = absurd cc
    go false f = refl

pub ruleset symbols = (number-found, number-absent)

-- what is known of a section whose entries are read
pub record IsRead (b : List ℕ) (j : ℕ) : Type 0 where
  pub kind : (section b j).kind ≡ 4
  pub target : (section b j).info < section_count b
  pub count : rela_count b j ≡ (section b j).size / 24

target-inside : (b : List ℕ) (i : ℕ) → is_target b i ≡ true → i < section_count b
target-inside b i e =
    let inside = ltb i (section_count b) in
    elim (or_cases (is_loaded_at b i) (inside && is_note b i) e) [
      | inl loaded ↦ ltb-true i (section_count b) (and_parts inside (is_loaded (section b i)) loaded).0
      | inr note ↦ ltb-true i (section_count b) (and_parts inside (is_note b i) note).0
    ]

pub IsRead-from : (b : List ℕ) (j : ℕ) → is_read_rela b j ≡ true → IsRead b j
unfolding is_read_rela rela_count
IsRead-from b j e =
    let parts = and_parts (eqb (section b j).kind 4) (is_target b (section b j).info) e in
    record {
      kind = eqb-true (section b j).kind 4 parts.0;
      target = target-inside b (section b j).info parts.1;
      count = rw e refl;
    }

pub target-there : (b : List ℕ) (j : ℕ) → is_read_rela b j ≡ true → (section b j).info < section_count b
target-there b j e = (IsRead-from b j e).target

pub rela_count-read : (b : List ℕ) (j : ℕ) → is_read_rela b j ≡ true → rela_count b j ≡ (section b j).size / 24
rela_count-read b j e = (IsRead-from b j e).count

-- entries are in the file
pub rela-inside : (b : List ℕ) (j k : ℕ) → HasSections b → j < section_count b → is_read_rela b j ≡ true → k < (section b j).size / 24 → (section b j).offset + 24 * k + 24 ≤ length b
rela-inside b j k h there e lt =
    let r = IsRead-from b j e in
    let size : stored_size (section b j) ≡ (section b j).size = rw r.kind refl in
    let part : is_part b (section b j).offset (section b j).size ≡ true = subst (λ n. is_part b (section b j).offset n ≡ true) size (h.inside j there) in
    let end = part-end b (section b j).offset (section b j).size (omega arith) part in
    omega arith

pub ruleset places = (target-there, rela_count-read, rela-inside)

-- ---- the lists of the sections

pub none-read : (b : List ℕ) (j : ℕ) → is_read_rela b j ≡ false → relas_in b j ≡ []
unfolding relas_in rela_count
none-read b j e = rw e refl

-- a section whose entries are not read adds none
pub AreRelocations-none : (b : List ℕ) (j : ℕ) (lists : List (List Rela)) → AreRelocations b j lists → is_read_rela b j ≡ false → AreRelocations b (j + 1) lists
AreRelocations-none b j lists h e = record {
  count = h.count;
  each = λ i lt. h.each i lt ∙ (sym (append-nil (relocations_below b j i)) ∙ (ap (λ xs. relocations_below b j i ++ xs) (empty (eqb (section b j).info i)) ∙ sym (each-more j (λ k. if eqb (section b k).info i then relas_in b k else []))));
}
  where
    empty : (q : Bool) → [] ≡ (if q then relas_in b j else [])
    empty true = sym (none-read b j e)
    empty false = refl

-- the others are added to the list of the section that they are for
pub AreRelocations-more : (b : List ℕ) (j : ℕ) (lists : List (List Rela)) (list : List Rela) → AreRelocations b j lists → (section b j).info < section_count b
    → list ≡ get_or lists (section b j).info [] ++ relas_in b j → AreRelocations b (j + 1) (set lists (section b j).info list)
AreRelocations-more b j lists list h there is = record {
  count = length-set lists (section b j).info list ∙ h.count;
  each = λ i lt. elim (cases_eq (section b j).info i) [
    | inl same ↦
        let here : get_or (set lists (section b j).info list) i [] ≡ list = get_or-set_at lists (section b j).info i list [] (sym same) (omega (arith, h.count)) in
        let before : get_or lists (section b j).info [] ≡ relocations_below b j i = subst (λ k. get_or lists k [] ≡ relocations_below b j i) (sym same) (h.each i lt) in
        let test : eqb (section b j).info i ≡ true = eq-eqb (section b j).info i same in
        here ∙ (is ∙ (ap (λ xs. xs ++ relas_in b j) before ∙ sym (more i true test)))
    | inr other ↦
        let test : eqb (section b j).info i ≡ false = ne_eqb (section b j).info i other in
        get_or-set_other lists (section b j).info i list [] (λ e. other (sym e)) ∙ (h.each i lt ∙ (sym (append-nil (relocations_below b j i)) ∙ sym (more i false test)))
  ];
}
  where
    more : (i : ℕ) (q : Bool) → eqb (section b j).info i ≡ q → relocations_below b (j + 1) i ≡ relocations_below b j i ++ (if q then relas_in b j else [])
    more i q e = rw (← e) (each-more j (λ k. if eqb (section b k).info i then relas_in b k else []))

pub ruleset lists = (AreRelocations-none, AreRelocations-more)
