-- An object that was read keeps what a link editor asks.
use Rattle.std.proofs.Common.{◌≡◌, ℕ, ◌+◌, ◌≤◌, ◌<◌, Bool, true, false, eqb, ltb, leb, not, ◌||◌, List, [], ◌++◌, length, All, Option, Some, None, Result, Ok, Err, inl, inr, refl, sym, subst, arith}
use Rattle.std.specs.Prelude.{if◌then◌else◌, ◌==◌, IfOk, sum_by}
use Rattle.std.proofs.lemmas.Bool.{cases_Bool, leb-true, ltb-true}
use Rattle.std.proofs.lemmas.List.Elements.{All-nil, All-cons}
use Rattle.cet_elf.specs.declared.error.ElfError.{ElfError}
use Rattle.cet_elf.specs.declared.error.ElfError.TheVariants.{Magic, Class, Bounds, TooMany, Name, Unsupported, SymbolIndex}
use Rattle.cet_elf.specs.declared.entries.SymbolEntry.{SymbolEntry}
use Rattle.cet_elf.specs.declared.object.Object.{Object}
use Rattle.cet_elf.specs.declared.object.Section.{Section}
use Rattle.cet_elf.specs.declared.object.Symbol.{Symbol}
use Rattle.cet_elf.specs.declared.object.SymbolPlace.TheVariants as places
use Rattle.cet_elf.specs.Below.{each_below, count_below}
use Rattle.cet_elf.specs.Fields.{byte, word}
use Rattle.cet_elf.specs.Faults.{Reads, broken}
use Rattle.cet_elf.specs.Header.{section_count, ident_faults, kind_faults, table_faults, header_faults, HasSectionTable}
use Rattle.cet_elf.specs.Sections.{section, section_place, section_names, place_faults, name_faults, sections_faults, HasSections}
use Rattle.cet_elf.specs.StringTable.{has_name}
use Rattle.cet_elf.specs.Entries.{is_file}
use Rattle.cet_elf.specs.ObjectSections.{is_kept, is_supported, support_faults, section_number}
use Rattle.cet_elf.specs.ObjectSymbols.{symbol_table, symbol_count, symbol_count_of, symbol_names, symbol_place, symbol_at, entry_count, entry_faults, symbol_faults, symbol_limit_faults, symbols_faults, is_supported_symbol, is_section_index, is_kept_symbol, kept_symbol, symbol_value, symbol_of, symbols_of, null_symbol, place_of}
use Rattle.cet_elf.specs.ObjectRelocations.{relocations_faults}
use Rattle.cet_elf.specs.ObjectFile.{object_faults, object_of, section_of, kept_section, sections_of}
use Rattle.cet_elf.specs.Consistent.{HasNoZero, KeepsLimits, IsPlaceAmong, IsConsistentSection, IsConsistentSymbol, IsConsistent}
use Rattle.cet_elf.proofs.FaultLemmas.{true-broken}
use Rattle.cet_elf.proofs.TableLemmas.{none-front, none-back, HasSectionTable-from}
use Rattle.cet_elf.proofs.BelowLemmas.{each-none}
use Rattle.cet_elf.proofs.NumberLemmas.{count_below-le}
use Rattle.cet_elf.proofs.SectionLemmas.{HasSections-from}
use Rattle.cet_elf.proofs.SumLemmas.{All-each, sum_by-kept, count_below-lt, length-kept}
use Rattle.cet_elf.proofs.ConsistentNames.{HasNoZero-nil, HasNoZero-name}
use Rattle.cet_elf.proofs.ConsistentSections.{IsAlignment-kept, HasItsBytes-stored}
use Rattle.cet_elf.proofs.ConsistentRelocations.{length-symbols, relocations_consistent, relocations_few}

-- the parts of a file without a fault
record HasNoFault (b : List ℕ) : Type 0 where
  header : header_faults 1 b ≡ []
  sections : sections_faults b ≡ []
  support : each_below (section_count b) (support_faults b) ≡ []
  symbols : symbols_faults b ≡ []
  relocations : relocations_faults b ≡ []

HasNoFault-from : (b : List ℕ) → object_faults b ≡ [] → HasNoFault b
unfolding object_faults
HasNoFault-from b h =
    let header = header_faults 1 b in
    let sections = sections_faults b in
    let support = each_below (section_count b) (support_faults b) in
    let symbols = symbols_faults b in
    let relocations = relocations_faults b in
    let four = none-front (header ++ sections ++ support ++ symbols) relocations h in
    let three = none-front (header ++ sections ++ support) symbols four in
    let two = none-front (header ++ sections) support three in
    record {
      header = none-front header sections two;
      sections = none-back header sections two;
      support = none-back (header ++ sections) support three;
      symbols = none-back (header ++ sections ++ support) symbols four;
      relocations = none-back (header ++ sections ++ support ++ symbols) relocations h;
    }

table_known : (b : List ℕ) → header_faults 1 b ≡ [] → HasSectionTable b
unfolding header_faults ident_faults
table_known b h =
    let ident = ident_faults b in
    let kinds = kind_faults 1 b in
    let tables = table_faults b in
    let two = none-front (ident ++ kinds) tables h in
    let first = none-front ident kinds two in
    HasSectionTable-from b (long b first) (none-back (ident ++ kinds) tables h)
  where
    long : (b : List ℕ) → ident_faults b ≡ [] → 64 ≤ length b
    long b h =
        let size = broken (leb 64 (length b)) (Bounds 0) in
        let magic = broken (word b 0 == 0x464c457f) (Magic 0) in
        let width = broken (byte b 4 == 2) (Class 4) in
        let order = broken (byte b 5 == 1) (Class 5) in
        let version = broken (byte b 6 == 1) (Class 6) in
        let four = none-front (size ++ magic ++ width ++ order) version h in
        let three = none-front (size ++ magic ++ width) order four in
        let two = none-front (size ++ magic) width three in
        leb-true 64 (length b) (true-broken (leb 64 (length b)) (Bounds 0) (none-front size magic two))

sections_known : (b : List ℕ) → HasNoFault b → HasSections b
unfolding sections_faults
sections_known b h =
    let places = each_below (section_count b) (place_faults b) in
    let names = each_below (section_count b) (name_faults b) in
    HasSections-from b (table_known b h.header) (none-front places names h.sections)

supported : (b : List ℕ) (i : ℕ) → HasNoFault b → i < section_count b → is_supported b i ≡ true
supported b i h lt = true-broken (is_supported b i) (Unsupported (section_place b i)) (each-none (section_count b) i (support_faults b) lt h.support)

-- ---- sections

length-sections : (b : List ℕ) → length (sections_of b) ≡ count_below (section_count b) (is_kept b)
unfolding sections_of
length-sections b = length-kept (section_count b) (is_kept b) (section_of b)

section_consistent : (b : List ℕ) (i : ℕ) → HasNoFault b → i < section_count b → is_kept b i ≡ true → IsConsistentSection (length (symbols_of b)) (section_of b i)
unfolding section_of
section_consistent b i h lt kept =
    let sections = sections_known b h in
    record {
      align = IsAlignment-kept b i kept (supported b i h lt);
      bytes = HasItsBytes-stored b i sections lt;
      relocations = relocations_consistent b i sections lt h.relocations;
    }

sections_consistent : (b : List ℕ) → HasNoFault b → All (IsConsistentSection (length (symbols_of b))) (sections_of b)
unfolding sections_of
sections_consistent b h =
    let P : Section → Type 0 = IsConsistentSection (length (symbols_of b)) in
    All-each P (section_count b) (kept_section b) (λ i lt. elim (cases_Bool (is_kept b i)) [
      | inl kept ↦ rw kept (All-cons P (section_of b i) [] (section_consistent b i h lt kept) (All-nil P))
      | inr left ↦ rw left (All-nil P)
    ])

section_name : (b : List ℕ) (i : ℕ) → HasNoZero (section_of b i).name
unfolding section_of
section_name b i = HasNoZero-name (section_names b) (section b i).name

section_names_hold_no_zero : (b : List ℕ) → All (λ (s : Section). HasNoZero s.name) (object_of b).sections
unfolding object_of sections_of
section_names_hold_no_zero b =
    let P : Section → Type 0 = λ s. HasNoZero s.name in
    All-each P (section_count b) (kept_section b) (λ i lt. elim (cases_Bool (is_kept b i)) [
      | inl kept ↦ rw kept (All-cons P (section_of b i) [] (section_name b i) (All-nil P))
      | inr left ↦ rw left (All-nil P)
    ])

-- ---- symbols

indexed : (b : List ℕ) (at : ℕ) (e : SymbolEntry) → entry_faults b at e ≡ [] → is_file e || is_section_index b e.section ≡ true
unfolding entry_faults
indexed b at e h =
    let names = broken (has_name (symbol_names b) e.name) (Name at) in
    let infos = broken (is_file e || is_supported_symbol e) (Unsupported (at + 4)) in
    let indexes = broken (is_file e || is_section_index b e.section) (SymbolIndex (at + 6)) in
    true-broken (is_file e || is_section_index b e.section) (SymbolIndex (at + 6)) (none-back (names ++ infos) indexes h)

first_of_three : (x : Bool) → x || false || false ≡ true → x ≡ true
first_of_three true h = refl
first_of_three false h = absurd cc

place_among : (b : List ℕ) (index : ℕ) → is_section_index b index ≡ true → IsPlaceAmong (length (sections_of b)) (place_of b index)
unfolding place_of
place_among b index h = go (eqb index 0) (eqb index 0xfff1) (eqb index 0xfff2) (is_kept b index) refl refl refl h
  where
    go : (p q r k : Bool) → eqb index 0xfff1 ≡ q → eqb index 0xfff2 ≡ r → is_kept b index ≡ k → ltb index (section_count b) || q || r ≡ true
        → IsPlaceAmong (length (sections_of b)) (if p then places.Undefined else if q then places.Absolute else if r then places.Common else if k then places.In (section_number b index) else places.Absolute)
    go true q r k f g i h = tt
    go false true r k f g i h = tt
    go false false true k f g i h = tt
    go false false false false f g i h = tt
    go false false false true f g i h =
        let there = ltb-true index (section_count b) (first_of_three (ltb index (section_count b)) h) in
        omega (arith, length-sections b, count_below-lt (section_count b) index (is_kept b) there i)

entry_consistent : (b : List ℕ) (at : ℕ) (e : SymbolEntry) → entry_faults b at e ≡ [] → is_file e ≡ false → IsConsistentSymbol (length (sections_of b)) (symbol_of b e)
unfolding symbol_of
entry_consistent b at e none file = record {
  name = HasNoZero-name (symbol_names b) e.name;
  place = place_among b e.section (other (is_file e) (is_section_index b e.section) file (indexed b at e none));
}
  where
    other : (p q : Bool) → p ≡ false → p || q ≡ true → q ≡ true
    other true q f h = absurd cc
    other false q f h = h

entries_known : (b : List ℕ) → HasNoFault b → each_below (symbol_count b) (symbol_faults b) ≡ []
unfolding symbols_faults
entries_known b h = none-back (symbol_limit_faults b (symbol_table b)) (each_below (symbol_count b) (symbol_faults b)) h.symbols

symbol_consistent : (b : List ℕ) (k : ℕ) → HasNoFault b → k < symbol_count b → is_kept_symbol b k ≡ true → IsConsistentSymbol (length (sections_of b)) (symbol_value b k)
symbol_consistent b k h lt kept =
    go (eqb k 0) (is_file (symbol_at b k)) refl kept (each-none (symbol_count b) k (symbol_faults b) lt (entries_known b h))
  where
    go : (z f : Bool) → is_file (symbol_at b k) ≡ f → z || not f ≡ true → (if z then [] else entry_faults b (symbol_place b k) (symbol_at b k)) ≡ []
        → IsConsistentSymbol (length (sections_of b)) (if z then null_symbol else symbol_of b (symbol_at b k))
    go true f e kept none = record { name = HasNoZero-nil; place = tt }
    go false true e kept none = absurd cc
    go false false e kept none = entry_consistent b (symbol_place b k) (symbol_at b k) none e

symbols_consistent : (b : List ℕ) → HasNoFault b → All (IsConsistentSymbol (length (sections_of b))) (symbols_of b)
unfolding symbols_of
symbols_consistent b h =
    let P : Symbol → Type 0 = IsConsistentSymbol (length (sections_of b)) in
    All-each P (symbol_count b) (kept_symbol b) (λ k lt. elim (cases_Bool (is_kept_symbol b k)) [
      | inl kept ↦ rw kept (All-cons P (symbol_value b k) [] (symbol_consistent b k h lt kept) (All-nil P))
      | inr left ↦ rw left (All-nil P)
    ])

few_of : (b : List ℕ) (o : Option ℕ) → symbol_limit_faults b o ≡ [] → symbol_count_of b o ≤ 65536
few_of b None h = omega arith
few_of b (Some i) h = leb-true (entry_count (section b i)) 65536 (true-broken (leb (entry_count (section b i)) 65536) (TooMany (section_place b i)) h)

symbols_few : (b : List ℕ) → HasNoFault b → symbol_count b ≤ 65536
unfolding symbols_faults symbol_count
symbols_few b h = few_of b (symbol_table b) (none-front (symbol_limit_faults b (symbol_table b)) (each_below (symbol_count b) (symbol_faults b)) h.symbols)

-- ---- the object

relocations_limit : (b : List ℕ) → HasNoFault b → sum_by (λ (s : Section). length s.relocations) (sections_of b) ≤ 1000000
unfolding sections_of section_of
relocations_limit b h =
    omega (arith, sum_by-kept (λ (s : Section). length s.relocations) (section_count b) (is_kept b) (section_of b), relocations_few b h.relocations)

limits : (b : List ℕ) → HasNoFault b → KeepsLimits (object_of b)
unfolding object_of
limits b h =
    let few = (table_known b h.header).few in
    record {
      sections = omega (arith, length-sections b, count_below-le (section_count b) (is_kept b));
      symbols = omega (arith, length-symbols b, count_below-le (symbol_count b) (is_kept_symbol b), symbols_few b h);
      relocations = relocations_limit b h;
    }

pub IsConsistent-from : (b : List ℕ) → object_faults b ≡ [] → IsConsistent (object_of b)
unfolding object_of
IsConsistent-from b none =
    let h = HasNoFault-from b none in
    record {
      limits = limits b h;
      sections = sections_consistent b h;
      symbols = symbols_consistent b h;
    }

pub names-of-read : (b : List ℕ) (r : Result Object ElfError) → Reads (λ o. o) r (object_faults b) (object_of b) → IfOk r (λ o. All (λ (s : Section). HasNoZero s.name) o.sections)
names-of-read b (Ok o) h = subst (λ (x : Object). All (λ (s : Section). HasNoZero s.name) x.sections) (sym h.1) (section_names_hold_no_zero b)
names-of-read b (Err e) h = tt

pub ruleset consistent = (IsConsistent-from)
