-- The symbols of a written file as a reader of objects sees them.
use Rattle.std.proofs.Common.{◌≡◌, ℕ, zero, suc, ◌+◌, ◌*◌, ◌/◌, ◌%◌, ◌<◌, ◌≤◌, ◌^◌, Bool, true, false, cond, eqb, ltb, ◌||◌, List, [], ◌∷◌, ◌++◌, length, get_or, drop, replicate, Option, Some, refl, sym, ap, ◌∙◌, subst, arith, lit≤, lit<}
use Rattle.std.specs.List.{sum_by, slice_get}
use Rattle.std.proofs.Math.Nat.{mul-div_cancel_left}
use Rattle.std.proofs.lemmas.Bool.{le-leb, lt-ltb}
use Rattle.std.proofs.lemmas.List.{length-append, length-drop, map-id, get_or_at, get_or-append-add, get_or-drop}
use Rattle.std.proofs.lemmas.List.Concat.{flat_map_single}
use Rattle.std.proofs.lemmas.List.Elements.{All-get_or}
use Rattle.std.proofs.lemmas.List.Sums.{sum_by-cons, sum_by-take-drop}
use Rattle.std.proofs.lemmas.Option.{slice_get-get_or, slice_get_within}
use Rattle.cet_elf.specs.declared.entries.SectionHeader.{SectionHeader}
use Rattle.cet_elf.specs.declared.entries.SymbolEntry.{SymbolEntry}
use Rattle.cet_elf.specs.declared.object.SymbolKind.{SymbolKind}
use Rattle.cet_elf.specs.declared.object.SymbolKind.TheVariants as kinds
use Rattle.cet_elf.specs.declared.object.Bind.{Bind}
use Rattle.cet_elf.specs.declared.object.Bind.TheVariants as binds
use Rattle.cet_elf.specs.declared.object.SymbolPlace.{SymbolPlace}
use Rattle.cet_elf.specs.declared.object.SymbolPlace.TheVariants as places
use Rattle.cet_elf.specs.declared.object.Symbol.{Symbol}
use Rattle.cet_elf.specs.declared.object.Object.{Object}
use Rattle.cet_elf.specs.Below.{each_below, first_below}
use Rattle.cet_elf.specs.Consistent.{IsConsistentSymbol, IsPlaceAmong}
use Rattle.cet_elf.specs.Header.{section_count}
use Rattle.cet_elf.specs.Sections.{section, string_table as table_at}
use Rattle.cet_elf.specs.StringTable.{name_at}
use Rattle.cet_elf.specs.Entries.{symbol_entry, is_file}
use Rattle.cet_elf.specs.ObjectSections.{is_symbol_table, is_kept, section_number as read_number}
use Rattle.cet_elf.specs.ObjectSymbols.{symbol_table as table_of, entry_count, symbol_count, symbol_count_of, symbol_names as names_read, symbol_names_of, symbol_base_of, symbol_place, symbol_at, is_supported_symbol, is_section_index, entry_faults, symbol_faults, symbol_limit_faults, symbols_faults, kind_of, bind_of, place_of, value_of, is_special_index, symbol_of, null_symbol, is_kept_symbol, kept_symbol, symbol_number, symbol_value, symbols_of}
use Rattle.cet_elf.specs.Regular.{SymbolFits}
use Rattle.cet_elf.specs.Written.{ended, name_offset, symbol_bytes, symbol_entries, symbol_table, named, kind_number, bind_number, section_number}
use Rattle.cet_elf.proofs.FaultLemmas.{none-append, broken-true}
use Rattle.cet_elf.proofs.Growth.{names_of}
use Rattle.cet_elf.proofs.Stands.{Stands, Stands-at, Stands-in, Stands-here, Stands-behind, byte-Stands, half-Stands, word-Stands, xword-Stands}
use Rattle.cet_elf.proofs.NamesStand.{Named, Named-here, after-name, name-inside, has_name-Named, name_at-Named}
use Rattle.cet_elf.proofs.FileTable.{HasPart, table_at-is}
use Rattle.cet_elf.proofs.BelowLists.{each-list, each-nil, count-all, OnlyOne-first}
use Rattle.cet_elf.proofs.Items.{Item, null, symbols, strings, names, part_of, tables, items}
use Rattle.cet_elf.proofs.SectionsRead.{IsFileOf, is_symbols, before_symbols, items-split, length-before, symbols-only, section_is-kept, section_number-is, sections-below}

-- ---- where the symbol table and its names are

abbrev pub table_index : Object → ℕ
table_index o = length (before_symbols o)

index-short : (o : Object) → table_index o + 3 ≡ length (items o)
index-short o = sym (ap length (items-split o) ∙ length-append (before_symbols o) tables)

pub table-is : (b : List ℕ) (o : Object) → IsFileOf b o → table_of b ≡ Some (table_index o)
unfolding table_of
table-is b o h =
    ap (λ (n : ℕ). first_below n (is_symbol_table b)) (h.count ∙ ap length (items-split o))
    ∙ OnlyOne-first (is_symbol_table b) is_symbols (before_symbols o) symbols (strings ∷ names ∷ []) null (symbols-only b o h)

pub has_symbols : (b : List ℕ) (o : Object) → IsFileOf b o → HasPart b (table_index o) (part_of o symbols)
has_symbols b o h =
    let at : get_or (items o) (table_index o) null ≡ symbols =
    ap (λ (xs : List Item). get_or xs (table_index o) null) (items-split o) ∙ get_or_at (before_symbols o) symbols (strings ∷ names ∷ []) null (table_index o) refl in
    subst (λ (x : Item). HasPart b (table_index o) (part_of o x)) at (h.has (table_index o) (omega (arith, index-short o)))

has_strings : (b : List ℕ) (o : Object) → IsFileOf b o → HasPart b (table_index o + 1) (part_of o strings)
has_strings b o h =
    let at : get_or (items o) (table_index o + 1) null ≡ strings =
    ap (λ (xs : List Item). get_or xs (table_index o + 1) null) (items-split o) ∙ get_or-append-add (before_symbols o) tables 1 null in
    subst (λ (x : Item). HasPart b (table_index o + 1) (part_of o x)) at (h.has (table_index o + 1) (omega (arith, index-short o)))

pub length-entries : (at : ℕ) (xs : List Symbol) → length (symbol_entries at xs) ≡ 24 * length xs
length-entries at [] = refl
length-entries at (x ∷ xs) =
    let next = at + length (ended x.name) in
    omega (arith, length-entries next xs, length-append (symbol_bytes at x) (symbol_entries next xs))

pub some-symbols : (o : Object) → slice_get o.symbols 0 ≡ Some null_symbol → 0 < length o.symbols
some-symbols o first = slice_get_within o.symbols 0 null_symbol first

table-size : (o : Object) → 0 < length o.symbols → length (symbol_table o.symbols) ≡ 24 * length o.symbols
table-size o some = omega (arith, length-append (replicate 24 0) (symbol_entries 1 (named o.symbols)), length-entries 1 (named o.symbols), length-drop 1 o.symbols)

pub entries-of : (n : ℕ) → 24 * n / 24 ≡ n
entries-of n = mul-div_cancel_left n {n = 24} (omega arith)

table-count : (b : List ℕ) (o : Object) → IsFileOf b o → entry_count (section b (table_index o)) ≡ length o.symbols
table-count b o h =
    ap entry_count (has_symbols b o h).header ∙ ap (λ (n : ℕ). n / 24) (table-size o (some-symbols o h.regular.null_first)) ∙ entries-of (length o.symbols)

pub symbol_count-is : (b : List ℕ) (o : Object) → IsFileOf b o → symbol_count b ≡ length o.symbols
unfolding symbol_count
symbol_count-is b o h = ap (symbol_count_of b) (table-is b o h) ∙ table-count b o h

names_read-is : (b : List ℕ) (o : Object) → IsFileOf b o → names_read b ≡ 0 ∷ names_of (named o.symbols)
unfolding names_read
names_read-is b o h =
    let at = has_strings b o h in
    ap (symbol_names_of b) (table-is b o h)
    ∙ ap (λ (s : SectionHeader). table_at b s.link) (has_symbols b o h).header
    ∙ ap (λ (n : ℕ). table_at b (n + 1)) (sym (length-before o))
    ∙ table_at-is b (table_index o + 1) (part_of o strings) at.name at.place (omega arith) (omega (arith, index-short o, h.count)) at.fits at.header at.content

symbol_place-is : (b : List ℕ) (o : Object) (k : ℕ) → (h : IsFileOf b o) → symbol_place b k ≡ (has_symbols b o h).place + 24 * k
unfolding symbol_place
symbol_place-is b o k h =
    ap (λ (t : Option ℕ). symbol_base_of b t + 24 * k) (table-is b o h) ∙ ap (λ (s : SectionHeader). s.offset + 24 * k) (has_symbols b o h).header

-- ---- an entry and its name

pub record SymbolSits (content table : List ℕ) (at : ℕ) (s : Symbol) : Type 0 where
  pub name_at : ℕ
  pub entry : Stands content at (symbol_bytes name_at s)
  pub name : Named table (name_offset s.name name_at) s.name
  pub inside : name_at ≤ length table

pub symbol-sits : (table zeros : List ℕ) (xs : List Symbol) (name_at k : ℕ) → table ≡ 0 ∷ zeros → drop name_at table ≡ names_of xs → name_at ≤ length table → k < length xs
    → SymbolSits (symbol_entries name_at xs) table (24 * k) (get_or xs k null_symbol)
symbol-sits table zeros [] name_at k first all le lt = absurd (omega arith)
symbol-sits table zeros (x ∷ xs) name_at zero first all le lt = record {
  name_at = name_at;
  entry = Stands-here [] (symbol_bytes name_at x) (symbol_entries (name_at + length (ended x.name)) xs);
  name = Named-here table (names_of xs) zeros name_at x.name first all;
  inside = le;
}
symbol-sits table zeros (x ∷ xs) name_at (suc k) first all le lt =
    let next = name_at + length (ended x.name) in
    let others = symbol-sits table zeros xs next k first (after-name table (names_of xs) name_at x.name all) (name-inside table (names_of xs) name_at x.name le all) (omega arith) in
    let whole = symbol_bytes name_at x ++ symbol_entries next xs in
    let piece = symbol_bytes others.name_at (get_or xs k null_symbol) in
    record {
      name_at = others.name_at;
      entry = Stands-at whole piece (24 + 24 * k) (24 * suc k) (omega arith) (Stands-behind (symbol_bytes name_at x) (symbol_entries next xs) piece (24 * k) others.entry);
      name = others.name;
      inside = others.inside;
    }

info-small : (bind : Bind) (kind : SymbolKind) → bind_number bind * 16 + kind_number kind < 256
info-small binds.Local kinds.None = lit< tt
info-small binds.Local kinds.Object = lit< tt
info-small binds.Local kinds.Func = lit< tt
info-small binds.Local kinds.Section = lit< tt
info-small binds.Global kinds.None = lit< tt
info-small binds.Global kinds.Object = lit< tt
info-small binds.Global kinds.Func = lit< tt
info-small binds.Global kinds.Section = lit< tt
info-small binds.Weak kinds.None = lit< tt
info-small binds.Weak kinds.Object = lit< tt
info-small binds.Weak kinds.Func = lit< tt
info-small binds.Weak kinds.Section = lit< tt

abbrev pub entry_of : ℕ → Symbol → SymbolEntry
entry_of name s = record { name = name; info = bind_number s.bind * 16 + kind_number s.kind; section = section_number s.place; value = s.value; size = s.size }

pub symbol-read : (b : List ℕ) (at name_at : ℕ) (s : Symbol) → name_offset s.name name_at < 2 ^ 32 → section_number s.place < 2 ^ 16 → s.value < 2 ^ 64 → s.size < 2 ^ 64
    → Stands b at (symbol_bytes name_at s) → symbol_entry b at ≡ entry_of (name_offset s.name name_at) s
unfolding symbol_entry
symbol-read b at name_at s name place value size h =
    let e = symbol_bytes name_at s in
    rw (
      word-Stands b at (name_offset s.name name_at) name (Stands-at b _ (at + 0) at (omega arith) (Stands-in b e _ at 0 h (record { inside = lit≤ tt; is = refl }))),
      byte-Stands b (at + 4) (bind_number s.bind * 16 + kind_number s.kind) (info-small s.bind s.kind) (Stands-in b e _ at 4 h (record { inside = lit≤ tt; is = refl })),
      half-Stands b (at + 6) (section_number s.place) place (Stands-in b e _ at 6 h (record { inside = lit≤ tt; is = refl })),
      xword-Stands b (at + 8) s.value value (Stands-in b e _ at 8 h (record { inside = lit≤ tt; is = refl })),
      xword-Stands b (at + 16) s.size size (Stands-in b e _ at 16 h (record { inside = lit≤ tt; is = refl })),
    )
    refl

-- ---- the values of an entry

pub type-is : (bind : Bind) (kind : SymbolKind) → (bind_number bind * 16 + kind_number kind) % 16 ≡ kind_number kind
type-is binds.Local kinds.None = refl
type-is binds.Local kinds.Object = refl
type-is binds.Local kinds.Func = refl
type-is binds.Local kinds.Section = refl
type-is binds.Global kinds.None = refl
type-is binds.Global kinds.Object = refl
type-is binds.Global kinds.Func = refl
type-is binds.Global kinds.Section = refl
type-is binds.Weak kinds.None = refl
type-is binds.Weak kinds.Object = refl
type-is binds.Weak kinds.Func = refl
type-is binds.Weak kinds.Section = refl

pub bind-is : (bind : Bind) (kind : SymbolKind) → (bind_number bind * 16 + kind_number kind) / 16 ≡ bind_number bind
bind-is binds.Local kinds.None = refl
bind-is binds.Local kinds.Object = refl
bind-is binds.Local kinds.Func = refl
bind-is binds.Local kinds.Section = refl
bind-is binds.Global kinds.None = refl
bind-is binds.Global kinds.Object = refl
bind-is binds.Global kinds.Func = refl
bind-is binds.Global kinds.Section = refl
bind-is binds.Weak kinds.None = refl
bind-is binds.Weak kinds.Object = refl
bind-is binds.Weak kinds.Func = refl
bind-is binds.Weak kinds.Section = refl

no_file : (kind : SymbolKind) → (eqb (kind_number kind) 4 ≡ false) × (ltb (kind_number kind) 4 ≡ true)
no_file kinds.None = (refl, refl)
no_file kinds.Object = (refl, refl)
no_file kinds.Func = (refl, refl)
no_file kinds.Section = (refl, refl)

pub known_bind : (bind : Bind) → ltb (bind_number bind) 3 ≡ true
known_bind binds.Local = refl
known_bind binds.Global = refl
known_bind binds.Weak = refl

pub kind_of-is : (kind : SymbolKind) → kind_of (kind_number kind) ≡ kind
unfolding kind_of
kind_of-is kinds.None = refl
kind_of-is kinds.Object = refl
kind_of-is kinds.Func = refl
kind_of-is kinds.Section = refl

pub bind_of-is : (bind : Bind) → bind_of (bind_number bind) ≡ bind
unfolding bind_of
bind_of-is binds.Local = refl
bind_of-is binds.Global = refl
bind_of-is binds.Weak = refl

entry-no_file : (n : ℕ) (s : Symbol) → is_file (entry_of n s) ≡ false
entry-no_file n s = ap (λ (t : ℕ). eqb t 4) (type-is s.bind s.kind) ∙ (no_file s.kind).0

entry-supported : (n : ℕ) (s : Symbol) → is_supported_symbol (entry_of n s) ≡ true
entry-supported n s = rw (type-is s.bind s.kind, bind-is s.bind s.kind, (no_file s.kind).1, known_bind s.bind) refl

few-sections : (b : List ℕ) (o : Object) → IsFileOf b o → length o.sections + 5 ≤ 4096
few-sections b o h = omega (arith, h.regular.few_sections)

number-small : (b : List ℕ) (o : Object) (p : SymbolPlace) → IsFileOf b o → IsPlaceAmong (length o.sections) p → section_number p < 2 ^ 16
number-small b o places.Undefined h is = lit< tt
number-small b o places.Absolute h is = lit< tt
number-small b o places.Common h is = lit< tt
number-small b o (places.In n) h is = omega (arith, is, few-sections b o h)

index-there : (b : List ℕ) (o : Object) (p : SymbolPlace) → IsFileOf b o → IsPlaceAmong (length o.sections) p → is_section_index b (section_number p) ≡ true
index-there b o places.Undefined h is =
    let lt : ltb 0 (section_count b) ≡ true = lt-ltb 0 (section_count b) (omega (arith, h.count, sections-below o)) in
    rw lt refl
index-there b o places.Absolute h is = go (ltb 0xfff1 (section_count b))
  where
    go : (c : Bool) → c || eqb 0xfff1 0xfff1 || eqb 0xfff1 0xfff2 ≡ true
    go true = refl
    go false = refl
index-there b o places.Common h is = go (ltb 0xfff2 (section_count b))
  where
    go : (c : Bool) → c || eqb 0xfff2 0xfff1 || eqb 0xfff2 0xfff2 ≡ true
    go true = refl
    go false = refl
index-there b o (places.In n) h is =
    let lt : ltb (n + 1) (section_count b) ≡ true = lt-ltb (n + 1) (section_count b) (omega (arith, is, h.count, sections-below o)) in
    rw lt refl

place_of-is : (b : List ℕ) (o : Object) (p : SymbolPlace) → IsFileOf b o → IsPlaceAmong (length o.sections) p → place_of b (section_number p) ≡ p
unfolding place_of
place_of-is b o places.Undefined h is = refl
place_of-is b o places.Absolute h is = refl
place_of-is b o places.Common h is = refl
place_of-is b o (places.In n) h is =
    let few = few-sections b o h in
    let one : n + 1 ≡ suc n = omega arith in
    let e0 : eqb (n + 1) 0 ≡ false = grind arith in
    let e1 : eqb (n + 1) 0xfff1 ≡ false = grind arith in
    let e2 : eqb (n + 1) 0xfff2 ≡ false = grind arith in
    let kept : is_kept b (n + 1) ≡ true = ap (is_kept b) one ∙ section_is-kept b o n h is in
    let number : read_number b (n + 1) ≡ n = ap (read_number b) one ∙ section_number-is b o n h is in
    rw (e0, e1, e2, kept) (ap (λ (k : ℕ). places.In k) number)

looked_at : (b : List ℕ) (o : Object) (p : SymbolPlace) → IsFileOf b o → IsPlaceAmong (length o.sections) p → is_special_index (section_number p) || is_kept b (section_number p) ≡ true
looked_at b o places.Undefined h is = refl
looked_at b o places.Absolute h is = refl
looked_at b o places.Common h is = refl
looked_at b o (places.In n) h is =
    let one : n + 1 ≡ suc n = omega arith in
    let kept : is_kept b (n + 1) ≡ true = ap (is_kept b) one ∙ section_is-kept b o n h is in
    rw kept (or_true (is_special_index (n + 1)))
  where
    or_true : (c : Bool) → c || true ≡ true
    or_true true = refl
    or_true false = refl

value_of-is : (b : List ℕ) (o : Object) (n : ℕ) (s : Symbol) → IsFileOf b o → IsPlaceAmong (length o.sections) s.place → value_of b (entry_of n s) ≡ s.value
unfolding value_of
value_of-is b o n s h is = ap (λ (c : Bool). cond c s.value 0) (looked_at b o s.place h is)

symbol_of-is : (b : List ℕ) (o : Object) (n : ℕ) (s : Symbol) → IsFileOf b o → IsConsistentSymbol (length o.sections) s → Named (names_read b) n s.name → symbol_of b (entry_of n s) ≡ s
unfolding symbol_of
symbol_of-is b o n s h is at =
    let kind : kind_of ((bind_number s.bind * 16 + kind_number s.kind) % 16) ≡ s.kind = ap kind_of (type-is s.bind s.kind) ∙ kind_of-is s.kind in
    let bind : bind_of ((bind_number s.bind * 16 + kind_number s.kind) / 16) ≡ s.bind = ap bind_of (bind-is s.bind s.kind) ∙ bind_of-is s.bind in
    rw (name_at-Named (names_read b) n s.name is.name at, kind, bind, place_of-is b o s.place h is.place, value_of-is b o n s h is.place) refl

entry-faultless : (b : List ℕ) (o : Object) (at n : ℕ) (s : Symbol) → IsFileOf b o → IsConsistentSymbol (length o.sections) s → Named (names_read b) n s.name → entry_faults b at (entry_of n s) ≡ []
unfolding entry_faults
entry-faultless b o at n s h is named =
    none-append _ _ (none-append _ _
    (broken-true _ _ (has_name-Named (names_read b) n s.name named))
    (broken-true _ _ (rw (entry-no_file n s) (entry-supported n s))))
    (broken-true _ _ (rw (entry-no_file n s) (index-there b o s.place h is.place)))

-- ---- all symbols

-- entry `k` is read as symbol k
record SymbolRead (b : List ℕ) (k : ℕ) (s : Symbol) : Type 0 where
  name : ℕ
  is : symbol_at b k ≡ entry_of name s
  named : Named (names_read b) name s.name

names-le : (xs : List Symbol) → length (names_of xs) ≤ sum_by (λ s. length s.name) xs + length xs
names-le [] = omega arith
names-le (x ∷ xs) =
    omega (arith, names-le xs, ended-le x.name, length-append (ended x.name) (names_of xs), sum_by-cons (λ (s : Symbol). length s.name) x xs)
  where
    ended-le : (name : List ℕ) → length (ended name) ≤ length name + 1
    ended-le [] = omega arith
    ended-le (c ∷ name) = omega (arith, length-append (c ∷ name) (0 ∷ []))

names-short : (b : List ℕ) (o : Object) → IsFileOf b o → length (0 ∷ names_of (named o.symbols)) < 2 ^ 32
names-short b o h =
    omega (arith, names-le (named o.symbols), sum_by-take-drop (λ (s : Symbol). length s.name) o.symbols 1, length-drop 1 o.symbols, h.regular.few_name_bytes, h.regular.consistent.limits.symbols)

symbol-at : (b : List ℕ) (o : Object) (k : ℕ) → IsFileOf b o → suc k < length o.symbols → SymbolRead b (suc k) (get_or o.symbols (suc k) null_symbol)
symbol-at b o k h lt =
    let xs = named o.symbols in
    let table = 0 ∷ names_of xs in
    let s = get_or o.symbols (suc k) null_symbol in
    let same : get_or xs k null_symbol ≡ s = get_or-drop 1 o.symbols k null_symbol ∙ ap (λ (n : ℕ). get_or o.symbols n null_symbol) (one_more k) in
    let sits = symbol-sits table (names_of xs) xs 1 k refl refl (omega arith) (omega (arith, length-drop 1 o.symbols)) in
    let at = has_symbols b o h in
    let piece = symbol_bytes sits.name_at (get_or xs k null_symbol) in
    let entry : Stands b (at.place + 24 * suc k) piece =
    Stands-at b piece (at.place + (24 + 24 * k)) (at.place + 24 * suc k) (omega arith)
    (Stands-in b (symbol_table o.symbols) piece at.place (24 + 24 * k) at.content (Stands-behind (replicate 24 0) (symbol_entries 1 xs) piece (24 * k) sits.entry)) in
    let is : IsConsistentSymbol (length o.sections) s = All-get_or (IsConsistentSymbol (length o.sections)) o.symbols (suc k) null_symbol lt h.regular.consistent.symbols in
    let name : name_offset (get_or xs k null_symbol).name sits.name_at < 2 ^ 32 = omega (arith, offset_le (get_or xs k null_symbol).name sits.name_at, sits.inside, names-short b o h) in
    let P : Symbol → Type 0 = λ x. (section_number x.place < 2 ^ 16) × (x.value < 2 ^ 64) × (x.size < 2 ^ 64) in
    let numbers : P (get_or xs k null_symbol) =
    subst P (sym same) (number-small b o s.place h is.place, (All-get_or SymbolFits o.symbols (suc k) null_symbol lt h.fits.symbols).0, (All-get_or SymbolFits o.symbols (suc k) null_symbol lt h.fits.symbols).1) in
    subst (SymbolRead b (suc k)) same (record {
      name = name_offset (get_or xs k null_symbol).name sits.name_at;
      is = ap (symbol_entry b) (symbol_place-is b o (suc k) h) ∙ symbol-read b (at.place + 24 * suc k) sits.name_at (get_or xs k null_symbol) name numbers.0 numbers.1 numbers.2 entry;
      named = subst (λ (t : List ℕ). Named t (name_offset (get_or xs k null_symbol).name sits.name_at) (get_or xs k null_symbol).name) (sym (names_read-is b o h)) sits.name;
    })
  where
    one_more : (k : ℕ) → 1 + k ≡ suc k
    one_more k = omega arith

    offset_le : (name : List ℕ) (at : ℕ) → name_offset name at ≤ at
    offset_le [] at = omega arith
    offset_le (c ∷ name) at = omega arith

consistent-at : (b : List ℕ) (o : Object) (k : ℕ) → IsFileOf b o → k < length o.symbols → IsConsistentSymbol (length o.sections) (get_or o.symbols k null_symbol)
consistent-at b o k h lt = All-get_or (IsConsistentSymbol (length o.sections)) o.symbols k null_symbol lt h.regular.consistent.symbols

not_zero : (k : ℕ) → eqb (suc k) 0 ≡ false
not_zero k = grind arith

symbol-faultless : (b : List ℕ) (o : Object) (k : ℕ) → IsFileOf b o → k < length o.symbols → symbol_faults b k ≡ []
symbol-faultless b o zero h lt = refl
symbol-faultless b o (suc k) h lt =
    let at = symbol-at b o k h lt in
    rw (not_zero k, at.is) (entry-faultless b o (symbol_place b (suc k)) at.name (get_or o.symbols (suc k) null_symbol) h (consistent-at b o (suc k) h lt) at.named)

pub no_symbol_faults : (b : List ℕ) (o : Object) → IsFileOf b o → symbols_faults b ≡ []
unfolding symbols_faults
no_symbol_faults b o h =
    let count = symbol_count-is b o h in
    let few : entry_count (section b (table_index o)) ≤ 65536 = omega (arith, table-count b o h, h.regular.consistent.limits.symbols) in
    none-append _ _
    (ap (symbol_limit_faults b) (table-is b o h) ∙ broken-true _ _ (le-leb _ _ few))
    (each-nil (symbol_count b) (symbol_faults b) (λ k lt. symbol-faultless b o k h (omega (arith, count))))

pub symbol-kept : (b : List ℕ) (o : Object) (k : ℕ) → IsFileOf b o → k < length o.symbols → is_kept_symbol b k ≡ true
symbol-kept b o zero h lt = refl
symbol-kept b o (suc k) h lt =
    let at = symbol-at b o k h lt in
    rw (not_zero k, at.is, entry-no_file at.name (get_or o.symbols (suc k) null_symbol)) refl

pub symbol_number-is : (b : List ℕ) (o : Object) (k : ℕ) → IsFileOf b o → k < length o.symbols → symbol_number b k ≡ k
symbol_number-is b o k h lt = count-all k (is_kept_symbol b) (λ j less. symbol-kept b o j h (omega arith))

symbol-value : (b : List ℕ) (o : Object) (k : ℕ) → IsFileOf b o → k < length o.symbols → symbol_value b k ≡ get_or o.symbols k null_symbol
symbol-value b o zero h lt =
    let first : Some null_symbol ≡ Some (get_or o.symbols 0 null_symbol) = sym h.regular.null_first ∙ slice_get-get_or o.symbols 0 null_symbol lt in
    cc
symbol-value b o (suc k) h lt =
    let at = symbol-at b o k h lt in
    rw (not_zero k, at.is) (symbol_of-is b o at.name (get_or o.symbols (suc k) null_symbol) h (consistent-at b o (suc k) h lt) at.named)

kept-is : (b : List ℕ) (o : Object) (k : ℕ) → IsFileOf b o → k < length o.symbols → kept_symbol b k ≡ get_or o.symbols k null_symbol ∷ []
kept-is b o k h lt =
    ap (λ (c : Bool). cond c (symbol_value b k ∷ []) []) (symbol-kept b o k h lt) ∙ ap (λ (s : Symbol). s ∷ []) (symbol-value b o k h lt)

pub symbols_of-is : (b : List ℕ) (o : Object) → IsFileOf b o → symbols_of b ≡ o.symbols
unfolding symbols_of
symbols_of-is b o h =
    ap (λ (n : ℕ). each_below n (kept_symbol b)) (symbol_count-is b o h)
    ∙ each-list (kept_symbol b) (λ s. s ∷ []) o.symbols null_symbol (λ k lt. kept-is b o k h lt)
    ∙ flat_map_single (λ s. s) o.symbols ∙ map-id o.symbols
