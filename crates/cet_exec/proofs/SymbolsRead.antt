-- The symbols of a written file as they are read.
use Rattle.std.proofs.Common.{◌≡◌, ◌≢◌, ℕ, zero, suc, ◌+◌, ◌*◌, ◌/◌, ◌%◌, ◌<◌, ◌≤◌, ◌^◌, Bool, true, false, cond, eqb, ltb, not, ◌&&◌, List, [], ◌∷◌, ◌++◌, length, map, get_or, replicate, codes, Option, Some, None, All, refl, sym, ap, ◌∙◌, subst, arith, lit≤, lit<}
use Rattle.std.specs.List.{sum_by, position}
use Rattle.std.proofs.lemmas.List.{length-append, length-map, map-id, get_or-map, get_or_append_left, get_or-append-add}
use Rattle.std.proofs.lemmas.List.Concat.{flat_map_single}
use Rattle.std.proofs.lemmas.List.Elements.{All-nil, All-cons, All-get_or}
use Rattle.std.proofs.lemmas.List.Sums.{sum_by-cons}
use Rattle.std.proofs.lemmas.List.Quantifiers.{position-Some}
use Rattle.cet_elf.specs.declared.entries.SectionHeader.{SectionHeader}
use Rattle.cet_elf.specs.declared.entries.SymbolEntry.{SymbolEntry}
use Rattle.cet_elf.specs.declared.object.SymbolKind.{SymbolKind}
use Rattle.cet_elf.specs.declared.object.SymbolKind.TheVariants as kinds
use Rattle.cet_elf.specs.declared.object.Bind.TheVariants as binds
use Rattle.cet_elf.specs.declared.object.Symbol.{Symbol}
use Rattle.cet_elf.specs.declared.exec.Exec.{Exec}
use Rattle.cet_elf.specs.declared.exec.ExecSegment.{ExecSegment}
use Rattle.cet_elf.specs.declared.exec.ExecSymbol.{ExecSymbol}
use Rattle.cet_elf.specs.Below.{each_below}
use Rattle.cet_elf.specs.Header.{section_count}
use Rattle.cet_elf.specs.Sections.{string_table as table_at}
use Rattle.cet_elf.specs.StringTable.{has_name, name_at}
use Rattle.cet_elf.specs.Entries.{symbol_entry}
use Rattle.cet_elf.specs.ObjectSections.{is_symbol_table}
use Rattle.cet_elf.specs.ObjectSymbols.{symbol_table as table_of, symbol_count, symbol_count_of, symbol_names as names_read, symbol_names_of, symbol_base_of, symbol_place, symbol_at, kind_of, bind_of, null_symbol}
use Rattle.cet_elf.specs.Written.{Part, ended, name_offset, symbol_bytes, symbol_entries, symbol_table, symbol_part, symbol_names, string_part, kind_number, bind_number, section_number}
use Rattle.cet_elf.proofs.FaultLemmas.{broken-true}
use Rattle.cet_elf.proofs.Growth.{names_of}
use Rattle.cet_elf.proofs.Stands.{Stands, Stands-at, Stands-in, Stands-front, Stands-behind, byte-Stands, half-Stands, word-Stands, xword-Stands}
use Rattle.cet_elf.proofs.NamesStand.{Named, has_name-Named, name_at-Named}
use Rattle.cet_elf.proofs.FileTable.{HasPart, null_part, table_at-is}
use Rattle.cet_elf.proofs.BelowLists.{each-list, each-nil, each-shift, first-some}
use Rattle.cet_elf.proofs.SymbolsRead.{length-entries, entries-of, symbol-sits, symbol-read, entry_of, type-is, bind-is, kind_of-is, bind_of-is, known_bind}
use Rattle.cet_elf.proofs.WrittenFile.{ended-le}
use Rattle.cet_exec.specs.ExecSymbols.{symbol_faults, symbols_faults, is_empty_name, is_plain, is_kept, symbol_of, kept_symbol, symbols_of}
use Rattle.cet_exec.specs.Regular.{IsRegularSymbol, SymbolFits}
use Rattle.cet_exec.specs.Written.{is_stored_in, place_in, file_symbol, file_symbols, symtab_number, table_parts, loaded_sections, Laid, is_linked, segment_name, segment_part, segment_parts}
use Rattle.cet_exec.proofs.Counts.{few-symbols}
use Rattle.cet_exec.proofs.WholeFile.{length-loaded, length-sections}
use Rattle.cet_exec.proofs.WrittenFile.{IsFileOf}
use Rattle.cet_exec.proofs.ProgramsRead.{no_segment}
use Rattle.cet_exec.proofs.SectionsRead.{parts_of, all_parts, all-parts, sections-split, has_part, section_count-is}

-- ---- where the symbol table and its names are

abbrev IsOther : Part → Type 0
IsOther p = eqb p.kind 2 ≡ false

abbrev before : Exec → List Part
before e = null_part ∷ parts_of (loaded_sections e)

split : (e : Exec) → all_parts e ≡ before e ++ table_parts e
split e = ap (λ (r : List Part). null_part ∷ r) (sections-split e)

length-before : (e : Exec) → length (before e) ≡ symtab_number e
length-before e = omega (arith, length-loaded e, length-map (loaded_sections e) (λ (l : Laid). l.part))

segments-other : (linked : Bool) (number : ℕ) (xs : List ExecSegment) → All IsOther (segment_parts linked number xs)
segments-other linked number [] = All-nil IsOther
segments-other linked number (x ∷ xs) = All-cons IsOther (segment_part (segment_name linked number x.flags) x) (segment_parts linked (number + 1) xs) refl (segments-other linked (number + 1) xs)

before-other : (e : Exec) → All IsOther (before e)
before-other e =
    All-cons IsOther null_part (parts_of (loaded_sections e)) refl (all-parts e IsOther (segments-other (is_linked e.segments) 0 e.segments) (λ note p there is. refl))

table-there : (b : List ℕ) (e : Exec) → IsFileOf b e → symtab_number e + 2 < section_count b
table-there b e h = omega (arith, section_count-is b e h, length-sections e)

other-at : (b : List ℕ) (e : Exec) (i : ℕ) → IsFileOf b e → i < symtab_number e → is_symbol_table b i ≡ false
other-at b e i h lt =
    let long : i < length (before e) = omega (arith, length-before e) in
    let at = has_part b e i h (omega (arith, table-there b e h)) in
    let same : get_or (all_parts e) i null_part ≡ get_or (before e) i null_part =
    ap (λ (ps : List Part). get_or ps i null_part) (split e) ∙ get_or_append_left (before e) (table_parts e) null_part i long in
    ap (λ (s : SectionHeader). eqb s.kind 2) at.header ∙ ap (λ (p : Part). eqb p.kind 2) same ∙ All-get_or IsOther (before e) i null_part long (before-other e)

table-part : (e : Exec) (i : ℕ) → get_or (all_parts e) (symtab_number e + i) null_part ≡ get_or (table_parts e) i null_part
table-part e i =
    ap (λ (ps : List Part). get_or ps (symtab_number e + i) null_part) (split e)
    ∙ ap (λ (n : ℕ). get_or (before e ++ table_parts e) (n + i) null_part) (sym (length-before e))
    ∙ get_or-append-add (before e) (table_parts e) i null_part

abbrev symbols_part : Exec → Part
symbols_part e = symbol_part (symtab_number e) (file_symbols e)

abbrev strings_part : Exec → Part
strings_part e = string_part (codes ".strtab") (symbol_names (file_symbols e))

has_symbols : (b : List ℕ) (e : Exec) → IsFileOf b e → HasPart b (symtab_number e) (symbols_part e)
has_symbols b e h =
    let none : symtab_number e + 0 ≡ symtab_number e = omega arith in
    let same : get_or (all_parts e) (symtab_number e) null_part ≡ symbols_part e = ap (λ (n : ℕ). get_or (all_parts e) n null_part) (sym none) ∙ table-part e 0 in
    subst (HasPart b (symtab_number e)) same (has_part b e (symtab_number e) h (omega (arith, table-there b e h)))

has_strings : (b : List ℕ) (e : Exec) → IsFileOf b e → HasPart b (symtab_number e + 1) (strings_part e)
has_strings b e h = subst (HasPart b (symtab_number e + 1)) (table-part e 1) (has_part b e (symtab_number e + 1) h (omega (arith, table-there b e h)))

table-is : (b : List ℕ) (e : Exec) → IsFileOf b e → table_of b ≡ Some (symtab_number e)
unfolding table_of
table-is b e h =
    let at = has_symbols b e h in
    let here : is_symbol_table b (symtab_number e) ≡ true = ap (λ (s : SectionHeader). eqb s.kind 2) at.header in
    first-some (section_count b) (symtab_number e) (is_symbol_table b) (omega (arith, table-there b e h)) here (λ j lt. other-at b e j h lt)

-- the symbols behind the null one
abbrev others : Exec → List Symbol
others e = map (file_symbol e.segments) e.symbols

table-size : (e : Exec) → length (symbol_table (file_symbols e)) ≡ 24 * suc (length e.symbols)
table-size e = omega (arith, length-append (replicate 24 0) (symbol_entries 1 (others e)), length-entries 1 (others e), length-map e.symbols (file_symbol e.segments))

symbol_count-is : (b : List ℕ) (e : Exec) → IsFileOf b e → symbol_count b ≡ suc (length e.symbols)
unfolding symbol_count
symbol_count-is b e h =
    ap (symbol_count_of b) (table-is b e h) ∙ ap (λ (s : SectionHeader). s.size / 24) (has_symbols b e h).header ∙ ap (λ (n : ℕ). n / 24) (table-size e) ∙ entries-of (suc (length e.symbols))

names_read-is : (b : List ℕ) (e : Exec) → IsFileOf b e → names_read b ≡ 0 ∷ names_of (others e)
unfolding names_read
names_read-is b e h =
    let at = has_strings b e h in
    ap (symbol_names_of b) (table-is b e h)
    ∙ ap (λ (s : SectionHeader). table_at b s.link) (has_symbols b e h).header
    ∙ table_at-is b (symtab_number e + 1) (strings_part e) at.name at.place (omega arith) (omega (arith, table-there b e h)) at.fits at.header at.content

symbol_place-is : (b : List ℕ) (e : Exec) (k : ℕ) → (h : IsFileOf b e) → symbol_place b k ≡ (has_symbols b e h).place + 24 * k
unfolding symbol_place
symbol_place-is b e k h =
    ap (λ (t : Option ℕ). symbol_base_of b t + 24 * k) (table-is b e h) ∙ ap (λ (s : SectionHeader). s.offset + 24 * k) (has_symbols b e h).header

-- ---- the null entry

abbrev null_entry : SymbolEntry
null_entry = record { name = 0; info = 0; section = 0; value = 0; size = 0 }

null-read : (b : List ℕ) (at : ℕ) → Stands b at (replicate 24 0) → symbol_entry b at ≡ null_entry
unfolding symbol_entry
null-read b at h =
    rw (
      word-Stands b at 0 (lit< tt) (Stands-at b _ (at + 0) at (omega arith) (Stands-in b (replicate 24 0) _ at 0 h (record { inside = lit≤ tt; is = refl }))),
      byte-Stands b (at + 4) 0 (lit< tt) (Stands-in b (replicate 24 0) _ at 4 h (record { inside = lit≤ tt; is = refl })),
      half-Stands b (at + 6) 0 (lit< tt) (Stands-in b (replicate 24 0) _ at 6 h (record { inside = lit≤ tt; is = refl })),
      xword-Stands b (at + 8) 0 (lit< tt) (Stands-in b (replicate 24 0) _ at 8 h (record { inside = lit≤ tt; is = refl })),
      xword-Stands b (at + 16) 0 (lit< tt) (Stands-in b (replicate 24 0) _ at 16 h (record { inside = lit≤ tt; is = refl })),
    )
    refl

null-at : (b : List ℕ) (e : Exec) → IsFileOf b e → symbol_at b 0 ≡ null_entry
null-at b e h =
    let at = has_symbols b e h in
    let place : at.place + 24 * 0 ≡ at.place = omega arith in
    ap (symbol_entry b) (symbol_place-is b e 0 h ∙ place) ∙ null-read b at.place (Stands-front b (replicate 24 0) (symbol_entries 1 (others e)) at.place at.content)

-- ---- the other entries

number-small : (i : Option ℕ) → ((n : ℕ) → i ≡ Some n → n < 16) → section_number (place_in i) < 2 ^ 16
number-small None h = lit< tt
number-small (Some n) h = let lt = h n refl in omega (arith, lt)

place-small : (e : Exec) (value : ℕ) → length e.segments ≤ 16 → section_number (place_in (position (is_stored_in value) e.segments)) < 2 ^ 16
place-small e value few =
    number-small (position (is_stored_in value) e.segments) (λ n is. let known = position-Some (is_stored_in value) e.segments n no_segment is in omega (arith, known.0, few))

names-le : (segments : List ExecSegment) (xs : List ExecSymbol) → length (names_of (map (file_symbol segments) xs)) ≤ sum_by (λ s. length s.name) xs + length xs
names-le segments [] = omega arith
names-le segments (x ∷ xs) =
    omega (arith, names-le segments xs, ended-le x.name, length-append (ended x.name) (names_of (map (file_symbol segments) xs)), sum_by-cons (λ (s : ExecSymbol). length s.name) x xs)

names-short : (e : Exec) → All IsRegularSymbol e.symbols → sum_by (λ s. length s.name) e.symbols < 2 ^ 31 → length (0 ∷ names_of (others e)) < 2 ^ 32
names-short e regular few = omega (arith, names-le e.segments e.symbols, few-symbols e.symbols regular, few)

no_symbol : ExecSymbol
no_symbol = record { name = []; kind = kinds.None; bind = binds.Local; value = 0; size = 0 }

-- entry k is read as this symbol
record SymbolRead (b : List ℕ) (e : Exec) (k : ℕ) (s : ExecSymbol) : Type 0 where
  name : ℕ
  is : symbol_at b k ≡ entry_of name (file_symbol e.segments s)
  named : Named (names_read b) name s.name

offset_le : (name : List ℕ) (at : ℕ) → name_offset name at ≤ at
offset_le [] at = omega arith
offset_le (c ∷ name) at = omega arith

symbol-read-at : (b : List ℕ) (e : Exec) (k : ℕ) → IsFileOf b e → k < length e.symbols → SymbolRead b e (suc k) (get_or e.symbols k no_symbol)
unfolding no_symbol
symbol-read-at b e k h lt =
    let xs = others e in
    let table = 0 ∷ names_of xs in
    let x = get_or e.symbols k no_symbol in
    let s = file_symbol e.segments x in
    let long : k < length xs = omega (arith, length-map e.symbols (file_symbol e.segments)) in
    let same : get_or xs k null_symbol ≡ s = get_or-map (file_symbol e.segments) e.symbols k no_symbol null_symbol lt in
    let sits = symbol-sits table (names_of xs) xs 1 k refl refl (omega arith) long in
    let at = has_symbols b e h in
    let piece = symbol_bytes sits.name_at (get_or xs k null_symbol) in
    let entry : Stands b (at.place + 24 * suc k) piece =
    Stands-at b piece (at.place + (24 + 24 * k)) (at.place + 24 * suc k) (omega arith)
    (Stands-in b (symbol_table (file_symbols e)) piece at.place (24 + 24 * k) at.content (Stands-behind (replicate 24 0) (symbol_entries 1 xs) piece (24 * k) sits.entry)) in
    let here : Stands b (at.place + 24 * suc k) (symbol_bytes sits.name_at s) = subst (λ (y : Symbol). Stands b (at.place + 24 * suc k) (symbol_bytes sits.name_at y)) same entry in
    let named : Named table (name_offset x.name sits.name_at) x.name = subst (λ (y : Symbol). Named table (name_offset y.name sits.name_at) y.name) same sits.name in
    let name : name_offset x.name sits.name_at < 2 ^ 32 = omega (arith, offset_le x.name sits.name_at, sits.inside, names-short e h.regular.symbols h.regular.few_name_bytes) in
    let fits = All-get_or SymbolFits e.symbols k no_symbol lt h.fits.symbols in
    record {
      name = name_offset x.name sits.name_at;
      is = ap (symbol_entry b) (symbol_place-is b e (suc k) h) ∙ symbol-read b (at.place + 24 * suc k) sits.name_at s name (place-small e x.value h.regular.few_segments) fits.0 fits.1 here;
      named = subst (λ (t : List ℕ). Named t (name_offset x.name sits.name_at) x.name) (sym (names_read-is b e h)) named;
    }

-- ---- no faults

null-named : (b : List ℕ) (e : Exec) → IsFileOf b e → has_name (names_read b) 0 ≡ true
null-named b e h = ap (λ (t : List ℕ). has_name t 0) (names_read-is b e h) ∙ has_name-Named (0 ∷ names_of (others e)) 0 [] (record { rest = names_of (others e); is = refl })

symbol-faultless : (b : List ℕ) (e : Exec) (k : ℕ) → IsFileOf b e → k < suc (length e.symbols) → symbol_faults b k ≡ []
symbol-faultless b e zero h lt = broken-true _ _ (ap (λ (t : SymbolEntry). has_name (names_read b) t.name) (null-at b e h) ∙ null-named b e h)
symbol-faultless b e (suc k) h lt =
    let at = symbol-read-at b e k h (omega arith) in
    broken-true _ _ (ap (λ (t : SymbolEntry). has_name (names_read b) t.name) at.is ∙ has_name-Named (names_read b) at.name _ at.named)

pub no_symbol_faults : (b : List ℕ) (e : Exec) → IsFileOf b e → symbols_faults b ≡ []
unfolding symbols_faults
no_symbol_faults b e h = each-nil (symbol_count b) (symbol_faults b) (λ k lt. symbol-faultless b e k h (omega (arith, lt, symbol_count-is b e h)))

-- ---- the symbols that are kept

plain_kind : (kind : SymbolKind) → kind ≢ kinds.Section → ltb (kind_number kind) 3 ≡ true
plain_kind kinds.None h = refl
plain_kind kinds.Object h = refl
plain_kind kinds.Func h = refl
plain_kind kinds.Section h = absurd (h refl)

defined : (i : Option ℕ) → not (eqb (section_number (place_in i)) 0) ≡ true
defined None = refl
defined (Some n) = let other : eqb (n + 1) 0 ≡ false = grind arith in rw other refl

not_empty : (name : List ℕ) → name ≢ [] → not (is_empty_name name) ≡ true
not_empty [] h = absurd (h refl)
not_empty (c ∷ name) h = refl

is-plain : (segments : List ExecSegment) (n : ℕ) (x : ExecSymbol) → x.kind ≢ kinds.Section → is_plain (entry_of n (file_symbol segments x)) ≡ true
is-plain segments n x kind =
    rw (type-is x.bind x.kind, bind-is x.bind x.kind, plain_kind x.kind kind, known_bind x.bind, defined (position (is_stored_in x.value) segments)) refl

is-kept : (b : List ℕ) (segments : List ExecSegment) (n : ℕ) (x : ExecSymbol) → IsRegularSymbol x → Named (names_read b) n x.name → is_kept b (entry_of n (file_symbol segments x)) ≡ true
is-kept b segments n x regular named =
    let name : name_at (names_read b) n ≡ x.name = name_at-Named (names_read b) n x.name regular.name named in
    ap (λ (p : Bool). p && not (is_empty_name (name_at (names_read b) n))) (is-plain segments n x regular.kind)
    ∙ ap (λ (r : List ℕ). not (is_empty_name r)) name ∙ not_empty x.name regular.named

symbol-is : (b : List ℕ) (segments : List ExecSegment) (n : ℕ) (x : ExecSymbol) → IsRegularSymbol x → Named (names_read b) n x.name → symbol_of b (entry_of n (file_symbol segments x)) ≡ x
unfolding symbol_of
symbol-is b segments n x regular named =
    let kind : kind_of ((bind_number x.bind * 16 + kind_number x.kind) % 16) ≡ x.kind = ap kind_of (type-is x.bind x.kind) ∙ kind_of-is x.kind in
    let bind : bind_of ((bind_number x.bind * 16 + kind_number x.kind) / 16) ≡ x.bind = ap bind_of (bind-is x.bind x.kind) ∙ bind_of-is x.bind in
    rw (name_at-Named (names_read b) n x.name regular.name named, kind, bind) refl

kept-is : (b : List ℕ) (e : Exec) (k : ℕ) → IsFileOf b e → k < length e.symbols → kept_symbol b (suc k) ≡ get_or e.symbols k no_symbol ∷ []
kept-is b e k h lt =
    let at = symbol-read-at b e k h lt in
    let x = get_or e.symbols k no_symbol in
    let regular = All-get_or IsRegularSymbol e.symbols k no_symbol lt h.regular.symbols in
    ap (λ (t : SymbolEntry). cond (is_kept b t) (symbol_of b t ∷ []) []) at.is
    ∙ ap (λ (c : Bool). cond c (symbol_of b (entry_of at.name (file_symbol e.segments x)) ∷ []) []) (is-kept b e.segments at.name x regular at.named)
    ∙ ap (λ (y : ExecSymbol). y ∷ []) (symbol-is b e.segments at.name x regular at.named)

null-left : (b : List ℕ) (e : Exec) → IsFileOf b e → kept_symbol b 0 ≡ []
null-left b e h = ap (λ (t : SymbolEntry). cond (is_kept b t) (symbol_of b t ∷ []) []) (null-at b e h)

pub symbols_of-is : (b : List ℕ) (e : Exec) → IsFileOf b e → symbols_of b ≡ e.symbols
unfolding symbols_of
symbols_of-is b e h =
    ap (λ (n : ℕ). each_below n (kept_symbol b)) (symbol_count-is b e h)
    ∙ each-shift (length e.symbols) (kept_symbol b)
    ∙ ap (λ (r : List ExecSymbol). r ++ each_below (length e.symbols) (λ k. kept_symbol b (suc k))) (null-left b e h)
    ∙ each-list (λ k. kept_symbol b (suc k)) (λ x. x ∷ []) e.symbols no_symbol (λ k lt. kept-is b e k h lt)
    ∙ flat_map_single (λ x. x) e.symbols ∙ map-id e.symbols
