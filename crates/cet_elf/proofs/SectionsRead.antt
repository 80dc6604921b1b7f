-- The sections of a written file as a reader of objects sees them.
use Rattle.std.proofs.Common.{◌≡◌, ℕ, suc, ◌+◌, ◌<◌, ◌≤◌, Bool, true, false, cond, eqb, not, ◌&&◌, ◌||◌, is_some, List, [], ◌∷◌, ◌++◌, length, map, get_or, codes, Option, Some, None, All, refl, ap, ◌∙◌, arith}
use Rattle.std.proofs.lemmas.List.{append_assoc, length-append, length-map, get_or-map, get_or_append_left}
use Rattle.std.proofs.lemmas.List.Elements.{All-nil, All-cons, All-append, All-map, All-get_or, All-from_get_or}
use Rattle.cet_elf.specs.declared.entries.SectionHeader.{SectionHeader}
use Rattle.cet_elf.specs.declared.object.Class.{Class}
use Rattle.cet_elf.specs.declared.object.Class.TheVariants as classes
use Rattle.cet_elf.specs.declared.object.Section.{Section}
use Rattle.cet_elf.specs.declared.object.Object.{Object}
use Rattle.cet_elf.specs.Below.{each_below, first_below}
use Rattle.cet_elf.specs.Fields.{has_flag}
use Rattle.cet_elf.specs.Header.{section_count}
use Rattle.cet_elf.specs.Sections.{section, section_names, place_faults, name_faults, sections_faults}
use Rattle.cet_elf.specs.StringTable.{has_name, is_named}
use Rattle.cet_elf.specs.ObjectSections.{is_symbol_table, is_note, is_kept, is_loaded, is_group, is_supported, is_supported_load, is_supported_alignment, is_supported_rel, support_faults, section_number, is_loaded_at}
use Rattle.cet_elf.specs.Regular.{IsRegular, FitsTypes}
use Rattle.cet_elf.specs.Written.{type_of, flags_of, parts, symtab_number}
use Rattle.cet_elf.proofs.FaultLemmas.{none-append, broken-true}
use Rattle.cet_elf.proofs.FileTable.{IsFile, HasPart, header_of, inside-is}
use Rattle.cet_elf.proofs.NamesStand.{has_name-Named, is_named-Named}
use Rattle.cet_elf.proofs.BelowLists.{each-nil, count-after, OnlyOne, OnlyOne-met}
use Rattle.cet_elf.proofs.Items.{Item, null, loaded, note, rela, symbols, strings, names, part_of, note_items, rela_item, relas_from, tables, items, length-items}
use Rattle.cet_elf.proofs.RegularItems.{IsItem, no_section, items-are, align-is}

-- the bytes are the file of a regular object
pub record IsFileOf (b : List ℕ) (o : Object) : Type 0 where
  pub regular : IsRegular o
  pub fits : FitsTypes o
  pub file : IsFile b (parts o)
  pub count : section_count b ≡ length (items o)
  pub has : (i : ℕ) → i < length (items o) → HasPart b i (part_of o (get_or (items o) i null))

pub item-is : (b : List ℕ) (o : Object) (i : ℕ) → IsFileOf b o → i < length (items o) → IsItem o (get_or (items o) i null)
item-is b o i h lt = All-get_or (IsItem o) (items o) i null lt (items-are o h.regular h.fits)

-- ---- the places and names of sections

pub no_section_faults : (b : List ℕ) (o : Object) → IsFileOf b o → sections_faults b ≡ []
unfolding sections_faults
no_section_faults b o h =
    none-append _ _
    (each-nil (section_count b) (place_faults b) (λ i lt.
    let at = h.has i (omega (arith, h.count)) in
    broken-true _ _ (inside-is b i _ at.name at.place at.fits at.header at.content)))
    (each-nil (section_count b) (name_faults b) (λ i lt.
    let at = h.has i (omega (arith, h.count)) in
    broken-true _ _ (ap (λ (s : SectionHeader). has_name (section_names b) s.name) at.header ∙ has_name-Named (section_names b) at.name _ at.named)))

-- ---- which items are what

abbrev pub is_symbols : Item → Bool
is_symbols null = false
is_symbols (loaded s) = false
is_symbols (note bytes) = false
is_symbols (rela number s) = false
is_symbols symbols = true
is_symbols strings = false
is_symbols names = false

abbrev pub is_property : Item → Bool
is_property null = false
is_property (loaded s) = false
is_property (note bytes) = true
is_property (rela number s) = false
is_property symbols = false
is_property strings = false
is_property names = false

abbrev pub is_loaded_item : Item → Bool
is_loaded_item null = false
is_loaded_item (loaded s) = true
is_loaded_item (note bytes) = false
is_loaded_item (rela number s) = false
is_loaded_item symbols = false
is_loaded_item strings = false
is_loaded_item names = false

no_table : (class : Class) → eqb (type_of class) 2 ≡ false
no_table classes.Code = refl
no_table classes.Read = refl
no_table classes.Write = refl
no_table classes.Zero = refl
no_table classes.Group = refl

symbols_kind : (o : Object) (x : Item) → eqb (part_of o x).kind 2 ≡ is_symbols x
symbols_kind o null = refl
symbols_kind o (loaded s) = no_table s.class
symbols_kind o (note bytes) = refl
symbols_kind o (rela number s) = refl
symbols_kind o symbols = refl
symbols_kind o strings = refl
symbols_kind o names = refl

pub is_symbol_table-is : (b : List ℕ) (o : Object) (i : ℕ) (x : Item) → HasPart b i (part_of o x) → is_symbol_table b i ≡ is_symbols x
is_symbol_table-is b o i x at = ap (λ (s : SectionHeader). eqb s.kind 2) at.header ∙ symbols_kind o x

no_note : (class : Class) (t : Bool) → eqb (type_of class) 7 && t ≡ false
no_note classes.Code t = refl
no_note classes.Read t = refl
no_note classes.Write t = refl
no_note classes.Zero t = refl
no_note classes.Group t = refl

property_kind : (b : List ℕ) (o : Object) (i : ℕ) (x : Item) → (at : HasPart b i (part_of o x)) → eqb (part_of o x).kind 7 && is_named (section_names b) at.name (codes ".note.gnu.property") ≡ is_property x
property_kind b o i null at = refl
property_kind b o i (loaded s) at = no_note s.class (is_named (section_names b) at.name (codes ".note.gnu.property"))
property_kind b o i (note bytes) at = is_named-Named (section_names b) at.name (codes ".note.gnu.property") at.named
property_kind b o i (rela number s) at = refl
property_kind b o i symbols at = refl
property_kind b o i strings at = refl
property_kind b o i names at = refl

pub is_note-is : (b : List ℕ) (o : Object) (i : ℕ) (x : Item) → HasPart b i (part_of o x) → is_note b i ≡ is_property x
unfolding is_note
is_note-is b o i x at =
    ap (λ (s : SectionHeader). eqb s.kind 7 && is_named (section_names b) s.name (codes ".note.gnu.property")) at.header ∙ property_kind b o i x at

-- whether a section is kept, by its header and by whether it is the note
abbrev kept_by : SectionHeader → Bool → Bool
kept_by s property = (is_loaded s && not property) || is_group s

kept_class : (class : Class) → (has_flag (flags_of class) 0x2 && not false) || eqb (type_of class) 17 ≡ true
kept_class classes.Code = refl
kept_class classes.Read = refl
kept_class classes.Write = refl
kept_class classes.Zero = refl
kept_class classes.Group = refl

kept_item : (o : Object) (x : Item) (name place : ℕ) → kept_by (header_of (part_of o x) name place) (is_property x) ≡ is_loaded_item x
kept_item o null name place = refl
kept_item o (loaded s) name place = kept_class s.class
kept_item o (note bytes) name place = refl
kept_item o (rela number s) name place = refl
kept_item o symbols name place = refl
kept_item o strings name place = refl
kept_item o names name place = refl

pub is_kept-is : (b : List ℕ) (o : Object) (i : ℕ) (x : Item) → HasPart b i (part_of o x) → is_kept b i ≡ is_loaded_item x
is_kept-is b o i x at =
    ap (kept_by (section b i)) (is_note-is b o i x at) ∙ ap (λ (s : SectionHeader). kept_by s (is_property x)) at.header ∙ kept_item o x at.name at.place

-- ---- what is supported

load_class : (class : Class) (s : SectionHeader) → s.kind ≡ type_of class → s.flags ≡ flags_of class → is_supported_load s ≡ true
load_class classes.Code s kind flags = rw (kind, flags) refl
load_class classes.Read s kind flags = rw (kind, flags) refl
load_class classes.Write s kind flags = rw (kind, flags) refl
load_class classes.Zero s kind flags = rw (kind, flags) refl
load_class classes.Group s kind flags = rw (kind, flags) refl

supported_load : (o : Object) (x : Item) (name place : ℕ) → is_supported_load (header_of (part_of o x) name place) ≡ true
supported_load o null name place = refl
supported_load o (loaded s) name place = load_class s.class (header_of (part_of o (loaded s)) name place) refl refl
supported_load o (note bytes) name place = refl
supported_load o (rela number s) name place = refl
supported_load o symbols name place = refl
supported_load o strings name place = refl
supported_load o names name place = refl

or_true : (b : Bool) → b || true ≡ true
or_true true = refl
or_true false = refl

supported_alignment : (o : Object) (x : Item) (name place : ℕ) → IsItem o x → is_supported_alignment (header_of (part_of o x) name place) ≡ true
supported_alignment o null name place is = refl
supported_alignment o (loaded s) name place is =
    let t : SectionHeader = header_of (part_of o (loaded s)) name place in
    ap (λ (a : Bool). not (is_loaded t || is_group t) || a) (align-is s.align is.consistent.align).0 ∙ or_true (not (is_loaded t || is_group t))
supported_alignment o (note bytes) name place is = refl
supported_alignment o (rela number s) name place is = refl
supported_alignment o symbols name place is = refl
supported_alignment o strings name place is = refl
supported_alignment o names name place is = refl

rel_class : (class : Class) (t : Bool) → not (eqb (type_of class) 9 && t) && not (eqb (type_of class) 18) ≡ true
rel_class classes.Code t = refl
rel_class classes.Read t = refl
rel_class classes.Write t = refl
rel_class classes.Zero t = refl
rel_class classes.Group t = refl

supported_rel : (b : List ℕ) (o : Object) (x : Item) (name place : ℕ) → is_supported_rel b (header_of (part_of o x) name place) ≡ true
supported_rel b o null name place = refl
supported_rel b o (loaded s) name place = rel_class s.class (is_loaded_at b 0)
supported_rel b o (note bytes) name place = refl
supported_rel b o (rela number s) name place = refl
supported_rel b o symbols name place = refl
supported_rel b o strings name place = refl
supported_rel b o names name place = refl

-- ---- the one symbol table and the one note

pub all_loaded : (P : Item → Type 0) (xs : List Section) → ((s : Section) → P (loaded s)) → All P (map loaded xs)
all_loaded P xs h = All-map P loaded xs (All-from_get_or (λ s. P (loaded s)) xs no_section (λ i lt. h (get_or xs i no_section)))

pub all_notes : (P : Item → Type 0) (n : Option (List ℕ)) → ((bytes : List ℕ) → P (note bytes)) → All P (note_items n)
all_notes P None h = All-nil P
all_notes P (Some bytes) h = All-cons P (note bytes) [] (h bytes) (All-nil P)

one_rela : (P : Item → Type 0) (b : Bool) (x : Item) → P x → All P (cond b (x ∷ []) [])
one_rela P true x h = All-cons P x [] h (All-nil P)
one_rela P false x h = All-nil P

pub all_relas : (P : Item → Type 0) (n : ℕ) (xs : List Section) → ((m : ℕ) (s : Section) → P (rela m s)) → All P (relas_from n xs)
all_relas P n [] h = All-nil P
all_relas P n (x ∷ xs) h = All-append P (rela_item n x) (relas_from (n + 1) xs) (one_rela P _ (rela n x) (h n x)) (all_relas P (n + 1) xs h)

-- the items before the symbol table
abbrev pub before_symbols : Object → List Item
before_symbols o = null ∷ (map loaded o.sections ++ (note_items o.notes ++ relas_from 0 o.sections))

pub items-split : (o : Object) → items o ≡ before_symbols o ++ tables
items-split o = simp append_assoc

pub length-before : (o : Object) → length (before_symbols o) ≡ symtab_number o
length-before o = omega (arith, length-items o, ap length (items-split o), length-append (before_symbols o) tables)

pub symbols-only : (b : List ℕ) (o : Object) → IsFileOf b o → OnlyOne (is_symbol_table b) is_symbols (before_symbols o) symbols (strings ∷ names ∷ []) null
symbols-only b o h =
    let P : Item → Type 0 = λ x. is_symbols x ≡ false in
    record {
      test = λ i lt.
          let short : i < length (items o) = omega (arith, lt, ap length (items-split o)) in
          is_symbol_table-is b o i (get_or (items o) i null) (h.has i short) ∙ ap (λ (xs : List Item). is_symbols (get_or xs i null)) (items-split o);
      here = refl;
      before =
          All-cons P null (map loaded o.sections ++ (note_items o.notes ++ relas_from 0 o.sections)) refl
          (All-append P (map loaded o.sections) (note_items o.notes ++ relas_from 0 o.sections) (all_loaded P o.sections (λ s. refl))
          (All-append P (note_items o.notes) (relas_from 0 o.sections) (all_notes P o.notes (λ bytes. refl)) (all_relas P 0 o.sections (λ m s. refl))));
      behind = All-cons P strings (names ∷ []) refl (All-cons P names [] refl (All-nil P));
    }

abbrev pub after_note : Object → List Item
after_note o = relas_from 0 o.sections ++ tables

pub note-only : (b : List ℕ) (o : Object) (bytes : List ℕ) → IsFileOf b o → o.notes ≡ Some bytes → OnlyOne (is_note b) is_property (null ∷ map loaded o.sections) (note bytes) (after_note o) null
note-only b o bytes h there =
    let P : Item → Type 0 = λ x. is_property x ≡ false in
    let split : items o ≡ (null ∷ map loaded o.sections) ++ note bytes ∷ after_note o = ap (λ (n : Option (List ℕ)). null ∷ (map loaded o.sections ++ (note_items n ++ after_note o))) there in
    record {
      test = λ i lt.
          let short : i < length (items o) = omega (arith, lt, ap length split) in
          is_note-is b o i (get_or (items o) i null) (h.has i short) ∙ ap (λ (xs : List Item). is_property (get_or xs i null)) split;
      here = refl;
      before = All-cons P null (map loaded o.sections) refl (all_loaded P o.sections (λ s. refl));
      behind = All-append P (relas_from 0 o.sections) tables (all_relas P 0 o.sections (λ m s. refl)) (All-cons P symbols (strings ∷ names ∷ []) refl (All-cons P strings (names ∷ []) refl (All-cons P names [] refl (All-nil P))));
    }

pub note-none : (b : List ℕ) (o : Object) (i : ℕ) → IsFileOf b o → o.notes ≡ None → i < length (items o) → is_note b i ≡ false
note-none b o i h none lt =
    let P : Item → Type 0 = λ x. is_property x ≡ false in
    let split : items o ≡ null ∷ (map loaded o.sections ++ after_note o) = ap (λ (n : Option (List ℕ)). null ∷ (map loaded o.sections ++ (note_items n ++ after_note o))) none in
    let all : All P (null ∷ (map loaded o.sections ++ after_note o)) =
    All-cons P null (map loaded o.sections ++ after_note o) refl
    (All-append P (map loaded o.sections) (after_note o) (all_loaded P o.sections (λ s. refl))
    (All-append P (relas_from 0 o.sections) tables (all_relas P 0 o.sections (λ m s. refl)) (All-cons P symbols (strings ∷ names ∷ []) refl (All-cons P strings (names ∷ []) refl (All-cons P names [] refl (All-nil P)))))) in
    is_note-is b o i (get_or (items o) i null) (h.has i lt) ∙ ap (λ (xs : List Item). is_property (get_or xs i null)) split
    ∙ All-get_or P (null ∷ (map loaded o.sections ++ after_note o)) i null (omega (arith, lt, ap length split)) all

one_symbols : (b : List ℕ) (o : Object) (i : ℕ) → IsFileOf b o → i < length (items o) → not (is_symbol_table b i && is_some (first_below i (is_symbol_table b))) ≡ true
one_symbols b o i h lt =
    OnlyOne-met (is_symbol_table b) is_symbols (before_symbols o) symbols (strings ∷ names ∷ []) null (symbols-only b o h) i (omega (arith, lt, ap length (items-split o)))

one_note : (b : List ℕ) (o : Object) (i : ℕ) → IsFileOf b o → i < length (items o) → not (is_note b i && is_some (first_below i (is_note b))) ≡ true
one_note b o i h lt = go o.notes refl
  where
    go : (n : Option (List ℕ)) → o.notes ≡ n → not (is_note b i && is_some (first_below i (is_note b))) ≡ true
    go None e = rw (note-none b o i h e lt) refl
    go (Some bytes) e =
        let split : items o ≡ (null ∷ map loaded o.sections) ++ note bytes ∷ after_note o = ap (λ (n : Option (List ℕ)). null ∷ (map loaded o.sections ++ (note_items n ++ after_note o))) e in
        OnlyOne-met (is_note b) is_property (null ∷ map loaded o.sections) (note bytes) (after_note o) null (note-only b o bytes h e) i (omega (arith, lt, ap length split))

all_four : (p q r s : Bool) → p ≡ true → q ≡ true → r ≡ true → s ≡ true → p && q && r && s ≡ true
all_four p q r s a b c d = rw (a, b, c, d) refl

both_true : (p q : Bool) → p ≡ true → q ≡ true → p && q ≡ true
both_true p q a b = rw (a, b) refl

pub all_supported : (b : List ℕ) (o : Object) (i : ℕ) → IsFileOf b o → i < length (items o) → is_supported b i ≡ true
unfolding is_supported
all_supported b o i h lt =
    let x = get_or (items o) i null in
    let at = h.has i lt in
    all_four _ _ _ _
    (ap is_supported_load at.header ∙ supported_load o x at.name at.place)
    (ap is_supported_alignment at.header ∙ supported_alignment o x at.name at.place (item-is b o i h lt))
    (ap (is_supported_rel b) at.header ∙ supported_rel b o x at.name at.place)
    (both_true _ _ (one_symbols b o i h lt) (one_note b o i h lt))

pub no_support_faults : (b : List ℕ) (o : Object) → IsFileOf b o → each_below (section_count b) (support_faults b) ≡ []
no_support_faults b o h = each-nil (section_count b) (support_faults b) (λ i lt. broken-true _ _ (all_supported b o i h (omega (arith, h.count))))

-- ---- the sections that are kept

pub section-item : (o : Object) (k : ℕ) → k < length o.sections → get_or (items o) (suc k) null ≡ loaded (get_or o.sections k no_section)
section-item o k lt =
    get_or_append_left (map loaded o.sections) (note_items o.notes ++ (relas_from 0 o.sections ++ tables)) null k (omega (arith, length-map o.sections loaded))
    ∙ get_or-map loaded o.sections k no_section null lt

pub sections-below : (o : Object) → length o.sections + 4 ≤ length (items o)
sections-below o =
    omega (
      arith,
      length-append (map loaded o.sections) (note_items o.notes ++ (relas_from 0 o.sections ++ tables)),
      length-map o.sections loaded,
      length-append (note_items o.notes) (relas_from 0 o.sections ++ tables),
      length-append (relas_from 0 o.sections) tables,
    )

pub section_is-kept : (b : List ℕ) (o : Object) (k : ℕ) → IsFileOf b o → k < length o.sections → is_kept b (suc k) ≡ true
section_is-kept b o k h lt =
    let short : suc k < length (items o) = omega (arith, sections-below o) in
    is_kept-is b o (suc k) (get_or (items o) (suc k) null) (h.has (suc k) short) ∙ ap is_loaded_item (section-item o k lt)

pub section_number-is : (b : List ℕ) (o : Object) (k : ℕ) → IsFileOf b o → k < length o.sections → section_number b (suc k) ≡ k
section_number-is b o k h lt =
    count-after k (is_kept b) (is_kept-is b o 0 null (h.has 0 (omega (arith, sections-below o)))) (λ j less. section_is-kept b o j h (omega arith))
