-- What is written for a regular object is read as that object.
use Rattle.std.proofs.Common.{◌≡◌, ℕ, zero, suc, ◌+◌, ◌-◌, ◌<◌, ◌≤◌, ◌^◌, Bool, true, false, cond, eqb, List, [], ◌∷◌, ◌++◌, length, map, get_or, Option, Some, None, All, refl, sym, ap, ◌∙◌, subst, arith, inl, inr}
use Rattle.std.specs.List.{flat_map, enumerate_from, sum_by}
use Rattle.std.proofs.lemmas.Bool.{le-leb, ltb-false, cases_lt}
use Rattle.std.proofs.lemmas.List.{append-nil, length-append, length-map, nil_from_length, get_or_at, get_or-append_right}
use Rattle.std.proofs.lemmas.List.Concat.{flat_map-append}
use Rattle.std.proofs.lemmas.List.Elements.{All-nil, All-cons, All-head, All-tail, All-append, All-get_or}
use Rattle.std.proofs.lemmas.List.Sums.{sum_by-cons, sum_by-append}
use Rattle.cet_elf.specs.declared.entries.SectionHeader.{SectionHeader}
use Rattle.cet_elf.specs.declared.object.Class.{Class}
use Rattle.cet_elf.specs.declared.object.Class.TheVariants as classes
use Rattle.cet_elf.specs.declared.object.Rela.{Rela}
use Rattle.cet_elf.specs.declared.object.Section.{Section}
use Rattle.cet_elf.specs.declared.object.Symbol.{Symbol}
use Rattle.cet_elf.specs.declared.object.Object.{Object}
use Rattle.cet_elf.specs.Below.{each_below, first_below}
use Rattle.cet_elf.specs.Consistent.{IsConsistentRela}
use Rattle.cet_elf.specs.Header.{section_count}
use Rattle.cet_elf.specs.Sections.{section, stored as stored_at, section_names}
use Rattle.cet_elf.specs.StringTable.{name_at}
use Rattle.cet_elf.specs.ObjectSections.{is_note, is_kept, class_of, align_of}
use Rattle.cet_elf.specs.ObjectSymbols.{symbols_of}
use Rattle.cet_elf.specs.ObjectRelocations.{rela_count, rela_place, rela_at, rela_faults, target_size, is_within_limit, rela_section_faults, relocations_faults, relas_in, relocations_of}
use Rattle.cet_elf.specs.ObjectFile.{object_faults, section_of, sections_of, bytes_of, notes_of, object_of, IsObjectFile}
use Rattle.cet_elf.specs.Regular.{IsRegular, FitsTypes}
use Rattle.cet_elf.specs.Written.{type_of, flags_of, has_relocations, parts, written}
use Rattle.cet_elf.proofs.FaultLemmas.{none-append, broken-true}
use Rattle.cet_elf.proofs.NamesStand.{name_at-Named}
use Rattle.cet_elf.proofs.FileTable.{HasPart, stored-is, section_count-is, no_header_faults}
use Rattle.cet_elf.proofs.BelowLists.{each-list, each-nil, sum-list, sum-le, first-none, OnlyOne-first}
use Rattle.cet_elf.proofs.WholeFile.{length-parts}
use Rattle.cet_elf.proofs.WrittenFile.{written-IsFile, has_item}
use Rattle.cet_elf.proofs.Items.{Item, null, loaded, note, rela, symbols, strings, names, part_of, note_items, rela_item, relas_from, tables, items, length-items}
use Rattle.cet_elf.proofs.RegularItems.{IsItem, IsNumbered, no_section, align-is, sections-are}
use Rattle.cet_elf.proofs.SectionsRead.{IsFileOf, item-is, section-item, sections-below, is_loaded_item, is_kept-is, is_property, all_notes, all_relas, after_note, note-only, note-none, no_section_faults, no_support_faults, section_is-kept}
use Rattle.cet_elf.proofs.SymbolsRead.{no_symbol_faults, symbols_of-is}
use Rattle.cet_elf.proofs.RelocationsRead.{relas_of_item, is_rela_item, read-rela, read-other, count-rela, count-item, target_size-is, rela-at, rela-faultless, relas-item, no_rela}

-- ---- the faults of relocations

sum-loaded : (xs : List Section) → sum_by (λ x. length (relas_of_item x)) (map loaded xs) ≡ 0
sum-loaded [] = refl
sum-loaded (x ∷ xs) = omega (arith, sum-loaded xs, sum_by-cons (λ (x : Item). length (relas_of_item x)) (loaded x) (map loaded xs))

sum-notes : (n : Option (List ℕ)) → sum_by (λ x. length (relas_of_item x)) (note_items n) ≡ 0
sum-notes None = refl
sum-notes (Some bytes) = refl

sum-one : (b : Bool) (n : ℕ) (s : Section) → sum_by (λ x. length (relas_of_item x)) (cond b (rela n s ∷ []) []) ≤ length s.relocations
sum-one true n s = omega arith
sum-one false n s = omega arith

sum-relas : (n : ℕ) (xs : List Section) → sum_by (λ x. length (relas_of_item x)) (relas_from n xs) ≤ sum_by (λ s. length s.relocations) xs
sum-relas n [] = omega arith
sum-relas n (x ∷ xs) =
    omega (arith, sum-relas (n + 1) xs, sum-one (has_relocations x) n x, sum_by-append (λ (x : Item). length (relas_of_item x)) (rela_item n x) (relas_from (n + 1) xs), sum_by-cons (λ (s : Section). length s.relocations) x xs)

sum-items : (o : Object) → sum_by (λ x. length (relas_of_item x)) (items o) ≤ sum_by (λ s. length s.relocations) o.sections
sum-items o =
    let f : Item → ℕ = λ x. length (relas_of_item x) in
    let a = map loaded o.sections in
    let n = note_items o.notes in
    let r = relas_from 0 o.sections in
    let last : sum_by f tables ≡ 0 = refl in
    omega (arith, sum-loaded o.sections, sum-notes o.notes, sum-relas 0 o.sections, last, sum_by-cons f null (a ++ (n ++ (r ++ tables))), sum_by-append f a (n ++ (r ++ tables)), sum_by-append f n (r ++ tables), sum_by-append f r tables)

within-limit : (b : List ℕ) (o : Object) (j : ℕ) → IsFileOf b o → j < length (items o) → is_within_limit b j ≡ true
within-limit b o j h lt =
    let all = sum-list (rela_count b) (λ x. length (relas_of_item x)) (items o) null (λ i less. count-item b o i (get_or (items o) i null) h (item-is b o i h less) (h.has i less)) in
    le-leb _ _ (omega (arith, sum-le (length (items o)) (j + 1) (rela_count b) (omega arith), all, sum-items o, h.regular.consistent.limits.relocations))

rela-section : (b : List ℕ) (o : Object) (j number : ℕ) (s : Section) → IsFileOf b o → j < length (items o) → IsNumbered o number s → HasPart b j (part_of o (rela number s)) → rela_section_faults b j ≡ []
unfolding rela_section_faults
rela-section b o j number s h lt is at =
    let size : target_size b j ≡ length s.bytes = target_size-is b o j number s h is at in
    let count = count-rela b o j number s h is at in
    let entries : each_below (rela_count b j) (λ k. rela_faults b (target_size b j) (rela_place b j k) (rela_at b j k)) ≡ [] =
    each-nil (rela_count b j) (λ k. rela_faults b (target_size b j) (rela_place b j k) (rela_at b j k)) (λ k less.
    let inside : k < length s.relocations = omega (arith, less, count) in
    let consistent = All-get_or (IsConsistentRela (length o.symbols) (length s.bytes)) s.relocations k no_rela inside is.section.consistent.relocations in
    rw (size, rela-at b o j number k s h is at inside) (rela-faultless b o (rela_place b j k) (length s.bytes) (get_or s.relocations k no_rela) h consistent)) in
    rw (read-rela b o j number s h is at) (none-append _ _ (broken-true _ _ (within-limit b o j h lt)) entries)

other-section : (b : List ℕ) (o : Object) (j : ℕ) (x : Item) → is_rela_item x ≡ false → HasPart b j (part_of o x) → rela_section_faults b j ≡ []
unfolding rela_section_faults
other-section b o j x e at = rw (read-other b o j x e at) refl

section-faultless : (b : List ℕ) (o : Object) (j : ℕ) (x : Item) → IsFileOf b o → j < length (items o) → IsItem o x → HasPart b j (part_of o x) → rela_section_faults b j ≡ []
section-faultless b o j null h lt is at = other-section b o j null refl at
section-faultless b o j (loaded s) h lt is at = other-section b o j (loaded s) refl at
section-faultless b o j (note bytes) h lt is at = other-section b o j (note bytes) refl at
section-faultless b o j (rela number s) h lt is at = rela-section b o j number s h lt is at
section-faultless b o j symbols h lt is at = other-section b o j symbols refl at
section-faultless b o j strings h lt is at = other-section b o j strings refl at
section-faultless b o j names h lt is at = other-section b o j names refl at

no_relocation_faults : (b : List ℕ) (o : Object) → IsFileOf b o → relocations_faults b ≡ []
unfolding relocations_faults
no_relocation_faults b o h =
    each-nil (section_count b) (rela_section_faults b) (λ j lt.
    let less : j < length (items o) = omega (arith, h.count) in
    section-faultless b o j (get_or (items o) j null) h less (item-is b o j h less) (h.has j less))

-- ---- the relocations of a section

-- what an item gives to the section `i` of the file
abbrev given_to : Object → ℕ → Item → List Rela
given_to o i x = cond (eqb (part_of o x).info i) (relas_of_item x) []

none_either : (c : Bool) (none : List Rela) → none ≡ [] → cond c none [] ≡ []
none_either true none e = e
none_either false none e = refl

give-loaded : (o : Object) (i : ℕ) (xs : List Section) → flat_map (given_to o i) (map loaded xs) ≡ []
give-loaded o i [] = refl
give-loaded o i (x ∷ xs) = rw (none_either (eqb 0 i) [] refl) (give-loaded o i xs)

give-notes : (o : Object) (i : ℕ) (n : Option (List ℕ)) → flat_map (given_to o i) (note_items n) ≡ []
give-notes o i None = refl
give-notes o i (Some bytes) = rw (none_either (eqb 0 i) [] refl) refl

give-tables : (o : Object) (i : ℕ) → flat_map (given_to o i) tables ≡ []
give-tables o i = rw (none_either (eqb (part_of o symbols).info i) [] refl, none_either (eqb 0 i) [] refl) refl

-- what the sections numbered from n on give
abbrev given_from : ℕ → ℕ → List Section → List Rela
given_from i n xs = flat_map (λ s. cond (eqb (s.0 + 1) i) s.1.relocations []) (enumerate_from n xs)

no_relocations : (s : Section) → has_relocations s ≡ false → s.relocations ≡ []
no_relocations s e = nil_from_length s.relocations (omega (arith, ltb-false 0 (length s.relocations) e))

give-one : (o : Object) (i n : ℕ) (s : Section) → flat_map (given_to o i) (rela_item n s) ≡ cond (eqb (n + 1) i) s.relocations []
give-one o i n s = go (has_relocations s) refl
  where
    go : (c : Bool) → has_relocations s ≡ c → flat_map (given_to o i) (cond c (rela n s ∷ []) []) ≡ cond (eqb (n + 1) i) s.relocations []
    go true e = append-nil (cond (eqb (n + 1) i) s.relocations [])
    go false e = sym (none_either (eqb (n + 1) i) s.relocations (no_relocations s e))

give-relas : (o : Object) (i n : ℕ) (xs : List Section) → flat_map (given_to o i) (relas_from n xs) ≡ given_from i n xs
give-relas o i n [] = refl
give-relas o i n (x ∷ xs) =
    flat_map-append (given_to o i) (rela_item n x) (relas_from (n + 1) xs)
    ∙ ap (λ (r : List Rela). r ++ flat_map (given_to o i) (relas_from (n + 1) xs)) (give-one o i n x)
    ∙ ap (λ (r : List Rela). cond (eqb (n + 1) i) x.relocations [] ++ r) (give-relas o i (n + 1) xs)

pub give-items : (o : Object) (i : ℕ) → flat_map (given_to o i) (items o) ≡ given_from i 0 o.sections
give-items o i =
    let g = given_to o i in
    let a = map loaded o.sections in
    let n = note_items o.notes in
    let r = relas_from 0 o.sections in
    ap (λ (x : List Rela). x ++ flat_map g (a ++ (n ++ (r ++ tables)))) (none_either (eqb 0 i) [] refl)
    ∙ flat_map-append g a (n ++ (r ++ tables))
    ∙ ap (λ (x : List Rela). x ++ flat_map g (n ++ (r ++ tables))) (give-loaded o i o.sections)
    ∙ flat_map-append g n (r ++ tables)
    ∙ ap (λ (x : List Rela). x ++ flat_map g (r ++ tables)) (give-notes o i o.notes)
    ∙ flat_map-append g r tables
    ∙ ap (λ (x : List Rela). flat_map g r ++ x) (give-tables o i)
    ∙ append-nil (flat_map g r)
    ∙ give-relas o i 0 o.sections

given-past : (i n : ℕ) (xs : List Section) → i < n + 1 → given_from i n xs ≡ []
given-past i n [] lt = refl
given-past i n (x ∷ xs) lt =
    let other : eqb (n + 1) i ≡ false = different (n + 1) i (omega arith) in
    rw other (given-past i (n + 1) xs (omega arith))
  where
    different : (m k : ℕ) → k < m → eqb m k ≡ false
    different m k less = grind arith

given-at : (i n k : ℕ) (xs : List Section) → i ≡ n + k + 1 → k < length xs → given_from i n xs ≡ (get_or xs k no_section).relocations
given-at i n k [] e lt = absurd (omega arith)
given-at i n zero (x ∷ xs) e lt =
    let same : eqb (n + 1) i ≡ true = equal (n + 1) i (omega arith) in
    rw (same, given-past i (n + 1) xs (omega arith)) (append-nil x.relocations)
  where
    equal : (m k : ℕ) → m ≡ k → eqb m k ≡ true
    equal m k is = grind arith
given-at i n (suc k) (x ∷ xs) e lt =
    let other : eqb (n + 1) i ≡ false = different (n + 1) i (omega arith) in
    rw other (given-at i (n + 1) k xs (omega arith) (omega arith))
  where
    different : (m k : ℕ) → m < k → eqb m k ≡ false
    different m k less = grind arith

relocations_of-is : (b : List ℕ) (o : Object) (k : ℕ) → IsFileOf b o → k < length o.sections → relocations_of b (suc k) ≡ (get_or o.sections k no_section).relocations
unfolding relocations_of
relocations_of-is b o k h lt =
    let i = suc k in
    let f = λ (j : ℕ). cond (eqb (section b j).info i) (relas_in b j) [] in
    let each : (j : ℕ) → j < length (items o) → f j ≡ given_to o i (get_or (items o) j null) = λ j less.
    let x = get_or (items o) j null in
    let at = h.has j less in
    ap (λ (s : SectionHeader). cond (eqb s.info i) (relas_in b j) []) at.header
    ∙ ap (λ (r : List Rela). cond (eqb (part_of o x).info i) r []) (relas-item b o j x h (item-is b o j h less) at) in
    ap (λ (n : ℕ). each_below n f) h.count
    ∙ each-list f (given_to o i) (items o) null each
    ∙ give-items o i
    ∙ given-at i 0 k o.sections (omega arith) lt

-- ---- the sections

class-is : (class : Class) (s : SectionHeader) → s.kind ≡ type_of class → s.flags ≡ flags_of class → class_of s ≡ class
unfolding class_of
class-is classes.Code s kind flags = rw (kind, flags) refl
class-is classes.Read s kind flags = rw (kind, flags) refl
class-is classes.Write s kind flags = rw (kind, flags) refl
class-is classes.Zero s kind flags = rw kind refl
class-is classes.Group s kind flags = rw kind refl

abbrev section_with : List ℕ → Class → ℕ → ℕ → List ℕ → List Rela → Section
section_with n c a z y r = record { name = n; class = c; align = a; size = z; bytes = y; relocations = r }

same_section : (n n' : List ℕ) (c c' : Class) (a a' z z' : ℕ) (y y' : List ℕ) (r r' : List Rela) → n ≡ n' → c ≡ c' → a ≡ a' → z ≡ z' → y ≡ y' → r ≡ r'
    → section_with n c a z y r ≡ section_with n' c' a' z' y' r'
same_section n n' c c' a a' z z' y y' r r' en ec ea ez ey er =
    ap (λ (x : List ℕ). section_with x c a z y r) en ∙ ap (λ (x : Class). section_with n' x a z y r) ec ∙ ap (λ (x : ℕ). section_with n' c' x z y r) ea
    ∙ ap (λ (x : ℕ). section_with n' c' a' x y r) ez ∙ ap (λ (x : List ℕ). section_with n' c' a' z' x r) ey ∙ ap (section_with n' c' a' z' y') er

section-part : (b : List ℕ) (o : Object) (k : ℕ) → IsFileOf b o → k < length o.sections → HasPart b (suc k) (part_of o (loaded (get_or o.sections k no_section)))
section-part b o k h lt = subst (λ (x : Item). HasPart b (suc k) (part_of o x)) (section-item o k lt) (h.has (suc k) (omega (arith, sections-below o)))

pub section_of-is : (b : List ℕ) (o : Object) (k : ℕ) → IsFileOf b o → k < length o.sections → section_of b (suc k) ≡ get_or o.sections k no_section
unfolding section_of
section_of-is b o k h lt =
    let s = get_or o.sections k no_section in
    let at = section-part b o k h lt in
    let is = sections-are o h.regular h.fits k lt in
    let name : name_at (section_names b) (section b (suc k)).name ≡ s.name =
    ap (λ (t : SectionHeader). name_at (section_names b) t.name) at.header ∙ name_at-Named (section_names b) at.name s.name is.name at.named in
    let class : class_of (section b (suc k)) ≡ s.class = class-is s.class (section b (suc k)) (ap (λ (t : SectionHeader). t.kind) at.header) (ap (λ (t : SectionHeader). t.flags) at.header) in
    let align : align_of (section b (suc k)) ≡ s.align = ap align_of at.header ∙ ap (λ (c : Bool). cond c 1 s.align) (align-is s.align is.consistent.align).2 in
    let size : (section b (suc k)).size ≡ s.size = ap (λ (t : SectionHeader). t.size) at.header in
    let bytes : stored_at b (section b (suc k)) ≡ s.bytes = stored-is b (suc k) (part_of o (loaded s)) at.name at.place at.fits at.header at.content in
    same_section _ _ _ _ _ _ _ _ _ _ _ _ name class align size bytes (relocations_of-is b o k h lt)

-- what an item gives to the sections of the object
abbrev sections_in : Item → List Section
sections_in null = []
sections_in (loaded s) = s ∷ []
sections_in (note bytes) = []
sections_in (rela number s) = []
sections_in symbols = []
sections_in strings = []
sections_in names = []

unloaded : (x : Item) → is_loaded_item x ≡ false → sections_in x ≡ []
unloaded null e = refl
unloaded (loaded s) e = absurd cc
unloaded (note bytes) e = refl
unloaded (rela number s) e = refl
unloaded symbols e = refl
unloaded strings e = refl
unloaded names e = refl

abbrev behind_sections : Object → List Item
behind_sections o = note_items o.notes ++ (relas_from 0 o.sections ++ tables)

none-behind : (o : Object) → All (λ x. is_loaded_item x ≡ false) (behind_sections o)
none-behind o =
    let P : Item → Type 0 = λ x. is_loaded_item x ≡ false in
    All-append P (note_items o.notes) (relas_from 0 o.sections ++ tables) (all_notes P o.notes (λ bytes. refl))
    (All-append P (relas_from 0 o.sections) tables (all_relas P 0 o.sections (λ m s. refl))
    (All-cons P symbols (strings ∷ names ∷ []) refl (All-cons P strings (names ∷ []) refl (All-cons P names [] refl (All-nil P)))))

item-behind : (o : Object) (k : ℕ) → length o.sections ≤ k → suc k < length (items o) → is_loaded_item (get_or (items o) (suc k) null) ≡ false
item-behind o k past lt =
    let a = map loaded o.sections in
    let long : length a ≤ k = omega (arith, length-map o.sections loaded) in
    let inside : k - length a < length (behind_sections o) = omega (arith, length-append a (behind_sections o)) in
    ap is_loaded_item (get_or-append_right a (behind_sections o) (length a) k null refl long) ∙ All-get_or (λ x. is_loaded_item x ≡ false) (behind_sections o) (k - length a) null inside (none-behind o)

sections_in-loaded : (xs : List Section) → flat_map sections_in (map loaded xs) ≡ xs
sections_in-loaded [] = refl
sections_in-loaded (x ∷ xs) = ap (λ (r : List Section). x ∷ r) (sections_in-loaded xs)

sections_in-none : (xs : List Item) → All (λ x. is_loaded_item x ≡ false) xs → flat_map sections_in xs ≡ []
sections_in-none [] h = refl
sections_in-none (x ∷ xs) h =
    let P : Item → Type 0 = λ x. is_loaded_item x ≡ false in
    ap (λ (r : List Section). r ++ flat_map sections_in xs) (unloaded x (All-head P x xs h)) ∙ sections_in-none xs (All-tail P x xs h)

kept-section : (b : List ℕ) (o : Object) (i : ℕ) → IsFileOf b o → i < length (items o) → cond (is_kept b i) (section_of b i ∷ []) [] ≡ sections_in (get_or (items o) i null)
kept-section b o zero h lt = ap (λ (c : Bool). cond c (section_of b 0 ∷ []) []) (is_kept-is b o 0 null (h.has 0 lt))
kept-section b o (suc k) h lt = elim (cases_lt k (length o.sections)) [
  | inl less ↦
      ap (λ (c : Bool). cond c (section_of b (suc k) ∷ []) []) (section_is-kept b o k h less)
      ∙ ap (λ (s : Section). s ∷ []) (section_of-is b o k h less) ∙ sym (ap sections_in (section-item o k less))
  | inr past ↦
      let no = item-behind o k past lt in
      let x = get_or (items o) (suc k) null in
      ap (λ (c : Bool). cond c (section_of b (suc k) ∷ []) []) (is_kept-is b o (suc k) x (h.has (suc k) lt) ∙ no) ∙ sym (unloaded x no)
]

sections_of-is : (b : List ℕ) (o : Object) → IsFileOf b o → sections_of b ≡ o.sections
unfolding sections_of
sections_of-is b o h =
    let f = λ (i : ℕ). cond (is_kept b i) (section_of b i ∷ []) [] in
    ap (λ (n : ℕ). each_below n f) h.count
    ∙ each-list f sections_in (items o) null (λ i lt. kept-section b o i h lt)
    ∙ flat_map-append sections_in (map loaded o.sections) (behind_sections o)
    ∙ ap (λ (r : List Section). r ++ flat_map sections_in (behind_sections o)) (sections_in-loaded o.sections)
    ∙ ap (λ (r : List Section). o.sections ++ r) (sections_in-none (behind_sections o) (none-behind o))
    ∙ append-nil o.sections

-- ---- the note

notes_of-is : (b : List ℕ) (o : Object) → IsFileOf b o → notes_of b ≡ o.notes
unfolding notes_of
notes_of-is b o h = go o.notes refl
  where
    go : (n : Option (List ℕ)) → o.notes ≡ n → bytes_of b (first_below (section_count b) (is_note b)) ≡ o.notes
    go None e = ap (bytes_of b) (first-none (section_count b) (is_note b) (λ i lt. note-none b o i h e (omega (arith, h.count)))) ∙ sym e
    go (Some bytes) e =
        let front = null ∷ map loaded o.sections in
        let split : items o ≡ front ++ note bytes ∷ after_note o = ap (λ (n : Option (List ℕ)). null ∷ (map loaded o.sections ++ (note_items n ++ after_note o))) e in
        let i = length front in
        let lt : i < length (items o) = omega (arith, ap length split, length-append front (note bytes ∷ after_note o)) in
        let item : get_or (items o) i null ≡ note bytes = ap (λ (xs : List Item). get_or xs i null) split ∙ get_or_at front (note bytes) (after_note o) null i refl in
        let at : HasPart b i (part_of o (note bytes)) = subst (λ (x : Item). HasPart b i (part_of o x)) item (h.has i lt) in
        ap (λ (n : ℕ). bytes_of b (first_below n (is_note b))) (h.count ∙ ap length split)
        ∙ ap (bytes_of b) (OnlyOne-first (is_note b) is_property front (note bytes) (after_note o) null (note-only b o bytes h e))
        ∙ ap (λ (r : List ℕ). Some r) (stored-is b i (part_of o (note bytes)) at.name at.place at.fits at.header at.content)
        ∙ sym e

-- ---- the whole

no_faults : (b : List ℕ) (o : Object) → IsFileOf b o → object_faults b ≡ []
unfolding object_faults
no_faults b o h =
    none-append _ _ (none-append _ _ (none-append _ _ (none-append _ _
    (no_header_faults b (parts o) h.file)
    (no_section_faults b o h))
    (no_support_faults b o h))
    (no_symbol_faults b o h))
    (no_relocation_faults b o h)

abbrev object_with : List Section → List Symbol → Option (List ℕ) → Object
object_with xs ys n = record { sections = xs; symbols = ys; notes = n }

object_of-is : (b : List ℕ) (o : Object) → IsFileOf b o → o ≡ object_of b
unfolding object_of
object_of-is b o h =
    sym (ap (λ (s : List Section). object_with s (symbols_of b) (notes_of b)) (sections_of-is b o h)
    ∙ ap (λ (s : List Symbol). object_with o.sections s (notes_of b)) (symbols_of-is b o h)
    ∙ ap (object_with o.sections o.symbols) (notes_of-is b o h))

pub reads_back : (o : Object) → IsRegular o → FitsTypes o → length (written o) < 2 ^ 64 → IsObjectFile (written o) o
reads_back o regular fits short =
    let file = written-IsFile o regular fits short in
    let whole : IsFileOf (written o) o = record {
      regular = regular;
      fits = fits;
      file = file;
      count = section_count-is (written o) (parts o) file ∙ omega (arith, length-items o, length-parts o);
      has = λ i lt. has_item o i regular fits short lt;
    } in
    record { no_fault = no_faults (written o) o whole; is_object = object_of-is (written o) o whole }
