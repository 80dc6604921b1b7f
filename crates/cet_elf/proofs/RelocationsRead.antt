-- The relocations of a written file as a reader of objects sees them.
use Rattle.std.proofs.Common.{◌≡◌, ◌≢◌, ℕ, suc, ◌+◌, ◌*◌, ◌/◌, ◌<◌, ◌^◌, Bool, true, false, cond, eqb, ltb, ◌&&◌, List, [], ◌∷◌, length, get_or, FitsSigned, refl, ap, ◌∙◌, subst, arith, lit≤}
use Rattle.std.specs.Int.{w64, cast_signed, cast_unsigned}
use Rattle.std.proofs.lemmas.Bool.{lt-ltb}
use Rattle.std.proofs.lemmas.List.{length-append, map-id}
use Rattle.std.proofs.lemmas.List.Concat.{flat_map_single}
use Rattle.std.proofs.lemmas.List.Elements.{All-get_or}
use mir.Facts.{to_z-of_z, Fits-of_z}
use Rattle.cet_elf.specs.declared.entries.SectionHeader.{SectionHeader}
use Rattle.cet_elf.specs.declared.entries.RelaEntry.{RelaEntry}
use Rattle.cet_elf.specs.declared.object.Class.{Class}
use Rattle.cet_elf.specs.declared.object.Class.TheVariants as classes
use Rattle.cet_elf.specs.declared.object.Rela.{Rela}
use Rattle.cet_elf.specs.declared.object.Section.{Section}
use Rattle.cet_elf.specs.declared.object.Object.{Object}
use Rattle.cet_elf.specs.Below.{each_below}
use Rattle.cet_elf.specs.Consistent.{IsConsistentRela}
use Rattle.cet_elf.specs.Fields.{has_flag}
use Rattle.cet_elf.specs.Header.{section_count}
use Rattle.cet_elf.specs.Sections.{section, stored_size}
use Rattle.cet_elf.specs.Entries.{rela_entry}
use Rattle.cet_elf.specs.ObjectSections.{is_loaded}
use Rattle.cet_elf.specs.ObjectSymbols.{entry_count, symbol_count}
use Rattle.cet_elf.specs.ObjectRelocations.{is_rela_type, is_target, is_read_rela, rela_count, rela_at, rela_faults, target_size, rela_of, relas_in}
use Rattle.cet_elf.specs.Regular.{RelaFits}
use Rattle.cet_elf.specs.Written.{type_of, flags_of, rela_bytes, rela_table}
use Rattle.cet_elf.proofs.FaultLemmas.{none-append, broken-true}
use Rattle.cet_elf.proofs.Stands.{Stands, Stands-at, Stands-in, Stands-entry, word-Stands, xword-Stands}
use Rattle.cet_elf.proofs.FileTable.{HasPart}
use Rattle.cet_elf.proofs.BelowLists.{each-list}
use Rattle.cet_elf.proofs.Items.{Item, null, loaded, note, rela, symbols, strings, names, part_of}
use Rattle.cet_elf.proofs.RegularItems.{IsItem, IsNumbered}
use Rattle.cet_elf.proofs.SectionsRead.{IsFileOf, section-item, sections-below}
use Rattle.cet_elf.proofs.SymbolsRead.{entries-of, symbol_count-is, symbol-kept, symbol_number-is}

-- ---- an entry

pub length-table : (rs : List Rela) → length (rela_table rs) ≡ 24 * length rs
length-table [] = refl
length-table (r ∷ rs) = omega (arith, length-table rs, length-append (rela_bytes r) (rela_table rs))

abbrev pub entry_of : Rela → RelaEntry
entry_of r = record { offset = r.offset; kind = r.kind; symbol = r.symbol; addend = r.addend }

rela-read : (b : List ℕ) (at : ℕ) (r : Rela) → r.offset < 2 ^ 64 → r.kind < 2 ^ 32 → r.symbol < 2 ^ 32 → FitsSigned w64 r.addend → Stands b at (rela_bytes r) → rela_entry b at ≡ entry_of r
unfolding rela_entry
rela-read b at r offset kind symbol addend h =
    let e = rela_bytes r in
    let bits : cast_unsigned w64 r.addend < 2 ^ 64 = omega (arith, Fits-of_z addend) in
    rw (
      xword-Stands b at r.offset offset (Stands-at b _ (at + 0) at (omega arith) (Stands-in b e _ at 0 h (record { inside = lit≤ tt; is = refl }))),
      word-Stands b (at + 8) r.kind kind (Stands-in b e _ at 8 h (record { inside = lit≤ tt; is = refl })),
      word-Stands b (at + 12) r.symbol symbol (Stands-in b e _ at 12 h (record { inside = lit≤ tt; is = refl })),
      xword-Stands b (at + 16) (cast_unsigned w64 r.addend) bits (Stands-in b e _ at 16 h (record { inside = lit≤ tt; is = refl })),
      to_z-of_z addend,
    )
    refl

pub no_rela : Rela
no_rela = record { offset = 0; kind = 0; symbol = 0; addend = cast_signed w64 0 }

kind-small : (kind : ℕ) → is_rela_type kind ≡ true → kind < 2 ^ 32
kind-small kind h = grind arith

-- ---- the relocation section of a section

loaded_class : (class : Class) → class ≢ classes.Group → has_flag (flags_of class) 0x2 ≡ true
loaded_class classes.Code ne = refl
loaded_class classes.Read ne = refl
loaded_class classes.Write ne = refl
loaded_class classes.Zero ne = refl
loaded_class classes.Group ne = absurd (ne refl)

-- section `number` of the object, in the file
target : (b : List ℕ) (o : Object) (number : ℕ) (s : Section) → IsFileOf b o → IsNumbered o number s → HasPart b (suc number) (part_of o (loaded s))
target b o number s h is =
    subst (λ (x : Item). HasPart b (suc number) (part_of o x)) (section-item o number is.there ∙ ap loaded is.at) (h.has (suc number) (omega (arith, sections-below o, is.there)))

pub is_target-is : (b : List ℕ) (o : Object) (number : ℕ) (s : Section) → IsFileOf b o → IsNumbered o number s → is_target b (number + 1) ≡ true
is_target-is b o number s h is =
    let one : number + 1 ≡ suc number = omega arith in
    let lt : ltb (suc number) (section_count b) ≡ true = lt-ltb _ _ (omega (arith, h.count, sections-below o, is.there)) in
    let flag : is_loaded (section b (suc number)) ≡ true = ap is_loaded (target b o number s h is).header ∙ loaded_class s.class is.section.no_group in
    ap (is_target b) one ∙ rw (lt, flag) refl

pub target_size-is : (b : List ℕ) (o : Object) (j number : ℕ) (s : Section) → IsFileOf b o → IsNumbered o number s → HasPart b j (part_of o (rela number s)) → target_size b j ≡ length s.bytes
target_size-is b o j number s h is at =
    let one : number + 1 ≡ suc number = omega arith in
    ap (λ (t : SectionHeader). stored_size (section b t.info)) at.header
    ∙ ap (λ (n : ℕ). stored_size (section b n)) one
    ∙ ap stored_size (target b o number s h is).header
    ∙ (target b o number s h is).fits.bytes

pub read-rela : (b : List ℕ) (o : Object) (j number : ℕ) (s : Section) → IsFileOf b o → IsNumbered o number s → HasPart b j (part_of o (rela number s)) → is_read_rela b j ≡ true
unfolding is_read_rela
read-rela b o j number s h is at = ap (λ (t : SectionHeader). eqb t.kind 4 && is_target b t.info) at.header ∙ is_target-is b o number s h is

pub count-rela : (b : List ℕ) (o : Object) (j number : ℕ) (s : Section) → IsFileOf b o → IsNumbered o number s → HasPart b j (part_of o (rela number s)) → rela_count b j ≡ length s.relocations
unfolding rela_count
count-rela b o j number s h is at =
    ap (λ (c : Bool). cond c (entry_count (section b j)) 0) (read-rela b o j number s h is at)
    ∙ ap entry_count at.header ∙ ap (λ (n : ℕ). n / 24) (length-table s.relocations) ∙ entries-of (length s.relocations)

pub rela-at : (b : List ℕ) (o : Object) (j number k : ℕ) (s : Section) → IsFileOf b o → IsNumbered o number s → HasPart b j (part_of o (rela number s)) → k < length s.relocations
    → rela_at b j k ≡ entry_of (get_or s.relocations k no_rela)
rela-at b o j number k s h is at lt =
    let rs = s.relocations in
    let r = get_or rs k no_rela in
    let consistent : IsConsistentRela (length o.symbols) (length s.bytes) r = All-get_or (IsConsistentRela (length o.symbols) (length s.bytes)) rs k no_rela lt is.section.consistent.relocations in
    let entry : Stands b (at.place + 24 * k) (rela_bytes r) = Stands-in b (rela_table rs) (rela_bytes r) at.place (24 * k) at.content (Stands-entry rela_bytes 24 rs k no_rela (λ x. refl) lt) in
    ap (λ (t : SectionHeader). rela_entry b (t.offset + 24 * k)) at.header
    ∙ rela-read b (at.place + 24 * k) r
    (All-get_or RelaFits rs k no_rela lt is.section.numbers).0
    (kind-small r.kind consistent.kind)
    (omega (arith, consistent.symbol, h.regular.consistent.limits.symbols))
    (All-get_or RelaFits rs k no_rela lt is.section.numbers).1 entry

pub rela-faultless : (b : List ℕ) (o : Object) (at size : ℕ) (r : Rela) → IsFileOf b o → IsConsistentRela (length o.symbols) size r → rela_faults b size at (entry_of r) ≡ []
unfolding rela_faults
rela-faultless b o at size r h is =
    let there : ltb r.symbol (symbol_count b) ≡ true = lt-ltb _ _ (omega (arith, is.symbol, symbol_count-is b o h)) in
    none-append _ _ (none-append _ _
    (broken-true _ _ is.kind)
    (broken-true _ _ (rw (there, symbol-kept b o r.symbol h is.symbol) refl)))
    (broken-true _ _ is.field)

rela_of-is : (b : List ℕ) (o : Object) (size : ℕ) (r : Rela) → IsFileOf b o → IsConsistentRela (length o.symbols) size r → rela_of b (entry_of r) ≡ r
unfolding rela_of
rela_of-is b o size r h is = rw (symbol_number-is b o r.symbol h is.symbol) refl

-- ---- all sections

abbrev pub relas_of_item : Item → List Rela
relas_of_item null = []
relas_of_item (loaded s) = []
relas_of_item (note bytes) = []
relas_of_item (rela number s) = s.relocations
relas_of_item symbols = []
relas_of_item strings = []
relas_of_item names = []

no_rela_class : (class : Class) (t : Bool) → eqb (type_of class) 4 && t ≡ false
no_rela_class classes.Code t = refl
no_rela_class classes.Read t = refl
no_rela_class classes.Write t = refl
no_rela_class classes.Zero t = refl
no_rela_class classes.Group t = refl

abbrev pub is_rela_item : Item → Bool
is_rela_item null = false
is_rela_item (loaded s) = false
is_rela_item (note bytes) = false
is_rela_item (rela number s) = true
is_rela_item symbols = false
is_rela_item strings = false
is_rela_item names = false

pub read-other : (b : List ℕ) (o : Object) (j : ℕ) (x : Item) → is_rela_item x ≡ false → HasPart b j (part_of o x) → is_read_rela b j ≡ false
unfolding is_read_rela
read-other b o j null e at = ap (λ (t : SectionHeader). eqb t.kind 4 && is_target b t.info) at.header
read-other b o j (loaded s) e at = ap (λ (t : SectionHeader). eqb t.kind 4 && is_target b t.info) at.header ∙ no_rela_class s.class (is_target b 0)
read-other b o j (note bytes) e at = ap (λ (t : SectionHeader). eqb t.kind 4 && is_target b t.info) at.header
read-other b o j (rela number s) e at = absurd cc
read-other b o j symbols e at = ap (λ (t : SectionHeader). eqb t.kind 4 && is_target b t.info) at.header
read-other b o j strings e at = ap (λ (t : SectionHeader). eqb t.kind 4 && is_target b t.info) at.header
read-other b o j names e at = ap (λ (t : SectionHeader). eqb t.kind 4 && is_target b t.info) at.header

count-other : (b : List ℕ) (o : Object) (j : ℕ) (x : Item) → is_rela_item x ≡ false → HasPart b j (part_of o x) → rela_count b j ≡ 0
unfolding rela_count
count-other b o j x e at = ap (λ (c : Bool). cond c (entry_count (section b j)) 0) (read-other b o j x e at)

pub count-item : (b : List ℕ) (o : Object) (j : ℕ) (x : Item) → IsFileOf b o → IsItem o x → HasPart b j (part_of o x) → rela_count b j ≡ length (relas_of_item x)
count-item b o j null h is at = count-other b o j null refl at
count-item b o j (loaded s) h is at = count-other b o j (loaded s) refl at
count-item b o j (note bytes) h is at = count-other b o j (note bytes) refl at
count-item b o j (rela number s) h is at = count-rela b o j number s h is at
count-item b o j symbols h is at = count-other b o j symbols refl at
count-item b o j strings h is at = count-other b o j strings refl at
count-item b o j names h is at = count-other b o j names refl at

relas-other : (b : List ℕ) (o : Object) (j : ℕ) (x : Item) → is_rela_item x ≡ false → HasPart b j (part_of o x) → relas_in b j ≡ []
unfolding relas_in
relas-other b o j x e at = ap (λ (n : ℕ). each_below n (λ k. rela_of b (rela_at b j k) ∷ [])) (count-other b o j x e at)

relas-rela : (b : List ℕ) (o : Object) (j number : ℕ) (s : Section) → IsFileOf b o → IsNumbered o number s → HasPart b j (part_of o (rela number s)) → relas_in b j ≡ s.relocations
unfolding relas_in
relas-rela b o j number s h is at =
    let rs = s.relocations in
    let one : (k : ℕ) → k < length rs → rela_of b (rela_at b j k) ∷ [] ≡ get_or rs k no_rela ∷ [] = λ k lt.
    let consistent = All-get_or (IsConsistentRela (length o.symbols) (length s.bytes)) rs k no_rela lt is.section.consistent.relocations in
    ap (λ (e : RelaEntry). rela_of b e ∷ []) (rela-at b o j number k s h is at lt) ∙ ap (λ (r : Rela). r ∷ []) (rela_of-is b o (length s.bytes) (get_or rs k no_rela) h consistent) in
    ap (λ (n : ℕ). each_below n (λ k. rela_of b (rela_at b j k) ∷ [])) (count-rela b o j number s h is at)
    ∙ each-list (λ k. rela_of b (rela_at b j k) ∷ []) (λ r. r ∷ []) rs no_rela one
    ∙ flat_map_single (λ r. r) rs ∙ map-id rs

pub relas-item : (b : List ℕ) (o : Object) (j : ℕ) (x : Item) → IsFileOf b o → IsItem o x → HasPart b j (part_of o x) → relas_in b j ≡ relas_of_item x
relas-item b o j null h is at = relas-other b o j null refl at
relas-item b o j (loaded s) h is at = relas-other b o j (loaded s) refl at
relas-item b o j (note bytes) h is at = relas-other b o j (note bytes) refl at
relas-item b o j (rela number s) h is at = relas-rela b o j number s h is at
relas-item b o j symbols h is at = relas-other b o j symbols refl at
relas-item b o j strings h is at = relas-other b o j strings refl at
relas-item b o j names h is at = relas-other b o j names refl at
