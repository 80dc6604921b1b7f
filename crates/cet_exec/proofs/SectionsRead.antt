-- The sections of a written file as they are read.
use Rattle.std.proofs.Common.{◌≡◌, ℕ, zero, suc, ◌+◌, ◌-◌, ◌*◌, ◌<◌, ◌≤◌, ◌^◌, Bool, true, false, cond, eqb, List, [], ◌∷◌, ◌++◌, length, map, get_or, drop, codes, Option, Some, None, All, refl, sym, ap, subst, ◌∙◌, arith, lit≤, lit<}
use Rattle.std.specs.List.{flat_map}
use Rattle.std.specs.Fmt.{decimal}
use Rattle.std.proofs.lemmas.Fmt.{length-decimal-le_succ}
use Rattle.std.proofs.lemmas.List.{append_assoc, length-append, length-map, map-append, get_or-append-add}
use Rattle.std.proofs.lemmas.List.Concat.{flat_map-append}
use Rattle.std.proofs.lemmas.List.Elements.{All-nil, All-cons, All-append, All-head, All-tail, All-get_or}
use Rattle.cet_elf.specs.declared.entries.SectionHeader.{SectionHeader}
use Rattle.cet_elf.specs.declared.exec.Exec.{Exec}
use Rattle.cet_elf.specs.declared.exec.ExecSegment.{ExecSegment}
use Rattle.cet_elf.specs.Fields.{has_flag}
use Rattle.cet_elf.specs.Header.{section_table as table_read, section_count, section_names_index}
use Rattle.cet_elf.specs.Sections.{section_header as read_header, section, string_table as table_at, section_names, place_faults, name_faults, sections_faults}
use Rattle.cet_elf.specs.StringTable.{has_name}
use Rattle.cet_elf.specs.Written.{Part, Placed, ended, name_offset, section_header, symbol_part, symbol_names, string_part, locals_end}
use Rattle.cet_elf.proofs.FaultLemmas.{none-append, broken-true}
use Rattle.cet_elf.proofs.BelowLists.{each-nil}
use Rattle.cet_elf.proofs.Stands.{Stands, Stands-in, Stands-entry, half-Stands, xword-Stands}
use Rattle.cet_elf.proofs.NamesStand.{Named, Named-here, after-name, name-inside, has_name-Named}
use Rattle.cet_elf.proofs.FileTable.{FitsPart, header_of, header-Stands, Sits, HasPart, null_part, null_placed, inside-is, table_at-is}
use Rattle.cet_elf.proofs.RegularItems.{locals_end-le}
use Rattle.cet_elf.proofs.WrittenFile.{ended-le}
use Rattle.cet_exec.specs.declared.programs.ProgramHeader.{ProgramHeader}
use Rattle.cet_exec.specs.Regular.{IsRegularSegment, SegmentFits}
use Rattle.cet_exec.specs.Written.{aligned, Laid, laid, note_program, home, note_count, note_sections, note_section, front_size, load_programs, segments_end, note_end, section_flags, segment_part, segment_name, is_linked, segment_parts, loaded_sections, file_symbol, file_symbols, symtab_number, symbol_parts, names_part, table_parts, laid_names, sections, named, section_table_place}
use Rattle.cet_exec.proofs.Counts.{few-symbols}
use Rattle.cet_exec.proofs.Spaced.{names_of, names_of-append}
use Rattle.cet_exec.proofs.WholeFile.{length-loaded, length-sections}
use Rattle.cet_exec.proofs.Standing.{StandsLaid}
use Rattle.cet_exec.proofs.WrittenFile.{IsFileOf}
use Rattle.cet_exec.proofs.ProgramsRead.{note-of}

-- ---- sections one after another

abbrev pub parts_of : List Laid → List Part
parts_of ls = map (λ l. l.part) ls

named-part : (ls : List Laid) (name_at k : ℕ) (d : Placed) (e : Part) → k < length ls → (get_or (named name_at ls) k d).part ≡ get_or (parts_of ls) k e
named-part [] name_at k d e lt = absurd (omega arith)
named-part (l ∷ ls) name_at zero d e lt = refl
named-part (l ∷ ls) name_at (suc k) d e lt = named-part ls (name_at + length (ended l.part.name)) k d e (omega arith)

pub length-named : (ls : List Laid) (name_at : ℕ) → length (named name_at ls) ≡ length ls
length-named [] name_at = refl
length-named (l ∷ ls) name_at = ap suc (length-named ls (name_at + length (ended l.part.name)))

named-sits : (b table zeros : List ℕ) (ls : List Laid) (name_at k : ℕ) (d : Placed) → table ≡ 0 ∷ zeros → All (StandsLaid b) ls → drop name_at table ≡ names_of ls
    → name_at ≤ length table → k < length ls → Sits b table (get_or (named name_at ls) k d)
named-sits b table zeros [] name_at k d first all names le lt = absurd (omega arith)
named-sits b table zeros (l ∷ ls) name_at zero d first all names le lt = record {
  content = All-head (StandsLaid b) l ls all;
  name = Named-here table (names_of ls) zeros name_at l.part.name first names;
  name_at = le;
}
named-sits b table zeros (l ∷ ls) name_at (suc k) d first all names le lt =
    named-sits b table zeros ls (name_at + length (ended l.part.name)) k d first (All-tail (StandsLaid b) l ls all) (after-name table (names_of ls) name_at l.part.name names)
    (name-inside table (names_of ls) name_at l.part.name le names) (omega arith)

laid-parts : (align end : ℕ) (ps : List Part) → parts_of (laid align end ps) ≡ ps
laid-parts align end [] = refl
laid-parts align end (p ∷ ps) = ap (λ (r : List Part). p ∷ r) (laid-parts align (aligned align end + length p.content) ps)

-- ---- which sections there are

abbrev note_sections_of : Exec → Option (List ℕ) → List Laid
note_sections_of e n = note_sections e.segments (load_programs e) (segments_end e) n

note-section-stands : (b : List ℕ) (e : Exec) → IsFileOf b e → All (StandsLaid b) (note_sections_of e e.notes)
note-section-stands b e h = go e.notes refl
  where
    go : (n : Option (List ℕ)) → e.notes ≡ n → All (StandsLaid b) (note_sections_of e e.notes)
    go None is = subst (λ (m : Option (List ℕ)). All (StandsLaid b) (note_sections_of e m)) (sym is) (All-nil (StandsLaid b))
    go (Some note) is =
        let q = note_program note (segments_end e) (home note e.segments (load_programs e)) in
        subst (λ (m : Option (List ℕ)). All (StandsLaid b) (note_sections_of e m)) (sym is)
        (All-cons (StandsLaid b) (note_section note q) [] (note-of b note e h is).stands (All-nil (StandsLaid b)))

sections-stand : (b : List ℕ) (e : Exec) → IsFileOf b e → All (StandsLaid b) (sections e)
sections-stand b e h =
    All-append (StandsLaid b) (loaded_sections e) (laid 8 (note_end e) (table_parts e))
    (All-append (StandsLaid b) (laid 4096 (front_size e) (segment_parts (is_linked e.segments) 0 e.segments)) (note_sections_of e e.notes) h.segment_sections (note-section-stands b e h))
    h.table_sections

-- what holds of the sections of the segments, of the note, and of the tables, holds of all
pub all-parts : (e : Exec) (P : Part → Type 0) → All P (segment_parts (is_linked e.segments) 0 e.segments)
    → ((note : List ℕ) (p : ProgramHeader) → e.notes ≡ Some note → p ≡ note_program note (segments_end e) (home note e.segments (load_programs e)) → P (note_section note p).part)
    → All P (parts_of (loaded_sections e))
all-parts e P segments noted =
    let first = laid 4096 (front_size e) (segment_parts (is_linked e.segments) 0 e.segments) in
    subst (All P) (sym (map-append (λ (l : Laid). l.part) first (note_sections_of e e.notes)))
    (All-append P (parts_of first) (parts_of (note_sections_of e e.notes)) (subst (All P) (sym (laid-parts 4096 (front_size e) (segment_parts (is_linked e.segments) 0 e.segments))) segments) (go e.notes refl))
  where
    go : (n : Option (List ℕ)) → e.notes ≡ n → All P (parts_of (note_sections_of e e.notes))
    go None is = subst (λ (m : Option (List ℕ)). All P (parts_of (note_sections_of e m))) (sym is) (All-nil P)
    go (Some note) is =
        let q = note_program note (segments_end e) (home note e.segments (load_programs e)) in
        subst (λ (m : Option (List ℕ)). All P (parts_of (note_sections_of e m))) (sym is) (All-cons P (note_section note q).part [] (noted note q is refl) (All-nil P))

pub sections-split : (e : Exec) → parts_of (sections e) ≡ parts_of (loaded_sections e) ++ table_parts e
sections-split e =
    map-append (λ (l : Laid). l.part) (loaded_sections e) (laid 8 (note_end e) (table_parts e)) ∙ ap (λ (r : List Part). parts_of (loaded_sections e) ++ r) (laid-parts 8 (note_end e) (table_parts e))

-- ---- their numbers fit

flags-small : (flags : ℕ) → section_flags flags < 2 ^ 64
flags-small flags = go (has_flag flags 2) (has_flag flags 1)
  where
    go : (w x : Bool) → 2 + cond w 1 0 + cond x 4 0 < 2 ^ 64
    go true true = lit< tt
    go true false = lit< tt
    go false true = lit< tt
    go false false = lit< tt

segments-fit : (linked : Bool) (number : ℕ) (xs : List ExecSegment) → All IsRegularSegment xs → All SegmentFits xs → All FitsPart (segment_parts linked number xs)
segments-fit linked number [] regular fits = All-nil FitsPart
segments-fit linked number (x ∷ xs) regular fits =
    let le = (All-head IsRegularSegment x xs regular).stored in
    let size = (All-head SegmentFits x xs fits).1 in
    All-cons FitsPart (segment_part (segment_name linked number x.flags) x) (segment_parts linked (number + 1) xs)
    (record { kind = lit< tt; flags = flags-small x.flags; size = omega (arith, le, size); link = lit< tt; info = lit< tt; align = lit< tt; bytes = refl })
    (segments-fit linked (number + 1) xs (All-tail IsRegularSegment x xs regular) (All-tail SegmentFits x xs fits))

few-loaded : (e : Exec) → length e.segments ≤ 16 → length e.segments + note_count e ≤ 17
few-loaded e h = go e.notes refl
  where
    go : (n : Option (List ℕ)) → e.notes ≡ n → length e.segments + note_count e ≤ 17
    go None is = rw is (omega (arith, h))
    go (Some note) is = rw is (omega (arith, h))

-- sections that stand in the file have sizes that fit
abbrev IsShort : Part → Type 0
IsShort p = length p.content < 2 ^ 64

all-short : (b : List ℕ) (align end : ℕ) (ps : List Part) → length b < 2 ^ 64 → All (StandsLaid b) (laid align end ps) → All IsShort ps
all-short b align end [] short all = All-nil IsShort
all-short b align end (p ∷ ps) short all =
    let next = aligned align end + length p.content in
    let first : Laid = record { part = p; place = aligned align end } in
    let here = All-head (StandsLaid b) first (laid align next ps) all in
    All-cons IsShort p ps (omega (arith, here.inside, short)) (all-short b align next ps short (All-tail (StandsLaid b) first (laid align next ps) all))

string-fits : (name table : List ℕ) → length table < 2 ^ 64 → FitsPart (string_part name table)
string-fits name table short = record { kind = lit< tt; flags = lit< tt; size = short; link = lit< tt; info = lit< tt; align = lit< tt; bytes = refl }

tables-fit : (b : List ℕ) (e : Exec) → IsFileOf b e → All FitsPart (table_parts e)
tables-fit b e h =
    let symbols = file_symbols e in
    let one = symbol_part (symtab_number e) symbols in
    let two = string_part (codes ".strtab") (symbol_names symbols) in
    let three = names_part e in
    let all : All IsShort (one ∷ two ∷ three ∷ []) = all-short b 8 (note_end e) (table_parts e) h.short h.table_sections in
    let rest : All IsShort (two ∷ three ∷ []) = All-tail IsShort one (two ∷ three ∷ []) all in
    let last : All IsShort (three ∷ []) = All-tail IsShort two (three ∷ []) rest in
    let count : length symbols ≡ length e.symbols + 1 = omega (arith, length-map e.symbols (file_symbol e.segments)) in
    let info : locals_end symbols < 2 ^ 32 = omega (arith, locals_end-le symbols, count, few-symbols e.symbols h.regular.symbols, h.regular.few_name_bytes) in
    let link : symtab_number e + 1 < 2 ^ 32 = omega (arith, few-loaded e h.regular.few_segments) in
    let first : FitsPart one = record { kind = lit< tt; flags = lit< tt; size = All-head IsShort one (two ∷ three ∷ []) all; link = link; info = info; align = lit< tt; bytes = refl } in
    All-cons FitsPart one (two ∷ three ∷ []) first
    (All-cons FitsPart two (three ∷ []) (string-fits _ _ (All-head IsShort two (three ∷ []) rest))
    (All-cons FitsPart three [] (string-fits _ _ (All-head IsShort three [] last)) (All-nil FitsPart)))

parts-fit : (b : List ℕ) (e : Exec) → IsFileOf b e → All FitsPart (parts_of (sections e))
parts-fit b e h =
    subst (All FitsPart) (sym (sections-split e))
    (All-append FitsPart (parts_of (loaded_sections e)) (table_parts e)
    (all-parts e FitsPart (segments-fit (is_linked e.segments) 0 e.segments h.regular.segments h.fits.segments)
    (λ note p there is.
    let at = note-of b note e h there in
    record { kind = lit< tt; flags = lit< tt; size = omega (arith, at.stands.inside, h.short); link = lit< tt; info = lit< tt; align = lit< tt; bytes = refl }))
    (tables-fit b e h))

-- ---- the names of sections

own : List ℕ
own = codes ".shstrtab"

names-content : (e : Exec) → (names_part e).content ≡ 0 ∷ names_of (sections e)
names-content e =
    let loaded = loaded_sections e in
    let tables = laid 8 (note_end e) (table_parts e) in
    ap (λ (r : List ℕ). 0 ∷ r) (flat_map-append ended (laid_names loaded) (map (λ p. p.name) (table_parts e)) ∙ sym (names_of-append loaded tables))

name-le : (linked : Bool) (number flags : ℕ) → number < 2 ^ 64 → length (segment_name linked number flags) ≤ number + 12
name-le true number flags lt = go (eqb flags 5) (eqb flags 4)
  where
    go : (p q : Bool) → length (cond p (codes ".text") (cond q (codes ".rodata") (codes ".data"))) ≤ number + 12
    go true q = omega arith
    go false true = omega arith
    go false false = omega arith
name-le false number flags lt = omega (arith, length-append (codes ".seg") (decimal number), length-decimal-le_succ number lt)

segment_names-le : (linked : Bool) (align end number : ℕ) (xs : List ExecSegment) → number + length xs ≤ 16 → length (names_of (laid align end (segment_parts linked number xs))) ≤ 40 * length xs
segment_names-le linked align end number [] few = omega arith
segment_names-le linked align end number (x ∷ xs) few =
    let name = segment_name linked number x.flags in
    let rest = laid align (aligned align end + length x.bytes) (segment_parts linked (number + 1) xs) in
    omega (
      arith,
      few,
      name-le linked number x.flags (omega arith),
      ended-le name,
      length-append (ended name) (names_of rest),
      segment_names-le linked align (aligned align end + length x.bytes) (number + 1) xs (omega arith),
    )

note_names-le : (e : Exec) (n : Option (List ℕ)) → length (names_of (note_sections_of e n)) ≤ 20
note_names-le e None = omega arith
note_names-le e (Some note) = lit≤ tt

names-short : (e : Exec) → length e.segments ≤ 16 → length (names_of (sections e)) + 1 < 2 ^ 32
names-short e few =
    let first = laid 4096 (front_size e) (segment_parts (is_linked e.segments) 0 e.segments) in
    let tables = laid 8 (note_end e) (table_parts e) in
    let last : length (names_of tables) ≡ 26 = refl in
    omega (
      arith,
      segment_names-le (is_linked e.segments) 4096 (front_size e) 0 e.segments (omega (arith, few)),
      note_names-le e e.notes,
      few,
      last,
      ap length (names_of-append (loaded_sections e) tables),
      length-append (names_of (loaded_sections e)) (names_of tables),
      ap length (names_of-append first (note_sections_of e e.notes)),
      length-append (names_of first) (names_of (note_sections_of e e.notes)),
    )

-- ---- where each is

pub section_count-is : (b : List ℕ) (e : Exec) → IsFileOf b e → section_count b ≡ length (sections e) + 1
section_count-is b e h =
    half-Stands b 60 (length (sections e) + 1) (omega (arith, length-sections e, few-loaded e h.regular.few_segments)) (Stands-in b _ _ 0 60 h.header (record { inside = lit≤ tt; is = refl }))

pub section_count-few : (b : List ℕ) (e : Exec) → IsFileOf b e → section_count b ≤ 21
section_count-few b e h = omega (arith, section_count-is b e h, length-sections e, few-loaded e h.regular.few_segments)

names_index-is : (b : List ℕ) (e : Exec) → IsFileOf b e → section_names_index b ≡ length (sections e)
names_index-is b e h =
    half-Stands b 62 (length (sections e) + 1 - 1) (omega (arith, length-sections e, few-loaded e h.regular.few_segments)) (Stands-in b _ _ 0 62 h.header (record { inside = lit≤ tt; is = refl })) ∙ omega arith

pub section_table-is : (b : List ℕ) (e : Exec) → IsFileOf b e → table_read b ≡ section_table_place e
section_table-is b e h =
    xword-Stands b 40 (section_table_place e) (omega (arith, h.section_headers_stand.inside, h.short)) (Stands-in b _ _ 0 40 h.header (record { inside = lit≤ tt; is = refl }))

abbrev all_placed : Exec → List Placed
all_placed e = null_placed ∷ named 1 (sections e)

abbrev pub all_parts : Exec → List Part
all_parts e = null_part ∷ parts_of (sections e)

sits_all : (b : List ℕ) (e : Exec) (i : ℕ) → IsFileOf b e → i < length (sections e) + 1 → Sits b (0 ∷ names_of (sections e)) (get_or (all_placed e) i null_placed)
sits_all b e zero h lt = record {
  content = record { inside = omega arith; is = refl };
  name = record { rest = names_of (sections e); is = refl };
  name_at = omega arith;
}
sits_all b e (suc k) h lt = named-sits b (0 ∷ names_of (sections e)) (names_of (sections e)) (sections e) 1 k null_placed refl (sections-stand b e h) refl (omega arith) (omega arith)

same_part : (e : Exec) (i : ℕ) → i < length (sections e) + 1 → (get_or (all_placed e) i null_placed).part ≡ get_or (all_parts e) i null_part
same_part e zero lt = refl
same_part e (suc k) lt = named-part (sections e) 1 k null_placed null_part (omega arith)

fits_all : (b : List ℕ) (e : Exec) (i : ℕ) → IsFileOf b e → i < length (sections e) + 1 → FitsPart (get_or (all_parts e) i null_part)
fits_all b e zero h lt = record { kind = omega arith; flags = omega arith; size = omega arith; link = omega arith; info = omega arith; align = omega arith; bytes = refl }
fits_all b e (suc k) h lt = All-get_or FitsPart (parts_of (sections e)) k null_part (omega (arith, length-map (sections e) (λ (l : Laid). l.part))) (parts-fit b e h)

offset_le : (name : List ℕ) (at : ℕ) → name_offset name at ≤ at
offset_le [] at = omega arith
offset_le (c ∷ name) at = omega arith

record PlacedAt (b : List ℕ) (e : Exec) (i : ℕ) (q : Placed) : Type 0 where
  sits : Sits b (0 ∷ names_of (sections e)) q
  fits : FitsPart q.part
  header : section b i ≡ header_of q.part (name_offset q.part.name q.name_at) q.place

placed_at : (b : List ℕ) (e : Exec) (i : ℕ) → IsFileOf b e → i < length (sections e) + 1 → PlacedAt b e i (get_or (all_placed e) i null_placed)
placed_at b e i h lt =
    let all = all_placed e in
    let q = get_or all i null_placed in
    let at = sits_all b e i h lt in
    let fits : FitsPart q.part = subst FitsPart (sym (same_part e i lt)) (fits_all b e i h lt) in
    let long : i < length all = omega (arith, length-named (sections e) 1) in
    let entry : Stands b (section_table_place e + 64 * i) (section_header q) =
    Stands-in b (flat_map section_header all) (section_header q) (section_table_place e) (64 * i) h.section_headers_stand (Stands-entry section_header 64 all i null_placed (λ x. refl) long) in
    let name : name_offset q.part.name q.name_at < 2 ^ 32 = omega (arith, offset_le q.part.name q.name_at, at.name_at, names-short e h.regular.few_segments) in
    let place : q.place < 2 ^ 64 = omega (arith, at.content.inside, h.short) in
    record {
      sits = at;
      fits = fits;
      header = ap (λ (n : ℕ). read_header b (n + 64 * i)) (section_table-is b e h) ∙ header-Stands b (section_table_place e + 64 * i) q fits name place entry;
    }

last_part : (e : Exec) → get_or (all_parts e) (length (sections e)) null_part ≡ names_part e
last_part e =
    let front = null_part ∷ (parts_of (loaded_sections e) ++ symbol_parts e) in
    let split : all_parts e ≡ front ++ names_part e ∷ [] =
    ap (λ (r : List Part). null_part ∷ r) (sections-split e ∙ sym (append_assoc (parts_of (loaded_sections e)) (symbol_parts e) (names_part e ∷ []))) in
    let count : length (sections e) ≡ length front + 0 =
    omega (arith, length-sections e, length-loaded e, length-map (loaded_sections e) (λ (l : Laid). l.part), length-append (parts_of (loaded_sections e)) (symbol_parts e)) in
    ap (λ (ps : List Part). get_or ps (length (sections e)) null_part) split ∙ ap (λ (n : ℕ). get_or (front ++ names_part e ∷ []) n null_part) count ∙ get_or-append-add front (names_part e ∷ []) 0 null_part

section_names-is : (b : List ℕ) (e : Exec) → IsFileOf b e → section_names b ≡ 0 ∷ names_of (sections e)
section_names-is b e h =
    let n = length (sections e) in
    let lt : n < n + 1 = omega arith in
    let at = placed_at b e n h lt in
    let q = get_or (all_placed e) n null_placed in
    ap (table_at b) (names_index-is b e h)
    ∙ table_at-is b n q.part (name_offset q.part.name q.name_at) q.place (omega (arith, length-sections e)) (omega (arith, section_count-is b e h)) at.fits at.header at.sits.content
    ∙ ap (λ (p : Part). p.content) (same_part e n lt ∙ last_part e)
    ∙ names-content e

-- each section of the file, the null one among them, has its header, its bytes and its name
pub has_part : (b : List ℕ) (e : Exec) (i : ℕ) → IsFileOf b e → i < section_count b → HasPart b i (get_or (all_parts e) i null_part)
has_part b e i h less =
    let lt : i < length (sections e) + 1 = omega (arith, less, section_count-is b e h) in
    let at = placed_at b e i h lt in
    let q = get_or (all_placed e) i null_placed in
    let has : HasPart b i q.part = record {
      name = name_offset q.part.name q.name_at;
      place = q.place;
      fits = at.fits;
      header = at.header;
      content = at.sits.content;
      named = subst (λ (t : List ℕ). Named t (name_offset q.part.name q.name_at) q.part.name) (sym (section_names-is b e h)) at.sits.name;
    } in
    subst (HasPart b i) (same_part e i lt) has

pub no_section_faults : (b : List ℕ) (e : Exec) → IsFileOf b e → sections_faults b ≡ []
unfolding sections_faults
no_section_faults b e h =
    none-append _ _
    (each-nil (section_count b) (place_faults b) (λ i lt.
    let at = has_part b e i h lt in
    broken-true _ _ (inside-is b i _ at.name at.place at.fits at.header at.content)))
    (each-nil (section_count b) (name_faults b) (λ i lt.
    let at = has_part b e i h lt in
    broken-true _ _ (ap (λ (s : SectionHeader). has_name (section_names b) s.name) at.header ∙ has_name-Named (section_names b) at.name _ at.named)))
