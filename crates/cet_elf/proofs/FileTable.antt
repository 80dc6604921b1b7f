-- A file that is laid out: what its header says, and each of its sections as it is read.
use Rattle.std.proofs.Common.{◌≡◌, ℕ, zero, suc, ◌+◌, ◌-◌, ◌%◌, ◌*◌, ◌<◌, ◌≤◌, ◌^◌, Bool, true, false, cond, eqb, leb, ◌||◌, List, [], ◌∷◌, ◌++◌, length, get_or, take, drop, replicate, refl, sym, ap, subst, ◌∙◌, arith, lit≤, lit<}
use Rattle.std.specs.List.{flat_map}
use Rattle.std.proofs.lemmas.Bool.{le-leb}
use Rattle.std.proofs.lemmas.List.{append-nil, length-append}
use Rattle.cet_elf.specs.declared.entries.SectionHeader.{SectionHeader}
use Rattle.cet_elf.specs.Fields.{number, is_part}
use Rattle.cet_elf.specs.Header.{section_table, section_count, section_names_index, program_table, program_count, ident_faults, kind_faults, table_faults, header_faults}
use Rattle.cet_elf.specs.Sections.{section_header as read_header, section, stored_size, stored as stored_at, string_table as table_at, section_names}
use Rattle.cet_elf.specs.Written.{Part, Placed, placed, padded, ended, name_offset, section_header, section_headers, stored, object_header}
use Rattle.cet_elf.proofs.FaultLemmas.{none-append, broken-true}
use Rattle.cet_elf.proofs.Stands.{Stands, Stands-here, Stands-in, Stands-at, Stands-front, Stands-back, Stands-behind, Stands-entry, byte-Stands, half-Stands, word-Stands, xword-Stands}
use Rattle.cet_elf.proofs.NamesStand.{Named, Named-here, after-name, name-inside}
use Rattle.cet_elf.proofs.Layouts.{part_names}

-- the numbers of a section fit the fields of its header, and its size is that of its bytes, but for SHT_NOBITS
pub record FitsPart (p : Part) : Type 0 where
  pub kind : p.kind < 2 ^ 32
  pub flags : p.flags < 2 ^ 64
  pub size : p.size < 2 ^ 64
  pub link : p.link < 2 ^ 32
  pub info : p.info < 2 ^ 32
  pub align : p.align < 2 ^ 64
  pub bytes : cond (eqb p.kind 8) 0 p.size ≡ length p.content

-- a section header as it is read
abbrev pub header_of : Part → ℕ → ℕ → SectionHeader
header_of p name place = record { name = name; kind = p.kind; flags = p.flags; offset = place; size = p.size; link = p.link; info = p.info; align = p.align }

-- a section header that stands somewhere is read there
pub header-Stands : (bytes : List ℕ) (at : ℕ) (q : Placed) → FitsPart q.part → name_offset q.part.name q.name_at < 2 ^ 32 → q.place < 2 ^ 64
    → Stands bytes at (section_header q) → read_header bytes at ≡ header_of q.part (name_offset q.part.name q.name_at) q.place
unfolding read_header
header-Stands bytes at q fits name place h =
    let s = section_header q in
    rw (
      word-Stands bytes at (name_offset q.part.name q.name_at) name (Stands-at bytes _ (at + 0) at (omega arith) (Stands-in bytes s _ at 0 h (record { inside = lit≤ tt; is = refl }))),
      word-Stands bytes (at + 4) q.part.kind fits.kind (Stands-in bytes s _ at 4 h (record { inside = lit≤ tt; is = refl })),
      xword-Stands bytes (at + 8) q.part.flags fits.flags (Stands-in bytes s _ at 8 h (record { inside = lit≤ tt; is = refl })),
      xword-Stands bytes (at + 24) q.place place (Stands-in bytes s _ at 24 h (record { inside = lit≤ tt; is = refl })),
      xword-Stands bytes (at + 32) q.part.size fits.size (Stands-in bytes s _ at 32 h (record { inside = lit≤ tt; is = refl })),
      word-Stands bytes (at + 40) q.part.link fits.link (Stands-in bytes s _ at 40 h (record { inside = lit≤ tt; is = refl })),
      word-Stands bytes (at + 44) q.part.info fits.info (Stands-in bytes s _ at 44 h (record { inside = lit≤ tt; is = refl })),
      xword-Stands bytes (at + 48) q.part.align fits.align (Stands-in bytes s _ at 48 h (record { inside = lit≤ tt; is = refl })),
    )
    refl

-- ---- sections one after another

pub placed-part : (ps : List Part) (place name_at k : ℕ) (d : Placed) (e : Part) → k < length ps → (get_or (placed place name_at ps) k d).part ≡ get_or ps k e
placed-part [] place name_at k d e lt = absurd (omega arith)
placed-part (p ∷ ps) place name_at zero d e lt = refl
placed-part (p ∷ ps) place name_at (suc k) d e lt = placed-part ps (place + length (padded p.content)) (name_at + length (ended p.name)) k d e (omega arith)

pub length-placed : (ps : List Part) (place name_at : ℕ) → length (placed place name_at ps) ≡ length ps
length-placed [] place name_at = refl
length-placed (p ∷ ps) place name_at = ap suc (length-placed ps (place + length (padded p.content)) (name_at + length (ended p.name)))

-- a section's bytes stand at its place, and its name in the table of names
pub record Sits (bytes table : List ℕ) (q : Placed) : Type 0 where
  pub content : Stands bytes q.place q.part.content
  pub name : Named table (name_offset q.part.name q.name_at) q.part.name
  pub name_at : q.name_at ≤ length table

pub sits : (bytes table zeros : List ℕ) (ps : List Part) (place name_at k : ℕ) (d : Placed) → table ≡ 0 ∷ zeros → Stands bytes place (stored ps) → drop name_at table ≡ part_names ps
    → name_at ≤ length table → k < length ps → Sits bytes table (get_or (placed place name_at ps) k d)
sits bytes table zeros [] place name_at k d first all names le lt = absurd (omega arith)
sits bytes table zeros (p ∷ ps) place name_at zero d first all names le lt = record {
  content = Stands-front bytes p.content (replicate ((8 - length p.content % 8) % 8) 0) place (Stands-front bytes (padded p.content) (stored ps) place all);
  name = Named-here table (part_names ps) zeros name_at p.name first names;
  name_at = le;
}
sits bytes table zeros (p ∷ ps) place name_at (suc k) d first all names le lt =
    sits bytes table zeros ps (place + length (padded p.content)) (name_at + length (ended p.name)) k d first (Stands-back bytes (padded p.content) (stored ps) place all)
    (after-name table (part_names ps) name_at p.name names) (name-inside table (part_names ps) name_at p.name le names) (omega arith)

-- ---- the file

-- the null section
abbrev pub null_part : Part
null_part = record { name = []; kind = 0; flags = 0; address = 0; size = 0; link = 0; info = 0; align = 0; entry_size = 0; content = [] }

abbrev pub null_placed : Placed
null_placed = record { part = null_part; place = 0; name_at = 0 }

-- a file whose sections, but for the null one, are these, of which the last has the names of all
pub record IsFile (b : List ℕ) (ps : List Part) : Type 0 where
  pub is : b ≡ object_header (64 + length (stored ps)) (length ps + 1) ++ (stored ps ++ section_headers (placed 64 1 ps))
  pub some : 0 < length ps
  pub few : length ps + 1 ≤ 4096
  pub short : length b < 2 ^ 64
  pub fits : (k : ℕ) → k < length ps → FitsPart (get_or ps k null_part)
  pub names : (get_or ps (length ps - 1) null_part).content ≡ 0 ∷ part_names ps
  pub names_short : length (part_names ps) + 1 < 2 ^ 32

-- section i of the file has this section's header and bytes
pub record HasPart (b : List ℕ) (i : ℕ) (p : Part) : Type 0 where
  pub name : ℕ
  pub place : ℕ
  pub fits : FitsPart p
  pub header : section b i ≡ header_of p name place
  pub content : Stands b place p.content
  pub named : Named (section_names b) name p.name

header_stands : (b : List ℕ) (ps : List Part) → IsFile b ps → Stands b 0 (object_header (64 + length (stored ps)) (length ps + 1))
header_stands b ps h =
    let front = object_header (64 + length (stored ps)) (length ps + 1) in
    subst (λ (r : List ℕ). Stands r 0 front) (sym h.is) (Stands-here [] front (stored ps ++ section_headers (placed 64 1 ps)))

parts_stand : (b : List ℕ) (ps : List Part) → IsFile b ps → Stands b 64 (stored ps)
parts_stand b ps h =
    let front = object_header (64 + length (stored ps)) (length ps + 1) in
    subst (λ (r : List ℕ). Stands r 64 (stored ps)) (sym h.is) (Stands-here front (stored ps) (section_headers (placed 64 1 ps)))

headers_stand : (b : List ℕ) (ps : List Part) → IsFile b ps → Stands b (64 + length (stored ps)) (flat_map section_header (null_placed ∷ placed 64 1 ps))
headers_stand b ps h =
    let front = object_header (64 + length (stored ps)) (length ps + 1) in
    let headers = section_headers (placed 64 1 ps) in
    let last : Stands (stored ps ++ headers) (length (stored ps)) headers = subst (λ (r : List ℕ). Stands (stored ps ++ r) (length (stored ps)) headers) (append-nil headers) (Stands-here (stored ps) headers []) in
    subst (λ (r : List ℕ). Stands r (64 + length (stored ps)) headers) (sym h.is) (Stands-behind front (stored ps ++ headers) headers (length (stored ps)) last)

short_table : (b : List ℕ) (ps : List Part) → IsFile b ps → 64 + length (stored ps) < 2 ^ 64
short_table b ps h = omega (arith, (headers_stand b ps h).inside, h.short)

pub section_table-is : (b : List ℕ) (ps : List Part) → IsFile b ps → section_table b ≡ 64 + length (stored ps)
section_table-is b ps h =
    xword-Stands b 40 (64 + length (stored ps)) (short_table b ps h) (Stands-in b _ _ 0 40 (header_stands b ps h) (record { inside = lit≤ tt; is = refl }))

pub section_count-is : (b : List ℕ) (ps : List Part) → IsFile b ps → section_count b ≡ length ps + 1
section_count-is b ps h =
    half-Stands b 60 (length ps + 1) (omega (arith, h.few)) (Stands-in b _ _ 0 60 (header_stands b ps h) (record { inside = lit≤ tt; is = refl }))

pub names_index-is : (b : List ℕ) (ps : List Part) → IsFile b ps → section_names_index b ≡ length ps
names_index-is b ps h =
    half-Stands b 62 (length ps + 1 - 1) (omega (arith, h.few)) (Stands-in b _ _ 0 62 (header_stands b ps h) (record { inside = lit≤ tt; is = refl })) ∙ omega arith

-- where each section sits, the null one among them
sits_all : (b : List ℕ) (ps : List Part) (i : ℕ) → IsFile b ps → i < length ps + 1 → Sits b (0 ∷ part_names ps) (get_or (null_placed ∷ placed 64 1 ps) i null_placed)
sits_all b ps zero h lt = record {
  content = record { inside = omega arith; is = refl };
  name = record { rest = part_names ps; is = refl };
  name_at = omega arith;
}
sits_all b ps (suc k) h lt = sits b (0 ∷ part_names ps) (part_names ps) ps 64 1 k null_placed refl (parts_stand b ps h) refl (omega arith) (omega arith)

same_part : (ps : List Part) (i : ℕ) → i < length ps + 1 → (get_or (null_placed ∷ placed 64 1 ps) i null_placed).part ≡ get_or (null_part ∷ ps) i null_part
same_part ps zero lt = refl
same_part ps (suc k) lt = placed-part ps 64 1 k null_placed null_part (omega arith)

fits_all : (b : List ℕ) (ps : List Part) (i : ℕ) → IsFile b ps → i < length ps + 1 → FitsPart (get_or (null_part ∷ ps) i null_part)
fits_all b ps zero h lt = record { kind = omega arith; flags = omega arith; size = omega arith; link = omega arith; info = omega arith; align = omega arith; bytes = refl }
fits_all b ps (suc k) h lt = h.fits k (omega arith)

offset_le : (name : List ℕ) (at : ℕ) → name_offset name at ≤ at
offset_le [] at = omega arith
offset_le (c ∷ name) at = omega arith

pub record PlacedAt (b : List ℕ) (ps : List Part) (i : ℕ) (q : Placed) : Type 0 where
  pub sits : Sits b (0 ∷ part_names ps) q
  pub header : section b i ≡ header_of q.part (name_offset q.part.name q.name_at) q.place

placed_at : (b : List ℕ) (ps : List Part) (i : ℕ) → IsFile b ps → i < length ps + 1 → PlacedAt b ps i (get_or (null_placed ∷ placed 64 1 ps) i null_placed)
placed_at b ps i h lt =
    let all = null_placed ∷ placed 64 1 ps in
    let q = get_or all i null_placed in
    let at = sits_all b ps i h lt in
    let fits : FitsPart q.part = subst FitsPart (sym (same_part ps i lt)) (fits_all b ps i h lt) in
    let long : i < length all = omega (arith, length-placed ps 64 1) in
    let entry : Stands b (64 + length (stored ps) + 64 * i) (section_header q) =
    Stands-in b (flat_map section_header all) (section_header q) (64 + length (stored ps)) (64 * i) (headers_stand b ps h) (Stands-entry section_header 64 all i null_placed (λ x. refl) long) in
    let name : name_offset q.part.name q.name_at < 2 ^ 32 = omega (arith, offset_le q.part.name q.name_at, at.name_at, h.names_short) in
    let place : q.place < 2 ^ 64 = omega (arith, at.content.inside, h.short) in
    record {
      sits = at;
      header = ap (λ (n : ℕ). read_header b (n + 64 * i)) (section_table-is b ps h) ∙ header-Stands b (64 + length (stored ps) + 64 * i) q fits name place entry;
    }

-- ---- what is read of a section

pub stored-is : (b : List ℕ) (i : ℕ) (p : Part) (name place : ℕ) → FitsPart p → section b i ≡ header_of p name place → Stands b place p.content → stored_at b (section b i) ≡ p.content
stored-is b i p name place fits header content =
    ap (stored_at b) header ∙ ap (λ (n : ℕ). take n (drop place b)) fits.bytes ∙ content.is

or_true : (b : Bool) → b || true ≡ true
or_true true = refl
or_true false = refl

pub inside-is : (b : List ℕ) (i : ℕ) (p : Part) (name place : ℕ) → FitsPart p → section b i ≡ header_of p name place → Stands b place p.content
    → is_part b (section b i).offset (stored_size (section b i)) ≡ true
inside-is b i p name place fits header content =
    ap (λ (s : SectionHeader). is_part b s.offset (stored_size s)) header
    ∙ ap (is_part b place) fits.bytes
    ∙ ap (λ (t : Bool). eqb (length p.content) 0 || t) (le-leb (place + length p.content) (length b) content.inside)
    ∙ or_true (eqb (length p.content) 0)

pub table_at-is : (b : List ℕ) (i : ℕ) (p : Part) (name place : ℕ) → 0 < i → i < section_count b → FitsPart p → section b i ≡ header_of p name place → Stands b place p.content → table_at b i ≡ p.content
unfolding table_at
table_at-is b i p name place some lt fits header content =
    let not_zero : eqb i 0 ≡ false = grind arith in
    let not_past : leb (section_count b) i ≡ false = grind arith in
    rw (not_zero, not_past) (stored-is b i p name place fits header content)

pub section_names-is : (b : List ℕ) (ps : List Part) → IsFile b ps → section_names b ≡ 0 ∷ part_names ps
section_names-is b ps h =
    let n = length ps in
    let lt : n < n + 1 = omega arith in
    let at = placed_at b ps n h lt in
    let q = get_or (null_placed ∷ placed 64 1 ps) n null_placed in
    let fits : FitsPart q.part = subst FitsPart (sym (same_part ps n lt)) (fits_all b ps n h lt) in
    let count = section_count-is b ps h in
    let last = last_part ps h.some in
    ap (table_at b) (names_index-is b ps h)
    ∙ table_at-is b n q.part (name_offset q.part.name q.name_at) q.place h.some (omega arith) fits at.header at.sits.content
    ∙ ap (λ (p : Part). p.content) (same_part ps n lt ∙ last)
    ∙ h.names
  where
    last_part : (ps : List Part) → 0 < length ps → get_or (null_part ∷ ps) (length ps) null_part ≡ get_or ps (length ps - 1) null_part
    last_part [] some = absurd (omega arith)
    last_part (p ∷ ps) some = let e : suc (length ps) - 1 ≡ length ps = omega arith in rw e refl

-- each section of the file, the null one among them, has its header, its bytes and its name
pub has_part : (b : List ℕ) (ps : List Part) (i : ℕ) → IsFile b ps → i < length ps + 1 → HasPart b i (get_or (null_part ∷ ps) i null_part)
has_part b ps i h lt =
    let at = placed_at b ps i h lt in
    let q = get_or (null_placed ∷ placed 64 1 ps) i null_placed in
    let fits : FitsPart q.part = subst FitsPart (sym (same_part ps i lt)) (fits_all b ps i h lt) in
    let has : HasPart b i q.part = record {
      name = name_offset q.part.name q.name_at;
      place = q.place;
      fits = fits;
      header = at.header;
      content = at.sits.content;
      named = subst (λ (t : List ℕ). Named t (name_offset q.part.name q.name_at) q.part.name) (sym (section_names-is b ps h)) at.sits.name;
    } in
    subst (HasPart b i) (same_part ps i lt) has

-- ---- the header has no fault

length-headers : (qs : List Placed) → length (flat_map section_header qs) ≡ 64 * length qs
length-headers [] = refl
length-headers (q ∷ qs) = omega (arith, length-headers qs, length-append (section_header q) (flat_map section_header qs))

headers_inside : (b : List ℕ) (ps : List Part) → IsFile b ps → section_table b + 64 * section_count b ≤ length b
headers_inside b ps h =
    omega (arith, section_table-is b ps h, section_count-is b ps h, (headers_stand b ps h).inside, length-headers (null_placed ∷ placed 64 1 ps), length-placed ps 64 1)

ident-faultless : (b : List ℕ) (ps : List Part) → IsFile b ps → ident_faults b ≡ []
unfolding ident_faults
ident-faultless b ps h =
    let front = header_stands b ps h in
    let magic = word-Stands b 0 0x464c457f (lit< tt) (Stands-in b _ _ 0 0 front (record { inside = lit≤ tt; is = refl })) in
    let class = byte-Stands b 4 2 (lit< tt) (Stands-in b _ _ 0 4 front (record { inside = lit≤ tt; is = refl })) in
    let order = byte-Stands b 5 1 (lit< tt) (Stands-in b _ _ 0 5 front (record { inside = lit≤ tt; is = refl })) in
    let version = byte-Stands b 6 1 (lit< tt) (Stands-in b _ _ 0 6 front (record { inside = lit≤ tt; is = refl })) in
    none-append _ _ (none-append _ _ (none-append _ _ (none-append _ _
    (broken-true _ _ (le-leb 64 (length b) (omega (arith, front.inside))))
    (broken-true _ _ (ap (λ (n : ℕ). eqb n 0x464c457f) magic)))
    (broken-true _ _ (ap (λ (n : ℕ). eqb n 2) class)))
    (broken-true _ _ (ap (λ (n : ℕ). eqb n 1) order)))
    (broken-true _ _ (ap (λ (n : ℕ). eqb n 1) version))

program_count-is : (b : List ℕ) (ps : List Part) → IsFile b ps → program_count b ≡ 0
program_count-is b ps h = half-Stands b 56 0 (lit< tt) (Stands-in b _ _ 0 56 (header_stands b ps h) (record { inside = lit≤ tt; is = refl }))

kind-faultless : (b : List ℕ) (ps : List Part) → IsFile b ps → kind_faults 1 b ≡ []
unfolding kind_faults
kind-faultless b ps h =
    let front = header_stands b ps h in
    let kind = half-Stands b 16 1 (lit< tt) (Stands-in b _ _ 0 16 front (record { inside = lit≤ tt; is = refl })) in
    let machine = half-Stands b 18 62 (lit< tt) (Stands-in b _ _ 0 18 front (record { inside = lit≤ tt; is = refl })) in
    let size = half-Stands b 58 64 (lit< tt) (Stands-in b _ _ 0 58 front (record { inside = lit≤ tt; is = refl })) in
    none-append _ _ (none-append _ _ (none-append _ _
    (broken-true _ _ (ap (λ (n : ℕ). eqb n 1) kind))
    (broken-true _ _ (ap (λ (n : ℕ). eqb n 62) machine)))
    (broken-true _ _ (ap (λ (n : ℕ). eqb (section_count b) 0 || eqb n 64) size ∙ or_true (eqb (section_count b) 0))))
    (broken-true _ _ (ap (λ (n : ℕ). eqb n 0 || eqb (number 2 b 54) 56) (program_count-is b ps h)))

table-faultless : (b : List ℕ) (ps : List Part) → IsFile b ps → table_faults b ≡ []
unfolding table_faults
table-faultless b ps h =
    let count = section_count-is b ps h in
    none-append _ _ (none-append _ _
    (broken-true _ _ (le-leb _ _ (omega (arith, count, h.few))))
    (broken-true _ _ (ap (λ (t : Bool). eqb (64 * section_count b) 0 || t) (le-leb (section_table b + 64 * section_count b) (length b) (headers_inside b ps h)) ∙ or_true (eqb (64 * section_count b) 0))))
    (broken-true _ _ (ap (λ (n : ℕ). is_part b (program_table b) (56 * n)) (program_count-is b ps h)))

pub no_header_faults : (b : List ℕ) (ps : List Part) → IsFile b ps → header_faults 1 b ≡ []
unfolding header_faults
no_header_faults b ps h = none-append _ _ (none-append _ _ (ident-faultless b ps h) (kind-faultless b ps h)) (table-faultless b ps h)
