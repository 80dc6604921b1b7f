-- What is known of the program headers of a file whose header, or whose program headers, have no fault.
use Rattle.std.proofs.Common.{◌≡◌, ℕ, ◌+◌, ◌*◌, ◌<◌, Bool, true, false, leb, ◌||◌, ◌&&◌, List, [], ◌++◌, Some, is_some, not, refl, arith}
use Rattle.cet_elf.specs.declared.error.ElfError.TheVariants.{Bounds, TooMany, Unsupported}
use Rattle.cet_elf.specs.Below.{first_below}
use Rattle.cet_elf.specs.Fields.{is_part}
use Rattle.cet_elf.specs.Faults.{broken}
use Rattle.cet_elf.specs.Header.{section_count, section_table, program_table, program_count, ident_faults, kind_faults, table_faults, header_faults, HasSectionTable}
use Rattle.cet_elf.proofs.FaultLemmas.{true-broken}
use Rattle.cet_elf.proofs.TableLemmas.{none-front, none-back, part-end}
use Rattle.cet_elf.proofs.BelowLemmas.{each-none}
use Rattle.cet_elf.proofs.SymbolLemmas.{first_below-found}
use Rattle.cet_exec.specs.declared.programs.ProgramHeader.{ProgramHeader}
use Rattle.cet_exec.specs.Programs.{program_place, program, is_load, is_property, is_stored, is_note, is_segment, load_faults, property_faults, program_faults, programs_faults, HasProgramTable}

pub HasProgramTable-from : (b : List ℕ) (kind : ℕ) → HasSectionTable b → header_faults kind b ≡ [] → HasProgramTable b
unfolding header_faults table_faults
HasProgramTable-from b kind table h =
    let front = broken (leb (section_count b) 4096) (TooMany 60) ++ broken (is_part b (section_table b) (64 * section_count b)) (Bounds 40) in
    let programs_f = broken (is_part b (program_table b) (56 * program_count b)) (Bounds 32) in
    let tables = none-back (ident_faults b ++ kind_faults kind b) (front ++ programs_f) h in
    let inside = true-broken _ (Bounds 32) (none-back front programs_f tables) in
    record {
      long = table.long;
      inside = λ i lt. let e = part-end b (program_table b) (56 * program_count b) (omega arith) inside in omega arith;
    }

-- the stored bytes of a program header without a fault are in the file, where it is a PT_LOAD or a PT_GNU_PROPERTY
load-stored : (b : List ℕ) (at : ℕ) (p : ProgramHeader) → load_faults b at p ≡ [] → is_stored b p ≡ true
load-stored b at p h =
    true-broken (is_stored b p) (Bounds (at + 8)) (none-back (broken (leb p.stored_size p.size) (Bounds (at + 32))) (broken (is_stored b p) (Bounds (at + 8))) h)

property-stored : (b : List ℕ) (at : ℕ) (second : Bool) (p : ProgramHeader) → property_faults b at second p ≡ [] → is_stored b p ≡ true
property-stored b at second p h =
    true-broken (is_stored b p) (Bounds (at + 8)) (none-front (broken (is_stored b p) (Bounds (at + 8))) (broken (not second) (Unsupported at)) h)

-- the first two kinds of program headers, told apart
by_kind : (b : List ℕ) (i : ℕ) (load property : Bool) → is_load (program b i) ≡ load → is_property (program b i) ≡ property → load || property ≡ true → program_faults b i ≡ []
    → is_stored b (program b i) ≡ true
unfolding program_faults
by_kind b i true property l p some h =
    let is : load_faults b (program_place b i) (program b i) ≡ [] = rw l at h in
    load-stored b (program_place b i) (program b i) is
by_kind b i false true l p some h =
    let is : property_faults b (program_place b i) (is_some (first_below i (is_note b))) (program b i) ≡ [] = rw (l, p) at h in
    property-stored b (program_place b i) _ (program b i) is
by_kind b i false false l p some h = absurd cc

is_load-segment : (load some : Bool) → load && some ≡ true → load ≡ true
is_load-segment true some h = refl
is_load-segment false some h = absurd cc

or-right : (a b : Bool) → b ≡ true → a || b ≡ true
or-right true b h = refl
or-right false b h = h

pub note-stored : (b : List ℕ) (i : ℕ) → i < program_count b → programs_faults b ≡ [] → is_note b i ≡ true → is_stored b (program b i) ≡ true
unfolding programs_faults
note-stored b i lt h note =
    by_kind b i (is_load (program b i)) (is_property (program b i)) refl refl (or-right _ _ note) (each-none (program_count b) i (program_faults b) lt h)

pub segments-stored : (b : List ℕ) (i : ℕ) → i < program_count b → programs_faults b ≡ [] → is_segment (program b i) ≡ true → is_stored b (program b i) ≡ true
unfolding programs_faults
segments-stored b i lt h segment =
    let load = is_load-segment _ _ segment in
    by_kind b i true (is_property (program b i)) load refl refl (each-none (program_count b) i (program_faults b) lt h)

-- where it is found, the note is there
pub found-stored : (b : List ℕ) (i : ℕ) → programs_faults b ≡ [] → first_below (program_count b) (is_note b) ≡ Some i → is_stored b (program b i) ≡ true
found-stored b i h e =
    let found = first_below-found (program_count b) (is_note b) i e in note-stored b i found.0 h found.1

pub found-there : (b : List ℕ) (i : ℕ) → first_below (program_count b) (is_note b) ≡ Some i → i < program_count b
found-there b i e = (first_below-found (program_count b) (is_note b) i e).0

pub ruleset headers = (HasProgramTable-from)

pub ruleset programs = (segments-stored, found-stored, found-there)
