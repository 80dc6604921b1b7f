-- What is written for a regular executable is read as that executable.
use Rattle.std.proofs.Common.{◌≡◌, ℕ, ◌+◌, ◌*◌, ◌<◌, ◌≤◌, ◌^◌, Bool, true, false, eqb, ◌||◌, List, [], ◌∷◌, length, replicate, Option, refl, sym, ap, ◌∙◌, arith, lit≤, lit<}
use Rattle.std.specs.List.{flat_map}
use Rattle.std.proofs.lemmas.Bool.{le-leb}
use Rattle.std.proofs.lemmas.List.{length-append}
use Rattle.cet_elf.specs.declared.exec.Exec.{Exec}
use Rattle.cet_elf.specs.declared.exec.ExecSegment.{ExecSegment}
use Rattle.cet_elf.specs.declared.exec.ExecSymbol.{ExecSymbol}
use Rattle.cet_elf.specs.Fields.{is_part}
use Rattle.cet_elf.specs.Header.{section_table, section_count, program_table, program_count, ident_faults, kind_faults, table_faults, header_faults}
use Rattle.cet_elf.specs.Written.{Placed, section_header}
use Rattle.cet_elf.proofs.FaultLemmas.{none-append, broken-true}
use Rattle.cet_elf.proofs.Stands.{Stands-in, byte-Stands, half-Stands, word-Stands, xword-Stands}
use Rattle.cet_exec.specs.ExecFile.{exec_faults, entry_of, exec_of, IsExecFile}
use Rattle.cet_exec.specs.Programs.{segments_of, notes_of}
use Rattle.cet_exec.specs.ExecSymbols.{symbols_of}
use Rattle.cet_exec.specs.Regular.{IsRegularExec, FitsTypes}
use Rattle.cet_exec.specs.Written.{named, programs, sections, written}
use Rattle.cet_exec.proofs.Standing.{length-program_table}
use Rattle.cet_exec.proofs.WrittenFile.{IsFileOf, written-IsFileOf}
use Rattle.cet_exec.proofs.ProgramsRead.{program_table-is, program_count-is, no_program_faults, segments_of-is, notes_of-is}
use Rattle.cet_exec.proofs.SectionsRead.{length-named, section_table-is, section_count-is, section_count-few, no_section_faults}
use Rattle.cet_exec.proofs.SymbolsRead.{no_symbol_faults, symbols_of-is}

-- ---- the header has no fault

or_true : (t : Bool) → t || true ≡ true
or_true true = refl
or_true false = refl

ident-faultless : (b : List ℕ) (e : Exec) → IsFileOf b e → ident_faults b ≡ []
unfolding ident_faults
ident-faultless b e h =
    let front = h.header in
    let magic = word-Stands b 0 0x464c457f (lit< tt) (Stands-in b _ _ 0 0 front (record { inside = lit≤ tt; is = refl })) in
    let class = byte-Stands b 4 2 (lit< tt) (Stands-in b _ _ 0 4 front (record { inside = lit≤ tt; is = refl })) in
    let order = byte-Stands b 5 1 (lit< tt) (Stands-in b _ _ 0 5 front (record { inside = lit≤ tt; is = refl })) in
    let version = byte-Stands b 6 1 (lit< tt) (Stands-in b _ _ 0 6 front (record { inside = lit≤ tt; is = refl })) in
    none-append _ _ (none-append _ _ (none-append _ _ (none-append _ _
    (broken-true _ _ (le-leb 64 (length b) (omega (arith, front.inside))))
    (broken-true _ _ (ap (λ (n : ℕ). eqb n 0x464c457f) magic)))
    (broken-true _ _ (ap (λ (n : ℕ). eqb n 2) class)))
    (broken-true _ _ (ap (λ (n : ℕ). eqb n 1) order)))
    (broken-true _ _ (ap (λ (n : ℕ). eqb n 1) version))

kind-faultless : (b : List ℕ) (e : Exec) → IsFileOf b e → kind_faults 2 b ≡ []
unfolding kind_faults
kind-faultless b e h =
    let front = h.header in
    let kind = half-Stands b 16 2 (lit< tt) (Stands-in b _ _ 0 16 front (record { inside = lit≤ tt; is = refl })) in
    let machine = half-Stands b 18 62 (lit< tt) (Stands-in b _ _ 0 18 front (record { inside = lit≤ tt; is = refl })) in
    let section_size = half-Stands b 58 64 (lit< tt) (Stands-in b _ _ 0 58 front (record { inside = lit≤ tt; is = refl })) in
    let program_size = half-Stands b 54 56 (lit< tt) (Stands-in b _ _ 0 54 front (record { inside = lit≤ tt; is = refl })) in
    none-append _ _ (none-append _ _ (none-append _ _
    (broken-true _ _ (ap (λ (n : ℕ). eqb n 2) kind))
    (broken-true _ _ (ap (λ (n : ℕ). eqb n 62) machine)))
    (broken-true _ _ (ap (λ (n : ℕ). eqb (section_count b) 0 || eqb n 64) section_size ∙ or_true (eqb (section_count b) 0))))
    (broken-true _ _ (ap (λ (n : ℕ). eqb (program_count b) 0 || eqb n 56) program_size ∙ or_true (eqb (program_count b) 0)))

inside-part : (b : List ℕ) (at size : ℕ) → at + size ≤ length b → is_part b at size ≡ true
inside-part b at size le = ap (λ (t : Bool). eqb size 0 || t) (le-leb (at + size) (length b) le) ∙ or_true (eqb size 0)

length-headers : (qs : List Placed) → length (flat_map section_header qs) ≡ 64 * length qs
length-headers [] = refl
length-headers (q ∷ qs) = omega (arith, length-headers qs, length-append (section_header q) (flat_map section_header qs))

sections-inside : (b : List ℕ) (e : Exec) → IsFileOf b e → section_table b + 64 * section_count b ≤ length b
sections-inside b e h =
    omega (
      arith,
      section_table-is b e h,
      section_count-is b e h,
      h.section_headers_stand.inside,
      length-append (replicate 64 0) (flat_map section_header (named 1 (sections e))),
      length-headers (named 1 (sections e)),
      length-named (sections e) 1,
    )

programs-inside : (b : List ℕ) (e : Exec) → IsFileOf b e → program_table b + 56 * program_count b ≤ length b
programs-inside b e h = omega (arith, program_table-is b e h, program_count-is b e h, h.programs_stand.inside, length-program_table (programs e))

table-faultless : (b : List ℕ) (e : Exec) → IsFileOf b e → table_faults b ≡ []
unfolding table_faults
table-faultless b e h =
    none-append _ _ (none-append _ _
    (broken-true _ _ (le-leb _ _ (omega (arith, section_count-few b e h))))
    (broken-true _ _ (inside-part b (section_table b) (64 * section_count b) (sections-inside b e h))))
    (broken-true _ _ (inside-part b (program_table b) (56 * program_count b) (programs-inside b e h)))

no_header_faults : (b : List ℕ) (e : Exec) → IsFileOf b e → header_faults 2 b ≡ []
unfolding header_faults
no_header_faults b e h = none-append _ _ (none-append _ _ (ident-faultless b e h) (kind-faultless b e h)) (table-faultless b e h)

-- ---- the whole

no_faults : (b : List ℕ) (e : Exec) → IsFileOf b e → exec_faults b ≡ []
unfolding exec_faults
no_faults b e h =
    none-append _ _ (none-append _ _ (none-append _ _
    (no_header_faults b e h)
    (no_section_faults b e h))
    (no_program_faults b e h))
    (no_symbol_faults b e h)

abbrev exec_with : ℕ → List ExecSegment → List ExecSymbol → Option (List ℕ) → Exec
exec_with entry xs ys n = record { entry = entry; segments = xs; symbols = ys; notes = n }

exec_of-is : (b : List ℕ) (e : Exec) → IsFileOf b e → e ≡ exec_of b
unfolding exec_of
exec_of-is b e h =
    let entry : entry_of b ≡ e.entry = xword-Stands b 24 e.entry h.fits.entry (Stands-in b _ _ 0 24 h.header (record { inside = lit≤ tt; is = refl })) in
    sym (ap (λ (n : ℕ). exec_with n (segments_of b) (symbols_of b) (notes_of b)) entry
    ∙ ap (λ (xs : List ExecSegment). exec_with e.entry xs (symbols_of b) (notes_of b)) (segments_of-is b e h)
    ∙ ap (λ (ys : List ExecSymbol). exec_with e.entry e.segments ys (notes_of b)) (symbols_of-is b e h)
    ∙ ap (exec_with e.entry e.segments e.symbols) (notes_of-is b e h))

pub reads_back : (e : Exec) → IsRegularExec e → FitsTypes e → length (written e) < 2 ^ 64 → IsExecFile (written e) e
reads_back e regular fits short =
    let file = written-IsFileOf e regular fits short in
    record { no_fault = no_faults (written e) e file; is_exec = exec_of-is (written e) e file }
