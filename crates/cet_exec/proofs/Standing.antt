-- Where the parts of a written file stand in it.
use Rattle.std.proofs.Common.{◌≡◌, ℕ, zero, suc, ◌+◌, ◌*◌, ◌<◌, List, [], ◌∷◌, ◌++◌, length, get_or, replicate, All, refl, sym, ap, subst, arith}
use Rattle.std.specs.List.{flat_map}
use Rattle.std.proofs.lemmas.List.{append-nil, length-append, length-replicate}
use Rattle.std.proofs.lemmas.List.Elements.{All-nil, All-cons}
use Rattle.cet_elf.specs.declared.exec.Exec.{Exec}
use Rattle.cet_elf.specs.declared.exec.ExecSegment.{ExecSegment}
use Rattle.cet_elf.specs.Written.{Part}
use Rattle.cet_elf.proofs.Stands.{Stands, Stands-here, Stands-at, Stands-front, Stands-back}
use Rattle.cet_exec.specs.declared.programs.ProgramHeader.{ProgramHeader}
use Rattle.cet_exec.specs.Written.{gap, aligned, spaced, Laid, laid, contents, load, loads, bytes_of, front_size, segments_end, programs, own_note, note_end, is_linked, segment_parts, table_parts, sections, section_table, section_table_place, program_bytes, exec_header, written}
use Rattle.cet_exec.proofs.Spaced.{after, spaced-append, contents-segments}
use Rattle.cet_exec.proofs.WholeFile.{length-programs}

-- ---- pieces one after another

pub piece-stands : (b : List ℕ) (g end : ℕ) (x rest : List ℕ) → Stands b end ((replicate g 0 ++ x) ++ rest) → Stands b (end + g) x
piece-stands b g end x rest h =
    Stands-at b x (end + length (replicate g 0)) (end + g) (ap (λ (n : ℕ). end + n) (length-replicate {A = ℕ} g 0))
    (Stands-back b (replicate g 0) x end (Stands-front b (replicate g 0 ++ x) rest end h))

pub rest-stands : (b : List ℕ) (g end : ℕ) (x rest : List ℕ) → Stands b end ((replicate g 0 ++ x) ++ rest) → Stands b (end + g + length x) rest
rest-stands b g end x rest h =
    Stands-at b rest (end + length (replicate g 0 ++ x)) (end + g + length x) (omega (arith, length-append (replicate g 0) x, length-replicate {A = ℕ} g 0)) (Stands-back b (replicate g 0 ++ x) rest end h)

-- the bytes of a section stand at its place
abbrev pub StandsLaid : List ℕ → Laid → Type 0
StandsLaid b l = Stands b l.place l.part.content

pub laid-stand : (b : List ℕ) (align end : ℕ) (ps : List Part) → Stands b end (spaced align end (contents ps)) → All (StandsLaid b) (laid align end ps)
laid-stand b align end [] h = All-nil (StandsLaid b)
laid-stand b align end (p ∷ ps) h =
    let next = aligned align end + length p.content in
    All-cons (StandsLaid b) (record { part = p; place = aligned align end }) (laid align next ps) (piece-stands b (gap align end) end p.content (spaced align next (contents ps)) h)
    (laid-stand b align next ps (rest-stands b (gap align end) end p.content (spaced align next (contents ps)) h))

-- a program header is that of this segment, whose bytes stand where it says
pub record IsLoadOf (b : List ℕ) (s : ExecSegment) (p : ProgramHeader) : Type 0 where
  pub is : p ≡ load s p.offset
  pub stands : Stands b p.offset s.bytes

pub load-of : (b : List ℕ) (end : ℕ) (xs : List ExecSegment) (i : ℕ) (d : ExecSegment) (e : ProgramHeader) → Stands b end (spaced 4096 end (bytes_of xs)) → i < length xs
    → IsLoadOf b (get_or xs i d) (get_or (loads end xs) i e)
load-of b end [] i d e h lt = absurd (omega arith)
load-of b end (x ∷ xs) zero d e h lt =
    record { is = refl; stands = piece-stands b (gap 4096 end) end x.bytes (spaced 4096 (aligned 4096 end + length x.bytes) (bytes_of xs)) h }
load-of b end (x ∷ xs) (suc i) d e h lt =
    let next = aligned 4096 end + length x.bytes in
    load-of b next xs i d e (rest-stands b (gap 4096 end) end x.bytes (spaced 4096 next (bytes_of xs)) h) (omega arith)

-- ---- the file

abbrev pub header_of : Exec → List ℕ
header_of e = exec_header e.entry (section_table_place e) (length (programs e)) (length (sections e) + 1)

abbrev pub program_table_of : Exec → List ℕ
program_table_of e = flat_map program_bytes (programs e)

abbrev segments_of : Exec → List ℕ
segments_of e = spaced 4096 (front_size e) (bytes_of e.segments)

abbrev note_of : Exec → List ℕ
note_of e = spaced 8 (segments_end e) (own_note e)

abbrev tables_of : Exec → List ℕ
tables_of e = spaced 8 (note_end e) (contents (table_parts e) ++ section_table e ∷ [])

pub length-program_table : (ps : List ProgramHeader) → length (flat_map program_bytes ps) ≡ 56 * length ps
length-program_table [] = refl
length-program_table (p ∷ ps) = omega (arith, length-program_table ps, length-append (program_bytes p) (flat_map program_bytes ps))

front-is : (e : Exec) → 64 + length (program_table_of e) ≡ front_size e
front-is e = omega (arith, length-program_table (programs e), length-programs e)

pub header-stands : (e : Exec) → Stands (written e) 0 (header_of e)
header-stands e = Stands-here [] (header_of e) (program_table_of e ++ (segments_of e ++ (note_of e ++ tables_of e)))

behind-header : (e : Exec) → Stands (written e) 64 (program_table_of e ++ (segments_of e ++ (note_of e ++ tables_of e)))
behind-header e =
    let rest = program_table_of e ++ (segments_of e ++ (note_of e ++ tables_of e)) in
    subst (λ (r : List ℕ). Stands (header_of e ++ r) 64 rest) (append-nil rest) (Stands-here (header_of e) rest [])

pub programs-stand : (e : Exec) → Stands (written e) 64 (program_table_of e)
programs-stand e = Stands-front (written e) (program_table_of e) (segments_of e ++ (note_of e ++ tables_of e)) 64 (behind-header e)

behind-programs : (e : Exec) → Stands (written e) (front_size e) (segments_of e ++ (note_of e ++ tables_of e))
behind-programs e =
    let rest = segments_of e ++ (note_of e ++ tables_of e) in
    Stands-at (written e) rest (64 + length (program_table_of e)) (front_size e) (front-is e) (Stands-back (written e) (program_table_of e) rest 64 (behind-header e))

pub segments-stand : (e : Exec) → Stands (written e) (front_size e) (segments_of e)
segments-stand e = Stands-front (written e) (segments_of e) (note_of e ++ tables_of e) (front_size e) (behind-programs e)

behind-segments : (e : Exec) → Stands (written e) (segments_end e) (note_of e ++ tables_of e)
behind-segments e = Stands-back (written e) (segments_of e) (note_of e ++ tables_of e) (front_size e) (behind-programs e)

pub note-stands : (e : Exec) → Stands (written e) (segments_end e) (note_of e)
note-stands e = Stands-front (written e) (note_of e) (tables_of e) (segments_end e) (behind-segments e)

behind-note : (e : Exec) → Stands (written e) (note_end e) (tables_of e)
behind-note e = Stands-back (written e) (note_of e) (tables_of e) (segments_end e) (behind-segments e)

behind-note-as : (e : Exec) → Stands (written e) (note_end e) (spaced 8 (note_end e) (contents (table_parts e)) ++ spaced 8 (after 8 (note_end e) (contents (table_parts e))) (section_table e ∷ []))
behind-note-as e = subst (Stands (written e) (note_end e)) (spaced-append 8 (note_end e) (contents (table_parts e)) (section_table e ∷ [])) (behind-note e)

tables-stand : (e : Exec) → Stands (written e) (note_end e) (spaced 8 (note_end e) (contents (table_parts e)))
tables-stand e =
    Stands-front (written e) (spaced 8 (note_end e) (contents (table_parts e))) (spaced 8 (after 8 (note_end e) (contents (table_parts e))) (section_table e ∷ [])) (note_end e) (behind-note-as e)

pub section_table-stands : (e : Exec) → Stands (written e) (section_table_place e) (section_table e)
section_table-stands e =
    let end = after 8 (note_end e) (contents (table_parts e)) in
    piece-stands (written e) (gap 8 end) end (section_table e) []
    (Stands-back (written e) (spaced 8 (note_end e) (contents (table_parts e))) (spaced 8 end (section_table e ∷ [])) (note_end e) (behind-note-as e))

pub segment_sections-stand : (e : Exec) → All (StandsLaid (written e)) (laid 4096 (front_size e) (segment_parts (is_linked e.segments) 0 e.segments))
segment_sections-stand e =
    let parts = segment_parts (is_linked e.segments) 0 e.segments in
    laid-stand (written e) 4096 (front_size e) parts
    (subst (λ (r : List (List ℕ)). Stands (written e) (front_size e) (spaced 4096 (front_size e) r)) (sym (contents-segments (is_linked e.segments) 0 e.segments)) (segments-stand e))

pub table_sections-stand : (e : Exec) → All (StandsLaid (written e)) (laid 8 (note_end e) (table_parts e))
table_sections-stand e = laid-stand (written e) 8 (note_end e) (table_parts e) (tables-stand e)

pub own_note-stands : (e : Exec) (note : List ℕ) → own_note e ≡ note ∷ [] → Stands (written e) (aligned 8 (segments_end e)) note
own_note-stands e note is =
    piece-stands (written e) (gap 8 (segments_end e)) (segments_end e) note []
    (subst (λ (r : List (List ℕ)). Stands (written e) (segments_end e) (spaced 8 (segments_end e) r)) is (note-stands e))
