-- The program headers of a written file as they are read: the segments and the note.
use Rattle.std.proofs.Common.{◌≡◌, ℕ, suc, ◌+◌, ◌*◌, ◌<◌, ◌≤◌, ◌^◌, Bool, true, false, cond, eqb, ltb, leb, not, ◌&&◌, ◌||◌, is_some, List, [], ◌∷◌, ◌++◌, length, get_or, take, drop, Option, Some, None, inl, inr, refl, sym, ap, subst, ◌∙◌, arith, lit≤, lit<}
use Rattle.std.specs.List.{flat_map, position, starts_with}
use Rattle.std.proofs.lemmas.Bool.{le-leb, lt-ltb, cases_lt}
use Rattle.std.proofs.lemmas.Bool.Decides.{Decides-eqb}
use Rattle.std.proofs.lemmas.Slice.Eq.{starts_is}
use Rattle.std.proofs.lemmas.List.{append-nil, map-id, length-append, get_or_append_left, get_or_at}
use Rattle.std.proofs.lemmas.List.Concat.{flat_map_single}
use Rattle.std.proofs.lemmas.List.Elements.{All-get_or}
use Rattle.std.proofs.lemmas.List.Quantifiers.{position-Some}
use Rattle.std.proofs.lemmas.Option.{slice_get-get_or}
use Rattle.cet_elf.specs.declared.exec.Exec.{Exec}
use Rattle.cet_elf.specs.declared.exec.ExecSegment.{ExecSegment}
use Rattle.cet_elf.specs.Below.{each_below, first_below}
use Rattle.cet_elf.specs.Fields.{is_part}
use Rattle.cet_elf.specs.Faults.{broken}
use Rattle.cet_elf.specs.Header.{program_table, program_count}
use Rattle.cet_elf.specs.declared.error.ElfError.{ElfError}
use Rattle.cet_elf.specs.declared.error.ElfError.TheVariants.{Bounds, Unsupported}
use Rattle.cet_elf.proofs.FaultLemmas.{none-append, broken-true}
use Rattle.cet_elf.proofs.BelowLists.{each-list, each-nil, first-none, first-some}
use Rattle.cet_elf.proofs.Stands.{Stands, Stands-at, Stands-in, Stands-front, Stands-entry, half-Stands, word-Stands, xword-Stands}
use Rattle.cet_exec.specs.declared.programs.ProgramHeader.{ProgramHeader}
use Rattle.cet_exec.specs.Programs.{program_header, program_place, program, is_load, is_property, is_dynamic, is_stored, is_note, load_faults, property_faults, program_faults, programs_faults, stored, segment_of, is_segment, segment_at, segments_of, bytes_of as note_bytes_of, notes_of}
use Rattle.cet_exec.specs.Regular.{IsRegularSegment, SegmentFits}
use Rattle.cet_exec.specs.Written.{load, begins_with, at_index, home, property, note_program, own_bytes, note_bytes, note_programs, front_size, load_programs, segments_end, programs, own_note, program_bytes}
use Rattle.cet_exec.proofs.WholeFile.{length-loads}
use Rattle.cet_exec.proofs.Standing.{IsLoadOf, load-of}
use Rattle.cet_exec.proofs.WrittenFile.{IsFileOf}

pub no_segment : ExecSegment
no_segment = record { start = 0; size = 0; flags = 0; bytes = [] }

pub no_program : ProgramHeader
no_program = record { kind = 0; flags = 0; offset = 0; start = 0; stored_size = 0; size = 0 }

-- ---- one program header

record FitsProgram (p : ProgramHeader) : Type 0 where
  kind : p.kind < 2 ^ 32
  flags : p.flags < 2 ^ 32
  offset : p.offset < 2 ^ 64
  start : p.start < 2 ^ 64
  stored_size : p.stored_size < 2 ^ 64
  size : p.size < 2 ^ 64

program-read : (b : List ℕ) (at : ℕ) (p : ProgramHeader) → FitsProgram p → Stands b at (program_bytes p) → program_header b at ≡ p
unfolding program_header
program-read b at p fits h =
    let s = program_bytes p in
    rw (
      word-Stands b at p.kind fits.kind (Stands-at b _ (at + 0) at (omega arith) (Stands-in b s _ at 0 h (record { inside = lit≤ tt; is = refl }))),
      word-Stands b (at + 4) p.flags fits.flags (Stands-in b s _ at 4 h (record { inside = lit≤ tt; is = refl })),
      xword-Stands b (at + 8) p.offset fits.offset (Stands-in b s _ at 8 h (record { inside = lit≤ tt; is = refl })),
      xword-Stands b (at + 16) p.start fits.start (Stands-in b s _ at 16 h (record { inside = lit≤ tt; is = refl })),
      xword-Stands b (at + 32) p.stored_size fits.stored_size (Stands-in b s _ at 32 h (record { inside = lit≤ tt; is = refl })),
      xword-Stands b (at + 40) p.size fits.size (Stands-in b s _ at 40 h (record { inside = lit≤ tt; is = refl })),
    )
    refl

or_true : (b : Bool) → b || true ≡ true
or_true true = refl
or_true false = refl

stored-in : (b : List ℕ) (place : ℕ) (bytes : List ℕ) → Stands b place bytes → is_part b place (length bytes) ≡ true
stored-in b place bytes h = ap (λ (t : Bool). eqb (length bytes) 0 || t) (le-leb (place + length bytes) (length b) h.inside) ∙ or_true (eqb (length bytes) 0)

-- ---- what the program headers are

-- the note is where its program header says
pub record IsNoteOf (b note : List ℕ) (p : ProgramHeader) : Type 0 where
  pub is : p ≡ property note p.offset p.start
  pub stands : Stands b p.offset note
  pub start : p.start < 2 ^ 64

and-right : (p q : Bool) → p && q ≡ true → q ≡ true
and-right true q h = h
and-right false q h = absurd cc

begins : (note bytes : List ℕ) → starts_with (λ x y. eqb x y) bytes note ≡ true → bytes ≡ note ++ drop (length note) bytes
begins note bytes h = (starts_is Decides-eqb bytes note _ refl).0 h

-- where the note stands first in a segment
record IsHome (b note : List ℕ) (e : Exec) (p : ProgramHeader) : Type 0 where
  segment : ExecSegment
  load_of : IsLoadOf b segment p
  first : begins_with note segment ≡ true
  fits : SegmentFits segment

found : (b note : List ℕ) (e : Exec) (p : ProgramHeader) (i : Option ℕ) → IsFileOf b e → position (begins_with note) e.segments ≡ i → at_index (load_programs e) i ≡ Some p → IsHome b note e p
found b note e p None h at is = absurd cc
found b note e p (Some i) h at is =
    let known = position-Some (begins_with note) e.segments i no_segment at in
    let there : i < length (load_programs e) = omega (arith, known.0, length-loads (front_size e) e.segments) in
    let same : Some p ≡ Some (get_or (load_programs e) i no_program) = sym is ∙ slice_get-get_or (load_programs e) i no_program there in
    let same_p : get_or (load_programs e) i no_program ≡ p = cc in
    record {
      segment = get_or e.segments i no_segment;
      load_of = subst (IsLoadOf b (get_or e.segments i no_segment)) same_p (load-of b (front_size e) e.segments i no_segment no_program h.segments_stand known.0);
      first = known.1;
      fits = All-get_or SegmentFits e.segments i no_segment known.0 h.fits.segments;
    }

pub note-of : (b note : List ℕ) (e : Exec) → IsFileOf b e → e.notes ≡ Some note → IsNoteOf b note (note_program note (segments_end e) (home note e.segments (load_programs e)))
note-of b note e h there = go (home note e.segments (load_programs e)) refl
  where
    go : (p : Option ProgramHeader) → home note e.segments (load_programs e) ≡ p → IsNoteOf b note (note_program note (segments_end e) p)
    go None is =
        let own : own_note e ≡ note ∷ [] =
        ap (note_bytes e.segments (load_programs e)) there ∙ ap (own_bytes note) is in
        record { is = refl; stands = h.note_stands note own; start = lit< tt }
    go (Some p) is =
        let at = found b note e p (position (begins_with note) e.segments) h refl is in
        let s = at.segment in
        let split : s.bytes ≡ note ++ drop (length note) s.bytes = begins note s.bytes (and-right (eqb s.flags 4) _ at.first) in
        record {
          is = refl;
          stands = Stands-front b note (drop (length note) s.bytes) p.offset (subst (Stands b p.offset) split at.load_of.stands);
          start = let same : p.start ≡ s.start = ap (λ (q : ProgramHeader). q.start) at.load_of.is in omega (arith, same, at.fits.0);
        }

-- ---- what is read of them

abbrev note_part_of : Exec → List ProgramHeader
note_part_of e = note_programs e.segments (load_programs e) (segments_end e) e.notes

fits-load : (b : List ℕ) (e : Exec) (s : ExecSegment) (p : ProgramHeader) → IsFileOf b e → IsRegularSegment s → SegmentFits s → IsLoadOf b s p → FitsProgram p
fits-load b e s p h regular fits at =
    let inside = at.stands.inside in
    let bytes = h.short in
    subst FitsProgram (sym at.is) (record {
      kind = lit< tt;
      flags = omega (arith, regular.flags);
      offset = omega (arith, inside, bytes);
      start = fits.0;
      stored_size = omega (arith, inside, bytes);
      size = fits.1;
    })

fits-note : (b note : List ℕ) (e : Exec) (p : ProgramHeader) → IsFileOf b e → IsNoteOf b note p → FitsProgram p
fits-note b note e p h at =
    let inside = at.stands.inside in
    let bytes = h.short in
    subst FitsProgram (sym at.is) (record {
      kind = lit< tt;
      flags = lit< tt;
      offset = omega (arith, inside, bytes);
      start = at.start;
      stored_size = omega (arith, inside, bytes);
      size = omega (arith, inside, bytes);
    })

pub program_table-is : (b : List ℕ) (e : Exec) → IsFileOf b e → program_table b ≡ 64
program_table-is b e h = xword-Stands b 32 64 (lit< tt) (Stands-in b _ _ 0 32 h.header (record { inside = lit≤ tt; is = refl }))

note_part-le : (e : Exec) (n : Option (List ℕ)) → length (note_programs e.segments (load_programs e) (segments_end e) n) ≤ 1
note_part-le e None = omega arith
note_part-le e (Some note) = omega arith

few : (e : Exec) → length e.segments ≤ 16 → length (programs e) ≤ 17
few e h = omega (arith, h, length-append (load_programs e) (note_part_of e), length-loads (front_size e) e.segments, note_part-le e e.notes)

pub program_count-is : (b : List ℕ) (e : Exec) → IsFileOf b e → program_count b ≡ length (programs e)
program_count-is b e h =
    half-Stands b 56 (length (programs e)) (omega (arith, few e h.regular.few_segments)) (Stands-in b _ _ 0 56 h.header (record { inside = lit≤ tt; is = refl }))

-- program header k, where its numbers fit
program-at : (b : List ℕ) (e : Exec) (k : ℕ) → IsFileOf b e → k < length (programs e) → FitsProgram (get_or (programs e) k no_program) → program b k ≡ get_or (programs e) k no_program
program-at b e k h lt fits =
    let p = get_or (programs e) k no_program in
    let entry : Stands b (64 + 56 * k) (program_bytes p) =
    Stands-in b (flat_map program_bytes (programs e)) (program_bytes p) 64 (56 * k) h.programs_stand (Stands-entry program_bytes 56 (programs e) k no_program (λ x. refl) lt) in
    ap (λ (n : ℕ). program_header b (n + 56 * k)) (program_table-is b e h) ∙ program-read b (64 + 56 * k) p fits entry

-- the PT_LOAD numbered k
pub record HasLoad (b : List ℕ) (e : Exec) (k : ℕ) : Type 0 where
  pub program_is : program b k ≡ get_or (programs e) k no_program
  pub load_of : IsLoadOf b (get_or e.segments k no_segment) (program b k)

pub load-at : (b : List ℕ) (e : Exec) (k : ℕ) → IsFileOf b e → k < length e.segments → HasLoad b e k
load-at b e k h lt =
    let loads_e = load_programs e in
    let count : length loads_e ≡ length e.segments = length-loads (front_size e) e.segments in
    let same : get_or (programs e) k no_program ≡ get_or loads_e k no_program = get_or_append_left loads_e (note_part_of e) no_program k (omega (arith, count)) in
    let at : IsLoadOf b (get_or e.segments k no_segment) (get_or loads_e k no_program) = load-of b (front_size e) e.segments k no_segment no_program h.segments_stand lt in
    let regular = All-get_or IsRegularSegment e.segments k no_segment lt h.regular.segments in
    let fits = All-get_or SegmentFits e.segments k no_segment lt h.fits.segments in
    let here : IsLoadOf b (get_or e.segments k no_segment) (get_or (programs e) k no_program) = subst (IsLoadOf b (get_or e.segments k no_segment)) (sym same) at in
    let is = program-at b e k h (omega (arith, count, length-append loads_e (note_part_of e))) (fits-load b e _ _ h regular fits here) in
    record { program_is = is; load_of = subst (IsLoadOf b (get_or e.segments k no_segment)) (sym is) here }

-- that of the note
pub record HasNote (b note : List ℕ) (e : Exec) : Type 0 where
  pub program_is : program b (length e.segments) ≡ get_or (programs e) (length e.segments) no_program
  pub note_of : IsNoteOf b note (program b (length e.segments))
  pub count : length (programs e) ≡ length e.segments + 1

pub note-at : (b note : List ℕ) (e : Exec) → IsFileOf b e → e.notes ≡ Some note → HasNote b note e
note-at b note e h there =
    let n = length e.segments in
    let q = note_program note (segments_end e) (home note e.segments (load_programs e)) in
    let parts : note_part_of e ≡ q ∷ [] = ap (note_programs e.segments (load_programs e) (segments_end e)) there in
    let loads_e = load_programs e in
    let count : length loads_e ≡ n = length-loads (front_size e) e.segments in
    let whole : length (programs e) ≡ n + 1 = omega (arith, count, length-append loads_e (note_part_of e), ap length parts) in
    let same : get_or (programs e) n no_program ≡ q =
    ap (λ (ps : List ProgramHeader). get_or (loads_e ++ ps) n no_program) parts ∙ get_or_at loads_e q [] no_program n count in
    let here : IsNoteOf b note (get_or (programs e) n no_program) = subst (IsNoteOf b note) (sym same) (note-of b note e h there) in
    let is = program-at b e n h (omega (arith, whole)) (fits-note b note e _ h here) in
    record { program_is = is; note_of = subst (IsNoteOf b note) (sym is) here; count = whole }

-- ---- the segments and the note

abbrev given_by : List ℕ → ProgramHeader → List ExecSegment
given_by b p = cond (is_segment p) (segment_of b p ∷ []) []

load-gives : (b : List ℕ) (s : ExecSegment) (p : ProgramHeader) → 0 < s.size → IsLoadOf b s p → given_by b p ≡ s ∷ []
unfolding segment_of
load-gives b s p some at =
    let sized : ltb 0 s.size ≡ true = lt-ltb 0 s.size some in
    let bytes : take (length s.bytes) (drop p.offset b) ≡ s.bytes = at.stands.is in
    ap (given_by b) at.is ∙ ap (λ (t : Bool). cond t (segment_of b (load s p.offset) ∷ []) []) sized
    ∙ ap (λ (r : List ℕ). record { start = s.start; size = s.size; flags = s.flags; bytes = r } ∷ []) bytes

note-gives : (b note : List ℕ) (p : ProgramHeader) → IsNoteOf b note p → given_by b p ≡ []
note-gives b note p at = ap (given_by b) at.is

-- the numbers below those of all program headers, by what they are
by_number : (b : List ℕ) (e : Exec) (k : ℕ) → IsFileOf b e → k < length (programs e) → (P : ℕ → Type 0) → ((i : ℕ) → i < length e.segments → HasLoad b e i → P i)
    → ((note : List ℕ) → e.notes ≡ Some note → HasNote b note e → P (length e.segments)) → P k
by_number b e k h lt P loaded noted = elim (cases_lt k (length e.segments)) [
  | inl less ↦ loaded k less (load-at b e k h less)
  | inr ge ↦ go e.notes refl ge
]
  where
    go : (n : Option (List ℕ)) → e.notes ≡ n → length e.segments ≤ k → P k
    go None none ge =
        let parts : note_part_of e ≡ [] = ap (note_programs e.segments (load_programs e) (segments_end e)) none in
        absurd (omega (arith, lt, length-append (load_programs e) (note_part_of e), length-loads (front_size e) e.segments, ap length parts))
    go (Some note) there ge =
        let at = note-at b note e h there in
        let same : length e.segments ≡ k = omega (arith, at.count) in
        subst P same (noted note there at)

segment-at : (b : List ℕ) (e : Exec) (i : ℕ) → IsFileOf b e → i < length e.segments → HasLoad b e i → segment_at b i ≡ get_or e.segments i no_segment ∷ []
segment-at b e i h lt at = load-gives b (get_or e.segments i no_segment) (program b i) (All-get_or IsRegularSegment e.segments i no_segment lt h.regular.segments).has_size at.load_of

-- the segments of the first program headers
first-segments : (b : List ℕ) (e : Exec) → IsFileOf b e → each_below (length e.segments) (segment_at b) ≡ e.segments
first-segments b e h =
    each-list (segment_at b) (λ s. s ∷ []) e.segments no_segment (λ i lt. segment-at b e i h lt (load-at b e i h lt))
    ∙ flat_map_single (λ s. s) e.segments ∙ map-id e.segments

pub segments_of-is : (b : List ℕ) (e : Exec) → IsFileOf b e → segments_of b ≡ e.segments
unfolding segments_of
segments_of-is b e h = ap (λ (n : ℕ). each_below n (segment_at b)) (program_count-is b e h) ∙ go e.notes refl
  where
    go : (n : Option (List ℕ)) → e.notes ≡ n → each_below (length (programs e)) (segment_at b) ≡ e.segments
    go None none =
        let parts : note_part_of e ≡ [] = ap (note_programs e.segments (load_programs e) (segments_end e)) none in
        let count : length (programs e) ≡ length e.segments = omega (arith, length-append (load_programs e) (note_part_of e), length-loads (front_size e) e.segments, ap length parts) in
        ap (λ (k : ℕ). each_below k (segment_at b)) count ∙ first-segments b e h
    go (Some note) there =
        let at = note-at b note e h there in
        let count : length (programs e) ≡ suc (length e.segments) = omega (arith, at.count) in
        ap (λ (k : ℕ). each_below k (segment_at b)) count
        ∙ ap (λ (r : List ExecSegment). each_below (length e.segments) (segment_at b) ++ r) (note-gives b note (program b (length e.segments)) at.note_of)
        ∙ append-nil (each_below (length e.segments) (segment_at b))
        ∙ first-segments b e h

load-no_note : (b : List ℕ) (e : Exec) (i : ℕ) → HasLoad b e i → is_note b i ≡ false
load-no_note b e i at = ap is_property at.load_of.is

no_note-before : (b : List ℕ) (e : Exec) (i : ℕ) → IsFileOf b e → i ≤ length e.segments → first_below i (is_note b) ≡ None
no_note-before b e i h le = first-none i (is_note b) (λ j lt. load-no_note b e j (load-at b e j h (omega arith)))

pub notes_of-is : (b : List ℕ) (e : Exec) → IsFileOf b e → notes_of b ≡ e.notes
unfolding notes_of
notes_of-is b e h = ap (λ (n : ℕ). note_bytes_of b (first_below n (is_note b))) (program_count-is b e h) ∙ go e.notes refl
  where
    go : (n : Option (List ℕ)) → e.notes ≡ n → note_bytes_of b (first_below (length (programs e)) (is_note b)) ≡ e.notes
    go None none =
        let parts : note_part_of e ≡ [] = ap (note_programs e.segments (load_programs e) (segments_end e)) none in
        let count : length (programs e) ≤ length e.segments = omega (arith, length-append (load_programs e) (note_part_of e), length-loads (front_size e) e.segments, ap length parts) in
        ap (note_bytes_of b) (no_note-before b e (length (programs e)) h count) ∙ sym none
    go (Some note) there =
        let at = note-at b note e h there in
        let n = length e.segments in
        let here : is_note b n ≡ true = ap is_property at.note_of.is in
        let first : first_below (length (programs e)) (is_note b) ≡ Some n = first-some (length (programs e)) n (is_note b) (omega (arith, at.count)) here (λ j lt. load-no_note b e j (load-at b e j h lt)) in
        ap (note_bytes_of b) first ∙ ap (λ (p : ProgramHeader). Some (stored b p)) at.note_of.is ∙ ap (λ (r : List ℕ). Some r) at.note_of.stands.is ∙ sym there

-- ---- no faults

abbrev faults_of : List ℕ → ℕ → Bool → ProgramHeader → List ElfError
faults_of b at second p =
    cond (is_load p) (load_faults b at p) (cond (is_property p) (property_faults b at second p) (broken (not (is_dynamic p)) (Unsupported at)))

load-faultless : (b : List ℕ) (at : ℕ) (second : Bool) (s : ExecSegment) (p : ProgramHeader) → length s.bytes ≤ s.size → IsLoadOf b s p → faults_of b at second p ≡ []
load-faultless b at second s p le h =
    ap (faults_of b at second) h.is
    ∙ none-append (broken (leb (length s.bytes) s.size) (Bounds (at + 32))) (broken (is_stored b (load s p.offset)) (Bounds (at + 8))) (broken-true _ _ (le-leb (length s.bytes) s.size le)) (broken-true _ _ (stored-in b p.offset s.bytes h.stands))

note-faultless : (b note : List ℕ) (at : ℕ) (p : ProgramHeader) → IsNoteOf b note p → faults_of b at false p ≡ []
note-faultless b note at p h =
    ap (faults_of b at false) h.is
    ∙ none-append (broken (is_stored b (property note p.offset p.start)) (Bounds (at + 8))) [] (broken-true _ _ (stored-in b p.offset note h.stands)) refl

pub no_program_faults : (b : List ℕ) (e : Exec) → IsFileOf b e → programs_faults b ≡ []
unfolding programs_faults program_faults
no_program_faults b e h =
    each-nil (program_count b) (program_faults b) (λ k lt.
    by_number b e k h (omega (arith, lt, program_count-is b e h)) (λ i. program_faults b i ≡ [])
    (λ i less at. load-faultless b (program_place b i) (is_some (first_below i (is_note b))) (get_or e.segments i no_segment) (program b i) (All-get_or IsRegularSegment e.segments i no_segment less h.regular.segments).stored at.load_of)
    (λ note there at.
    let n = length e.segments in
    ap (λ (o : Option ℕ). faults_of b (program_place b n) (is_some o) (program b n)) (no_note-before b e n h (omega arith)) ∙ note-faultless b note (program_place b n) (program b n) at.note_of))
