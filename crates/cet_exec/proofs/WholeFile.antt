-- All that is added to the layout of an executable is its file.
use Rattle.std.proofs.Common.{◌≡◌, ℕ, ◌+◌, ◌*◌, ◌≤◌, Bool, List, [], ◌∷◌, ◌++◌, length, drop, replicate, codes, Option, Some, None, refl, sym, ap, subst, ◌∙◌, arith}
use Rattle.std.specs.List.{flat_map}
use Rattle.std.proofs.lemmas.List.{append_assoc, append-nil, drop_at, length-append, length-replicate}
use Rattle.std.proofs.lemmas.List.Concat.{flat_map-append}
use Rattle.cet_elf.specs.declared.exec.Exec.{Exec}
use Rattle.cet_elf.specs.declared.exec.ExecSegment.{ExecSegment}
use Rattle.cet_elf.specs.Written.{Part, ended, string_part, string_table, section_header}
use Rattle.cet_exec.specs.declared.layout.Layout.{Layout}
use Rattle.cet_exec.specs.declared.programs.ProgramHeader.{ProgramHeader}
use Rattle.cet_exec.specs.Written.{gap, aligned, spaced, laid, contents, loads, bytes_of, note_count, note_programs, note_bytes, note_sections, front_size, load_programs, segments_end, programs, own_note, note_end, is_linked, segment_parts, loaded_sections, symbol_parts, laid_names, names_part, table_parts, sections, named, section_table, section_table_place, program_bytes, exec_header, written}
use Rattle.cet_exec.specs.Layout.{Adds, IsStart, AddsSegments, AddsNote, AddsPart, AddsParts}
use Rattle.cet_exec.proofs.Spaced.{after, names_of, spaced-append, names_of-append}
use Rattle.cet_exec.proofs.Layouts.{Adds-then, AddsParts-more}

-- ---- how many there are

pub length-loads : (end : ℕ) (xs : List ExecSegment) → length (loads end xs) ≡ length xs
length-loads end [] = refl
length-loads end (x ∷ xs) = let h = length-loads (aligned 4096 end + length x.bytes) xs in omega (arith, h)

pub length-laid : (align end : ℕ) (ps : List Part) → length (laid align end ps) ≡ length ps
length-laid align end [] = refl
length-laid align end (p ∷ ps) = let h = length-laid align (aligned align end + length p.content) ps in omega (arith, h)

pub length-segments : (linked : Bool) (number : ℕ) (xs : List ExecSegment) → length (segment_parts linked number xs) ≡ length xs
length-segments linked number [] = refl
length-segments linked number (x ∷ xs) = let h = length-segments linked (number + 1) xs in omega (arith, h)

note_programs-count : (e : Exec) (ps : List ProgramHeader) (end : ℕ) → length (note_programs e.segments ps end e.notes) ≡ note_count e
note_programs-count e ps end = go e.notes refl
  where
    go : (n : Option (List ℕ)) → e.notes ≡ n → length (note_programs e.segments ps end e.notes) ≡ note_count e
    go None is = rw is refl
    go (Some note) is = rw is refl

note_sections-count : (e : Exec) (ps : List ProgramHeader) (end : ℕ) → length (note_sections e.segments ps end e.notes) ≡ note_count e
note_sections-count e ps end = go e.notes refl
  where
    go : (n : Option (List ℕ)) → e.notes ≡ n → length (note_sections e.segments ps end e.notes) ≡ note_count e
    go None is = rw is refl
    go (Some note) is = rw is refl

pub length-programs : (e : Exec) → length (programs e) ≡ length e.segments + note_count e
length-programs e =
    omega (
      arith,
      length-append (load_programs e) (note_programs e.segments (load_programs e) (segments_end e) e.notes),
      length-loads (front_size e) e.segments,
      note_programs-count e (load_programs e) (segments_end e),
    )

pub length-loaded : (e : Exec) → length (loaded_sections e) ≡ length e.segments + note_count e
length-loaded e =
    let parts = segment_parts (is_linked e.segments) 0 e.segments in
    omega (
      arith,
      length-append (laid 4096 (front_size e) parts) (note_sections e.segments (load_programs e) (segments_end e) e.notes),
      length-laid 4096 (front_size e) parts,
      length-segments (is_linked e.segments) 0 e.segments,
      note_sections-count e (load_programs e) (segments_end e),
    )

pub length-sections : (e : Exec) → length (sections e) ≡ length e.segments + note_count e + 3
length-sections e =
    let three : length (table_parts e) ≡ 3 = refl in
    omega (arith, length-append (loaded_sections e) (laid 8 (note_end e) (table_parts e)), length-laid 8 (note_end e) (table_parts e), length-loaded e, three)

-- ---- what stands in the layout at the end

abbrev bodies : Exec → List ℕ
bodies e = spaced 4096 (front_size e) (bytes_of e.segments) ++ (spaced 8 (segments_end e) (own_note e) ++ spaced 8 (note_end e) (contents (table_parts e)))

pub record IsWhole (e : Exec) (l : Layout) : Type 0 where
  pub bytes : l.bytes.items ≡ replicate (front_size e) 0 ++ bodies e
  pub programs_are : l.programs.items ≡ programs e
  pub headers : l.headers.items ≡ section_table e

own : List ℕ
own = codes ".shstrtab"

-- the names of all sections
names-are : (e : Exec) (names : List ℕ) → names ≡ (0 ∷ []) ++ names_of (loaded_sections e ++ laid 8 (note_end e) (symbol_parts e)) → string_part own (names ++ ended own) ≡ names_part e
unfolding own
names-are e names is =
    let loaded = loaded_sections e in
    let tables = laid_names (laid 8 (note_end e) (symbol_parts e)) in
    let all : names ++ ended own ≡ string_table (laid_names loaded ++ (tables ++ own ∷ [])) =
    ap (λ (r : List ℕ). r ++ ended own) (is ∙ ap (λ (r : List ℕ). 0 ∷ r) (names_of-append loaded (laid 8 (note_end e) (symbol_parts e))))
    ∙ ap (λ (r : List ℕ). 0 ∷ r) (append_assoc (names_of loaded) (flat_map ended tables) (ended own) ∙ sym (flat_map-append ended (laid_names loaded) (tables ++ own ∷ []))) in
    ap (string_part own) all

-- the tables that are in no segment
tables-added : (e : Exec) (two three four : Layout) → length two.bytes.items ≡ note_end e → AddsParts two three (symbol_parts e) → AddsPart three four (names_part e)
    → Adds two four (spaced 8 (note_end e) (contents (table_parts e))) [] (laid 8 (note_end e) (table_parts e))
tables-added e two three four at first second =
    subst (λ (n : ℕ). Adds two four (spaced 8 n (contents (table_parts e))) [] (laid 8 n (table_parts e))) at (AddsParts-more two three four (symbol_parts e) (names_part e) first second)

pub whole : (e : Exec) (start one two three four : Layout) → IsStart (front_size e) start → AddsSegments (is_linked e.segments) start one e.segments → AddsNote e.segments one two e.notes
    → AddsParts two three (symbol_parts e) → AddsPart three four (string_part (codes ".shstrtab") (three.names.items ++ ended (codes ".shstrtab"))) → IsWhole e four
unfolding own
whole e start one two three four begins first second third fourth =
    let xs = e.segments in
    let parts = segment_parts (is_linked xs) 0 xs in
    let front : length start.bytes.items ≡ front_size e = ap length begins.bytes ∙ length-replicate {A = ℕ} (front_size e) 0 in
    let a : Adds start one (spaced 4096 (front_size e) (bytes_of xs)) (load_programs e) (laid 4096 (front_size e) parts) =
    subst (λ (n : ℕ). Adds start one (spaced 4096 n (bytes_of xs)) (loads n xs) (laid 4096 n parts)) front first in
    let loaded : one.programs.items ≡ load_programs e = a.programs_added ∙ ap (λ (r : List ProgramHeader). r ++ load_programs e) begins.programs in
    let end_a : length one.bytes.items ≡ segments_end e =
    ap length a.bytes_added ∙ length-append start.bytes.items (spaced 4096 (front_size e) (bytes_of xs)) ∙ ap (λ (n : ℕ). n + length (spaced 4096 (front_size e) (bytes_of xs))) front in
    let b : Adds one two (spaced 8 (segments_end e) (own_note e)) (note_programs xs (load_programs e) (segments_end e) e.notes) (note_sections xs (load_programs e) (segments_end e) e.notes) =
    subst (λ (n : ℕ). Adds one two (spaced 8 n (own_note e)) (note_programs xs (load_programs e) n e.notes) (note_sections xs (load_programs e) n e.notes)) end_a
    (subst (λ (ps : List ProgramHeader). Adds one two (spaced 8 (length one.bytes.items) (note_bytes xs ps e.notes)) (note_programs xs ps (length one.bytes.items) e.notes) (note_sections xs ps (length one.bytes.items) e.notes)) loaded second) in
    let end_b : length two.bytes.items ≡ note_end e =
    ap length b.bytes_added ∙ length-append one.bytes.items (spaced 8 (segments_end e) (own_note e)) ∙ ap (λ (n : ℕ). n + length (spaced 8 (segments_end e) (own_note e))) end_a in
    let c : Adds two three (spaced 8 (note_end e) (contents (symbol_parts e))) [] (laid 8 (note_end e) (symbol_parts e)) =
    subst (λ (n : ℕ). Adds two three (spaced 8 n (contents (symbol_parts e))) [] (laid 8 n (symbol_parts e))) end_b third in
    let two_in = Adds-then start one two _ _ _ _ _ _ a b in
    let three_in = Adds-then start two three _ _ _ _ _ _ two_in c in
    let names : three.names.items ≡ (0 ∷ []) ++ names_of (loaded_sections e ++ laid 8 (note_end e) (symbol_parts e)) =
    three_in.names ∙ ap (λ (r : List ℕ). r ++ names_of (loaded_sections e ++ laid 8 (note_end e) (symbol_parts e))) begins.names in
    let d : AddsPart three four (names_part e) = subst (AddsPart three four) (names-are e three.names.items names) fourth in
    let tables = tables-added e two three four end_b third d in
    let last = Adds-then start two four _ _ _ _ _ _ two_in tables in
    record {
      bytes =
          last.bytes_added ∙ ap (λ (r : List ℕ). r ++ ((spaced 4096 (front_size e) (bytes_of xs) ++ spaced 8 (segments_end e) (own_note e)) ++ spaced 8 (note_end e) (contents (table_parts e)))) begins.bytes
          ∙ ap (λ (r : List ℕ). replicate (front_size e) 0 ++ r) (append_assoc (spaced 4096 (front_size e) (bytes_of xs)) (spaced 8 (segments_end e) (own_note e)) (spaced 8 (note_end e) (contents (table_parts e))));
      programs_are = last.programs_added ∙ ap (λ (r : List ProgramHeader). r ++ (programs e ++ [])) begins.programs ∙ append-nil (programs e);
      headers =
          last.headers ∙ ap (λ (r : List ℕ). r ++ flat_map section_header (named (length start.names.items) (sections e))) begins.headers
          ∙ ap (λ (n : ℕ). replicate 64 0 ++ flat_map section_header (named n (sections e))) (ap length begins.names);
    }

-- the same, with the segments as a slice and the number of program headers as a number
pub whole_of : (e : Exec) (start one two three four : Layout) (xs : List ExecSegment) (count : ℕ) → xs ≡ e.segments → count ≡ length e.segments + note_count e → IsStart (64 + 56 * count) start
    → AddsSegments (is_linked xs) start one xs → AddsNote xs one two e.notes → AddsParts two three (symbol_parts e)
    → AddsPart three four (string_part (codes ".shstrtab") (three.names.items ++ ended (codes ".shstrtab"))) → IsWhole e four
whole_of e start one two three four xs count is number begins first second third fourth =
    whole e start one two three four (subst (λ (n : ℕ). IsStart (64 + 56 * n) start) number begins) (subst (λ (ys : List ExecSegment). AddsSegments (is_linked ys) start one ys) is first)
    (subst (λ (ys : List ExecSegment). AddsNote ys one two e.notes) is second) third fourth

-- ---- and the file that is made of it

abbrev made : Exec → Layout → List ℕ
made e l =
    (exec_header e.entry (aligned 8 (length l.bytes.items)) (length l.programs.items) (length l.programs.items + 4) ++ flat_map program_bytes l.programs.items)
    ++ drop (64 + 56 * length l.programs.items) (l.bytes.items ++ (replicate (gap 8 (length l.bytes.items)) 0 ++ l.headers.items))

bodies-end : (e : Exec) → length (replicate (front_size e) 0 ++ bodies e) ≡ after 8 (note_end e) (contents (table_parts e))
bodies-end e =
    let a = spaced 4096 (front_size e) (bytes_of e.segments) in
    let b = spaced 8 (segments_end e) (own_note e) in
    let c = spaced 8 (note_end e) (contents (table_parts e)) in
    sums (front_size e) (length (replicate (front_size e) 0)) (length a) (length b) (length c) _ _ _ (length-replicate {A = ℕ} (front_size e) 0) (length-append (replicate (front_size e) 0) (a ++ (b ++ c))) (length-append a (b ++ c)) (length-append b c)
  where
    sums : (f z a b c abc bc all : ℕ) → z ≡ f → all ≡ z + abc → abc ≡ a + bc → bc ≡ b + c → all ≡ f + a + b + c
    sums f z a b c abc bc all e1 e2 e3 e4 = omega arith

front-room : (e : Exec) → 64 + 56 * length (programs e) ≡ front_size e
front-room e = ap (λ (n : ℕ). 64 + 56 * n) (length-programs e)

behind-front : (e : Exec) (g : ℕ) (headers : List ℕ) → g ≡ gap 8 (after 8 (note_end e) (contents (table_parts e)))
    → bodies e ++ (replicate g 0 ++ headers)
    ≡ spaced 4096 (front_size e) (bytes_of e.segments) ++ (spaced 8 (segments_end e) (own_note e) ++ spaced 8 (note_end e) (contents (table_parts e) ++ headers ∷ []))
behind-front e g headers is =
    let a = spaced 4096 (front_size e) (bytes_of e.segments) in
    let b = spaced 8 (segments_end e) (own_note e) in
    let c = spaced 8 (note_end e) (contents (table_parts e)) in
    let last : c ++ (replicate g 0 ++ headers) ≡ spaced 8 (note_end e) (contents (table_parts e) ++ headers ∷ []) =
    ap (λ (n : ℕ). c ++ (replicate n 0 ++ headers)) is
    ∙ ap (λ (r : List ℕ). c ++ r) (sym (append-nil (replicate (gap 8 (after 8 (note_end e) (contents (table_parts e)))) 0 ++ headers)))
    ∙ sym (spaced-append 8 (note_end e) (contents (table_parts e)) (headers ∷ [])) in
    append_assoc a (b ++ c) (replicate g 0 ++ headers)
    ∙ ap (λ (r : List ℕ). a ++ r) (append_assoc b c (replicate g 0 ++ headers) ∙ ap (λ (r : List ℕ). b ++ r) last)

note-few : (e : Exec) → note_count e ≤ 1
note-few e = go e.notes refl
  where
    go : (n : Option (List ℕ)) → e.notes ≡ n → note_count e ≤ 1
    go None is = rw is (omega arith)
    go (Some note) is = rw is (omega arith)

-- there is room for the program headers in front of the bodies
pub whole-few : (e : Exec) (l : Layout) → IsWhole e l → length e.segments ≤ 16 → length l.programs.items ≤ 17
whole-few e l h few = omega (arith, ap length h.programs_are, length-programs e, note-few e)

pub whole-room : (e : Exec) (l : Layout) → IsWhole e l → 64 + 56 * length l.programs.items ≤ length l.bytes.items
whole-room e l h =
    let count : length l.programs.items ≡ length (programs e) = ap length h.programs_are in
    let room = length-append (replicate (front_size e) 0) (bodies e) in
    sums (length l.programs.items) (length (programs e)) (front_size e) (length l.bytes.items) _ (length (bodies e)) count (front-room e) (ap length h.bytes ∙ room) (length-replicate {A = ℕ} (front_size e) 0)
  where
    sums : (m n f all r b : ℕ) → m ≡ n → 64 + 56 * n ≡ f → all ≡ r + b → r ≡ f → 64 + 56 * m ≤ all
    sums m n f all r b e1 e2 e3 e4 = omega arith

pub made-is : (e : Exec) (l : Layout) → IsWhole e l → made e l ≡ written e
made-is e l h =
    let n = length (programs e) in
    let count : length l.programs.items ≡ n = ap length h.programs_are in
    let end : length l.bytes.items ≡ after 8 (note_end e) (contents (table_parts e)) = ap length h.bytes ∙ bodies-end e in
    let sections_n : n + 4 ≡ length (sections e) + 1 = omega (arith, length-programs e, length-sections e) in
    let head : exec_header e.entry (aligned 8 (length l.bytes.items)) (length l.programs.items) (length l.programs.items + 4) ≡ exec_header e.entry (section_table_place e) n (length (sections e) + 1) =
    ap (λ (k : ℕ). exec_header e.entry (aligned 8 k) (length l.programs.items) (length l.programs.items + 4)) end
    ∙ ap (λ (k : ℕ). exec_header e.entry (section_table_place e) k (k + 4)) count
    ∙ ap (exec_header e.entry (section_table_place e) n) sections_n in
    let headers = section_table e in
    let g = gap 8 (length l.bytes.items) in
    let room = replicate (front_size e) 0 in
    let tail : drop (64 + 56 * length l.programs.items) (l.bytes.items ++ (replicate g 0 ++ l.headers.items))
    ≡ spaced 4096 (front_size e) (bytes_of e.segments) ++ (spaced 8 (segments_end e) (own_note e) ++ spaced 8 (note_end e) (contents (table_parts e) ++ headers ∷ [])) =
    ap (λ (k : ℕ). drop (64 + 56 * k) (l.bytes.items ++ (replicate g 0 ++ l.headers.items))) count
    ∙ ap (λ (k : ℕ). drop k (l.bytes.items ++ (replicate g 0 ++ l.headers.items))) (front-room e)
    ∙ ap (λ (r : List ℕ). drop (front_size e) (l.bytes.items ++ (replicate g 0 ++ r))) h.headers
    ∙ ap (λ (r : List ℕ). drop (front_size e) (r ++ (replicate g 0 ++ headers))) h.bytes
    ∙ ap (drop (front_size e)) (append_assoc room (bodies e) (replicate g 0 ++ headers))
    ∙ drop_at room (bodies e ++ (replicate g 0 ++ headers)) (front_size e) (length-replicate {A = ℕ} (front_size e) 0)
    ∙ behind-front e g headers (ap (gap 8) end) in
    ap (λ (r : List ℕ). (r ++ flat_map program_bytes l.programs.items) ++ drop (64 + 56 * length l.programs.items) (l.bytes.items ++ (replicate g 0 ++ l.headers.items))) head
    ∙ ap (λ (ps : List ProgramHeader). (exec_header e.entry (section_table_place e) n (length (sections e) + 1) ++ flat_map program_bytes ps) ++ drop (64 + 56 * length l.programs.items) (l.bytes.items ++ (replicate g 0 ++ l.headers.items))) h.programs_are
    ∙ ap (λ (r : List ℕ). (exec_header e.entry (section_table_place e) n (length (sections e) + 1) ++ flat_map program_bytes (programs e)) ++ r) tail
    ∙ append_assoc (exec_header e.entry (section_table_place e) n (length (sections e) + 1)) (flat_map program_bytes (programs e)) _
