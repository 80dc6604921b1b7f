-- All sections of an object, laid out, are the file.
use Rattle.std.proofs.Common.{◌≡◌, ℕ, ◌+◌, Bool, true, false, cond, List, [], ◌∷◌, ◌++◌, length, map, count_by, drop, replicate, codes, refl, sym, ap, subst, ◌∙◌, arith}
use Rattle.std.specs.Vec.{vec_len}
use Rattle.std.specs.List.{flat_map, enumerate_from}
use Rattle.std.proofs.lemmas.List.{length-append, length-map}
use Rattle.std.proofs.lemmas.List.Concat.{flat_map-append}
use Rattle.std.proofs.lemmas.List.Sums.{sum_by-cons}
use Rattle.cet_elf.specs.declared.object.Section.{Section}
use Rattle.cet_elf.specs.declared.object.Object.{Object}
use Rattle.cet_elf.specs.declared.layout.Layout.{Layout}
use Rattle.cet_elf.specs.Written.{Part, ended, stored, placed, section_part, note_parts, rela_parts, relas_of, rela_part, has_relocations, symbol_part, symbol_names, string_part, string_table, symtab_number, named_parts, names_part, parts, object_header, written, section_headers}
use Rattle.cet_elf.specs.Layout.{Adds, IsStart}
use Rattle.cet_elf.proofs.Layouts.{Adds-then, part_names, headers_from}

one_or_none : (b : Bool) (p : Part) → length (cond b (p ∷ []) []) ≡ cond b 1 0
one_or_none true p = refl
one_or_none false p = refl

-- there is a relocation section for each section that has relocations
length-relas : (symtab n : ℕ) (xs : List Section) → length (flat_map (λ s. relas_of symtab s.0 s.1) (enumerate_from n xs)) ≡ count_by has_relocations xs
length-relas symtab n [] = refl
length-relas symtab n (x ∷ xs) =
    let first = one_or_none (has_relocations x) (rela_part symtab n x) in
    let others = length-relas symtab (n + 1) xs in
    let both = length-append (relas_of symtab n x) (flat_map (λ s. relas_of symtab s.0 s.1) (enumerate_from (n + 1) xs)) in
    let sum = sum_by-cons (λ (s : Section). cond (has_relocations s) 1 0) x xs in
    both ∙ ap (λ (m : ℕ). m + length (flat_map (λ s. relas_of symtab s.0 s.1) (enumerate_from (n + 1) xs))) first ∙ ap (λ (m : ℕ). cond (has_relocations x) 1 0 + m) others ∙ sym sum

pub length-rela_parts : (symtab : ℕ) (xs : List Section) → length (rela_parts symtab xs) ≡ count_by has_relocations xs
length-rela_parts symtab xs = length-relas symtab 0 xs

-- the number of sections of the file
pub length-named_parts : (o : Object) → length (named_parts o) ≡ symtab_number o + 1
length-named_parts o =
    let a = map section_part o.sections in
    let n = note_parts o.notes in
    let r = rela_parts (symtab_number o) o.sections in
    let s = symbol_part (symtab_number o) o.symbols ∷ string_part (codes ".strtab") (symbol_names o.symbols) ∷ [] in
    omega (arith, length-append a (n ++ (r ++ s)), length-append n (r ++ s), length-append r s, length-map o.sections section_part, length-rela_parts (symtab_number o) o.sections)

pub length-parts : (o : Object) → length (parts o) ≡ symtab_number o + 2
length-parts o = omega (arith, length-append (named_parts o) (names_part o ∷ []), length-named_parts o)

-- the sections of an object, laid out from the start on
pub laid_out : (o : Object) (start one two three four five : Layout) → IsStart start → Adds start one (map section_part o.sections) → Adds one two (note_parts o.notes)
    → Adds two three (rela_parts (symtab_number o) o.sections)
    → Adds three four (symbol_part (symtab_number o) o.symbols ∷ string_part (codes ".strtab") (symbol_names o.symbols) ∷ [])
    → Adds four five (string_part (codes ".shstrtab") (four.names.items ++ ended (codes ".shstrtab")) ∷ [])
    → Adds start five (parts o)
laid_out o start one two three four five begins first second third fourth last =
    let named : Adds start four (named_parts o) =
    Adds-then start one four _ _ first (Adds-then one two four _ _ second (Adds-then two three four _ _ third fourth)) in
    let all = map (λ (p : Part). p.name) (named_parts o) in
    let own = codes ".shstrtab" in
    let table : four.names.items ++ ended own ≡ string_table (all ++ own ∷ []) =
    ap (λ (r : List ℕ). r ++ ended own) (named.names ∙ ap (λ (r : List ℕ). r ++ part_names (named_parts o)) begins.names)
    ∙ ap (λ (r : List ℕ). 0 ∷ r) (sym (flat_map-append ended all (own ∷ []))) in
    Adds-then start four five _ _ named (subst (λ (t : List ℕ). Adds four five (string_part own t ∷ [])) table last)

-- and the file that is made of them
pub whole_file : (o : Object) (start end : Layout) (file : List ℕ) (count : ℕ) → IsStart start → Adds start end (parts o) → count ≡ symtab_number o + 3
    → file ≡ object_header (vec_len end.bytes) count ++ (drop 64 end.bytes.items ++ end.headers.items) → file ≡ written o
whole_file o start end file count begins adds number is =
    let ps = parts o in
    let room : end.bytes.items ≡ replicate 64 0 ++ stored ps = adds.bytes ∙ ap (λ (r : List ℕ). r ++ stored ps) begins.bytes in
    let place : vec_len end.bytes ≡ 64 + length (stored ps) = omega (arith, end.bytes.ok.0, ap length room, length-append (replicate 64 0) (stored ps)) in
    let sections : count ≡ length ps + 1 = omega (arith, length-parts o) in
    let headers : end.headers.items ≡ section_headers (placed 64 1 ps) =
    adds.headers
    ∙ ap (λ (r : List ℕ). r ++ headers_from (length start.bytes.items) (length start.names.items) ps) begins.headers
    ∙ ap (λ (n : ℕ). replicate 64 0 ++ headers_from n (length start.names.items) ps) (ap length begins.bytes)
    ∙ ap (λ (n : ℕ). replicate 64 0 ++ headers_from 64 n ps) (ap length begins.names) in
    is
    ∙ ap (λ (n : ℕ). object_header n count ++ (drop 64 end.bytes.items ++ end.headers.items)) place
    ∙ ap (λ (n : ℕ). object_header (64 + length (stored ps)) n ++ (drop 64 end.bytes.items ++ end.headers.items)) sections
    ∙ ap (λ (r : List ℕ). object_header (64 + length (stored ps)) (length ps + 1) ++ (drop 64 r ++ end.headers.items)) room
    ∙ ap (λ (r : List ℕ). object_header (64 + length (stored ps)) (length ps + 1) ++ (stored ps ++ r)) headers
