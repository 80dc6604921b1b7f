-- The sections of a written file by what they are for.
use Rattle.std.proofs.Common.{◌≡◌, ℕ, ◌+◌, Bool, true, false, cond, List, [], ◌∷◌, ◌++◌, length, map, codes, Option, Some, None, refl, sym, ap, ◌∙◌, arith}
use Rattle.std.specs.List.{flat_map, enumerate_from}
use Rattle.std.proofs.lemmas.List.{append_assoc, length-map, map-append}
use Rattle.cet_elf.specs.declared.object.Section.{Section}
use Rattle.cet_elf.specs.declared.object.Object.{Object}
use Rattle.cet_elf.specs.Written.{Part, section_part, note_part, note_parts, rela_parts, relas_of, rela_part, has_relocations, symbol_part, symbol_names, string_part, symtab_number, names_part, parts}
use Rattle.cet_elf.proofs.FileTable.{null_part}
use Rattle.cet_elf.proofs.WholeFile.{length-parts}

pub data Item : Type 0 where
  null : Item
  loaded : Section → Item
  note : List ℕ → Item
  rela : ℕ → Section → Item
  symbols : Item
  strings : Item
  names : Item

abbrev pub part_of : Object → Item → Part
part_of o null = null_part
part_of o (loaded s) = section_part s
part_of o (note bytes) = note_part bytes
part_of o (rela number s) = rela_part (symtab_number o) number s
part_of o symbols = symbol_part (symtab_number o) o.symbols
part_of o strings = string_part (codes ".strtab") (symbol_names o.symbols)
part_of o names = names_part o

abbrev pub note_items : Option (List ℕ) → List Item
note_items None = []
note_items (Some bytes) = note bytes ∷ []

abbrev pub rela_item : ℕ → Section → List Item
rela_item number s = cond (has_relocations s) (rela number s ∷ []) []

abbrev pub relas_from : ℕ → List Section → List Item
relas_from n sections = flat_map (λ s. rela_item s.0 s.1) (enumerate_from n sections)

abbrev pub tables : List Item
tables = symbols ∷ strings ∷ names ∷ []

abbrev pub items : Object → List Item
items o = null ∷ (map loaded o.sections ++ (note_items o.notes ++ (relas_from 0 o.sections ++ tables)))

loaded_parts : (o : Object) (xs : List Section) → map (part_of o) (map loaded xs) ≡ map section_part xs
loaded_parts o [] = refl
loaded_parts o (x ∷ xs) = ap (λ (r : List Part). section_part x ∷ r) (loaded_parts o xs)

note_parts-is : (o : Object) (n : Option (List ℕ)) → map (part_of o) (note_items n) ≡ note_parts n
note_parts-is o None = refl
note_parts-is o (Some bytes) = refl

one_rela : (o : Object) (b : Bool) (n : ℕ) (s : Section) → map (part_of o) (cond b (rela n s ∷ []) []) ≡ cond b (rela_part (symtab_number o) n s ∷ []) []
one_rela o true n s = refl
one_rela o false n s = refl

rela_parts-is : (o : Object) (n : ℕ) (xs : List Section) → map (part_of o) (relas_from n xs) ≡ flat_map (λ s. relas_of (symtab_number o) s.0 s.1) (enumerate_from n xs)
rela_parts-is o n [] = refl
rela_parts-is o n (x ∷ xs) =
    map-append (part_of o) (rela_item n x) (relas_from (n + 1) xs)
    ∙ ap (λ (r : List Part). r ++ map (part_of o) (relas_from (n + 1) xs)) (one_rela o (has_relocations x) n x)
    ∙ ap (λ (r : List Part). relas_of (symtab_number o) n x ++ r) (rela_parts-is o (n + 1) xs)

-- the sections of the file are those of the items
pub parts-items : (o : Object) → map (part_of o) (items o) ≡ null_part ∷ parts o
parts-items o =
    let a = map loaded o.sections in
    let n = note_items o.notes in
    let r = relas_from 0 o.sections in
    let of = map (part_of o) in
    let last : List Part = symbol_part (symtab_number o) o.symbols ∷ string_part (codes ".strtab") (symbol_names o.symbols) ∷ [] in
    let all : of (a ++ (n ++ (r ++ tables))) ≡ map section_part o.sections ++ (note_parts o.notes ++ (rela_parts (symtab_number o) o.sections ++ of tables)) =
    map-append (part_of o) a (n ++ (r ++ tables))
    ∙ ap (λ (x : List Part). x ++ of (n ++ (r ++ tables))) (loaded_parts o o.sections)
    ∙ ap (λ (x : List Part). map section_part o.sections ++ x) (map-append (part_of o) n (r ++ tables)
    ∙ ap (λ (x : List Part). x ++ of (r ++ tables)) (note_parts-is o o.notes)
    ∙ ap (λ (x : List Part). note_parts o.notes ++ x) (map-append (part_of o) r tables ∙ ap (λ (x : List Part). x ++ of tables) (rela_parts-is o 0 o.sections))) in
    let grouped : map section_part o.sections ++ (note_parts o.notes ++ (rela_parts (symtab_number o) o.sections ++ of tables)) ≡ parts o = simp append_assoc in
    ap (λ (x : List Part). null_part ∷ x) (all ∙ grouped)

pub length-items : (o : Object) → length (items o) ≡ symtab_number o + 3
length-items o = omega (arith, sym (length-map (items o) (part_of o)), ap length (parts-items o), length-parts o)
