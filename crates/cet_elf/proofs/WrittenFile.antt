-- What is written for a regular object is a file of its sections.
use Rattle.std.proofs.Common.{◌≡◌, ℕ, suc, ◌+◌, ◌-◌, ◌*◌, ◌<◌, ◌≤◌, ◌^◌, Bool, true, false, cond, List, [], ◌∷◌, ◌++◌, length, map, get_or, codes, Option, Some, None, refl, sym, ap, ◌∙◌, subst, arith, lit≤}
use Rattle.std.specs.List.{flat_map, enumerate_from, sum_by}
use Rattle.std.proofs.lemmas.List.{length-append, map-append, get_or_at}
use Rattle.std.proofs.lemmas.List.Elements.{All-get_or}
use Rattle.std.proofs.lemmas.List.Sums.{sum_by-cons}
use Rattle.cet_elf.specs.declared.object.Section.{Section}
use Rattle.cet_elf.specs.declared.object.Object.{Object}
use Rattle.cet_elf.specs.Regular.{IsRegular, FitsTypes}
use Rattle.cet_elf.specs.Written.{Part, ended, stored, has_relocations, section_part, note_parts, relas_of, rela_part, rela_parts, symbol_part, symbol_names, string_part, symtab_number, named_parts, names_part, parts, placed, section_headers, object_header, written}
use Rattle.cet_elf.proofs.Layouts.{part_names, part_names-append}
use Rattle.cet_elf.proofs.FileTable.{FitsPart, IsFile, HasPart, has_part, null_part}
use Rattle.cet_elf.proofs.WholeFile.{length-parts}
use Rattle.cet_elf.proofs.Items.{null, part_of, items, length-items}
use Rattle.cet_elf.proofs.RegularItems.{IsItem, items-are, symtab-few, fits_item, content-le, item-at}

pub ended-le : (name : List ℕ) → length (ended name) ≤ length name + 1
ended-le [] = omega arith
ended-le (c ∷ name) = omega (arith, length-append (c ∷ name) (0 ∷ []))

section_names-le : (xs : List Section) → length (part_names (map section_part xs)) ≤ sum_by (λ s. length s.name) xs + length xs
section_names-le [] = omega arith
section_names-le (x ∷ xs) =
    omega (arith, section_names-le xs, ended-le x.name, length-append (ended x.name) (part_names (map section_part xs)), sum_by-cons (λ (s : Section). length s.name) x xs)

rela_names-le : (symtab n : ℕ) (xs : List Section) → length (part_names (flat_map (λ s. relas_of symtab s.0 s.1) (enumerate_from n xs))) ≤ sum_by (λ s. length s.name) xs + 6 * length xs
rela_names-le symtab n [] = omega arith
rela_names-le symtab n (x ∷ xs) = go (has_relocations x) (rela_names-le symtab (n + 1) xs)
  where
    go : (b : Bool) → length (part_names (flat_map (λ s. relas_of symtab s.0 s.1) (enumerate_from (n + 1) xs))) ≤ sum_by (λ s. length s.name) xs + 6 * length xs
        → length (part_names (cond b (rela_part symtab n x ∷ []) [] ++ flat_map (λ s. relas_of symtab s.0 s.1) (enumerate_from (n + 1) xs))) ≤ sum_by (λ s. length s.name) (x ∷ xs) + 6 * suc (length xs)
    go true h =
        omega (
          arith,
          h,
          ended-le (codes ".rela" ++ x.name),
          length-append (codes ".rela") x.name,
          sum_by-cons (λ (s : Section). length s.name) x xs,
          length-append (ended (codes ".rela" ++ x.name)) (part_names (flat_map (λ s. relas_of symtab s.0 s.1) (enumerate_from (n + 1) xs))),
        )
    go false h = omega (arith, h, sum_by-cons (λ (s : Section). length s.name) x xs)

note_names-le : (n : Option (List ℕ)) → length (part_names (note_parts n)) ≤ 20
note_names-le None = omega arith
note_names-le (Some bytes) = lit≤ tt

names_short : (o : Object) → IsRegular o → length (part_names (parts o)) + 1 < 2 ^ 32
names_short o regular =
    let s = map section_part o.sections in
    let n = note_parts o.notes in
    let r = rela_parts (symtab_number o) o.sections in
    let t : List Part = symbol_part (symtab_number o) o.symbols ∷ string_part (codes ".strtab") (symbol_names o.symbols) ∷ [] in
    let last : length (part_names t) ≡ 16 = refl in
    let own : length (part_names (names_part o ∷ [])) ≡ 10 = refl in
    omega (
      arith,
      section_names-le o.sections,
      rela_names-le (symtab_number o) 0 o.sections,
      note_names-le o.notes,
      regular.few_name_bytes,
      regular.few_sections,
      last,
      own,
      ap length (part_names-append (named_parts o) (names_part o ∷ [])),
      length-append (part_names (named_parts o)) (part_names (names_part o ∷ [])),
      ap length (part_names-append s (n ++ (r ++ t))),
      length-append (part_names s) (part_names (n ++ (r ++ t))),
      ap length (part_names-append n (r ++ t)),
      length-append (part_names n) (part_names (r ++ t)),
      ap length (part_names-append r t),
      length-append (part_names r) (part_names t),
    )

names-are : (o : Object) → (get_or (parts o) (length (parts o) - 1) null_part).content ≡ 0 ∷ part_names (parts o)
names-are o =
    let named = named_parts o in
    let last = names_part o in
    let at : length (parts o) - 1 ≡ length named = omega (arith, length-append named (last ∷ [])) in
    ap (λ (k : ℕ). (get_or (parts o) k null_part).content) at
    ∙ ap (λ (p : Part). p.content) (get_or_at named last [] null_part (length named) refl)
    ∙ ap (λ (xs : List (List ℕ)). 0 ∷ flat_map ended xs) (sym (map-append (λ (p : Part). p.name) named (last ∷ [])))

stored-short : (o : Object) → length (written o) < 2 ^ 64 → length (stored (parts o)) < 2 ^ 64
stored-short o short =
    let ps = parts o in
    let front = object_header (64 + length (stored ps)) (length ps + 1) in
    let back = section_headers (placed 64 1 ps) in
    omega (arith, short, length-append front (stored ps ++ back), length-append (stored ps) back)

pub written-IsFile : (o : Object) → IsRegular o → FitsTypes o → length (written o) < 2 ^ 64 → IsFile (written o) (parts o)
written-IsFile o regular fits short =
    let few = symtab-few o regular in
    let count = length-parts o in
    record {
      is = refl;
      some = omega arith;
      few = omega arith;
      short = short;
      fits = λ k lt.
          let i : suc k < length (items o) = omega (arith, length-items o) in
          let same = item-at o (suc k) i in
          let is = All-get_or (IsItem o) (items o) (suc k) null i (items-are o regular fits) in
          let long : length (part_of o (get_or (items o) (suc k) null)).content < 2 ^ 64 = omega (arith, content-le (parts o) k lt, ap (λ (p : Part). length p.content) same, stored-short o short) in
          subst FitsPart (sym same) (fits_item o (get_or (items o) (suc k) null) regular is long);
      names = names-are o;
      names_short = names_short o regular;
    }

-- each section of the file is read as the item that it was written for
pub has_item : (o : Object) (i : ℕ) → IsRegular o → FitsTypes o → length (written o) < 2 ^ 64 → i < length (items o) → HasPart (written o) i (part_of o (get_or (items o) i null))
has_item o i regular fits short lt =
    subst (HasPart (written o) i) (item-at o i lt) (has_part (written o) (parts o) i (written-IsFile o regular fits short) (omega (arith, length-items o, length-parts o)))
