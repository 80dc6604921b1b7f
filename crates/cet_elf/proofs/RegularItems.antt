-- What a regular object says of the sections of its file.
use Rattle.std.proofs.Common.{◌≡◌, ◌≢◌, ℕ, zero, suc, ◌+◌, ◌-◌, ◌%◌, ◌<◌, ◌≤◌, ◌^◌, Bool, true, false, cond, eqb, ltb, List, [], ◌∷◌, ◌++◌, length, map, get_or, replicate, Option, Some, None, All, refl, sym, ap, ◌∙◌, subst, arith, lit≤, lit<, add-zero}
use Rattle.std.proofs.lemmas.List.{length-append, get_or-map}
use Rattle.std.proofs.lemmas.List.Elements.{All-nil, All-cons, All-append, All-map, All-get_or, All-from_get_or}
use Rattle.cet_elf.specs.declared.object.Class.{Class}
use Rattle.cet_elf.specs.declared.object.Class.TheVariants as classes
use Rattle.cet_elf.specs.declared.object.Section.{Section}
use Rattle.cet_elf.specs.declared.object.Symbol.{Symbol}
use Rattle.cet_elf.specs.declared.object.Object.{Object}
use Rattle.cet_elf.specs.Consistent.{HasNoZero, IsConsistentSection, HasItsBytes, IsAlignment}
use Rattle.cet_elf.specs.ObjectSections.{is_alignment}
use Rattle.cet_elf.specs.Regular.{IsRegular, FitsTypes, RelaFits}
use Rattle.cet_elf.specs.Written.{Part, padded, stored, type_of, flags_of, is_local, locals_end, has_relocations, note_parts, symtab_number, parts}
use Rattle.cet_elf.proofs.FileTable.{FitsPart, null_part}
use Rattle.cet_elf.proofs.Items.{Item, null, loaded, note, rela, symbols, strings, names, part_of, note_items, rela_item, relas_from, tables, items, parts-items}

-- a section of the object
pub record IsSectionOf (o : Object) (s : Section) : Type 0 where
  pub consistent : IsConsistentSection (length o.symbols) s
  pub name : HasNoZero s.name
  pub no_group : s.class ≢ classes.Group
  pub zeros : s.class ≡ classes.Zero → s.relocations ≡ []
  pub size : s.size < 2 ^ 64
  pub numbers : All RelaFits s.relocations

abbrev pub no_section : Section
no_section = record { name = []; class = classes.Read; align = 1; size = 0; bytes = []; relocations = [] }

-- section `number` of the object
pub record IsNumbered (o : Object) (number : ℕ) (s : Section) : Type 0 where
  pub section : IsSectionOf o s
  pub there : number < length o.sections
  pub at : get_or o.sections number no_section ≡ s

abbrev pub IsItem : Object → Item → Type 0
IsItem o null = Unit {0}
IsItem o (loaded s) = IsSectionOf o s
IsItem o (note bytes) = Unit {0}
IsItem o (rela number s) = IsNumbered o number s
IsItem o symbols = Unit {0}
IsItem o strings = Unit {0}
IsItem o names = Unit {0}

pub sections-are : (o : Object) → IsRegular o → FitsTypes o → (k : ℕ) → k < length o.sections → IsSectionOf o (get_or o.sections k no_section)
sections-are o regular fits k lt = record {
  consistent = All-get_or (IsConsistentSection (length o.symbols)) o.sections k no_section lt regular.consistent.sections;
  name = All-get_or (λ s. HasNoZero s.name) o.sections k no_section lt regular.section_names;
  no_group = All-get_or (λ s. s.class ≢ classes.Group) o.sections k no_section lt regular.no_group;
  zeros = All-get_or (λ s. s.class ≡ classes.Zero → s.relocations ≡ []) o.sections k no_section lt regular.zeros;
  size = All-get_or (λ s. s.size < 2 ^ 64) o.sections k no_section lt fits.sections;
  numbers = All-get_or (λ s. All RelaFits s.relocations) o.sections k no_section lt fits.relocations;
}

relas-are : (o : Object) (n : ℕ) (xs : List Section) → n + length xs ≤ length o.sections → ((k : ℕ) → k < length xs → IsNumbered o (n + k) (get_or xs k no_section)) → All (IsItem o) (relas_from n xs)
relas-are o n [] le h = All-nil (IsItem o)
relas-are o n (x ∷ xs) le h =
    let first : IsNumbered o n x = subst (λ (m : ℕ). IsNumbered o m x) (add-zero n) (h 0 (omega arith)) in
    let others = relas-are o (n + 1) xs (omega arith) (λ k lt. subst (λ (m : ℕ). IsNumbered o m (get_or xs k no_section)) (omega arith) (h (suc k) (omega arith))) in
    All-append (IsItem o) (rela_item n x) (relas_from (n + 1) xs) (go (has_relocations x) first) others
  where
    go : (b : Bool) → IsNumbered o n x → All (IsItem o) (cond b (rela n x ∷ []) [])
    go true is = All-cons (IsItem o) (rela n x) [] is (All-nil (IsItem o))
    go false is = All-nil (IsItem o)

pub notes-are : (o : Object) (n : Option (List ℕ)) → All (IsItem o) (note_items n)
notes-are o None = All-nil (IsItem o)
notes-are o (Some bytes) = All-cons (IsItem o) (note bytes) [] tt (All-nil (IsItem o))

pub items-are : (o : Object) → IsRegular o → FitsTypes o → All (IsItem o) (items o)
items-are o regular fits =
    let of = sections-are o regular fits in
    let first : All (IsItem o) (map loaded o.sections) = All-map (IsItem o) loaded o.sections (All-from_get_or (IsSectionOf o) o.sections no_section of) in
    let relas : All (IsItem o) (relas_from 0 o.sections) =
    relas-are o 0 o.sections (omega arith) (λ k lt. subst (λ (m : ℕ). IsNumbered o m (get_or o.sections k no_section)) (sym (zero_add k)) (record { section = of k lt; there = lt; at = refl })) in
    let last : All (IsItem o) tables = All-cons (IsItem o) symbols (strings ∷ names ∷ []) tt (All-cons (IsItem o) strings (names ∷ []) tt (All-cons (IsItem o) names [] tt (All-nil (IsItem o)))) in
    All-cons (IsItem o) null (map loaded o.sections ++ (note_items o.notes ++ (relas_from 0 o.sections ++ tables))) tt
    (All-append (IsItem o) (map loaded o.sections) (note_items o.notes ++ (relas_from 0 o.sections ++ tables)) first
    (All-append (IsItem o) (note_items o.notes) (relas_from 0 o.sections ++ tables) (notes-are o o.notes)
    (All-append (IsItem o) (relas_from 0 o.sections) tables relas last)))
  where
    zero_add : (k : ℕ) → 0 + k ≡ k
    zero_add k = omega arith

-- ---- the numbers of the sections fit their fields

pub power-is : (k : ℕ) → k ≤ 12 → (is_alignment (2 ^ k) ≡ true) × (2 ^ k ≤ 4096) × (eqb (2 ^ k) 0 ≡ false)
power-is zero le = (refl, lit≤ tt, refl)
power-is (suc zero) le = (refl, lit≤ tt, refl)
power-is (suc (suc zero)) le = (refl, lit≤ tt, refl)
power-is (suc (suc (suc zero))) le = (refl, lit≤ tt, refl)
power-is (suc (suc (suc (suc zero)))) le = (refl, lit≤ tt, refl)
power-is (suc (suc (suc (suc (suc zero))))) le = (refl, lit≤ tt, refl)
power-is (suc (suc (suc (suc (suc (suc zero)))))) le = (refl, lit≤ tt, refl)
power-is (suc (suc (suc (suc (suc (suc (suc zero))))))) le = (refl, lit≤ tt, refl)
power-is (suc (suc (suc (suc (suc (suc (suc (suc zero)))))))) le = (refl, lit≤ tt, refl)
power-is (suc (suc (suc (suc (suc (suc (suc (suc (suc zero))))))))) le = (refl, lit≤ tt, refl)
power-is (suc (suc (suc (suc (suc (suc (suc (suc (suc (suc zero)))))))))) le = (refl, lit≤ tt, refl)
power-is (suc (suc (suc (suc (suc (suc (suc (suc (suc (suc (suc zero))))))))))) le = (refl, lit≤ tt, refl)
power-is (suc (suc (suc (suc (suc (suc (suc (suc (suc (suc (suc (suc zero)))))))))))) le = (refl, lit≤ tt, refl)
power-is (suc (suc (suc (suc (suc (suc (suc (suc (suc (suc (suc (suc (suc k))))))))))))) le = absurd (omega arith)

pub align-is : (align : ℕ) → IsAlignment align → (is_alignment align ≡ true) × (align ≤ 4096) × (eqb align 0 ≡ false)
align-is align (k, le, is) = subst (λ (a : ℕ). (is_alignment a ≡ true) × (a ≤ 4096) × (eqb a 0 ≡ false)) (sym is) (power-is k le)

pub stored_size-is : (class : Class) (size : ℕ) (bytes : List ℕ) → HasItsBytes class size bytes → cond (eqb (type_of class) 8) 0 size ≡ length bytes
stored_size-is classes.Code size bytes h = sym h
stored_size-is classes.Read size bytes h = sym h
stored_size-is classes.Write size bytes h = sym h
stored_size-is classes.Zero size bytes h = sym (ap length h)
stored_size-is classes.Group size bytes h = sym h

class_numbers : (class : Class) → (type_of class < 2 ^ 32) × (flags_of class < 2 ^ 64)
class_numbers classes.Code = (lit< tt, lit< tt)
class_numbers classes.Read = (lit< tt, lit< tt)
class_numbers classes.Write = (lit< tt, lit< tt)
class_numbers classes.Zero = (lit< tt, lit< tt)
class_numbers classes.Group = (lit< tt, lit< tt)

pub locals_end-le : (xs : List Symbol) → locals_end xs ≤ length xs
locals_end-le [] = omega arith
locals_end-le (x ∷ xs) = go (ltb 0 (locals_end xs)) (is_local x.bind) (locals_end-le xs)
  where
    go : (b c : Bool) → locals_end xs ≤ length xs → cond b (locals_end xs + 1) (cond c 1 0) ≤ suc (length xs)
    go true c h = omega arith
    go false true h = omega arith
    go false false h = omega arith

note_count : (n : Option (List ℕ)) → length (note_parts n) ≤ 1
note_count None = omega arith
note_count (Some bytes) = omega arith

pub symtab-few : (o : Object) → IsRegular o → symtab_number o + 3 ≤ 4096
symtab-few o regular = omega (arith, regular.few_sections, note_count o.notes)

pub fits_item : (o : Object) (x : Item) → IsRegular o → IsItem o x → length (part_of o x).content < 2 ^ 64 → FitsPart (part_of o x)
fits_item o null regular is short = record { kind = lit< tt; flags = lit< tt; size = lit< tt; link = lit< tt; info = lit< tt; align = lit< tt; bytes = refl }
fits_item o (loaded s) regular is short =
    let numbers = class_numbers s.class in
    record {
      kind = numbers.0;
      flags = numbers.1;
      size = is.size;
      link = lit< tt;
      info = lit< tt;
      align = omega (arith, (align-is s.align is.consistent.align).1);
      bytes = stored_size-is s.class s.size s.bytes is.consistent.bytes;
    }
fits_item o (note bytes) regular is short = record { kind = lit< tt; flags = lit< tt; size = short; link = lit< tt; info = lit< tt; align = lit< tt; bytes = refl }
fits_item o (rela number s) regular is short = record {
  kind = lit< tt;
  flags = lit< tt;
  size = short;
  link = omega (arith, symtab-few o regular);
  info = omega (arith, is.there, regular.few_sections);
  align = lit< tt;
  bytes = refl;
}
fits_item o symbols regular is short = record {
  kind = lit< tt;
  flags = lit< tt;
  size = short;
  link = omega (arith, symtab-few o regular);
  info = omega (arith, locals_end-le o.symbols, regular.consistent.limits.symbols);
  align = lit< tt;
  bytes = refl;
}
fits_item o strings regular is short = record { kind = lit< tt; flags = lit< tt; size = short; link = lit< tt; info = lit< tt; align = lit< tt; bytes = refl }
fits_item o names regular is short = record { kind = lit< tt; flags = lit< tt; size = short; link = lit< tt; info = lit< tt; align = lit< tt; bytes = refl }

pub content-le : (ps : List Part) (k : ℕ) → k < length ps → length (get_or ps k null_part).content ≤ length (stored ps)
content-le [] k lt = absurd (omega arith)
content-le (p ∷ ps) zero lt =
    omega (arith, length-append (padded p.content) (stored ps), length-append p.content (replicate ((8 - length p.content % 8) % 8) 0))
content-le (p ∷ ps) (suc k) lt = omega (arith, content-le ps k (omega arith), length-append (padded p.content) (stored ps))

pub item-at : (o : Object) (i : ℕ) → i < length (items o) → get_or (null_part ∷ parts o) i null_part ≡ part_of o (get_or (items o) i null)
item-at o i lt = sym (ap (λ (ps : List Part). get_or ps i null_part) (parts-items o)) ∙ get_or-map (part_of o) (items o) i null null_part lt
