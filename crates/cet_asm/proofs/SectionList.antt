-- The sections of an object, made one by one.
use Rattle.std.proofs.Common.{◌≡◌, ℕ, Bool, true, false, cond, List, [], ◌∷◌, ◌++◌, map, filter, unwrap_or, refl, ap, sym, ◌∙◌, append_assoc}
use Rattle.std.proofs.lemmas.List.{append-nil}
use Rattle.std.specs.List.{position_from}
use Rattle.cet_elf.specs.declared.object.Section.{Section}
use Rattle.cet_syntax.specs.declared.statement.SectionName.{SectionName}
use Rattle.cet_syntax.specs.declared.statement.SectionName.TheVariants.{Text, Rodata, Data, Bss}
use Rattle.cet_asm.specs.declared.kept.Kept.{Kept}
use Rattle.cet_asm.specs.declared.placed.Placed.{Placed}
use Rattle.cet_asm.specs.Emitted.{Targets}
use Rattle.cet_asm.specs.Assembled.{same_section, is_kept, kept, section_number, section_size, section_of, symbol_number, definitions, targets_in}
use Rattle.cet_asm.specs.Whole.{is_kept_in, kept_number, section_by, sections_by}
use Rattle.cet_asm.proofs.Lists.{filter-same, map-same}

abbrev all_sections : List SectionName
all_sections = Text ∷ Rodata ∷ Data ∷ Bss ∷ []

counted : (r d b : Bool) (s : SectionName) → let k : Kept = record { rodata = r; «data» = d; bss = b } in kept_number k s ≡ unwrap_or (position_from (same_section s) 0 (filter (is_kept_in k) all_sections)) 0
counted true true true Text = refl
counted true true true Rodata = refl
counted true true true Data = refl
counted true true true Bss = refl
counted true true false Text = refl
counted true true false Rodata = refl
counted true true false Data = refl
counted true true false Bss = refl
counted true false true Text = refl
counted true false true Rodata = refl
counted true false true Data = refl
counted true false true Bss = refl
counted true false false Text = refl
counted true false false Rodata = refl
counted true false false Data = refl
counted true false false Bss = refl
counted false true true Text = refl
counted false true true Rodata = refl
counted false true true Data = refl
counted false true true Bss = refl
counted false true false Text = refl
counted false true false Rodata = refl
counted false true false Data = refl
counted false true false Bss = refl
counted false false true Text = refl
counted false false true Rodata = refl
counted false false true Data = refl
counted false false true Bss = refl
counted false false false Text = refl
counted false false false Rodata = refl
counted false false false Data = refl
counted false false false Bss = refl

-- the number of a section among those that are kept
pub number_kept : (placed : List Placed) (k : Kept) → ((s : SectionName) → is_kept_in k s ≡ is_kept placed s) → (s : SectionName) → kept_number k s ≡ section_number placed s
number_kept placed k same s =
    counted k.rodata k.data k.bss s ∙ ap (λ (names : List SectionName). unwrap_or (position_from (same_section s) 0 names) 0) (filter-same (is_kept_in k) (is_kept placed) all_sections same)

section_made : (placed : List Placed) (name : SectionName) → section_by (symbol_number placed) (targets_in (definitions placed)) placed name (section_size name placed) ≡ section_of placed name
section_made placed Text = refl
section_made placed Rodata = refl
section_made placed Data = refl
section_made placed Bss = refl

-- the sections that are made are those of the object
pub sections_made : (placed : List Placed) (k : Kept) (number : List ℕ → ℕ) (targets : Targets) (size : SectionName → ℕ) → ((s : SectionName) → is_kept_in k s ≡ is_kept placed s)
    → ((name : List ℕ) → number name ≡ symbol_number placed name) → targets ≡ targets_in (definitions placed) → ((s : SectionName) → size s ≡ section_size s placed)
    → sections_by (is_kept_in k) (λ name. section_by number targets placed name (size name)) ≡ map (section_of placed) (kept placed)
sections_made placed k number targets size same numbers defined sizes =
    let names : number ≡ symbol_number placed = λ i name. numbers name i in
    let each : (name : SectionName) → section_by number targets placed name (size name) ≡ section_of placed name =
    λ name. rw (names, defined, sizes name) (section_made placed name) in
    ap (λ (kept_ones : List SectionName). map (λ name. section_by number targets placed name (size name)) kept_ones) (filter-same (is_kept_in k) (is_kept placed) all_sections same)
    ∙ map-same (λ name. section_by number targets placed name (size name)) (section_of placed) (kept placed) each

-- a section more, where it is kept
pub more_kept : (p : SectionName → Bool) (make : SectionName → Section) (name : SectionName) (others : List SectionName)
    → map make (filter p (name ∷ others)) ≡ cond (p name) (make name ∷ []) [] ++ map make (filter p others)
more_kept p make name others =
    elim (p name) as (λ b. map make (cond b (name ∷ filter p others) (filter p others)) ≡ cond b (make name ∷ []) [] ++ map make (filter p others)) [ true ↦ refl | false ↦ refl ]

abbrev one : (SectionName → Bool) → (SectionName → Section) → SectionName → List Section
one p make name = cond (p name) (make name ∷ []) []

-- one section after the other
pub four : (p : SectionName → Bool) (make : SectionName → Section) (none a b c d : List Section) → none ≡ [] → a ≡ none ++ one p make Text → b ≡ a ++ one p make Rodata
    → c ≡ b ++ one p make Data → d ≡ c ++ one p make Bss → d ≡ sections_by p make
four p make none a b c d zero first second third fourth =
    let target : sections_by p make ≡ one p make Text ++ (one p make Rodata ++ (one p make Data ++ (one p make Bss ++ []))) =
    more_kept p make Text (Rodata ∷ Data ∷ Bss ∷ []) ∙ ap (λ (x : List Section). one p make Text ++ x)
    (more_kept p make Rodata (Data ∷ Bss ∷ []) ∙ ap (λ (x : List Section). one p make Rodata ++ x)
    (more_kept p make Data (Bss ∷ []) ∙ ap (λ (x : List Section). one p make Data ++ x) (more_kept p make Bss []))) in
    let built : d ≡ one p make Text ++ one p make Rodata ++ one p make Data ++ one p make Bss = rw (fourth, third, second, first, zero) refl in
    built ∙ (regrouped (one p make Text) (one p make Rodata) (one p make Data) (one p make Bss) ∙ sym target) where
      regrouped : (t r e l : List Section) → t ++ r ++ e ++ l ≡ t ++ (r ++ (e ++ (l ++ [])))
      regrouped t r e l = append_assoc (t ++ r) e l ∙ (append_assoc t r (e ++ l) ∙ ap (λ (x : List Section). t ++ (r ++ (e ++ x))) (sym (append-nil l)))
