-- The object that is made is that of the definition.
use Rattle.std.proofs.Common.{◌≡◌, ℕ, Bool, ◌||◌, ◌==◌, not, List, [], ◌∷◌, ◌++◌, map, Option, Some, None, is_some, Result, Ok, Err, IfOk, IfErr, refl, ap, sym, subst, ◌∙◌}
use Rattle.std.specs.List.{list_any, flat_map}
use Rattle.cet_elf.specs.declared.object.Object.{Object}
use Rattle.cet_elf.specs.declared.object.Section.{Section}
use Rattle.cet_elf.specs.declared.object.Symbol.{Symbol}
use Rattle.cet_elf.specs.declared.object.Bind.TheVariants as bind
use Rattle.cet_syntax.specs.declared.statement.SectionName.{SectionName}
use Rattle.cet_syntax.specs.declared.statement.SectionName.TheVariants.{Text, Rodata, Data, Bss}
use Rattle.cet_asm.specs.declared.error.AsmError.{AsmError}
use Rattle.cet_asm.specs.declared.kept.Kept.{Kept}
use Rattle.cet_asm.specs.declared.definition.Definition.{Definition}
use Rattle.cet_asm.specs.declared.placed.Placed.{Placed}
use Rattle.cet_asm.specs.declared.cursor.Sizes.{Sizes}
use Rattle.cet_asm.specs.Placing.{AreSizes}
use Rattle.cet_asm.specs.Assembled.{entry_0, symbols, symbol_number, section_number, section_size, same_section, is_kept, is_among, global_names, definitions, used_names, section_of, kept, note_bytes, note_words, object_of, whole, first_late, targets_in}
use Rattle.cet_asm.specs.Emitted.{Targets}
use Rattle.cet_asm.specs.Whole.{bound_symbols, first_uses, kept_number, is_kept_in, numbers_agree, number_by}
use Rattle.cet_asm.proofs.SymbolList.{symbols_made, number_found}

pub symbols_from : (placed : List Placed) (entries : List ℕ → Option ℕ) (k : Kept) (ds : List Definition) (used : List (List ℕ)) (first locals both all : List Symbol)
    → ((name : List ℕ) → is_some (entries name) ≡ is_among name (global_names placed)) → ((s : SectionName) → kept_number k s ≡ section_number placed s)
    → ds ≡ definitions placed → used ≡ flat_map used_names placed → first ≡ entry_0 ∷ [] → locals ≡ first ++ bound_symbols bind.Local entries k ds
    → both ≡ locals ++ bound_symbols bind.Global entries k ds → all ≡ both ++ first_uses both used → all ≡ symbols placed
symbols_from placed entries k ds used first locals both all global kept defined uses zero one two three =
    rw (three, two, one, zero, defined, uses) (symbols_made placed entries (kept_number k) global kept)

pub numbers_from : (placed : List Placed) (numbers : List ℕ → Option ℕ) (list : List Symbol) → list ≡ symbols placed → numbers_agree numbers list → (name : List ℕ) → number_by numbers name ≡ symbol_number placed name
numbers_from placed numbers list same agree = number_found placed numbers (subst (λ (l : List Symbol). numbers_agree numbers l) same agree)

abbrev keeps : List Definition → ℕ → SectionName → Bool
keeps ds size s = not (size == 0) || list_any (λ d. same_section d.section s) ds

kept_one : (ds es : List Definition) (size other : ℕ) (s : SectionName) (b : Bool) → size ≡ other → ds ≡ es → b ≡ keeps ds size s → b ≡ keeps es other s
kept_one ds es size other s b same defined is = is ∙ (ap (λ (n : ℕ). keeps ds n s) same ∙ ap (λ (e : List Definition). keeps e other s) defined)

pub kept_all : (placed : List Placed) (ds : List Definition) (sizes : Sizes) (kr kd kb : Bool) → AreSizes sizes placed → ds ≡ definitions placed
    → kr ≡ keeps ds sizes.rodata Rodata → kd ≡ keeps ds sizes.data Data → kb ≡ keeps ds sizes.bss Bss
    → (s : SectionName) → is_kept_in (record { rodata = kr; «data» = kd; bss = kb }) s ≡ is_kept placed s
kept_all placed ds sizes kr kd kb sized defined re de be Text = refl
kept_all placed ds sizes kr kd kb sized defined re de be Rodata = kept_one ds (definitions placed) sizes.rodata (section_size Rodata placed) Rodata kr (sized Rodata) defined re
kept_all placed ds sizes kr kd kb sized defined re de be Data = kept_one ds (definitions placed) sizes.data (section_size Data placed) Data kd (sized Data) defined de
kept_all placed ds sizes kr kd kb sized defined re de be Bss = kept_one ds (definitions placed) sizes.bss (section_size Bss placed) Bss kb (sized Bss) defined be

pub answered : (wanted answer : Result Object AsmError) → wanted ≡ answer → IfOk answer (λ object. wanted ≡ Ok object)
answered wanted (Ok object) same = same
answered wanted (Err e) same = tt

pub refused : (wanted answer : Result Object AsmError) → wanted ≡ answer → IfErr answer (λ e. wanted ≡ Err e)
refused wanted (Ok object) same = tt
refused wanted (Err e) same = same

pub object_made : (placed : List Placed) (sections : List Section) (list : List Symbol) (notes : Option (List ℕ)) → sections ≡ map (section_of placed) (kept placed) → list ≡ symbols placed
    → notes ≡ note_bytes (note_words placed) → ◌≡◌ {A = Object} (record { sections = sections; symbols = list; notes = notes }) (object_of placed)
object_made placed sections list notes first second third = rw (first, second, third) refl

pub whole_late : (placed : List Placed) (targets : Targets) (e : AsmError) → targets ≡ targets_in (definitions placed) → Some e ≡ first_late targets placed → whole placed ≡ Err e
whole_late placed targets e same late =
    let found : first_late (targets_in (definitions placed)) placed ≡ Some e = ap (λ (t : Targets). first_late t placed) (sym same) ∙ sym late in
    rw found refl

pub whole_made : (placed : List Placed) (targets : Targets) → targets ≡ targets_in (definitions placed) → None ≡ first_late targets placed → whole placed ≡ Ok (object_of placed)
whole_made placed targets same late =
    let found : first_late (targets_in (definitions placed)) placed ≡ None = ap (λ (t : Targets). first_late t placed) (sym same) ∙ sym late in
    rw found refl
