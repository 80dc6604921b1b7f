-- The symbols of an object, made from its definitions and uses.
use Rattle.std.proofs.Common.{◌≡◌, ℕ, Bool, ◌||◌, List, [], ◌∷◌, ◌++◌, map, filter, Option, is_some, unwrap_or, refl, ap, ◌∙◌, not}
use Rattle.std.specs.List.{position_from, list_any, flat_map}
use Rattle.std.specs.Str.{bytes_eq}
use Rattle.std.proofs.lemmas.List.{map-append}
use Rattle.std.proofs.lemmas.List.Folds.{list_any-append}
use Rattle.cet_elf.specs.declared.object.Symbol.{Symbol}
use Rattle.cet_elf.specs.declared.object.Bind.{Bind}
use Rattle.cet_elf.specs.declared.object.Bind.TheVariants as bind
use Rattle.cet_syntax.specs.declared.statement.SectionName.{SectionName}
use Rattle.cet_asm.specs.declared.definition.Definition.{Definition}
use Rattle.cet_asm.specs.declared.placed.Placed.{Placed}
use Rattle.cet_asm.specs.Assembled.{is_among, each_once, entry_0, undefined_symbol, symbol_of, symbols, symbol_number, section_number, global_names, is_global, locals, globals, undefined, definitions, used_names}
use Rattle.cet_asm.specs.Whole.{numbers_agree, number_by, numbered_symbol, is_bound, first_uses}
use Rattle.cet_asm.proofs.Lists.{any-parted, filter-same, map-same, map-map, any-map}
use Rattle.cet_asm.proofs.SymbolNames.{each_once-same}

-- a definition's symbol, where the numbers of sections are known
made : (placed : List Placed) (b : Bind) (number : SectionName → ℕ) (ds : List Definition) → ((s : SectionName) → number s ≡ section_number placed s)
    → map (λ d. numbered_symbol b (number d.section) d) ds ≡ map (symbol_of placed b) ds
made placed b number ds same = map-same (λ d. numbered_symbol b (number d.section) d) (symbol_of placed b) ds (λ d. ap (λ (n : ℕ). numbered_symbol b n d) (same d.section))

named : (placed : List Placed) (b : Bind) (ds : List Definition) → map (λ s. s.name) (map (symbol_of placed b) ds) ≡ map (λ d. d.name) ds
named placed b ds = map-map (symbol_of placed b) (λ s. s.name) ds

used_named : (names : List (List ℕ)) → map (λ s. s.name) (map undefined_symbol names) ≡ names
used_named [] = refl
used_named (n ∷ names) = ap (λ (rest : List (List ℕ)). n ∷ rest) (used_named names)

abbrev local_symbols : List Placed → List Symbol
local_symbols placed = map (symbol_of placed bind.Local) (locals placed)

abbrev global_symbols : List Placed → List Symbol
global_symbols placed = map (symbol_of placed bind.Global) (globals placed)

defined_names : (placed : List Placed) → map (λ s. s.name) (local_symbols placed ++ global_symbols placed) ≡ map (λ d. d.name) (locals placed) ++ map (λ d. d.name) (globals placed)
defined_names placed =
    let split : map (λ s. s.name) (local_symbols placed ++ global_symbols placed) ≡ map (λ s. s.name) (local_symbols placed) ++ map (λ s. s.name) (global_symbols placed) =
    map-append (λ s. s.name) (local_symbols placed) (global_symbols placed) in
    let first = named placed bind.Local (locals placed) in
    let second = named placed bind.Global (globals placed) in
    cc

among_defined : (placed : List Placed) (name : List ℕ)
    → is_among name (map (λ s. s.name) (local_symbols placed ++ global_symbols placed)) ≡ is_among name (map (λ d. d.name) (definitions placed))
among_defined placed name =
    let p : List ℕ → Bool = λ other. bytes_eq other name in
    let names : map (λ s. s.name) (local_symbols placed ++ global_symbols placed) ≡ map (λ d. d.name) (locals placed) ++ map (λ d. d.name) (globals placed) = defined_names placed in
    let split : list_any p (map (λ d. d.name) (locals placed) ++ map (λ d. d.name) (globals placed)) ≡ (list_any p (map (λ d. d.name) (locals placed)) || list_any p (map (λ d. d.name) (globals placed))) =
    list_any-append p (map (λ d. d.name) (locals placed)) (map (λ d. d.name) (globals placed)) in
    let one = any-map (λ (d : Definition). d.name) p (locals placed) in
    let two = any-map (λ (d : Definition). d.name) p (globals placed) in
    let all = any-map (λ (d : Definition). d.name) p (definitions placed) in
    let parts = any-parted (λ (d : Definition). bytes_eq d.name name) (is_global placed) (definitions placed) in
    ap (λ (n : List (List ℕ)). list_any p n) names ∙ cc

-- the symbols that are made are those of the object
pub symbols_made : (placed : List Placed) (entries : List ℕ → Option ℕ) (number : SectionName → ℕ) → ((name : List ℕ) → is_some (entries name) ≡ is_among name (global_names placed))
    → ((s : SectionName) → number s ≡ section_number placed s)
    → let first = entry_0 ∷ map (λ d. numbered_symbol bind.Local (number d.section) d) (filter (λ d. is_bound bind.Local (entries d.name)) (definitions placed)) in
    let both = first ++ map (λ d. numbered_symbol bind.Global (number d.section) d) (filter (λ d. is_bound bind.Global (entries d.name)) (definitions placed)) in
    both ++ first_uses both (flat_map used_names placed) ≡ symbols placed
symbols_made placed entries number global same =
    let ds = definitions placed in
    let local : filter (λ d. is_bound bind.Local (entries d.name)) ds ≡ locals placed =
    filter-same (λ (d : Definition). is_bound bind.Local (entries d.name)) (λ (d : Definition). not (is_global placed d)) ds (λ d. ap not (global d.name)) in
    let wide : filter (λ d. is_bound bind.Global (entries d.name)) ds ≡ globals placed =
    filter-same (λ (d : Definition). is_bound bind.Global (entries d.name)) (is_global placed) ds (λ d. global d.name) in
    let one : map (λ d. numbered_symbol bind.Local (number d.section) d) (locals placed) ≡ local_symbols placed = made placed bind.Local number (locals placed) same in
    let two : map (λ d. numbered_symbol bind.Global (number d.section) d) (globals placed) ≡ global_symbols placed = made placed bind.Global number (globals placed) same in
    let seen : each_once (map (λ s. s.name) (local_symbols placed ++ global_symbols placed)) (flat_map used_names placed) ≡ undefined placed =
    each_once-same (map (λ s. s.name) (local_symbols placed ++ global_symbols placed)) (map (λ d. d.name) ds) (flat_map used_names placed) (among_defined placed) in
    rw (local, wide, one, two) (ap (λ (names : List (List ℕ)). entry_0 ∷ (local_symbols placed ++ global_symbols placed ++ map undefined_symbol names)) seen)

-- the number of a name is that of its symbol
pub number_found : (placed : List Placed) (numbers : List ℕ → Option ℕ) → numbers_agree numbers (symbols placed) → (name : List ℕ) → number_by numbers name ≡ symbol_number placed name
number_found placed numbers agree name =
    let defined = local_symbols placed ++ global_symbols placed in
    let split : map (λ s. s.name) (defined ++ map undefined_symbol (undefined placed)) ≡ map (λ s. s.name) defined ++ map (λ s. s.name) (map undefined_symbol (undefined placed)) =
    map-append (λ s. s.name) defined (map undefined_symbol (undefined placed)) in
    let first = defined_names placed in
    let last = used_named (undefined placed) in
    let names : map (λ s. s.name) (defined ++ map undefined_symbol (undefined placed)) ≡ map (λ d. d.name) (locals placed) ++ map (λ d. d.name) (globals placed) ++ undefined placed = cc in
    ap (λ (o : Option ℕ). unwrap_or o 0) (agree name ∙ ap (λ (n : List (List ℕ)). position_from (bytes_eq name) 1 n) names)
