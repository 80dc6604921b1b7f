-- Which definition counts for a name (gABI, "Symbol Table", symbol bindings).
use Rattle.std.specs.Prelude.{ℕ, Bool, true, false, not, ◌&&◌, if◌then◌else◌, List, [], ◌∷◌, ◌++◌, map, filter, Option}
use Rattle.std.specs.Option.{option_or}
use Rattle.std.specs.List.{list_any, find}
use Rattle.std.specs.Str.{bytes_eq}
use Rattle.cet_elf.specs.declared.object.Symbol.{Symbol}
use Rattle.cet_elf.specs.declared.object.Bind.{Bind}
use Rattle.cet_elf.specs.declared.object.Bind.TheVariants as binds
use Rattle.cet_elf.specs.declared.object.SymbolPlace.{SymbolPlace}
use Rattle.cet_elf.specs.declared.object.SymbolPlace.TheVariants as places
use Rattle.cet_link.specs.Inputs.{Met}

-- STB_LOCAL: seen in its own input alone. STB_GLOBAL and STB_WEAK are seen by name in all inputs
abbrev pub is_local : Bind → Bool
is_local binds.Local = true
is_local _ = false

abbrev pub is_global : Bind → Bool
is_global binds.Global = true
is_global _ = false

abbrev pub is_weak : Bind → Bool
is_weak binds.Weak = true
is_weak _ = false

-- SHN_UNDEF and SHN_COMMON
abbrev pub is_undefined : SymbolPlace → Bool
is_undefined places.Undefined = true
is_undefined _ = false

abbrev pub is_common : SymbolPlace → Bool
is_common places.Common = true
is_common _ = false

-- a symbol with a value of its own
abbrev pub is_defined : SymbolPlace → Bool
is_defined place = not (is_undefined place) && not (is_common place)

abbrev pub is_global_definition : Symbol → Bool
is_global_definition s = is_global s.bind && is_defined s.place

abbrev pub is_weak_definition : Symbol → Bool
is_weak_definition s = is_weak s.bind && is_defined s.place

-- it defines this name, bound as a global one or as a weak one
abbrev pub defines_global : List ℕ → Met → Bool
defines_global name m = is_global_definition m.symbol && bytes_eq m.symbol.name name

abbrev pub defines_weak : List ℕ → Met → Bool
defines_weak name m = is_weak_definition m.symbol && bytes_eq m.symbol.name name

-- The definition that counts: the first global one, or else the first weak one
unfoldable pub definition_of : List Met → List ℕ → Option Met
definition_of met name = option_or (find (defines_global name) met) (find (defines_weak name) met)

-- the names of symbols that are not local
abbrev pub shared_names : List Met → List (List ℕ)
shared_names met = map (λ m. m.symbol.name) (filter (λ m. not (is_local m.symbol.bind)) met)

abbrev pub is_among : List ℕ → List (List ℕ) → Bool
is_among name names = list_any (bytes_eq name) names

-- behind the names seen, each other name once, where it is first met
abbrev pub each_once : List (List ℕ) → List (List ℕ) → List (List ℕ)
each_once seen [] = seen
each_once seen (name ∷ names) = each_once (if is_among name seen then seen else seen ++ name ∷ []) names

-- the names, each where a symbol that is not local first has it, an undefined one too
abbrev pub names_met : List Met → List (List ℕ)
names_met met = each_once [] (shared_names met)
