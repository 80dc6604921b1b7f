-- What is wrong with inputs whose notes were read, in the order in which it is looked for: this project's own, for the bindings the gABI's
-- ("Symbol Table"). The first fault counts.
use Rattle.std.specs.Prelude.{ℕ, ◌+◌, ◌-◌, ◌^◌, ◌&&◌, not, nat_le, nat_lt, is_none, Bool, true, false, if◌then◌else◌, List, [], ◌∷◌, ◌++◌, length, Option}
use Rattle.std.specs.Option.{option_map_or}
use Rattle.std.specs.List.{flat_map, list_any, find, sum_by}
use Rattle.cet_elf.specs.declared.object.Bind.{Bind}
use Rattle.cet_elf.specs.declared.object.Bind.TheVariants as binds
use Rattle.cet_elf.specs.declared.object.Class.TheVariants.{Group}
use Rattle.cet_elf.specs.declared.object.Object.{Object}
use Rattle.cet_elf.specs.declared.object.Rela.{Rela}
use Rattle.cet_elf.specs.declared.object.SymbolKind.{SymbolKind}
use Rattle.cet_elf.specs.declared.object.SymbolKind.TheVariants as kinds
use Rattle.cet_link.specs.declared.error.LinkError.{LinkError}
use Rattle.cet_link.specs.declared.error.LinkError.TheVariants as fault
use Rattle.cet_link.specs.First.{where_true}
use Rattle.cet_link.specs.Inputs.{Met, Part, symbols_of, symbols, parts}
use Rattle.cet_link.specs.Names.{is_global_definition, is_undefined, is_common, defines_global, definition_of}
use Rattle.cet_link.specs.Places.{is_class, code_start, code_end, read_start, read_end, write_start, write_end}
use Rattle.cet_link.specs.Patched.{relocated, sum_fits}
use Rattle.cet_link.specs.Linked.{kept_symbols}

-- ---- each input: section groups, and its symbols

-- an input with a section group
abbrev pub group_faults : ℕ → Object → List LinkError
group_faults input o = where_true (list_any (λ s. is_class Group s.class) o.sections) (fault.Group input)

-- a common symbol
abbrev pub common_faults : Met → List LinkError
common_faults m = where_true (is_common m.symbol.place) (fault.Common m.symbol.name m.input)

-- a second global definition of a name, where this is the first
abbrev pub duplicate_fault : Option Met → Met → List LinkError
duplicate_fault first m =
    if is_global_definition m.symbol then option_map_or (λ d. fault.Duplicate m.symbol.name d.input m.input ∷ []) first [] else []

-- where the first is among the symbols before
abbrev pub duplicate_faults : List Met → Met → List LinkError
duplicate_faults before m = duplicate_fault (find (defines_global m.symbol.name) before) m

-- symbols behind those before
abbrev pub symbol_faults : List Met → List Met → List LinkError
symbol_faults before [] = []
symbol_faults before (m ∷ others) = (common_faults m ++ duplicate_faults before m) ++ symbol_faults (before ++ m ∷ []) others

-- inputs numbered from `input` on, behind the symbols of those before
abbrev pub input_faults : List Met → ℕ → List Object → List LinkError
input_faults before input [] = []
input_faults before input (o ∷ others) =
    (group_faults input o ++ symbol_faults before (symbols_of input o)) ++ input_faults (before ++ symbols_of input o) (input + 1) others

-- ---- each symbol: what is not defined

-- an undefined symbol of this binding is a fault where its name has no definition; a local one always is, and a weak one never
abbrev pub is_unresolved : Bind → Option Met → Bool
is_unresolved binds.Local definition = true
is_unresolved binds.Global definition = is_none definition
is_unresolved binds.Weak definition = false

abbrev pub unresolved_fault : Option Met → Met → List LinkError
unresolved_fault definition m = where_true (is_undefined m.symbol.place && is_unresolved m.symbol.bind definition) (fault.Undefined m.symbol.name m.input)

abbrev pub undefined_fault : List Met → Met → List LinkError
undefined_fault met m = unresolved_fault (definition_of met m.symbol.name) m

abbrev pub undefined_faults : List Met → List Met → List LinkError
undefined_faults met of = flat_map (undefined_fault met) of

-- ---- the entry

-- the kinds that an entry may have: STT_NOTYPE and STT_FUNC
abbrev pub is_entry : SymbolKind → Bool
is_entry kinds.None = true
is_entry kinds.Func = true
is_entry _ = false

-- no definition counts for the entry's name, or it has another kind
abbrev pub is_entry_point : Option Met → Bool
is_entry_point definition = option_map_or (λ m. is_entry m.symbol.kind) definition false

abbrev pub entry_faults : List Met → List ℕ → List LinkError
entry_faults met entry = where_true (not (is_entry_point (definition_of met entry))) fault.NoEntry

-- ---- sizes

-- no class passes 16,777,216 bytes
abbrev pub classes_fit : List Object → List ℕ → Bool
classes_fit inputs note =
    nat_le (code_end inputs - code_start) 16777216 && nat_le (read_end inputs note - read_start inputs) 16777216
    && nat_le (write_end inputs note - write_start inputs note) 16777216

-- the names of the output's symbols are together below 2^31 bytes
abbrev pub names_fit : List Met → Bool
names_fit met = nat_lt (sum_by (λ m. length m.symbol.name) (kept_symbols met)) (2 ^ 31)

abbrev pub size_faults : List Object → List ℕ → List LinkError
size_faults inputs note = where_true (not (classes_fit inputs note && names_fit (symbols inputs))) fault.TooLarge

-- ---- relocations whose sums do not fit

abbrev pub overflow_fault : List Object → List ℕ → Part → Rela → List LinkError
overflow_fault inputs note p r = where_true (not (sum_fits r.kind (relocated inputs note p r))) (fault.Overflow p.input p.number r.offset)

abbrev pub overflow_faults : List Object → List ℕ → List Part → List LinkError
overflow_faults inputs note of = flat_map (λ p. flat_map (overflow_fault inputs note p) p.section.relocations) of

-- ---- all

unfoldable pub faults : List Object → List ℕ → List ℕ → List LinkError
faults inputs entry note =
    input_faults [] 0 inputs
    ++ (undefined_faults (symbols inputs) (symbols inputs)
    ++ (entry_faults (symbols inputs) entry
    ++ (size_faults inputs note
    ++ overflow_faults inputs note (parts inputs))))
