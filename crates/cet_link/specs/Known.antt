-- What a table of names says of the symbols that were met: this project's own.
use Rattle.std.specs.Prelude.{◌≡◌, ℕ, if◌then◌else◌, List, [], ◌++◌, map, filter, Option, None, Some, option_and_then, Result, MatchResult}
use Rattle.std.specs.Option.{option_map, option_or}
use Rattle.std.specs.Str.{bytes_eq}
use Rattle.indexmap.specs.IndexMap.{get_by, keys}
use Rattle.cet_elf.specs.declared.object.Bind.{Bind}
use Rattle.cet_elf.specs.declared.object.Bind.TheVariants as binds
use Rattle.cet_link.specs.declared.error.LinkError.{LinkError}
use Rattle.cet_link.specs.declared.names.Seen.{Seen}
use Rattle.cet_link.specs.declared.names.Names.{Names}
use Rattle.cet_link.specs.First.{IsFirst}
use Rattle.cet_link.specs.Inputs.{Met}
use Rattle.cet_link.specs.Linked.{is_kept}
use Rattle.cet_link.specs.Names.{is_global, is_defined, definition_of, names_met}

-- a symbol as it is seen
abbrev pub met_of : Seen → Met
met_of s = record { input = s.input; symbol = s.symbol.now }

-- what is known of a name that was met: the definition that counts, if there is one
abbrev pub known_at : Names → List ℕ → Option (Option Seen)
known_at names name = get_by (λ key. bytes_eq name key.now) names.known

abbrev pub definition_in : Names → List ℕ → Option Met
definition_in names name = option_map met_of (option_and_then (λ known. known) (known_at names name))

-- the names that were met, in their order
abbrev pub names_in : Names → List (List ℕ)
names_in names = map (λ key. key.now) (keys names.known)

-- the table of these symbols
pub record AreNames (met : List Met) (names : Names) : Type 0 where
  pub definitions : (name : List ℕ) → definition_in names name ≡ definition_of met name
  pub listed : names_in names ≡ names_met met

-- the definition that counts behind one known, once this symbol of the same name is met
abbrev pub counting_by : Bind → Option Met → Met → Option Met
counting_by binds.Global None m = Some m
counting_by binds.Global (Some d) m = if is_global d.symbol.bind then Some d else Some m
counting_by binds.Weak known m = option_or known (Some m)
counting_by binds.Local known m = known

abbrev pub counting : Option Met → Met → Option Met
counting known m = if is_defined m.symbol.place then counting_by m.symbol.bind known m else known

-- a definition that is global
abbrev pub if_global : Option Met → Option Met
if_global None = None
if_global (Some d) = if is_global d.symbol.bind then Some d else None

-- the table knows these symbols besides those before
abbrev pub Meets : Names → Names → List Met → Type 0
Meets old new met = (before : List Met) → AreNames before old → AreNames (before ++ met) new

-- symbols were gone through behind those before: they have no fault and are in the table, or the first fault was refused
abbrev pub Scans : Names → Names → Result (Unit {0}) LinkError → (List Met → List LinkError) → List Met → Type 0
Scans old new result faults met =
    (before : List Met) → AreNames before old → MatchResult result (λ _. (faults before ≡ []) × AreNames (before ++ met) new) (λ e. IsFirst e (faults before))

-- symbols are added to those of the output: of these ones those that it keeps
abbrev pub Keeps : List Seen → List Seen → List Met → Type 0
Keeps old new met = map met_of new ≡ map met_of old ++ filter (λ m. is_kept m.symbol) met
