-- What is known of the statements of a whole text while its object is made: this project's own.
use Rattle.std.specs.Prelude.{◌≡◌, ℕ, ◌+◌, ◌-◌, Bool, true, not, if◌then◌else◌, List, [], ◌∷◌, map, filter, Option, Some, None, unwrap_or, is_some}
use Rattle.std.specs.Option.{option_map}
use Rattle.std.specs.List.{flat_map, position_from}
use Rattle.std.specs.Str.{bytes_eq}
use Rattle.cet_elf.specs.declared.object.Bind.{Bind}
use Rattle.cet_elf.specs.declared.object.Bind.TheVariants as bind
use Rattle.cet_elf.specs.declared.object.SymbolPlace.TheVariants as place
use Rattle.cet_elf.specs.declared.object.Rela.{Rela}
use Rattle.cet_elf.specs.declared.object.Section.{Section}
use Rattle.cet_elf.specs.declared.object.Symbol.{Symbol}
use Rattle.cet_syntax.specs.declared.statement.SectionName.{SectionName}
use Rattle.cet_syntax.specs.declared.statement.SectionName.TheVariants.{Text, Rodata, Data, Bss}
use Rattle.cet_syntax.specs.declared.statement.NoteWords.{NoteWords}
use Rattle.cet_asm.specs.declared.kept.Kept.{Kept}
use Rattle.cet_asm.specs.declared.symbols.Symbols.{Symbols}
use Rattle.cet_asm.specs.declared.usage.Use.{Use}
use Rattle.cet_elf.specs.declared.object.SymbolKind.TheVariants as kind
use Rattle.cet_syntax.specs.declared.template.Code.TheVariants as code
use Rattle.cet_syntax.specs.declared.statement.Directive.{Directive}
use Rattle.cet_syntax.specs.declared.statement.Directive.TheVariants as directive
use Rattle.cet_syntax.specs.declared.statement.Statement.{Statement}
use Rattle.cet_syntax.specs.declared.statement.Statement.TheVariants as statement
use Rattle.cet_asm.specs.declared.error.AsmKind.{AsmKind}
use Rattle.cet_asm.specs.declared.error.AsmKind.TheVariants as fault
use Rattle.cet_asm.specs.declared.definition.Definition.{Definition}
use Rattle.cet_asm.specs.declared.placed.Placed.{Placed}
use Rattle.cet_asm.specs.declared.placed.Spot.{Spot}
use Rattle.cet_asm.specs.declared.placed.Step.{Step}
use Rattle.cet_asm.specs.declared.placed.Step.TheVariants.{Label, States}
use Rattle.cet_asm.specs.Tables.{number_at}
use Rattle.cet_asm.specs.Emitted.{Targets, emitted, padding, moved}
use Rattle.cet_asm.specs.Assembled.{ends_function, end_among, short_fault, undefined_symbol, each_once, in_section, section_text, section_class, step_bytes, no_targets, uses_of}

-- where the first `.end` of later statements stands
abbrev pub end_of : List Placed → Option ℕ
end_of later = option_map (λ p. p.spot.offset) (end_among later)

-- the same, with a statement before them
abbrev pub end_from : Placed → Option ℕ → Option ℕ
end_from p end = if ends_function p.step then Some p.spot.offset else end

-- what a directive defines, where the next `.end` stands at `end`
abbrev pub defines_at : Spot → Directive → Option ℕ → List Definition
defines_at spot (directive.Func name) end =
    record { name = name; kind = kind.Func; section = spot.section; value = spot.offset; size = unwrap_or end 0 - spot.offset } ∷ []
defines_at spot (directive.Object name size) end =
    record { name = name; kind = kind.Object; section = spot.section; value = spot.offset + padding 8 spot.offset; size = size } ∷ []
defines_at spot _ end = []

abbrev pub step_defines : Spot → Step → Option ℕ → List Definition
step_defines spot (Label name) end = record { name = name; kind = kind.None; section = spot.section; value = spot.offset; size = 0 } ∷ []
step_defines spot (States (statement.Directive d)) end = defines_at spot d end
step_defines spot (States _) end = []

-- what a statement defines, where the next `.end` stands at `end`
abbrev pub defined_at : Placed → Option ℕ → List Definition
defined_at p end = step_defines p.spot p.step end

abbrev pub step_late : Targets → Spot → Step → Option ℕ → Option AsmKind
step_late targets spot (States (statement.Code (code.Short c name))) end = short_fault targets spot name
step_late targets spot (States (statement.Directive (directive.Func name))) end = if is_some end then None else Some fault.Word
step_late targets spot _ end = None

-- what is wrong with a statement when the whole text is known, where the next `.end` stands at `end`
abbrev pub late_at : Targets → Placed → Option ℕ → Option AsmKind
late_at targets p end = step_late targets p.spot p.step end

-- ---- which sections there are

-- whether an object has the section
abbrev pub is_kept_in : Kept → SectionName → Bool
is_kept_in k Text = true
is_kept_in k Rodata = k.rodata
is_kept_in k Data = k.data
is_kept_in k Bss = k.bss

-- the number of a section that the object has
abbrev pub kept_number : Kept → SectionName → ℕ
kept_number k Text = 0
kept_number k Rodata = if k.rodata then 1 else 0
kept_number k Data = if k.data then 1 + (if k.rodata then 1 else 0) else 0
kept_number k Bss = if k.bss then 1 + (if k.rodata then 1 else 0) + (if k.data then 1 else 0) else 0

-- ---- symbols

-- the names of the symbols behind entry 0
abbrev pub names_behind : List Symbol → List (List ℕ)
names_behind [] = []
names_behind (s ∷ ss) = map (λ t. t.name) ss

-- each name has the number of its first symbol behind entry 0
abbrev pub numbers_agree : (List ℕ → Option ℕ) → List Symbol → Type 0
numbers_agree numbers [] = ⊥
numbers_agree numbers (s ∷ ss) = (name : List ℕ) → numbers name ≡ position_from (bytes_eq name) 1 (map (λ t. t.name) ss)

abbrev pub IsNumbered : Symbols → Type 0
IsNumbered s = numbers_agree (number_at s.numbers) s.list

-- the symbol of a definition, in the section of this number
abbrev pub numbered_symbol : Bind → ℕ → Definition → Symbol
numbered_symbol b number d = record { name = d.name; kind = d.kind; bind = b; place = place.In number; value = d.value; size = d.size }

-- whether a name is bound so, by its entry among the global names
abbrev pub is_bound : Bind → Option ℕ → Bool
is_bound bind.Global entry = is_some entry
is_bound _ entry = not (is_some entry)

-- the symbols of the definitions that are bound so, by the entries of global names
abbrev pub bound_symbols : Bind → (List ℕ → Option ℕ) → Kept → List Definition → List Symbol
bound_symbols b entries k ds = map (λ d. numbered_symbol b (kept_number k d.section) d) (filter (λ d. is_bound b (entries d.name)) ds)

-- the symbols of the names that have none yet
abbrev pub first_uses : List Symbol → List (List ℕ) → List Symbol
first_uses list names = map undefined_symbol (each_once (names_behind list) names)

-- the name that a statement makes global
abbrev pub made_global : Step → List (List ℕ)
made_global (States (statement.Directive (directive.Global name))) = name ∷ []
made_global _ = []

-- the names that a statement uses, in the order in which it writes them
abbrev pub used_by : Spot → Statement → List (List ℕ)
used_by spot (statement.Code (code.Short c name)) = name ∷ []
used_by spot st = map (λ u. u.name) (emitted no_targets spot st).uses

-- ---- sections

-- the relocation of a field, by the numbers of names
abbrev pub relocation_by : (List ℕ → ℕ) → Use → Rela
relocation_by number u = record { offset = u.offset; kind = u.kind; symbol = number u.name; addend = u.addend }

-- the number of a name, which is 0 where it has none
abbrev pub number_by : (List ℕ → Option ℕ) → List ℕ → ℕ
number_by numbers name = unwrap_or (numbers name) 0

abbrev pub relocations_by : (List ℕ → ℕ) → Targets → Placed → List Rela
relocations_by number targets p = map (λ u. relocation_by number (moved p.spot.offset u)) (uses_of targets p)

-- the bytes of the statements of a section
abbrev pub bytes_of : Targets → SectionName → List Placed → List ℕ
bytes_of targets section placed = flat_map (step_bytes targets) (in_section section placed)

-- their relocations
abbrev pub relocations_of : (List ℕ → ℕ) → Targets → SectionName → List Placed → List Rela
relocations_of number targets section placed = flat_map (relocations_by number targets) (in_section section placed)

abbrev pub bytes_by : Targets → List Placed → SectionName → List ℕ
bytes_by targets placed Bss = []
bytes_by targets placed section = bytes_of targets section placed

-- a section of this size, by the numbers of names and by where they are defined
abbrev pub section_by : (List ℕ → ℕ) → Targets → List Placed → SectionName → ℕ → Section
section_by number targets placed name size =
    record { name = section_text name; class = section_class name; align = 16; size = size; bytes = bytes_by targets placed name; relocations = relocations_of number targets name placed }

-- the sections that are kept, in their order
abbrev pub sections_by : (SectionName → Bool) → (SectionName → Section) → List Section
sections_by is_kept make = map make (filter is_kept (Text ∷ Rodata ∷ Data ∷ Bss ∷ []))

-- ---- the note

abbrev pub step_words : Step → List NoteWords
step_words (States (statement.Directive (directive.Note words))) = words ∷ []
step_words _ = []

abbrev pub first_note : List NoteWords → Option NoteWords
first_note [] = None
first_note (words ∷ others) = Some words
