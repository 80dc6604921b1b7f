-- The object of an assembly text, or the first thing wrong with the text.
use Rattle.std.specs.Prelude.{◌≡◌, ℕ, ◌+◌, ◌-◌, ◌^◌, Bool, true, false, not, ◌&&◌, ◌||◌, ◌==◌, nat_lt, nat_le, if◌then◌else◌, List, [], ◌∷◌, ◌++◌, length, map, filter, Option, Some, None, unwrap_or, is_some, is_none, Result, Ok, Err, codes}
use Rattle.std.specs.Option.{option_map, option_map_or, option_or, ok_or}
use Rattle.std.specs.List.{flat_map, list_any, list_all, find, position_from, sum_by}
use Rattle.std.specs.Int.{w8, w64}
use Rattle.std.specs.Str.{bytes_eq}
use Rattle.cet_isa.specs.Canonical.{fits}
use Rattle.cet_note.specs.Form.{written}
use Rattle.cet_elf.specs.declared.object.Class.{Class}
use Rattle.cet_elf.specs.declared.object.Class.TheVariants as class
use Rattle.cet_elf.specs.declared.object.SymbolKind.TheVariants as kind
use Rattle.cet_elf.specs.declared.object.Bind.{Bind}
use Rattle.cet_elf.specs.declared.object.Bind.TheVariants as bind
use Rattle.cet_elf.specs.declared.object.SymbolPlace.TheVariants as place
use Rattle.cet_elf.specs.declared.object.Rela.{Rela}
use Rattle.cet_elf.specs.declared.object.Section.{Section}
use Rattle.cet_elf.specs.declared.object.Symbol.{Symbol}
use Rattle.cet_elf.specs.declared.object.Object.{Object}
use Rattle.cet_syntax.specs.declared.error.SyntaxError.{SyntaxError}
use Rattle.cet_syntax.specs.declared.error.SyntaxError.TheVariants as syntax
use Rattle.cet_syntax.specs.declared.template.Code.TheVariants as code
use Rattle.cet_syntax.specs.declared.statement.SectionName.{SectionName}
use Rattle.cet_syntax.specs.declared.statement.SectionName.TheVariants.{Text, Rodata, Data, Bss}
use Rattle.cet_syntax.specs.declared.statement.NoteWords.{NoteWords}
use Rattle.cet_syntax.specs.declared.statement.Directive.{Directive}
use Rattle.cet_syntax.specs.declared.statement.Directive.TheVariants as directive
use Rattle.cet_syntax.specs.declared.statement.Statement.{Statement}
use Rattle.cet_syntax.specs.declared.statement.Statement.TheVariants as statement
use Rattle.cet_syntax.specs.declared.keyword.DirectiveWord.{DirectiveWord}
use Rattle.cet_syntax.specs.declared.keyword.DirectiveWord.TheVariants as word
use Rattle.cet_syntax.specs.declared.keyword.Keyword.{Keyword}
use Rattle.cet_syntax.specs.declared.keyword.Keyword.TheVariants as keyword
use Rattle.cet_syntax.specs.Keyword.{headed_by}
use Rattle.cet_syntax.specs.Statement.{statement_of}
use Rattle.cet_syntax.specs.declared.lines.Item.{Item}
use Rattle.cet_syntax.specs.declared.lines.Item.TheVariants as read
use Rattle.cet_syntax.specs.declared.lines.Numbered.{Numbered}
use Rattle.cet_syntax.specs.Lines.{items_in}
use Rattle.cet_asm.specs.declared.error.AsmKind.{AsmKind}
use Rattle.cet_asm.specs.declared.error.AsmKind.TheVariants as fault
use Rattle.cet_asm.specs.declared.error.AsmError.{AsmError}
use Rattle.cet_asm.specs.declared.usage.Use.{Use}
use Rattle.cet_asm.specs.declared.placed.Placed.{Placed}
use Rattle.cet_asm.specs.declared.placed.Step.{Step}
use Rattle.cet_asm.specs.declared.placed.Step.TheVariants.{Label, States}
use Rattle.cet_asm.specs.declared.placed.Spot.{Spot}
use Rattle.cet_asm.specs.declared.placed.Around.{Around}
use Rattle.cet_asm.specs.declared.definition.Definition.{Definition}
use Rattle.cet_asm.specs.Emitted.{Targets, emitted, moved, padding, short_distance, size_of}

infixl 10 ◌>>=◌
abbrev pub ◌>>=◌ : {A B E : Type 0} → Result A E → (A → Result B E) → Result B E
(Ok x) >>= f = f x
(Err e) >>= f = Err e

abbrev pub demand : Bool → AsmKind → Result (Unit {0}) AsmKind
demand rule broken = if rule then Ok tt else Err broken

-- ---- where statements stand

-- the section and function that the next statement stands in, and how many bytes each section has
pub record State : Type 0 where
  pub section : SectionName
  pub sizes : SectionName → ℕ
  pub around : Option Around

abbrev pub same_section : SectionName → SectionName → Bool
same_section Text Text = true
same_section Rodata Rodata = true
same_section Data Data = true
same_section Bss Bss = true
same_section _ _ = false

abbrev pub first_state : State
first_state = record { section = Text; sizes = λ section. 0; around = None }

abbrev pub spot_in : State → Spot
spot_in s = record { section = s.section; offset = s.sizes s.section; around = s.around }

abbrev pub grown : State → ℕ → State
grown s by = record { section = s.section; sizes = λ section. if same_section section s.section then s.sizes section + by else s.sizes section; around = s.around }

abbrev pub after_statement : State → Statement → State
after_statement s (statement.Directive (directive.Section name)) = record { section = name; sizes = s.sizes; around = s.around }
after_statement s (statement.Directive (directive.Func name)) = record { section = s.section; sizes = s.sizes; around = Some (record { name = name; start = s.sizes s.section }) }
after_statement s (statement.Directive directive.End) = record { section = s.section; sizes = s.sizes; around = None }
after_statement s other = grown s (size_of (s.sizes s.section) other)

abbrev pub after : State → Step → State
after s (Label name) = s
after s (States st) = after_statement s st

-- ---- names

abbrev pub is_among : List ℕ → List (List ℕ) → Bool
is_among name names = list_any (λ other. bytes_eq other name) names

-- each name once, where it comes first
abbrev pub each_once : List (List ℕ) → List (List ℕ) → List (List ℕ)
each_once seen [] = []
each_once seen (name ∷ names) = if is_among name seen then each_once seen names else name ∷ each_once (name ∷ seen) names

-- whether a statement ends the function before it
abbrev pub ends_function : Step → Bool
ends_function (States (statement.Directive directive.End)) = true
ends_function _ = false

-- the first `.end` among later statements
abbrev pub end_among : List Placed → Option Placed
end_among later = find (λ p. ends_function p.step) later

-- what a statement defines, by the statements behind it: a function ends at the next `.end`
abbrev pub defined_by : Placed → List Placed → List Definition
defined_by p later = by_step p.step where
  by_directive : Directive → List Definition
  by_directive (directive.Func name) =
      record { name = name; kind = kind.Func; section = p.spot.section; value = p.spot.offset; size = option_map_or (λ end. end.spot.offset - p.spot.offset) (end_among later) 0 } ∷ []
  by_directive (directive.Object name size) =
      record { name = name; kind = kind.Object; section = p.spot.section; value = p.spot.offset + padding 8 p.spot.offset; size = size } ∷ []
  by_directive _ = []

  by_step : Step → List Definition
  by_step (Label name) = record { name = name; kind = kind.None; section = p.spot.section; value = p.spot.offset; size = 0 } ∷ []
  by_step (States (statement.Directive d)) = by_directive d
  by_step (States _) = []

-- in their order
abbrev pub definitions : List Placed → List Definition
definitions [] = []
definitions (p ∷ later) = defined_by p later ++ definitions later

-- where a name is defined in a section
abbrev pub targets_in : List Definition → Targets
targets_in defined section name = option_map (λ d. d.value) (find (λ d. same_section d.section section && bytes_eq d.name name) defined)

abbrev pub no_targets : Targets
no_targets section name = None

-- the fields of a statement that wait for the value of a symbol
abbrev pub uses_of : Targets → Placed → List Use
uses_of targets p = by_step p.step where
  by_step : Step → List Use
  by_step (Label name) = []
  by_step (States st) = (emitted targets p.spot st).uses

-- the names that a statement uses, in the order in which it writes them: `.global` uses none
abbrev pub used_names : Placed → List (List ℕ)
used_names p = by_step p.step where
  by_step : Step → List (List ℕ)
  by_step (States (statement.Code (code.Short c name))) = name ∷ []
  by_step _ = map (λ u. u.name) (uses_of no_targets p)

abbrev pub global_names : List Placed → List (List ℕ)
global_names placed = flat_map (λ p. by_step p.step) placed where
  by_step : Step → List (List ℕ)
  by_step (States (statement.Directive (directive.Global name))) = name ∷ []
  by_step _ = []

abbrev pub note_words : List Placed → List NoteWords
note_words placed = flat_map (λ p. by_step p.step) placed where
  by_step : Step → List NoteWords
  by_step (States (statement.Directive (directive.Note words))) = words ∷ []
  by_step _ = []

-- the names that are defined or used
abbrev pub names_met : List Placed → List (List ℕ)
names_met placed = each_once [] (map (λ d. d.name) (definitions placed) ++ flat_map used_names placed)

-- ---- faults of a statement, by those before it

abbrev pub is_text : SectionName → Bool
is_text section = same_section section Text

abbrev pub is_bss : SectionName → Bool
is_bss section = same_section section Bss

-- whether a directive may stand here
abbrev pub directive_stands : State → DirectiveWord → Bool
directive_stands s word.Section = is_none s.around
directive_stands s word.Func = is_none s.around && is_text s.section
directive_stands s word.End = is_some s.around
directive_stands s word.Word = not (is_bss s.section)
directive_stands s word.Byte = not (is_bss s.section)
directive_stands s word.Off = not (is_bss s.section)
directive_stands s _ = true

-- instructions stand in text alone, sites within a function
abbrev pub stands : State → Keyword → Bool
stands s (keyword.Instruction word) = is_text s.section
stands s (keyword.Site word) = is_some s.around
stands s (keyword.Directive word) = directive_stands s word

abbrev pub kind_of : SyntaxError → AsmKind
kind_of syntax.Word = fault.Word
kind_of syntax.Operand = fault.Operand
kind_of syntax.Range = fault.Range

abbrev pub by_kind : {A : Type 0} → Result A SyntaxError → Result A AsmKind
by_kind (Ok x) = Ok x
by_kind (Err e) = Err (kind_of e)

-- a label of the section
abbrev pub is_label : SectionName → List ℕ → Placed → Bool
is_label section name p = same_section p.spot.section section && by_step p.step where
  by_step : Step → Bool
  by_step (Label other) = bytes_eq other name
  by_step (States st) = false

-- the table of `.off` is a label before it, in the same section
abbrev pub table_is_known : List Placed → State → Statement → Bool
table_is_known before s (statement.Directive (directive.Off name table)) = list_any (is_label s.section table) before
table_is_known before s other = true

-- an addend has 64 bits with its sign
abbrev pub addends_fit : List Use → Bool
addends_fit uses = list_all (λ u. fits w64 u.addend) uses

-- the limits of an object: 65,536 symbols, with the one that stands for entry 0, and 1,000,000 relocations
abbrev pub keeps_limits : List Placed → Bool
keeps_limits placed = nat_lt (length (names_met placed)) 65536 && nat_le (sum_by (λ p. length (uses_of no_targets p)) placed) 1000000

-- no name that is defined before is defined again, and there is one `.note`
abbrev pub defines_anew : List Placed → Placed → Bool
defines_anew before p =
    list_all (λ d. not (is_among d.name (map (λ e. e.name) (definitions before)))) (defined_by p []) && nat_le (length (note_words (before ++ p ∷ []))) 1

abbrev pub step_of : List Placed → State → Item → Result Step AsmKind
step_of before s (read.Label name) = Ok (Label name)
step_of before s (read.Body cs) = do
  headed ← ok_or (headed_by cs) fault.Word
  _ ← demand (stands s headed.keyword) fault.Word
  st ← by_kind (statement_of headed.keyword headed.rest)
  _ ← demand (table_is_known before s st) fault.Operand
  _ ← demand (nat_lt (s.sizes s.section + size_of (s.sizes s.section) st) (2 ^ 64)) fault.Range
  _ ← demand (addends_fit (emitted (targets_in (definitions before)) (spot_in s) st).uses) fault.Range
  Ok (States st)

-- the statement in its place, or the first thing wrong with it
abbrev pub placed_of : List Placed → State → Numbered → Result Placed AsmKind
placed_of before s item = do
  step ← step_of before s item.item
  let p : Placed = record { line = item.line; step = step; spot = spot_in s }
  _ ← demand (defines_anew before p) fault.Twice
  _ ← demand (keeps_limits (before ++ p ∷ [])) fault.TooMany
  Ok p

abbrev pub on_line : {A : Type 0} → ℕ → Result A AsmKind → Result A AsmError
on_line line (Ok x) = Ok x
on_line line (Err kind) = Err (record { line = line; kind = kind })

-- the statements in their places, behind those before
abbrev pub placed_from : List Placed → State → List Numbered → Result (List Placed) AsmError
placed_from before s [] = Ok before
placed_from before s (item ∷ items) = on_line item.line (placed_of before s item) >>= (λ p. placed_from (before ++ p ∷ []) (after s p.step) items)

-- ---- faults that show when the whole text is known

abbrev pub short_fault : Targets → Spot → List ℕ → Option AsmKind
short_fault targets spot name = by_target (targets spot.section name) where
  by_target : Option ℕ → Option AsmKind
  by_target None = Some fault.Label
  by_target (Some target) = if fits w8 (short_distance spot.offset target) then None else Some fault.Range

abbrev pub late_fault : Targets → Placed → List Placed → Option AsmKind
late_fault targets p later = by_step p.step where
  by_step : Step → Option AsmKind
  by_step (States (statement.Code (code.Short c name))) = short_fault targets p.spot name
  by_step (States (statement.Directive (directive.Func name))) = if is_some (end_among later) then None else Some fault.Word
  by_step _ = None

abbrev pub first_late : Targets → List Placed → Option AsmError
first_late targets [] = None
first_late targets (p ∷ later) = option_or (option_map (λ kind. record { line = p.line; kind = kind }) (late_fault targets p later)) (first_late targets later)

-- ---- the object

abbrev pub is_global : List Placed → Definition → Bool
is_global placed d = is_among d.name (global_names placed)

abbrev pub locals : List Placed → List Definition
locals placed = filter (λ d. not (is_global placed d)) (definitions placed)

abbrev pub globals : List Placed → List Definition
globals placed = filter (is_global placed) (definitions placed)

-- the names that are used and defined nowhere, in the order of their first use
abbrev pub undefined : List Placed → List (List ℕ)
undefined placed = each_once (map (λ d. d.name) (definitions placed)) (flat_map used_names placed)

-- what a section has of the statements
abbrev pub in_section : SectionName → List Placed → List Placed
in_section section placed = filter (λ p. same_section p.spot.section section) placed

abbrev pub step_size : Placed → ℕ
step_size p = by_step p.step where
  by_step : Step → ℕ
  by_step (Label name) = 0
  by_step (States st) = size_of p.spot.offset st

abbrev pub section_size : SectionName → List Placed → ℕ
section_size section placed = sum_by step_size (in_section section placed)

-- text always, and the sections that have bytes or a symbol
abbrev pub is_kept : List Placed → SectionName → Bool
is_kept placed section =
    is_text section || not (section_size section placed == 0) || list_any (λ d. same_section d.section section) (definitions placed)

abbrev pub kept : List Placed → List SectionName
kept placed = filter (is_kept placed) (Text ∷ Rodata ∷ Data ∷ Bss ∷ [])

abbrev pub section_number : List Placed → SectionName → ℕ
section_number placed section = unwrap_or (position_from (same_section section) 0 (kept placed)) 0

-- the number of a name's symbol: behind entry 0 stand the locals, the globals, then the undefined names
abbrev pub symbol_number : List Placed → List ℕ → ℕ
symbol_number placed name =
    unwrap_or (position_from (bytes_eq name) 1 (map (λ d. d.name) (locals placed) ++ map (λ d. d.name) (globals placed) ++ undefined placed)) 0

abbrev pub entry_0 : Symbol
entry_0 = record { name = []; kind = kind.None; bind = bind.Local; place = place.Absolute; value = 0; size = 0 }

abbrev pub symbol_of : List Placed → Bind → Definition → Symbol
symbol_of placed b d = record { name = d.name; kind = d.kind; bind = b; place = place.In (section_number placed d.section); value = d.value; size = d.size }

abbrev pub undefined_symbol : List ℕ → Symbol
undefined_symbol name = record { name = name; kind = kind.None; bind = bind.Global; place = place.Undefined; value = 0; size = 0 }

abbrev pub symbols : List Placed → List Symbol
symbols placed =
    entry_0 ∷ (map (symbol_of placed bind.Local) (locals placed) ++ map (symbol_of placed bind.Global) (globals placed) ++ map undefined_symbol (undefined placed))

abbrev pub section_text : SectionName → List ℕ
section_text Text = codes ".text"
section_text Rodata = codes ".rodata"
section_text Data = codes ".data"
section_text Bss = codes ".bss"

abbrev pub section_class : SectionName → Class
section_class Text = class.Code
section_class Rodata = class.Read
section_class Data = class.Write
section_class Bss = class.Zero

abbrev pub step_bytes : Targets → Placed → List ℕ
step_bytes targets p = by_step p.step where
  by_step : Step → List ℕ
  by_step (Label name) = []
  by_step (States st) = (emitted targets p.spot st).bytes

-- bss stores none
abbrev pub section_bytes : List Placed → SectionName → List ℕ
section_bytes placed Bss = []
section_bytes placed section = flat_map (step_bytes (targets_in (definitions placed))) (in_section section placed)

abbrev pub relocation_of : List Placed → Use → Rela
relocation_of placed u = record { offset = u.offset; kind = u.kind; symbol = symbol_number placed u.name; addend = u.addend }

abbrev pub section_relocations : List Placed → SectionName → List Rela
section_relocations placed section =
    flat_map (λ p. map (λ u. relocation_of placed (moved p.spot.offset u)) (uses_of (targets_in (definitions placed)) p)) (in_section section placed)

abbrev pub section_of : List Placed → SectionName → Section
section_of placed section =
    record { name = section_text section; class = section_class section; align = 16; size = section_size section placed; bytes = section_bytes placed section; relocations = section_relocations placed section }

-- GNU_PROPERTY_X86_FEATURE_1_AND (psABI, "Program Property"): bit 0 is IBT, bit 1 SHSTK
abbrev pub note_bits : NoteWords → ℕ
note_bits words = (if words.ibt then 1 else 0) + (if words.shstk then 2 else 0)

abbrev pub note_bytes : List NoteWords → Option (List ℕ)
note_bytes [] = None
note_bytes (words ∷ others) = Some (written ((0xc0000002, note_bits words) ∷ []))

abbrev pub object_of : List Placed → Object
object_of placed = record { sections = map (section_of placed) (kept placed); symbols = symbols placed; notes = note_bytes (note_words placed) }

abbrev pub whole : List Placed → Result Object AsmError
whole placed = by_fault (first_late (targets_in (definitions placed)) placed) where
  by_fault : Option AsmError → Result Object AsmError
  by_fault None = Ok (object_of placed)
  by_fault (Some e) = Err e

-- the object of the text, or its first fault: those of statements in their order come first, then those of the whole in the order of lines
unfoldable pub assembly : List ℕ → Result Object AsmError
assembly text = placed_from [] first_state (items_in text) >>= whole

-- the text assembles to the object
abbrev pub Assembles : List ℕ → Object → Type 0
Assembles text object = assembly text ≡ Ok object

-- want of memory is on no line
abbrev pub HasLine : AsmError → Type 0
HasLine e = e.kind ≡ fault.NoMemory → e.line ≡ 0

-- the first fault of the text
abbrev pub IsAsmFault : List ℕ → AsmError → Type 0
IsAsmFault text e = assembly text ≡ Err e
