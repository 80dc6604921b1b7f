-- What assembly keeps while it goes through the statements of a text: where the next one stands, what is known of each name, and how much
-- was counted. All of it is this project's own.
use Rattle.std.specs.Prelude.{◌≡◌, ◌≢◌, ℕ, ◌+◌, ◌<◌, ◌≤◌, ◌^◌, ◌⊎◌, Bool, true, false, ◌&&◌, IsTrue, nat_lt, if◌then◌else◌, List, [], ◌∷◌, ◌++◌, length, map, pos, ◌+ℤ◌, ◌≤ℤ◌, Option, Some, None, unwrap_or, is_some, Result, Ok, Err}
use Rattle.std.specs.Option.{ok_or}
use Rattle.std.specs.List.{flat_map, list_any, sum_by}
use Rattle.std.specs.Str.{bytes_eq}
use Rattle.cet_syntax.specs.declared.statement.SectionName.{SectionName}
use Rattle.cet_syntax.specs.declared.statement.SectionName.TheVariants.{Text, Rodata, Data, Bss}
use Rattle.cet_syntax.specs.declared.statement.Quad.{Quad}
use Rattle.cet_syntax.specs.declared.statement.Quad.TheVariants as quad
use Rattle.cet_syntax.specs.declared.statement.Directive.{Directive}
use Rattle.cet_syntax.specs.declared.statement.Directive.TheVariants as directive
use Rattle.cet_syntax.specs.declared.statement.Site.{Site}
use Rattle.cet_syntax.specs.declared.statement.Site.TheVariants as site
use Rattle.cet_syntax.specs.declared.template.Code.TheVariants as code
use Rattle.cet_syntax.specs.declared.statement.Statement.{Statement}
use Rattle.cet_syntax.specs.declared.statement.Statement.TheVariants as statement
use Rattle.cet_syntax.specs.declared.lines.Item.{Item}
use Rattle.cet_syntax.specs.declared.lines.Numbered.{Numbered}
use Rattle.cet_syntax.specs.Keyword.{headed_by}
use Rattle.cet_syntax.specs.Statement.{statement_of}
use Rattle.cet_asm.specs.declared.error.AsmKind.{AsmKind}
use Rattle.cet_asm.specs.declared.error.AsmKind.TheVariants as fault
use Rattle.cet_asm.specs.declared.usage.Use.{Use}
use Rattle.cet_asm.specs.declared.placed.Spot.{Spot}
use Rattle.cet_asm.specs.declared.placed.Placed.{Placed}
use Rattle.cet_asm.specs.declared.placed.Step.{Step}
use Rattle.cet_asm.specs.declared.placed.Step.TheVariants.{Label, States}
use Rattle.cet_asm.specs.declared.names.Target.{Target}
use Rattle.cet_asm.specs.declared.names.Names.{Names}
use Rattle.cet_asm.specs.declared.counts.Counts.{Counts}
use Rattle.cet_asm.specs.declared.assembly.Assembly.{Assembly}
use Rattle.cet_asm.specs.declared.assembly.Reading.{Reading}
use Rattle.cet_asm.specs.declared.cursor.Sizes.{Sizes}
use Rattle.cet_asm.specs.declared.cursor.Cursor.{Cursor}
use Rattle.cet_asm.specs.Emitted.{Targets, R_X86_64_64, template_uses, offset_use, site_emitted, padding, size_of}
use Rattle.cet_asm.specs.Assembled.{◌>>=◌, State, same_section, demand, stands, by_kind, spot_in, after, step_of, placed_of, addends_fit, is_among, each_once, definitions, used_names, uses_of, no_targets, note_words, is_label, targets_in, section_size, defines_anew, keeps_limits}
use Rattle.cet_asm.specs.Names.{known_at, place_at, count_of}

-- ---- answers

-- the answer is the one wanted, or want of memory
abbrev pub IsAnswer : {A : Type 0} → Result A AsmKind → Result A AsmKind → Type 0
IsAnswer (Ok x) wanted = wanted ≡ Ok x
IsAnswer (Err kind) wanted = kind ≢ fault.NoMemory → wanted ≡ Err kind

-- ---- what holds of each statement that was read

-- the last word of a record, at 32, has a displacement of 32 bits
abbrev pub IsSite : Site → Type 0
IsSite (site.Land place landing) = (place +ℤ pos 32) ≤ℤ pos 2147483647
IsSite _ = Unit {0}

-- a boundary is above 0
abbrev pub IsWritten : Statement → Type 0
IsWritten (statement.Directive (directive.Align boundary)) = 0 < boundary
IsWritten (statement.Site s) = IsSite s
IsWritten _ = Unit {0}

-- ---- uses

-- the number that a statement takes from the definitions before it: for `.off` that of its table
abbrev pub IsTable : Targets → SectionName → Statement → ℕ → Type 0
IsTable targets section (statement.Directive (directive.Off name table)) value = unwrap_or (targets section table) 0 ≡ value
IsTable targets section _ value = Unit {0}

-- a list of uses grows by these, or one of them has an addend that does not fit
abbrev pub AddsUses : List Use → List Use → Result (Unit {0}) AsmKind → List Use → Type 0
AddsUses old new (Ok _) added = IsTrue (addends_fit added) × (new ≡ old ++ added)
AddsUses old new (Err kind) added = kind ≢ fault.NoMemory → (kind ≡ fault.Range) × (addends_fit added ≡ false)

-- a word that holds the value of a symbol
abbrev pub quad_uses : Quad → List Use
quad_uses (quad.Number n) = []
quad_uses (quad.Symbol name) = record { offset = 0; size = 8; kind = R_X86_64_64; name = name; addend = pos 0 } ∷ []

-- the uses of a statement, where its table has this value
abbrev pub directive_uses : ℕ → Spot → Directive → List Use
directive_uses table spot (directive.Word value) = quad_uses value
directive_uses table spot (directive.Off name label) = offset_use spot.offset table name ∷ []
directive_uses table spot _ = []

abbrev pub statement_uses : ℕ → Spot → Statement → List Use
statement_uses table spot (statement.Code (code.Long t)) = template_uses t
statement_uses table spot (statement.Code (code.Short c name)) = []
statement_uses table spot (statement.Directive d) = directive_uses table spot d
statement_uses table spot (statement.Site s) = (site_emitted spot s).uses

-- ---- where the next statement stands

abbrev pub size_in : Sizes → SectionName → ℕ
size_in sizes Text = sizes.text
size_in sizes Rodata = sizes.rodata
size_in sizes Data = sizes.data
size_in sizes Bss = sizes.bss

abbrev pub with_size : Sizes → SectionName → ℕ → Sizes
with_size sizes Text size = record sizes { text = size }
with_size sizes Rodata size = record sizes { rodata = size }
with_size sizes Data size = record sizes { «data» = size }
with_size sizes Bss size = record sizes { bss = size }

-- whether a statement leaves the section and the function around
abbrev pub takes_bytes : Statement → Bool
takes_bytes (statement.Directive (directive.Section name)) = false
takes_bytes (statement.Directive (directive.Func name)) = false
takes_bytes (statement.Directive directive.End) = false
takes_bytes _ = true

-- each section has as many bytes as its statements take
abbrev pub AreSizes : Sizes → List Placed → Type 0
AreSizes sizes placed = (section : SectionName) → size_in sizes section ≡ section_size section placed

abbrev pub state_of : Cursor → State
state_of cursor = record { section = cursor.section; sizes = size_in cursor.sizes; around = cursor.around }

-- ---- the bytes of statements

-- the offset, or Range past 2^64 - 1
abbrev pub end_at : ℕ → Result ℕ AsmKind
end_at end = if nat_lt end (2 ^ 64) then Ok end else Err fault.Range

-- the offset behind a statement
abbrev pub end_of : ℕ → Statement → Result ℕ AsmKind
end_of offset st = end_at (offset + size_of offset st)

-- ---- names

-- what a step defines, where it stands
abbrev pub mark_of : SectionName → ℕ → Step → Option (List ℕ × Target)
mark_of section offset (Label name) = Some (name, record { section = section; value = offset; is_label = true })
mark_of section offset (States (statement.Directive (directive.Func name))) = Some (name, record { section = section; value = offset; is_label = false })
mark_of section offset (States (statement.Directive (directive.Object name size))) =
    Some (name, record { section = section; value = offset + padding 8 offset; is_label = false })
mark_of section offset _ = None

abbrev pub mark_at : Placed → Option (List ℕ × Target)
mark_at p = mark_of p.spot.section p.spot.offset p.step

abbrev pub marked_names : Option (List ℕ × Target) → List (List ℕ)
marked_names None = []
marked_names (Some m) = m.0 ∷ []

-- the place of a name behind a statement that defines this
abbrev pub place_after : Option Target → Option (List ℕ × Target) → List ℕ → Option Target
place_after place None name = place
place_after place (Some m) name = if bytes_eq m.0 name then Some m.1 else place

abbrev pub names_defined : List Placed → List (List ℕ)
names_defined placed = map (λ d. d.name) (definitions placed)

abbrev pub names_used : List Placed → List (List ℕ)
names_used placed = flat_map used_names placed

-- the target of a short branch, which waits for no relocation
abbrev pub short_names : Step → List (List ℕ)
short_names (States (statement.Code (code.Short c name))) = name ∷ []
short_names _ = []

abbrev pub value_in : SectionName → Option Target → Option ℕ
value_in section None = None
value_in section (Some t) = if same_section t.section section then Some t.value else None

abbrev pub is_label_in : SectionName → Option Target → Bool
is_label_in section None = false
is_label_in section (Some t) = same_section t.section section && t.is_label

-- the names that were met are these, each counted once
pub record IsMet (defined used : List (List ℕ)) (names : Names) : Type 0 where
  pub met : (name : List ℕ) → is_some (known_at names name) ≡ is_among name (defined ++ used)
  pub count : count_of names ≡ length (each_once [] (defined ++ used))

-- what the statements before say of the place of a name
pub record IsPlaceOf (before : List Placed) (name : List ℕ) (place : Option Target) : Type 0 where
  pub defined : is_among name (names_defined before) ≡ is_some place
  pub target : (section : SectionName) → targets_in (definitions before) section name ≡ value_in section place
  pub label : (section : SectionName) → list_any (is_label section name) before ≡ is_label_in section place

abbrev pub is_note : Step → Bool
is_note (States (statement.Directive (directive.Note words))) = true
is_note _ = false

-- how many relocations the statements have
abbrev pub relocations_of : List Placed → ℕ
relocations_of placed = sum_by (λ p. length (uses_of no_targets p)) placed

-- names are met: each has its place as before
pub record MeetsNames (old new : Names) (names : List (List ℕ)) : Type 0 where
  pub places : (name : List ℕ) → place_at new name ≡ place_at old name
  pub met : (defined used : List (List ℕ)) → IsMet defined used old → IsMet defined (used ++ names) new

-- a name is defined, where there is one
pub record DefinesMark (old new : Names) (mark : Option (List ℕ × Target)) : Type 0 where
  pub places : (name : List ℕ) → place_at new name ≡ place_after (place_at old name) mark name
  pub met : (defined used : List (List ℕ)) → IsMet defined used old → IsMet (defined ++ marked_names mark) used new

-- the name had no place
abbrev pub IsFresh : Names → Option (List ℕ × Target) → Type 0
IsFresh names None = Unit {0}
IsFresh names (Some m) = place_at names m.0 ≡ None

-- the name had a place
abbrev pub IsTaken : Names → Option (List ℕ × Target) → Type 0
IsTaken names None = ⊥
IsTaken names (Some m) = is_some (place_at names m.0) ≡ true

-- ---- the statements before

-- what is known and was counted of the statements before
pub record IsCounted (before : List Placed) (counts : Counts) : Type 0 where
  pub met : IsMet (names_defined before) (names_used before) counts.names
  pub places : (name : List ℕ) → IsPlaceOf before name (place_at counts.names name)
  pub relocated : counts.relocations ≡ relocations_of before
  pub notes : length (note_words before) ≡ (if counts.noted then 1 else 0)
  pub few : counts.relocations ≤ 1000000

-- the statement does this, defines this and has these uses
pub record Describes (p : Placed) (does : Step) (defines : Option (List ℕ × Target)) (uses : List Use) : Type 0 where
  pub step : p.step ≡ does
  pub mark : mark_at p ≡ defines
  pub used : used_names p ≡ short_names does ++ map (λ u. u.name) uses
  pub count : length (uses_of no_targets p) ≡ length uses

-- the statement may come behind those before, and is counted
abbrev pub Admits : Counts → Counts → Step → Option (List ℕ × Target) → List Use → Type 0
Admits old new step mark uses =
    (before : List Placed) (p : Placed) → IsCounted before old → Describes p step mark uses
    → IsTrue (defines_anew before p) × IsTrue (keeps_limits (before ++ p ∷ [])) × IsCounted (before ++ p ∷ []) new

-- it may not
abbrev pub Refuses : Counts → AsmKind → Step → Option (List ℕ × Target) → List Use → Type 0
Refuses old kind step mark uses =
    (before : List Placed) (p : Placed) → IsCounted before old → Describes p step mark uses
    → ((kind ≡ fault.Twice) × (defines_anew before p ≡ false)) ⊎ ((kind ≡ fault.TooMany) × (defines_anew before p ≡ true) × (keeps_limits (before ++ p ∷ []) ≡ false))

-- ---- items

-- the statement that is written so, where it may stand here
abbrev pub statement_at : State → List ℕ → Result Statement AsmKind
statement_at s cs = do
  headed ← ok_or (headed_by cs) fault.Word
  _ ← demand (stands s headed.keyword) fault.Word
  by_kind (statement_of headed.keyword headed.rest)

-- where the next statement stands behind this one
abbrev pub step_end : State → Step → ℕ
step_end s (Label name) = s.sizes s.section
step_end s (States st) = s.sizes s.section + size_of (s.sizes s.section) st

abbrev pub placed_here : State → ℕ → Step → Placed
placed_here s line step = record { line = line; step = step; spot = spot_in s }

-- what the statements before define, as `.off` asks for it
abbrev pub targets_of : Assembly → Targets
targets_of a = targets_in (definitions a.placed.items)

-- what is kept of the statements before
abbrev pub IsKept : Assembly → Type 0
IsKept a = IsCounted a.placed.items a.counts

-- the item was read: its step, where it ends, and its uses
pub record IsReading (a : Assembly) (item : Item) (r : Reading) : Type 0 where
  pub step : step_of a.placed.items (state_of a.cursor) item ≡ Ok r.step
  pub end : r.end ≡ step_end (state_of a.cursor) r.step
  pub uses : (line : ℕ) → r.uses.items ≡ uses_of (targets_of a) (placed_here (state_of a.cursor) line r.step)

-- the item stands behind the statements before
pub record IsPlacedNext (old new : Assembly) (item : Numbered) : Type 0 where
  pub placed : Placed
  pub good : placed_of old.placed.items (state_of old.cursor) item ≡ Ok placed
  pub items : new.placed.items ≡ old.placed.items ++ placed ∷ []
  pub state : state_of new.cursor ≡ after (state_of old.cursor) placed.step
