-- Statements: a word, and the operands that it takes.
use Rattle.std.specs.Prelude.{ℕ, ◌^◌, Bool, true, false, ◌&&◌, ◌||◌, ◌==◌, if◌then◌else◌, List, length, drop, ℤ, pos, ◌+ℤ◌, Option, Some, None, option_and_then, Result, Ok, Err, codes}
use Rattle.std.specs.Option.{option_map, option_zip, ok_or}
use Rattle.std.specs.Str.{bytes_eq}
use Rattle.std.specs.Int.{w32}
use Rattle.cet_isa.specs.Canonical.{fits}
use Rattle.cet_syntax.specs.declared.number.Number.{Number}
use Rattle.cet_syntax.specs.declared.error.SyntaxError.{SyntaxError}
use Rattle.cet_syntax.specs.declared.error.SyntaxError.TheVariants as fault
use Rattle.cet_syntax.specs.declared.operand.Constant.TheVariants as constant
use Rattle.cet_syntax.specs.declared.operand.Operand.TheVariants as operand
use Rattle.cet_syntax.specs.declared.operands.Operands.{Operands}
use Rattle.cet_syntax.specs.declared.operands.Operands.TheVariants.{Zero, One, Two}
use Rattle.cet_syntax.specs.declared.keyword.Keyword.{Keyword}
use Rattle.cet_syntax.specs.declared.keyword.Keyword.TheVariants as keyword
use Rattle.cet_syntax.specs.declared.statement.SectionName.{SectionName}
use Rattle.cet_syntax.specs.declared.statement.SectionName.TheVariants as section
use Rattle.cet_syntax.specs.declared.statement.Quad.{Quad}
use Rattle.cet_syntax.specs.declared.statement.Quad.TheVariants as quad
use Rattle.cet_syntax.specs.declared.statement.NoteWords.{NoteWords}
use Rattle.cet_syntax.specs.declared.statement.Directive.{Directive}
use Rattle.cet_syntax.specs.declared.statement.Directive.TheVariants as directive
use Rattle.cet_syntax.specs.declared.statement.Site.{Site}
use Rattle.cet_syntax.specs.declared.statement.Site.TheVariants as site
use Rattle.cet_syntax.specs.declared.statement.Statement.{Statement}
use Rattle.cet_syntax.specs.declared.statement.Statement.TheVariants as statement
use Rattle.cet_syntax.specs.declared.keyword.DirectiveWord.{DirectiveWord}
use Rattle.cet_syntax.specs.declared.keyword.DirectiveWord.TheVariants as dword
use Rattle.cet_syntax.specs.declared.keyword.SiteWord.{SiteWord}
use Rattle.cet_syntax.specs.declared.keyword.SiteWord.TheVariants as sword
use Rattle.cet_syntax.specs.Number.{number_of, signed_field, unsigned_field, either_field}
use Rattle.cet_syntax.specs.Name.{name_of}
use Rattle.cet_syntax.specs.Operand.{begins}
use Rattle.cet_syntax.specs.Operands.{operands_of}
use Rattle.cet_syntax.specs.Pieces.{trimmed, before, behind, first_word, behind_first_word}
use Rattle.cet_syntax.specs.Instruction.{◌>>=◌, in_range, reference_to, instruction}

-- ---- directives: their operands are parted by spaces, those of `.off` by a comma

abbrev pub asked : {A : Type 0} → Option A → Result A SyntaxError
asked operand = ok_or operand fault.Operand

-- the only word
abbrev pub one_word : List ℕ → Option (List ℕ)
one_word cs = if length (behind_first_word cs) == 0 then Some (first_word cs) else None

abbrev pub section_of : List ℕ → Option SectionName
section_of cs =
    if bytes_eq cs (codes "text") then Some section.Text else
    if bytes_eq cs (codes "rodata") then Some section.Rodata else
    if bytes_eq cs (codes "data") then Some section.Data else
    if bytes_eq cs (codes "bss") then Some section.Bss else None

-- a number, or `@NAME` alone
abbrev pub quad_of : List ℕ → Result Quad SyntaxError
quad_of cs =
    if begins cs (codes "@") then (do
      name ← asked (name_of (drop 1 cs))
      Ok (quad.Symbol name))
    else (do
      n ← asked (number_of cs)
      value ← in_range (either_field 64 n)
      Ok (quad.Number value))

abbrev pub is_alignment : ℕ → Bool
is_alignment n = n == 1 || n == 2 || n == 4 || n == 8 || n == 16

abbrev pub alignment_of : ℕ → Option ℕ
alignment_of n = if is_alignment n then Some n else None

abbrev pub note_word : List ℕ → Option NoteWords
note_word cs =
    if bytes_eq cs (codes "ibt") then Some (record { ibt = true; shstk = false }) else
    if bytes_eq cs (codes "shstk") then Some (record { ibt = false; shstk = true }) else None

-- each word once
abbrev pub both_words : NoteWords → NoteWords → Option NoteWords
both_words a b = if (a.ibt && b.ibt) || (a.shstk && b.shstk) then None else Some (record { ibt = a.ibt || b.ibt; shstk = a.shstk || b.shstk })

-- one or both of the words, in any order
abbrev pub note_words : List ℕ → Option NoteWords
note_words cs =
    if length (behind_first_word cs) == 0 then note_word (first_word cs) else
    option_and_then (λ words. both_words words.0 words.1) (option_zip (note_word (first_word cs)) (option_and_then note_word (one_word (behind_first_word cs))))

abbrev pub size_field : List ℕ → Result ℕ SyntaxError
size_field cs = do
  n ← asked (number_of cs)
  in_range (unsigned_field (2 ^ 64) n)

abbrev pub byte_of : List ℕ → Result ℕ SyntaxError
byte_of cs = do
  n ← asked (number_of cs)
  in_range (either_field 8 n)

abbrev pub object_of : List ℕ → Result Directive SyntaxError
object_of cs = do
  name ← asked (name_of (first_word cs))
  size ← size_field (behind_first_word cs)
  Ok (directive.Object name size)

-- two names with a comma between them
abbrev pub two_names : List ℕ → Option (List ℕ × List ℕ)
two_names cs = option_and_then (λ name. option_and_then (λ rest. option_map (λ table. (name, table)) (name_of (trimmed rest))) (behind 44 cs)) (name_of (trimmed (before 44 cs)))

-- `.func` and `.global`
abbrev pub on_name : DirectiveWord → List ℕ → Directive
on_name dword.Func name = directive.Func name
on_name _ name = directive.Global name

abbrev pub named : DirectiveWord → List ℕ → Result Directive SyntaxError
named word cs = do
  name ← asked (name_of cs)
  Ok (on_name word name)

abbrev pub directive_of : DirectiveWord → List ℕ → Result Directive SyntaxError
directive_of dword.Section cs = do
  name ← asked (section_of cs)
  Ok (directive.Section name)
directive_of dword.Func cs = named dword.Func cs
directive_of dword.End cs = if length cs == 0 then Ok directive.End else Err fault.Operand
directive_of dword.Object cs = object_of cs
directive_of dword.Global cs = named dword.Global cs
directive_of dword.Word cs = do
  value ← quad_of cs
  Ok (directive.Word value)
directive_of dword.Byte cs = do
  value ← byte_of cs
  Ok (directive.Byte value)
directive_of dword.Zero cs = do
  size ← size_field cs
  Ok (directive.Zero size)
directive_of dword.Align cs = do
  n ← size_field cs
  boundary ← in_range (alignment_of n)
  Ok (directive.Align boundary)
directive_of dword.Off cs = do
  names ← asked (two_names cs)
  Ok (directive.Off names.0 names.1)
directive_of dword.Note cs = do
  words ← asked (note_words cs)
  Ok (directive.Note words)

-- ---- sites: their operands are as in the texts of the sequences, parted by commas

-- the place of a record of 40 bytes, whose last word is at 32: each of its displacements has 32 bits
abbrev pub record_field : Number → Option ℤ
record_field n = option_and_then (λ place. if fits w32 (place +ℤ pos 32) then Some place else None) (signed_field (2 ^ 31) n)

-- `land D, @L`
abbrev pub land_of : Operands → Result Site SyntaxError
land_of (Two (operand.Constant (constant.Number d)) (operand.Constant (constant.Address l))) = do
  place ← in_range (record_field d)
  landing ← reference_to l
  Ok (site.Land place landing)
land_of _ = Err fault.Operand

-- `release D`
abbrev pub release_of : Operands → Result Site SyntaxError
release_of (One (operand.Constant (constant.Number d))) = do
  place ← in_range (signed_field (2 ^ 31) d)
  Ok (site.Release place)
release_of _ = Err fault.Operand

-- `throw`
abbrev pub throw_of : Operands → Result Site SyntaxError
throw_of Zero = Ok site.Throw
throw_of _ = Err fault.Operand

-- `switch @T, @P`
abbrev pub switch_of : Operands → Result Site SyntaxError
switch_of (Two (operand.Constant (constant.Address t)) (operand.Constant (constant.Address p))) = do
  taken ← reference_to t
  published ← reference_to p
  Ok (site.Switch taken published)
switch_of _ = Err fault.Operand

-- `fibermake @P, @F`
abbrev pub fiber_make_of : Operands → Result Site SyntaxError
fiber_make_of (Two (operand.Constant (constant.Address p)) (operand.Constant (constant.Address f))) = do
  published ← reference_to p
  function ← reference_to f
  Ok (site.FiberMake published function)
fiber_make_of _ = Err fault.Operand

-- `spawn F`
abbrev pub spawn_of : Operands → Result Site SyntaxError
spawn_of (One (operand.Name name)) = Ok (site.Spawn name)
spawn_of _ = Err fault.Operand

-- `action S, @A`
abbrev pub action_of : Operands → Result Site SyntaxError
action_of (Two (operand.Constant (constant.Number s)) (operand.Constant (constant.Address a))) = do
  signal ← in_range (unsigned_field (2 ^ 32) s)
  action ← reference_to a
  Ok (site.Action signal action)
action_of _ = Err fault.Operand

-- `read @A, N`
abbrev pub read_of : Operands → Result Site SyntaxError
read_of (Two (operand.Constant (constant.Address a)) (operand.Constant (constant.Number n))) = do
  buffer ← reference_to a
  size ← in_range (unsigned_field (2 ^ 32) n)
  Ok (site.Read buffer size)
read_of _ = Err fault.Operand

abbrev pub site_of : SiteWord → Operands → Result Site SyntaxError
site_of sword.Land = land_of
site_of sword.Release = release_of
site_of sword.Throw = throw_of
site_of sword.Switch = switch_of
site_of sword.FiberMake = fiber_make_of
site_of sword.Spawn = spawn_of
site_of sword.Action = action_of
site_of sword.Read = read_of

-- ---- statements

abbrev pub statement_of : Keyword → List ℕ → Result Statement SyntaxError
statement_of (keyword.Instruction word) rest = do
  operands ← asked (operands_of rest)
  instruction_code ← instruction word operands
  Ok (statement.Code instruction_code)
statement_of (keyword.Directive word) rest = do
  read ← directive_of word rest
  Ok (statement.Directive read)
statement_of (keyword.Site word) rest = do
  operands ← asked (operands_of rest)
  read ← site_of word operands
  Ok (statement.Site read)
