-- The image of an executable: its segments, functions, fiber slots, entry and features (gABI, "Program Header", "Symbol Table"; System V x86-64 psABI,
-- "Program Property"). That some functions make up an image, and the slots of fibers, are this project's own.
use Rattle.std.specs.Prelude.{◌≡◌, ℕ, ◌<◌, ◌==◌, ◌&&◌, ◌↔◌, nat_lt, IsTrue, Bool, true, false, List, [], map, filter, find, codes, slice_get, Option, Some, None, option_map, Result, Ok, Contains, Any, bit_and}
use Rattle.std.specs.Cmp.Lexicographic.{pointwise}
use Rattle.cet_base.specs.declared.spans.Span.{Span}
use Rattle.cet_elf.specs.declared.object.SymbolKind.{SymbolKind}
use Rattle.cet_elf.specs.declared.object.SymbolKind.TheVariants.{Func, Object}
use Rattle.cet_elf.specs.declared.exec.ExecSegment.{ExecSegment}
use Rattle.cet_elf.specs.declared.exec.ExecSymbol.{ExecSymbol}
use Rattle.cet_elf.specs.Fields.{has_flag}
use Rattle.cet_note.specs.declared.fault.NoteError.{NoteError}
use Rattle.cet_note.specs.declared.feature_set.Features.{Features}
use Rattle.cet_note.specs.Note.{Note, bits_of}
use Rattle.cet_note.specs.Fault.{note_in}
use Rattle.cet_rules.specs.declared.segment.Segment.{Segment}
use Rattle.cet_rules.specs.declared.function.Function.{Function}
use Rattle.cet_rules.specs.Regular.{Precedes}

-- ---- segments

-- a segment of the image. PF_R is 4, PF_W is 2 and PF_X is 1
unfoldable pub segment_of : ExecSegment → Segment
segment_of s = record {
  start = s.start;
  size = s.size;
  readable = has_flag s.flags 4;
  writable = has_flag s.flags 2;
  executable = has_flag s.flags 1;
  bytes = s.bytes;
}

-- it takes memory
abbrev pub has_memory : ExecSegment → Bool
has_memory s = nat_lt 0 s.size

-- the segments, in the order of the program headers. One without memory is left out
abbrev pub segments_of : List ExecSegment → List Segment
segments_of segments = map segment_of (filter has_memory segments)

-- ---- functions

-- the addresses that a symbol names
abbrev pub function_of : ExecSymbol → Function
function_of s = record { start = s.value; size = s.size }

abbrev pub is_func : SymbolKind → Bool
is_func Func = true
is_func kind = false

-- a symbol of type STT_FUNC and of a size that is not 0
abbrev pub names_function : ExecSymbol → Bool
names_function s = is_func s.kind && nat_lt 0 s.size

-- it names the function
abbrev pub NamesFunction : Function → ExecSymbol → Type 0
NamesFunction f s = IsTrue (names_function s) × (function_of s ≡ f)

-- the functions that symbols name, each once, by ascending start, and of those with one start by ascending size
pub record AreFunctionsOf (symbols : List ExecSymbol) (functions : List Function) : Type 0 where
  pub ascending : (j k : ℕ) (f g : Function) → j < k → slice_get functions j ≡ Some f → slice_get functions k ≡ Some g → Precedes f g
  pub named : (f : Function) → Contains functions f ↔ Any (NamesFunction f) symbols

-- ---- fiber slots

abbrev pub is_object : SymbolKind → Bool
is_object Object = true
is_object kind = false

-- the name of the fiber slots
abbrev pub is_slots_name : List ℕ → Bool
is_slots_name name = pointwise (λ a b. a == b) name (codes "__cet_fibers")

-- a symbol of type STT_OBJECT with that name
abbrev pub names_slots : ExecSymbol → Bool
names_slots s = is_object s.kind && is_slots_name s.name

abbrev pub span_named : ExecSymbol → Span
span_named s = record { start = s.value; len = s.size }

-- the slots are what the first such symbol names, in the order of the symbol table
abbrev pub slots_of : List ExecSymbol → Option Span
slots_of symbols = option_map span_named (find names_slots symbols)

-- ---- features

-- the note of an executable, or the first fault of its bytes. An executable without a note claims no property
abbrev pub note_of : Option (List ℕ) → Result Note NoteError
note_of None = Ok []
note_of (Some bytes) = note_in bytes

-- the bits of GNU_PROPERTY_X86_FEATURE_1_AND that have names: indirect branch tracking and shadow stacks
abbrev pub features_of : Note → Features
features_of note = record { 0 = bit_and (bits_of note 0xc0000002) 3 }

-- the features are those that the note claims
abbrev pub AreFeaturesOf : Option (List ℕ) → Features → Type 0
AreFeaturesOf notes features = (note : Note) × (note_of notes ≡ Ok note) × (features ≡ features_of note)
