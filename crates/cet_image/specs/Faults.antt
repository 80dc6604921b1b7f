-- What makes an executable no image, in the order in which it is looked for. The limits are this project's own; addresses end at 2^47, where the user's
-- half of a canonical address space ends (SDM volume 1, 3.3.7.1).
use Rattle.std.specs.Prelude.{ℕ, ◌+◌, ◌^◌, ◌||◌, nat_lt, max, min, Bool, if◌then◌else◌, List, [], ◌∷◌, length, map, filter, find, Option, Some, None, option_map}
use Rattle.std.specs.Option.{option_or}
use Rattle.std.specs.Result.{result_err}
use Rattle.cet_base.specs.declared.spans.Span.{Span}
use Rattle.cet_elf.specs.declared.exec.Exec.{Exec}
use Rattle.cet_elf.specs.declared.exec.ExecSegment.{ExecSegment}
use Rattle.cet_rules.specs.declared.function.Function.{Function}
use Rattle.cet_image.specs.declared.error.ImageError.{ImageError}
use Rattle.cet_image.specs.declared.error.ImageError.TheVariants.{Note, TooMany, Range, Overlap}
use Rattle.cet_image.specs.Executable.{has_memory, note_of}

-- the addresses of a segment
abbrev pub span_of : ExecSegment → Span
span_of s = record { start = s.start; len = s.size }

-- those of each segment that takes memory
abbrev pub spans_of : List ExecSegment → List Span
spans_of segments = map span_of (filter has_memory segments)

-- the first fault of the note
abbrev pub note_error : Option (List ℕ) → Option ImageError
note_error notes = option_map Note (result_err (note_of notes))

-- there are more than 16 segments, or more than 65,536 functions
abbrev pub count_error : List Span → List Function → Option ImageError
count_error segments functions = if nat_lt 16 (length segments) || nat_lt 65536 (length functions) then Some TooMany else None

-- a segment is longer than 16,777,216 bytes or passes 2^47
abbrev pub is_out_of_range : Span → Bool
is_out_of_range s = nat_lt 16777216 s.len || nat_lt (2 ^ 47) (s.start + s.len)

-- a function passes 2^47
abbrev pub passes_end : Function → Bool
passes_end f = nat_lt (2 ^ 47) (f.start + f.size)

-- the first such segment, or else the first such function
abbrev pub range_error : List Span → List Function → Option ImageError
range_error segments functions =
    option_or (option_map (λ s. Range s.start) (find is_out_of_range segments)) (option_map (λ f. Range f.start) (find passes_end functions))

-- some address lies in both
abbrev pub share_byte : Span → Span → Bool
share_byte s t = nat_lt (max s.start t.start) (min (s.start + s.len) (t.start + t.len))

-- the first pair of segments that share a byte, by its first and then by its second segment
abbrev pub overlap_error : List Span → Option ImageError
overlap_error [] = None
overlap_error (s ∷ later) = option_or (option_map (λ t. Overlap s.start t.start) (find (share_byte s) later)) (overlap_error later)

-- the first error of where segments and functions lie
abbrev pub layout_error : List Span → List Function → Option ImageError
layout_error segments functions = option_or (count_error segments functions) (option_or (range_error segments functions) (overlap_error segments))

-- the first error of an executable with these functions
abbrev pub error_with : Exec → List Function → Option ImageError
error_with e functions = option_or (note_error e.notes) (layout_error (spans_of e.segments) functions)
