-- Texts of schedules. A schedule names the events of a run in order, a few in each line; the format is this project's own.
use Rattle.std.specs.Prelude.{ℕ, ◌+◌, ◌^◌, ◌==◌, nat_eq, nat_lt, if◌then◌else◌, List, [], ◌∷◌, ◌++◌, length, drop, replicate, Option, Some, None, option_map, option_and_then, Result, Ok, Err, codes}
use Rattle.std.specs.List.{starts_with}
use Rattle.cet_process.specs.declared.event.Event.{Event}
use Rattle.cet_process.specs.declared.event.Event.TheVariants.{Step, Signal}
use Rattle.cet_schedule.specs.declared.error.ScheduleError.{ScheduleError}
use Rattle.cet_schedule.specs.declared.error.ScheduleError.TheVariants.{Line, TooMany}
use Rattle.cet_schedule.specs.Number.{number_below}
use Rattle.cet_schedule.specs.Fields.{parts, two_of, three_of}

-- ---- one line, without its line feed: its events, or none where it is outside the grammar

-- threads and signals
abbrev pub short : List ℕ → Option ℕ
short field = number_below (2 ^ 32) field

-- `s THREAD FREE ANSWER`
abbrev pub step_of : List (List ℕ) → Option (List Event)
step_of fields =
    option_and_then (λ f.
    option_and_then (λ t. option_and_then (λ free. option_map (λ answer. Step t free answer ∷ []) (number_below (2 ^ 64) f.2)) (number_below 16 f.1)) (short f.0)) (three_of fields)

-- `g THREAD SIGNO`
abbrev pub signal_of : List (List ℕ) → Option (List Event)
signal_of fields = option_and_then (λ f. option_and_then (λ t. option_map (λ signo. Signal t signo ∷ []) (short f.1)) (short f.0)) (two_of fields)

-- how many steps one line has: 1 to 1,000,000
abbrev pub count_of : List ℕ → Option ℕ
count_of field = option_and_then (λ n. if n == 0 then None else Some n) (number_below 1000001 field)

-- `x COUNT THREAD`: so many steps with free 0 and answer 0
abbrev pub steps_of : List (List ℕ) → Option (List Event)
steps_of fields = option_and_then (λ f. option_and_then (λ count. option_map (λ t. replicate count (Step t 0 0)) (short f.1)) (count_of f.0)) (two_of fields)

-- an empty line has no event; else fields stand behind its first letter, each behind one space
abbrev pub events_of : List ℕ → Option (List Event)
events_of line =
    if length line == 0 then Some [] else
    if starts_with nat_eq line (codes "s ") then step_of (parts 32 (drop 2 line)) else
    if starts_with nat_eq line (codes "g ") then signal_of (parts 32 (drop 2 line)) else
    if starts_with nat_eq line (codes "x ") then steps_of (parts 32 (drop 2 line)) else
    None

-- ---- the whole text

abbrev pub event_limit : ℕ
event_limit = 1000000

-- the events of the line of this number, behind those of the lines before it
abbrev pub added : ℕ → List Event → Option (List Event) → Result (List Event) ScheduleError
added number taken None = Err (Line number)
added number taken (Some events) = if nat_lt event_limit (length taken + length events) then Err (TooMany number) else Ok (taken ++ events)

-- what stands behind the last line feed is a line that has not ended, unless it is empty
abbrev pub ended : ℕ → List Event → List ℕ → Result (List Event) ScheduleError
ended number taken part = if length part == 0 then Ok taken else Err (Line number)

abbrev pub and_then : Result (List Event) ScheduleError → (List Event → Result (List Event) ScheduleError) → Result (List Event) ScheduleError
and_then (Ok events) later = later events
and_then (Err e) later = Err e

-- the parts between line feeds, of which the first has this number, behind lines with these events
abbrev pub from_line : ℕ → List Event → List (List ℕ) → Result (List Event) ScheduleError
from_line number taken [] = Ok taken
from_line number taken (part ∷ parts) =
    if length parts == 0 then ended number taken part else
    and_then (added number taken (events_of part)) (λ events. from_line (number + 1) events parts)

-- the events of a text, or the first line that is wrong, from 1
unfoldable pub schedule : List ℕ → Result (List Event) ScheduleError
schedule text = from_line 1 [] (parts 10 text)
