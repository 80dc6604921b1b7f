-- The lines of a text, one after another.
use Rattle.std.proofs.Common.{◌≡◌, ℕ, ◌+◌, ◌<◌, ◌≤◌, ◌==◌, false, List, [], ◌∷◌, length, Result, Ok, Err, IfErr, refl, sym, ap, subst, ◌∙◌, arith}
use Rattle.std.specs.Result.{IsErrAnd}
use Rattle.std.proofs.lemmas.Bool.{ne_eqb}
use Rattle.cet_process.specs.declared.event.Event.{Event}
use Rattle.cet_schedule.specs.declared.error.ScheduleError.{ScheduleError}
use Rattle.cet_schedule.specs.Fields.{parts}
use Rattle.cet_schedule.specs.Schedule.{events_of, event_limit, added, and_then, from_line, schedule}
use Rattle.cet_schedule.proofs.Counts.{some_parts}

-- the parts that a byte parts are not the last one
first_line : (n : ℕ) (taken : List Event) (line : List ℕ) (others : List (List ℕ)) → 0 < length others
    → from_line n taken (line ∷ others) ≡ and_then (added n taken (events_of line)) (λ events. from_line (n + 1) events others)
first_line n taken line others some =
    let more : (length others == 0) ≡ false = ne_eqb (length others) 0 (λ none. omega (arith, none, some)) in
    rw more refl

read_line : (n : ℕ) (taken : List Event) (text line behind : List ℕ) → parts 10 text ≡ line ∷ parts 10 behind
    → from_line n taken (parts 10 text) ≡ and_then (added n taken (events_of line)) (λ events. from_line (n + 1) events (parts 10 behind))
read_line n taken text line behind cut = ap (λ (ls : List (List ℕ)). from_line n taken ls) cut ∙ first_line n taken line (parts 10 behind) (some_parts 10 behind)

pub goes_on : (n : ℕ) (taken more : List Event) (text line behind : List ℕ) → parts 10 text ≡ line ∷ parts 10 behind → added n taken (events_of line) ≡ Ok more
    → from_line n taken (parts 10 text) ≡ from_line (n + 1) more (parts 10 behind)
goes_on n taken more text line behind cut is =
    read_line n taken text line behind cut ∙ ap (λ (r : Result (List Event) ScheduleError). and_then r (λ events. from_line (n + 1) events (parts 10 behind))) is

pub stops : (n : ℕ) (taken : List Event) (text line behind : List ℕ) (e : ScheduleError) → parts 10 text ≡ line ∷ parts 10 behind → added n taken (events_of line) ≡ Err e
    → from_line n taken (parts 10 text) ≡ Err e
stops n taken text line behind e cut is =
    read_line n taken text line behind cut ∙ ap (λ (r : Result (List Event) ScheduleError). and_then r (λ events. from_line (n + 1) events (parts 10 behind))) is

pub starts : (text : List ℕ) (taken : List Event) → taken ≡ [] → from_line 1 taken (parts 10 text) ≡ schedule text
unfolding schedule
starts text taken none = ap (λ (events : List Event). from_line 1 events (parts 10 text)) none

pub few : (events : List Event) → events ≡ [] → length events ≤ event_limit
few events none = let e : length events ≡ 0 = ap length none in omega arith

-- an error that is handed on
pub handed_on : {T E : Type 0} (r : Result T E) (x : E) (Q : E → Type 0) → IsErrAnd r (λ y. y ≡ x) → Q x → IfErr r Q
handed_on (Ok v) x Q same q = tt
handed_on (Err y) x Q same q = subst Q (sym same) q
