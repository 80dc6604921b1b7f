-- What a run has done whose choosers and watchers were handed in.
use Rattle.std.proofs.Common.{◌≡◌, ℕ, suc, ◌+◌, ◌-◌, ◌<◌, ◌≤◌, ◌⊎◌, inl, inr, false, List, [], ◌∷◌, ◌++◌, length, map, take, drop, get_or, reverse, Option, Some, None, is_some, refl, sym, ap, subst, ◌∙◌, arith, append_assoc}
use Rattle.std.proofs.lemmas.Bool.{cases_lt}
use Rattle.std.proofs.lemmas.List.{append-nil, map-append, length-map, length_push, take_all, take_more, take-append-le, same_from_push, reverse-reverse}
use Rattle.cet_process.specs.declared.event.Event.{Event}
use Rattle.cet_process.specs.declared.outcome.Outcome.{Outcome}
use Rattle.cet_process.specs.State.{State}
use Rattle.cet_process.specs.After.{after}
use Rattle.cet_process.specs.Run.{state_after}
use Rattle.cet_process.specs.Chosen.{Plan, chosen}
use Rattle.cet_choosers.specs.Watching.{Seen, Pair, Shows, watched}
use Rattle.cet_choosers.proofs.Watched.{shown_first, shown_more}
use Rattle.cet_run.specs.declared.report.Done.{Done}
use Rattle.cet_run.specs.Report.{done}
use Rattle.cet_run.specs.Run.{applied, BeginsWith, AreChosen, AreWatched, UsesGiven, IsRun}
use Rattle.cet_run.specs.Turn.{Told, NoTurn, OneTurn, Turns}

-- ---- lists of events

applied_push : (dones : List Done) (d : Done) → applied (dones ++ d ∷ []) ≡ applied dones ++ d.event ∷ []
applied_push dones d = map-append (λ (d : Done). d.event) dones (d ∷ [])

done_push : (S : State) (events : List Event) (e : Event) → done S (events ++ e ∷ []) ≡ done S events ++ record { event = e; outcome = (after (state_after S events) e).1 } ∷ []
unfolding done state_after
done_push S [] e = refl
done_push S (x ∷ events) e = ap (λ (l : List Done). record { event = x; outcome = (after S x).1 } ∷ l) (done_push ((after S x).0) events e)

state_push : (S : State) (events : List Event) (e : Event) → state_after S (events ++ e ∷ []) ≡ (after (state_after S events) e).0
unfolding state_after
state_push S [] e = refl
state_push S (x ∷ events) e = state_push ((after S x).0) events e

begins_nil : (given : List Event) → BeginsWith given []
begins_nil [] = refl
begins_nil (x ∷ given) = refl

begins_push : (given events : List Event) (e : Event) (index : ℕ) → length events ≡ index → BeginsWith given events → (index < length given → e ≡ get_or given index e)
    → BeginsWith given (events ++ e ∷ [])
begins_push given events e index size begins is = by_order (cases_lt index (length given))
  where
    longer : length (events ++ e ∷ []) ≡ index + 1
    longer = length_push events e ∙ ap (λ (n : ℕ). n + 1) size

    by_order : (index < length given) ⊎ (length given ≤ index) → BeginsWith given (events ++ e ∷ [])
    by_order (inl less) =
        let l = longer in
        let all : take (length given) (events ++ e ∷ []) ≡ events ++ e ∷ [] = take_all (length given) (events ++ e ∷ []) (omega arith) in
        let front : events ≡ take index given = sym (take_all (length given) events (omega arith)) ∙ begins ∙ ap (λ (n : ℕ). take n given) size in
        all ∙ ap (λ (es : List Event). es ++ e ∷ []) front ∙ ap (λ (x : Event). take index given ++ x ∷ []) (is less) ∙ sym (take_more given index e less)
        ∙ ap (λ (n : ℕ). take n given) (sym l)
    by_order (inr more) =
        let l = longer in
        take-append-le (length given) events (e ∷ []) (omega arith) ∙ begins ∙ take_all (length events) given (omega arith) ∙ sym (take_all (length (events ++ e ∷ [])) given (omega arith))

-- ---- the run

-- these events were done from S on, and led to P; the others are to come from the choosers that are left
pub record Progress (S : State) (given : List Event) (told : List (Option Plan)) (limit : ℕ) (P : State) (now : List (Option Plan)) (dones : List Done) (index : ℕ) : Type 0 where
  pub count : length dones ≡ index
  pub events : dones ≡ done S (applied dones)
  pub state : P ≡ state_after S (applied dones)
  pub given_first : BeginsWith given (applied dones)
  pub rest : (plans : List Plan) → Told told plans
      → (left : List Plan) × Told now left × (chosen S given plans limit ≡ applied dones ++ chosen P (drop index given) left (limit - index))

nothing_yet : (S : State) (given : List Event) (told : List (Option Plan)) (limit : ℕ) → Progress S given told limit S told [] 0
unfolding done state_after
nothing_yet S given told limit = record {
  count = refl;
  events = refl;
  state = refl;
  given_first = begins_nil given;
  rest = λ plans tell. let e : limit ≡ limit - 0 = omega arith in (plans, tell, ap (λ (n : ℕ). chosen S given plans n) e);
}

pub started : (S : State) (given : List Event) (told : List (Option Plan)) (limit : ℕ) (dones : List Done) → dones ≡ [] → Progress S given told limit S told dones 0
started S given told limit dones nil = subst (λ (ds : List Done). Progress S given told limit S told ds 0) (sym nil) (nothing_yet S given told limit)

one_done : (P T : State) (d : Done) → (T, d.outcome) ≡ after P d.event → d ≡ record { event = d.event; outcome = (after P d.event).1 }
one_done P T d does = ap (λ (x : State × Outcome). record { event = d.event; outcome = x.1 }) does

-- one event more
after_turn : (S P T : State) (given : List Event) (told now next : List (Option Plan)) (limit index : ℕ) (dones : List Done) (d : Done) → index < limit
    → Progress S given told limit P now dones index → OneTurn P T given index now next d → Progress S given told limit T next (dones ++ d ∷ []) (index + 1)
after_turn S P T given told now next limit index dones d inside progress turn =
    let es : List Event = applied dones in
    let push : applied (dones ++ d ∷ []) ≡ es ++ d.event ∷ [] = applied_push dones d in
    let from : P ≡ state_after S es = progress.state in
    let outcome : d ≡ record { event = d.event; outcome = (after (state_after S es) d.event).1 } =
    one_done P T d turn.does ∙ ap (λ (X : State). record { event = d.event; outcome = (after X d.event).1 }) from in
    let size : length es ≡ index = length-map dones (λ (d : Done). d.event) ∙ progress.count in
    record {
      count = length_push dones d ∙ ap (λ (n : ℕ). n + 1) progress.count;
      events =
          ap (λ (l : List Done). l ++ d ∷ []) progress.events ∙ ap (λ (x : Done). done S es ++ x ∷ []) outcome ∙ sym (done_push S es d.event)
          ∙ ap (λ (l : List Event). done S l) (sym push);
      state =
          ap (λ (x : State × Outcome). x.0) turn.does ∙ ap (λ (X : State). (after X d.event).0) from ∙ sym (state_push S es d.event)
          ∙ ap (λ (l : List Event). state_after S l) (sym push);
      given_first = subst (λ (l : List Event). BeginsWith given l) (sym push) (begins_push given es d.event index size progress.given_first turn.given_one);
      rest = λ plans tell.
          let so_far = progress.rest plans tell in
          let later = turn.chosen so_far.0 so_far.1 in
          let n : ℕ = limit - (index + 1) in
          let one : limit - index ≡ suc n = omega arith in (
            later.0,
            later.1,
            so_far.2 ∙ ap (λ (k : ℕ). es ++ chosen P (drop index given) so_far.0 k) one ∙ ap (λ (l : List Event). es ++ l) (later.2 n)
                ∙ sym (append_assoc es (d.event ∷ []) (chosen T (drop (index + 1) given) later.0 n))
                ∙ ap (λ (l : List Event). l ++ chosen T (drop (index + 1) given) later.0 n) (sym push),
          );
    }

pub went_on : (S P T : State) (given : List Event) (told now next : List (Option Plan)) (limit index : ℕ) (dones more : List Done) (d : Done) → index < limit
    → Progress S given told limit P now dones index → OneTurn P T given index now next d → more ≡ dones ++ d ∷ [] → Progress S given told limit T next more (index + 1)
went_on S P T given told now next limit index dones more d inside progress turn gain =
    subst (λ (ds : List Done). Progress S given told limit T next ds (index + 1)) (sym gain) (after_turn S P T given told now next limit index dones d inside progress turn)

pub stopped_early : (S P T : State) (given : List Event) (told now : List (Option Plan)) (limit index : ℕ) (dones : List Done) → index < limit
    → Progress S given told limit P now dones index → NoTurn P T given index now → IsRun S given told limit T dones
stopped_early S P T given told now limit index dones inside progress turn =
    let count = progress.count in
    record {
      events = progress.events;
      state = turn.same ∙ progress.state;
      given_first = progress.given_first;
      chosen = λ plans tell.
          let so_far = progress.rest plans tell in
          let n : ℕ = limit - (index + 1) in
          let one : limit - index ≡ suc n = omega arith in
          sym (so_far.2 ∙ ap (λ (k : ℕ). applied dones ++ chosen P (drop index given) so_far.0 k) one
          ∙ ap (λ (l : List Event). applied dones ++ l) (turn.none so_far.0 so_far.1 n) ∙ append-nil (applied dones));
      within = omega arith;
      used = λ lives few. let over : length given ≤ index = turn.used (subst (λ (X : State). is_some X.end ≡ false) turn.same lives) in omega arith;
    }

no_more : (P : State) (given : List Event) (plans : List Plan) (n : ℕ) → n ≡ 0 → chosen P given plans n ≡ []
unfolding chosen
no_more P given plans n e = ap (λ (k : ℕ). chosen P given plans k) e

pub at_limit : (S P : State) (given : List Event) (told now : List (Option Plan)) (limit index : ℕ) (dones : List Done) → limit ≤ index → index ≤ limit
    → Progress S given told limit P now dones index → IsRun S given told limit P dones
at_limit S P given told now limit index dones over within progress =
    let count = progress.count in
    record {
      events = progress.events;
      state = progress.state;
      given_first = progress.given_first;
      chosen = λ plans tell.
          let so_far = progress.rest plans tell in
          let none : limit - index ≡ 0 = omega arith in
          sym (so_far.2 ∙ ap (λ (l : List Event). applied dones ++ l) (no_more P (drop index given) so_far.0 (limit - index) none) ∙ append-nil (applied dones));
      within = omega arith;
      used = λ lives few. absurd (omega arith);
    }

-- ---- the watchers

-- a list is empty, or has a last item
last_of : {X : Type 0} (xs : List X) → (xs ≡ []) ⊎ ((front : List X) × (x : X) × (xs ≡ front ++ x ∷ []))
last_of [] = inl refl
last_of {X} (x ∷ xs) = by_rest (last_of xs)
  where
    by_rest : (xs ≡ []) ⊎ ((front : List X) × (y : X) × (xs ≡ front ++ y ∷ [])) → (x ∷ xs ≡ []) ⊎ ((front : List X) × (y : X) × (x ∷ xs ≡ front ++ y ∷ []))
    by_rest (inl nil) = inr ([], x, ap (λ (l : List X). x ∷ l) nil)
    by_rest (inr h) = inr (x ∷ h.0, h.1, ap (λ (l : List X). x ∷ l) h.2)

pair : Done → Pair
pair d = (d.event, d.outcome)

pub none_watched : (before now : List (Option Seen)) (dones : List Done) → dones ≡ [] → AreWatched before dones now
none_watched before now dones nil = λ front d is ws tell.
    let size : length (front ++ d ∷ []) ≡ 0 = ap length (sym is ∙ nil) in
    let more = length_push front d in
    absurd (omega arith)

pub watched_more : (before now after : List (Option Seen)) (dones more : List Done) (d : Done) → more ≡ dones ++ d ∷ [] → (dones ≡ [] → now ≡ before) → AreWatched before dones now
    → Shows now (d.event, d.outcome) after → AreWatched before more after
watched_more before now after dones more d gain quiet so_far shows = λ front e is ws tell.
    let same = same_from_push dones front d e (sym gain ∙ is) in
    let size : length more ≡ length dones + 1 = ap length gain ∙ length_push dones d in
    by_last front e ws tell same.1 size (last_of dones)
  where
    by_last : (front : List Done) (e : Done) (ws : List Seen) → before ≡ map Some ws → d ≡ e → length more ≡ length dones + 1
        → (dones ≡ []) ⊎ ((rest : List Done) × (x : Done) × (dones ≡ rest ++ x ∷ [])) → after ≡ map Some (watched (length more) (e.event, e.outcome) ws)
    by_last front e ws tell same size (inl nil) =
        let one : 1 ≡ length more = omega (arith, ap length nil) in
        shows ws (quiet nil ∙ tell) ∙ ap (λ (l : List Seen). map Some l) (shown_first (d.event, d.outcome) ws
        ∙ ap (λ (x : Done). watched 1 (x.event, x.outcome) ws) same ∙ ap (λ (n : ℕ). watched n (e.event, e.outcome) ws) one)
    by_last front e ws tell same size (inr h) =
        shows (watched (length dones) (h.1.event, h.1.outcome) ws) (so_far h.0 h.1 h.2 ws tell)
        ∙ ap (λ (l : List Seen). map Some l) (shown_more (length dones) (d.event, d.outcome) (h.1.event, h.1.outcome) ws
        ∙ ap (λ (x : Done). watched (length dones + 1) (x.event, x.outcome) ws) same ∙ ap (λ (n : ℕ). watched n (e.event, e.outcome) ws) (sym size))

-- a list with one more item is not empty
pub not_quiet : {X : Type 0} (dones more : List Done) (d : Done) (xs ys : List X) → more ≡ dones ++ d ∷ [] → more ≡ [] → xs ≡ ys
not_quiet dones more d xs ys gain nil =
    let size : length (dones ++ d ∷ []) ≡ 0 = ap length (sym gain ∙ nil) in
    let one = length_push dones d in
    absurd (omega arith)

pub some_turn : (P T : State) (given : List Event) (index : ℕ) (now next : List (Option Plan)) (o : Option Done) (d : Done) → o ≡ Some d → Turns P T given index now next o
    → OneTurn P T given index now next d
some_turn P T given index now next o d is turns = subst (λ (x : Option Done). Turns P T given index now next x) is turns

pub no_turn : (P T : State) (given : List Event) (index : ℕ) (now next : List (Option Plan)) (o : Option Done) → o ≡ None → Turns P T given index now next o → NoTurn P T given index now
no_turn P T given index now next o is turns = subst (λ (x : Option Done). Turns P T given index now next x) is turns

-- a run of which this is the state after it
pub given_used : (S : State) (given : List Event) (told : List (Option Plan)) (limit : ℕ) (T : State) (dones : List Done) → IsRun S given told limit T dones → UsesGiven S given limit dones
given_used S given told limit T dones run = λ lives few.
    let alive : is_some T.end ≡ false = ap (λ (X : State). is_some X.end) run.state ∙ ap (λ (o : Option Outcome). is_some o) lives in
    run.used alive few

-- the choosers were turned round, and so the plans are those of the list
pub turned_round : {X : Type 0} (plan : X → Option Plan) (xs ys : List X) → ys ≡ reverse xs → map plan xs ≡ map plan (reverse ys)
turned_round plan xs ys e = ap (map plan) (sym (reverse-reverse xs) ∙ ap reverse (sym e))

pub chosen_by : (S : State) (given : List Event) (told now : List (Option Plan)) (limit : ℕ) (events : List Event) → told ≡ now → AreChosen S given now limit events → AreChosen S given told limit events
chosen_by S given told now limit events same chosen = λ plans tell. chosen plans (sym same ∙ tell)
