-- What choosers that were handed in choose, and what one event of a run does.
use Rattle.std.proofs.Common.{◌≡◌, ℕ, suc, ◌+◌, ◌<◌, ◌≤◌, true, false, List, [], ◌∷◌, length, map, drop, get_or, Option, Some, None, option_map, is_some, if◌then◌else◌, refl, sym, ap, subst, ◌∙◌, arith}
use Rattle.std.proofs.lemmas.List.{drop_more, drop_all}
use Rattle.cet_process.specs.declared.event.Event.{Event}
use Rattle.cet_process.specs.declared.outcome.Outcome.{Outcome}
use Rattle.cet_process.specs.declared.view.View.{View}
use Rattle.cet_process.specs.State.{State, view}
use Rattle.cet_process.specs.After.{after}
use Rattle.cet_process.specs.Chosen.{Plan, next_of, taken_or, first_of, next_choice, go_on, chosen}
use Rattle.cet_choosers.specs.Plans.{First, Chooses}
use Rattle.cet_run.specs.Turn.{Told, NoneChosen, OneChosen, ChoosesNext, NoTurn, OneTurn}

-- ---- the next event

pub given_chosen : (v : View) (given : List Event) (index : ℕ) (told : List (Option Plan)) (e : Event) → index < length given → e ≡ get_or given index e → OneChosen v given index told told e
given_chosen v given index told e within is = record {
  given_one = λ _. is;
  chosen = λ plans tell.
      (plans, tell, ap (λ (es : List Event). next_choice es plans v) (drop_more given index e within ∙ ap (λ (x : Event). x ∷ drop (index + 1) given) (sym is)));
}

-- the answer of the first plan that has an event
abbrev FirstIs : Option (Event × List Plan) → Option Event → List (Option Plan) → Type 0
FirstIs None answer now = answer ≡ None
FirstIs (Some x) answer now = (answer ≡ Some x.0) × (now ≡ map Some x.1)

asked_first : (o : Option (Event × Plan)) (plans : List Plan) (later : Option (Event × List Plan)) (answer : Option Event) (now : List (Option Plan)) (L : Type 0) → (L → FirstIs later answer now)
    → First o (map Some plans) answer now L → FirstIs (taken_or o plans later) answer now
asked_first None plans later answer now L k h = k h
asked_first (Some x) plans later answer now L k h = (h.0, h.1)

asked : (plans : List Plan) (v : View) (answer : Option Event) (now : List (Option Plan)) → Chooses (map Some plans) v answer now → FirstIs (first_of plans v) answer now
asked [] v answer now h = h.0
asked (p ∷ plans) v answer now h = asked_first (next_of p v) plans (first_of plans v) answer now (Chooses (map Some plans) v answer now) (asked plans v answer now) h

-- a choice where none is given
abbrev without_given : Option (Event × List Plan) → Option (Event × List Event × List Plan)
without_given o = option_map (λ x. (x.0, [], x.1)) o

no_choice : (o : Option (Event × List Plan)) (now : List (Option Plan)) → FirstIs o None now → without_given o ≡ None
no_choice None now h = refl
no_choice (Some x) now h = let e : None ≡ Some x.0 = h.0 in absurd cc

one_choice : (o : Option (Event × List Plan)) (e : Event) (now : List (Option Plan)) (rest : List Event) → rest ≡ [] → FirstIs o (Some e) now
    → (left : List Plan) × Told now left × (without_given o ≡ Some (e, rest, left))
one_choice None e now rest nil h = absurd cc
one_choice (Some x) e now rest nil h =
    let first : Some e ≡ Some x.0 = h.0 in
    let same : e ≡ x.0 = cc in
    (x.1, h.1, ap (λ (y : Event). Some (y, [], x.1)) (sym same) ∙ ap (λ (l : List Event). Some (e, l, x.1)) (sym nil))

pub box_chosen : (v : View) (given : List Event) (index : ℕ) (told now : List (Option Plan)) (answer : Option Event) → length given ≤ index → Chooses told v answer now
    → ChoosesNext v given index told now answer
box_chosen v given index told now None over h = record {
  used = over;
  none = λ plans tell.
      ap (λ (es : List Event). next_choice es plans v) (drop_all index given over)
      ∙ no_choice (first_of plans v) now (asked plans v None now (subst (λ (t : List (Option Plan)). Chooses t v None now) tell h));
}
box_chosen v given index told now (Some e) over h = record {
  given_one = λ within. absurd (omega arith);
  chosen = λ plans tell.
      let first = asked plans v (Some e) now (subst (λ (t : List (Option Plan)). Chooses t v (Some e) now) tell h) in
      let choice = one_choice (first_of plans v) e now (drop (index + 1) given) (drop_all (index + 1) given (omega arith)) first in
      (choice.0, choice.1, ap (λ (es : List Event). next_choice es plans v) (drop_all index given over) ∙ choice.2);
}

-- ---- one event

ended_chosen : (S : State) (given : List Event) (plans : List Plan) (n : ℕ) → is_some S.end ≡ true → chosen S given plans (suc n) ≡ []
unfolding chosen
ended_chosen S given plans n e = ap (λ b. if b then [] else go_on (next_choice given plans (view S)) (λ e given plans. chosen ((after S e).0) given plans n)) e

choice_chosen : (S : State) (given : List Event) (plans : List Plan) (n : ℕ) (o : Option (Event × List Event × List Plan)) → is_some S.end ≡ false → next_choice given plans (view S) ≡ o
    → chosen S given plans (suc n) ≡ go_on o (λ e given plans. chosen ((after S e).0) given plans n)
unfolding chosen
choice_chosen S given plans n o lives e =
    ap (λ b. if b then [] else go_on (next_choice given plans (view S)) (λ e given plans. chosen ((after S e).0) given plans n)) lives
    ∙ ap (λ (o : Option (Event × List Event × List Plan)). go_on o (λ e given plans. chosen ((after S e).0) given plans n)) e

pub ended_turn : (S : State) (given : List Event) (index : ℕ) (told : List (Option Plan)) → is_some S.end ≡ true → NoTurn S S given index told
ended_turn S given index told over = record {
  same = refl;
  used = λ lives. absurd cc;
  none = λ plans tell n. ended_chosen S (drop index given) plans n over;
}

pub none_turn : (S : State) (v : View) (given : List Event) (index : ℕ) (told : List (Option Plan)) → is_some S.end ≡ false → v ≡ view S → NoneChosen v given index told → NoTurn S S given index told
none_turn S v given index told lives sight choice = record {
  same = refl;
  used = λ _. choice.used;
  none = λ plans tell n.
      choice_chosen S (drop index given) plans n None lives (subst (λ (x : View). next_choice (drop index given) plans x ≡ None) sight (choice.none plans tell));
}

pub one_turn : (S T : State) (v : View) (given : List Event) (index : ℕ) (told now : List (Option Plan)) (e : Event) (o : Outcome) → is_some S.end ≡ false → v ≡ view S
    → OneChosen v given index told now e → (T, o) ≡ after S e → OneTurn S T given index told now (record { event = e; outcome = o })
one_turn S T v given index told now e o lives sight choice does = record {
  does = does;
  given_one = choice.given_one;
  chosen = λ plans tell.
      let next = choice.chosen plans tell in (
        next.0,
        next.1,
        λ n. choice_chosen S (drop index given) plans n (Some (e, drop (index + 1) given, next.0)) lives
            (subst (λ (x : View). next_choice (drop index given) plans x ≡ Some (e, drop (index + 1) given, next.0)) sight next.2)
            ∙ ap (λ (y : State × Outcome). e ∷ chosen y.0 (drop (index + 1) given) next.0 n) (sym does),
      );
}
