-- The limit of a run.
use Rattle.std.proofs.Common.{◌≡◌, ℕ, zero, suc, ◌+◌, ◌<◌, ◌≤◌, Bool, true, false, List, [], ◌∷◌, length, Option, Some, None, is_some, if◌then◌else◌, refl, ap, ◌∙◌, arith}
use Rattle.cet_process.specs.declared.event.Event.{Event}
use Rattle.cet_process.specs.State.{State, view}
use Rattle.cet_process.specs.After.{after}
use Rattle.cet_process.specs.Chosen.{Plan, next_choice, go_on, chosen}

-- what comes after an event
abbrev pub Later : Type 0
Later = Event → List Event → List Plan → List Event

bounded : (b : Bool) (o : Option (Event × List Event × List Plan)) (f : Later) (limit : ℕ) → ((e : Event) (given : List Event) (plans : List Plan) → length (f e given plans) ≤ limit)
    → length (if b then [] else go_on o f) ≤ suc limit
bounded true o f limit h = omega arith
bounded false None f limit h = omega arith
bounded false (Some x) f limit h = omega (arith, h x.0 x.1 x.2)

pub limited : (S : State) (given : List Event) (plans : List Plan) (limit : ℕ) → length (chosen S given plans limit) ≤ limit
unfolding chosen
limited S given plans zero = omega arith
limited S given plans (suc limit) =
    bounded (is_some S.end) (next_choice given plans (view S)) (λ e given plans. chosen ((after S e).0) given plans limit) limit (λ e given plans. limited ((after S e).0) given plans limit)

same_later : (b : Bool) (o : Option (Event × List Event × List Plan)) (f g : Later) (limit : ℕ)
    → ((e : Event) (given : List Event) (plans : List Plan) → length (f e given plans) < limit → g e given plans ≡ f e given plans) → length (if b then [] else go_on o f) < suc limit
    → (if b then [] else go_on o g) ≡ (if b then [] else go_on o f)
same_later true o f g limit h few = refl
same_later false None f g limit h few = refl
same_later false (Some x) f g limit h few = ap (λ (l : List Event). x.0 ∷ l) (h x.0 x.1 x.2 (omega arith))

pub none_more : (S : State) (given : List Event) (plans : List Plan) (limit more : ℕ) → length (chosen S given plans limit) < limit
    → chosen S given plans (limit + more) ≡ chosen S given plans limit
unfolding chosen
none_more S given plans zero more few = absurd (omega arith)
none_more S given plans (suc limit) more few =
    let e : suc limit + more ≡ suc (limit + more) = omega arith in
    ap (λ (k : ℕ). chosen S given plans k) e
    ∙ same_later (is_some S.end) (next_choice given plans (view S)) (λ e given plans. chosen ((after S e).0) given plans limit) (λ e given plans. chosen ((after S e).0) given plans (limit + more)) limit
    (λ e given plans. none_more ((after S e).0) given plans limit more) few
