-- The choosers that are asked one after another, of which the next one stands last.
use Rattle.std.proofs.Common.{◌≡◌, ℕ, zero, suc, ◌+◌, ◌<◌, List, [], ◌∷◌, ◌++◌, length, take, get_or, map, reverse, Option, Some, None, refl, sym, ap, subst, ◌∙◌, arith}
use Rattle.std.proofs.Math.ListN.{set}
use Rattle.std.proofs.lemmas.List.{take_all, take_more, take_more_set, length-set, take-set, reverse-append, nil_from_length}
use Rattle.cet_process.specs.declared.event.Event.{Event}
use Rattle.cet_process.specs.declared.view.View.{View}
use Rattle.cet_process.specs.Chosen.{Plan, next_of}
use Rattle.cet_choosers.specs.Plans.{Goes, Answers, First, Chooses}

module _ {X : Type 0} (plan : X → Option Plan) where
  -- the plans that are left, the next one first
  abbrev plans : List X → List (Option Plan)
  plans xs = map plan (reverse xs)

  last_first : (xs : List X) (x : X) → plans (xs ++ x ∷ []) ≡ plan x ∷ plans xs
  last_first xs x = ap (map plan) (reverse-append xs (x ∷ []))

  with_last : (xs : List X) (k : ℕ) (x : X) → k + 1 ≡ length xs → x ≡ get_or xs k x → plans xs ≡ plan x ∷ plans (take k xs)
  with_last xs k x size is =
      let all : xs ≡ take k xs ++ x ∷ [] =
      sym (take_all (k + 1) xs (omega arith)) ∙ take_more xs k x (omega arith) ∙ ap (λ (y : X). take k xs ++ y ∷ []) (sym is) in
      ap plans all ∙ last_first (take k xs) x

  with_last_set : (xs : List X) (k : ℕ) (y : X) → k + 1 ≡ length xs → plans (set xs k y) ≡ plan y ∷ plans (take k xs)
  with_last_set xs k y size =
      let all : set xs k y ≡ take k xs ++ y ∷ [] =
      sym (take_all (k + 1) (set xs k y) (omega (arith, length-set xs k y))) ∙ take_more_set xs k y (omega arith) in
      ap plans all ∙ last_first (take k xs) y

  first_answers : (o : Option (Event × Plan)) (p : Plan) (e : Event) (left : Option Plan) (others : List (Option Plan)) (later : Type 0) → Goes o p (Some e) left
      → First o others (Some e) (left ∷ others) later
  first_answers None p e left others later goes = absurd cc
  first_answers (Some x) p e left others later goes = (goes.0, ap (λ (q : Option Plan). q ∷ others) goes.1)

  answered : (told : Option Plan) (v : View) (e : Event) (left : Option Plan) (others : List (Option Plan)) → Answers told v (Some e) left
      → Chooses (told ∷ others) v (Some e) (left ∷ others)
  answered None v e left others says = tt
  answered (Some p) v e left others says = first_answers (next_of p v) p e left others _ says

  pub asked_some : (xs : List X) (k : ℕ) (x y : X) (v : View) (e : Event) → k + 1 ≡ length xs → x ≡ get_or xs k x → Answers (plan x) v (Some e) (plan y)
      → Chooses (plans xs) v (Some e) (plans (set xs k y))
  asked_some xs k x y v e size is says =
      subst (λ (ps : List (Option Plan)). Chooses ps v (Some e) (plans (set xs k y))) (sym (with_last xs k x size is))
      (subst (λ (ps : List (Option Plan)). Chooses (plan x ∷ plans (take k xs)) v (Some e) ps) (sym (with_last_set xs k y size)) (answered (plan x) v e (plan y) (plans (take k xs)) says))

  passed_over : (o : Option (Event × Plan)) (p : Plan) (r : Option Event) (left : Option Plan) (others : List (Option Plan)) (later : Type 0) (answer : Option Event) (after : List (Option Plan))
      → Goes o p r left → r ≡ None → later → First o others answer after later
  passed_over None p r left others later answer after goes none h = h
  passed_over (Some x) p r left others later answer after goes none h = let e : Some x.0 ≡ None = sym goes.0 ∙ none in absurd cc

  unanswered : (told : Option Plan) (v : View) (r : Option Event) (left : Option Plan) (others : List (Option Plan)) (answer : Option Event) (after : List (Option Plan)) → Answers told v r left
      → r ≡ None → Chooses others v answer after → Chooses (told ∷ others) v answer after
  unanswered None v r left others answer after says none h = tt
  unanswered (Some p) v r left others answer after says none h = passed_over (next_of p v) p r left others _ answer after says none h

  pub asked_none : (xs : List X) (k : ℕ) (x y : X) (v : View) (r : Option Event) (rest : List X) (answer : Option Event) (after : List (Option Plan)) → k + 1 ≡ length xs → x ≡ get_or xs k x
      → Answers (plan x) v r (plan y) → r ≡ None → rest ≡ take k (set xs k y) → Chooses (plans rest) v answer after → Chooses (plans xs) v answer after
  asked_none xs k x y v r rest answer after size is says none popped h =
      let same : rest ≡ take k xs = popped ∙ take-set xs k y in
      subst (λ (ps : List (Option Plan)). Chooses ps v answer after) (sym (with_last xs k x size is))
      (unanswered (plan x) v r (plan y) (plans (take k xs)) answer after says none (subst (λ (zs : List X). Chooses (plans zs) v answer after) same h))

  pub none_is_left : (xs : List X) (v : View) → length xs ≡ 0 → Chooses (plans xs) v None (plans xs)
  none_is_left xs v none = subst (λ (zs : List X). Chooses (plans zs) v None (plans zs)) (sym (nil_from_length xs none)) (refl, refl)

pub empty : {X : Type 0} (xs : List X) (n : ℕ) → n ≡ length xs → (0 < n → ⊥) → length xs ≡ 0
empty xs zero size none = sym size
empty xs (suc n) size none = absurd (none (omega arith))
