-- Watchers that are shown an event, one after another, and those of them that are kept.
use Rattle.std.proofs.Common.{◌≡◌, ℕ, ◌+◌, ◌<◌, ◌≤◌, Bool, true, false, cond, List, [], ◌∷◌, ◌++◌, length, take, drop, get_or, map, filter, Option, Some, refl, sym, ap, subst, ◌∙◌, arith, append_assoc}
use Rattle.std.proofs.Math.ListN.{set}
use Rattle.std.specs.List.{items_where_true}
use Rattle.std.specs.List.Retain.{ReturnsInTurn, IsFiltered}
use Rattle.std.proofs.lemmas.List.{append-nil, map-append, take_all, take_more_set, drop_more, drop_all, drop-set-lt}
use Rattle.cet_process.specs.declared.event.Event.{Event}
use Rattle.cet_process.specs.declared.outcome.Outcome.{Outcome}
use Rattle.cet_choosers.specs.Watching.{Seen, seen_more, Sees, goes_on, GoesOn, SeenByAll, Shows}

module _ {X : Type 0} (seen : X → Option Seen) (event : Event) (outcome : Outcome) where
  -- what holds once those from place i on have seen the event
  abbrev pub Later : (List (Option Seen) → Type 0) → List X → ℕ → Type 0
  Later P xs i = (later : List (Option Seen)) → SeenByAll (map seen (drop i xs)) event outcome later → P (map seen (take i xs) ++ later)

  pub one_more : (P : List (Option Seen) → Type 0) (xs : List X) (i : ℕ) (d y : X) → i < length xs → Sees (seen (get_or xs i d)) event outcome (seen y) → Later P xs i
      → Later P (set xs i y) (i + 1)
  one_more P xs i d y within sees before = λ later h.
      let head : drop i xs ≡ get_or xs i d ∷ drop (i + 1) xs = drop_more xs i d within in
      let same : drop (i + 1) (set xs i y) ≡ drop (i + 1) xs = drop-set-lt (i + 1) xs i y (omega arith) in
      let rest = subst (λ (zs : List X). SeenByAll (map seen zs) event outcome later) same h in
      let all = before (seen y ∷ later) (subst (λ (zs : List X). SeenByAll (map seen zs) event outcome (seen y ∷ later)) (sym head) (seen y, later, sees, rest, refl)) in
      let front : map seen (take (i + 1) (set xs i y)) ≡ map seen (take i xs) ++ seen y ∷ [] =
      ap (map seen) (take_more_set xs i y within) ∙ map-append seen (take i xs) (y ∷ []) in
      subst P (sym (ap (λ (ws : List (Option Seen)). ws ++ later) front ∙ append_assoc (map seen (take i xs)) (seen y ∷ []) later)) all

  pub all_have : (P : List (Option Seen) → Type 0) (xs : List X) (i : ℕ) → length xs ≤ i → Later P xs i → P (map seen xs)
  all_have P xs i end before =
      let none : drop i xs ≡ [] = drop_all i xs end in
      let h = before [] (subst (λ (zs : List X). SeenByAll (map seen zs) event outcome []) (sym none) refl) in
      subst P (append-nil (map seen (take i xs)) ∙ ap (map seen) (take_all i xs end)) h

-- ---- where all tell what they have seen

-- what one tells after the event
told_next : (b a : Option Seen) (s : Seen) (event : Event) (outcome : Outcome) → b ≡ Some s → Sees b event outcome a → a ≡ Some (seen_more s (event, outcome))
told_next b a s event outcome is sees = let h = subst (λ (o : Option Seen). Sees o event outcome a) is sees in h

pub all_tell : (before : List (Option Seen)) (event : Event) (outcome : Outcome) (now : List (Option Seen)) (ws : List Seen) → SeenByAll before event outcome now → before ≡ map Some ws
    → now ≡ map Some (map (λ s. seen_more s (event, outcome)) ws)
all_tell [] event outcome now [] seen is = seen
all_tell [] event outcome now (w ∷ ws) seen is = absurd cc
all_tell (b ∷ before) event outcome now [] seen is = absurd cc
all_tell (b ∷ before) event outcome now (w ∷ ws) seen is =
    let first : b ≡ Some w = cc in
    let others : before ≡ map Some ws = cc in
    let one : seen.0 ≡ Some (seen_more w (event, outcome)) = told_next b seen.0 w event outcome first seen.2 in
    let rest : seen.1 ≡ map Some (map (λ s. seen_more s (event, outcome)) ws) = all_tell before event outcome seen.1 ws seen.3 others in
    seen.4 ∙ ap (λ (o : Option Seen). o ∷ seen.1) one ∙ ap (λ (os : List (Option Seen)). Some (seen_more w (event, outcome)) ∷ os) rest

module _ {X F : Type 0} (seen : X → Option Seen) (R : F → X → Bool → F → Type 0) (says : (f : F) (x : X) (b : Bool) (next : F) → R f x b next → GoesOn (seen x) b) where
  one_kept : (o : Option Seen) (s : Seen) (b : Bool) → o ≡ Some s → GoesOn o b → b ≡ goes_on s
  one_kept o s b is goes = subst (λ (o : Option Seen). GoesOn o b) is goes

  -- the first is kept or not, and so is it in the list of what they tell
  first_kept : (b c : Bool) (x : X) (kept : List X) (s : Seen) (ws : List Seen) → b ≡ c → seen x ≡ Some s → map seen kept ≡ map Some ws
      → map seen (cond b (x ∷ kept) kept) ≡ map Some (cond c (s ∷ ws) ws)
  first_kept true true x kept s ws same is rest = ap (λ (o : Option Seen). o ∷ map seen kept) is ∙ ap (λ (os : List (Option Seen)). Some s ∷ os) rest
  first_kept false false x kept s ws same is rest = rest
  first_kept true false x kept s ws same is rest = absurd cc
  first_kept false true x kept s ws same is rest = absurd cc

  by_case : (b : Bool) (bs : List Bool) (x : X) (xs : List X) → items_where_true (b ∷ bs) (x ∷ xs) ≡ cond b (x ∷ items_where_true bs xs) (items_where_true bs xs)
  by_case true bs x xs = refl
  by_case false bs x xs = refl

  kept_in_turn : (f : F) (bs : List Bool) (xs : List X) (q : F) (ws : List Seen) → length bs ≡ length xs → ReturnsInTurn R f bs xs q → map seen xs ≡ map Some ws
      → map seen (items_where_true bs xs) ≡ map Some (filter goes_on ws)
  kept_in_turn f [] [] q [] size run tell = refl
  kept_in_turn f [] [] q (w ∷ ws) size run tell = absurd cc
  kept_in_turn f [] (x ∷ xs) q ws size run tell = absurd (omega arith)
  kept_in_turn f (b ∷ bs) [] q ws size run tell = absurd run
  kept_in_turn f (b ∷ bs) (x ∷ xs) q [] size run tell = absurd cc
  kept_in_turn f (b ∷ bs) (x ∷ xs) q (w ∷ ws) size run tell =
      let first : seen x ≡ Some w = cc in
      let others : map seen xs ≡ map Some ws = cc in
      let fewer : length bs ≡ length xs = omega arith in
      let rest : map seen (items_where_true bs xs) ≡ map Some (filter goes_on ws) = kept_in_turn run.0 bs xs q ws fewer run.2 others in
      let same : b ≡ goes_on w = one_kept (seen x) w b first (says f x b run.0 run.1) in
      ap (map seen) (by_case b bs x xs) ∙ first_kept b (goes_on w) x (items_where_true bs xs) w (filter goes_on ws) same first rest

  pub kept : (f : F) (xs ys : List X) (ws : List Seen) → IsFiltered R f xs ys → map seen xs ≡ map Some ws → map seen ys ≡ map Some (filter goes_on ws)
  kept f xs ys ws filtered tell = ap (map seen) filtered.4 ∙ kept_in_turn f filtered.0 xs filtered.1 ws filtered.2 filtered.3 tell

  pub kept_of_shown : (before : List (Option Seen)) (event : Event) (outcome : Outcome) (f : F) (xs ys : List X) → SeenByAll before event outcome (map seen xs) → IsFiltered R f xs ys
      → Shows before (event, outcome) (map seen ys)
  kept_of_shown before event outcome f xs ys all filtered = λ ws tell. kept f xs ys (map (λ s. seen_more s (event, outcome)) ws) filtered (all_tell before event outcome (map seen xs) ws all tell)

-- the same lists by other names
pub seen_alike : {X : Type 0} (seen : X → Option Seen) (event : Event) (outcome : Outcome) (xs ys olds news : List X) → xs ≡ olds → ys ≡ news → SeenByAll (map seen xs) event outcome (map seen ys)
    → SeenByAll (map seen olds) event outcome (map seen news)
seen_alike {X} seen event outcome xs ys olds news e f h =
    subst (λ (zs : List X). SeenByAll (map seen zs) event outcome (map seen news)) e (subst (λ (zs : List X). SeenByAll (map seen xs) event outcome (map seen zs)) f h)
