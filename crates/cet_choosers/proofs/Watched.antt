-- Watchers that saw several events.
use Rattle.std.proofs.Common.{◌≡◌, ℕ, ◌+◌, ◌≤◌, min, Bool, true, false, not, cond, List, [], ◌∷◌, map, filter, Option, Some, None, refl, ap, ◌∙◌, arith}
use Rattle.std.proofs.lemmas.Bool.Decides.{nat_tests}
use Rattle.cet_choosers.specs.Watching.{Seen, Pair, most, seen_more, has_reached, goes_on, shown, number_after, outlasts, seen_after, watched}

one_count : (a n m : ℕ) → min (min (a + n) m + 1) m ≡ min (a + (n + 1)) m
one_count a n m = omega arith

-- one that has reached its limit has reached it later too
still : (limit : Option ℕ) (a b : ℕ) → a ≤ b → has_reached limit a ≡ true → has_reached limit b ≡ true
still None a b order h = absurd cc
still (Some limit) a b order h = grind (arith, nat_tests)

more_count : (a n m : ℕ) → min (a + n) m ≤ min (a + (n + 1)) m
more_count a n m = omega arith

of_not : (b : Bool) → not b ≡ false → b ≡ true
of_not true e = refl
of_not false e = absurd cc

gone : (n : ℕ) (s : Seen) → outlasts n s ≡ false → outlasts (n + 1) s ≡ false
gone n s e =
    ap not (still s.limit (number_after n s) (number_after (n + 1) s) (more_count s.number n most) (of_not (has_reached s.limit (number_after n s)) e))

next_seen : (n : ℕ) (p q : Pair) (s : Seen) → seen_more (seen_after n q s) p ≡ seen_after (n + 1) p s
next_seen n p q s = ap (λ (k : ℕ). record { number = k; last = Some p; limit = s.limit }) (one_count s.number n most)

kept_or_not : (t c : Bool) (x y : Seen) (xs ys : List Seen) → t ≡ c → x ≡ y → xs ≡ ys → cond t (x ∷ xs) xs ≡ cond c (y ∷ ys) ys
kept_or_not t c x y xs ys e f g =
    ap (λ (b : Bool). cond b (x ∷ xs) xs) e ∙ ap (λ (z : Seen). cond c (z ∷ xs) xs) f ∙ ap (λ (zs : List Seen). cond c (y ∷ zs) zs) g

-- one pair more for those that went on so far
abbrev next_shown : ℕ → Pair → Pair → List Seen → List Seen
next_shown n p q ws = filter goes_on (map (λ s. seen_more s p) (map (seen_after n q) ws))

-- the first of them, by whether it went on so far, and goes on now
step_one : (n : ℕ) (p q : Pair) (s : Seen) (ws vs : List Seen) (b c : Bool) → outlasts n s ≡ b → outlasts (n + 1) s ≡ c → next_shown n p q ws ≡ map (seen_after (n + 1) p) vs
    → next_shown n p q (cond b (s ∷ ws) ws) ≡ map (seen_after (n + 1) p) (cond c (s ∷ vs) vs)
step_one n p q s ws vs false true e f same = let h : outlasts (n + 1) s ≡ false = gone n s e in absurd cc
step_one n p q s ws vs false false e f same = same
step_one n p q s ws vs true true e f same =
    kept_or_not (goes_on (seen_more (seen_after n q s) p)) true (seen_more (seen_after n q s) p) (seen_after (n + 1) p s) (next_shown n p q ws) (map (seen_after (n + 1) p) vs)
    (ap (λ (k : ℕ). not (has_reached s.limit k)) (one_count s.number n most) ∙ f) (next_seen n p q s) same
step_one n p q s ws vs true false e f same =
    kept_or_not (goes_on (seen_more (seen_after n q s) p)) false (seen_more (seen_after n q s) p) (seen_after (n + 1) p s) (next_shown n p q ws) (map (seen_after (n + 1) p) vs)
    (ap (λ (k : ℕ). not (has_reached s.limit k)) (one_count s.number n most) ∙ f) (next_seen n p q s) same

-- one pair more
pub shown_more : (n : ℕ) (p q : Pair) (ws : List Seen) → shown p (watched n q ws) ≡ watched (n + 1) p ws
shown_more n p q [] = refl
shown_more n p q (s ∷ ws) =
    step_one n p q s (filter (outlasts n) ws) (filter (outlasts (n + 1)) ws) (outlasts n s) (outlasts (n + 1) s) refl refl (shown_more n p q ws)

first_one : (p : Pair) (s : Seen) (ws vs : List Seen) (c : Bool) → outlasts 1 s ≡ c → filter goes_on (map (λ s. seen_more s p) ws) ≡ map (seen_after 1 p) vs
    → cond (outlasts 1 s) (seen_more s p ∷ filter goes_on (map (λ s. seen_more s p) ws)) (filter goes_on (map (λ s. seen_more s p) ws)) ≡ map (seen_after 1 p) (cond c (s ∷ vs) vs)
first_one p s ws vs true e same = kept_or_not (outlasts 1 s) true (seen_more s p) (seen_more s p) _ (map (seen_after 1 p) vs) e refl same
first_one p s ws vs false e same = kept_or_not (outlasts 1 s) false (seen_more s p) (seen_more s p) _ (map (seen_after 1 p) vs) e refl same

-- the first pair
pub shown_first : (p : Pair) (ws : List Seen) → shown p ws ≡ watched 1 p ws
shown_first p [] = refl
shown_first p (s ∷ ws) = first_one p s ws (filter (outlasts 1) ws) (outlasts 1 s) refl (shown_first p ws)
