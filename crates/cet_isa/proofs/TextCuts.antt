-- A text is cut in one way where a test of its bytes first fails; and the bytes of decimal numbers.
use Rattle.std.proofs.Common.{◌≡◌, ℕ, ◌+◌, ◌%◌, ◌^◌, ◌<◌, Bool, true, false, List, [], ◌∷◌, ◌++◌, refl, sym, subst, arith}
use Rattle.std.specs.Fmt.{decimal}
use Rattle.std.proofs.lemmas.Bool.{both_ways, and_parts, and_from, or_left, lt-ltb}
use Rattle.std.proofs.lemmas.Fmt.{decimal_by_steps}
use Rattle.cet_isa.proofs.TextStems.{every, is_digit, is_plain, kind, number}

-- a text that ends, or goes on with a byte that fails the test
abbrev pub Stops : (ℕ → Bool) → List ℕ → Type 0
Stops passes [] = Unit {0}
Stops passes (x ∷ xs) = passes x ≡ false

module _ (passes : ℕ → Bool) where
  pub one_cut : (a b x y : List ℕ) → every passes a ≡ true → every passes b ≡ true → Stops passes x → Stops passes y → a ++ x ≡ b ++ y → (a ≡ b) × (x ≡ y)
  one_cut [] [] x y all_a all_b stops_x stops_y e = (refl, e)
  one_cut [] (c ∷ b) x y all_a all_b stops_x stops_y e = absurd (both_ways (passes c) (subst (λ (l : List ℕ). Stops passes l) e stops_x) (and_parts (passes c) (every passes b) all_b).0)
  one_cut (c ∷ a) [] x y all_a all_b stops_x stops_y e = absurd (both_ways (passes c) (subst (λ (l : List ℕ). Stops passes l) (sym e) stops_y) (and_parts (passes c) (every passes a) all_a).0)
  one_cut (c ∷ a) (d ∷ b) x y all_a all_b stops_x stops_y e =
      let tails : a ++ x ≡ b ++ y = cc in
      let r = one_cut a b x y (and_parts (passes c) (every passes a) all_a).1 (and_parts (passes d) (every passes b) all_b).1 stops_x stops_y tails in
      let heads = r.0 in
      (cc, r.1)

  pub every-append : (a b : List ℕ) → every passes a ≡ true → every passes b ≡ true → every passes (a ++ b) ≡ true
  every-append [] b p q = q
  every-append (x ∷ a) b p q = let r = and_parts (passes x) (every passes a) p in and_from (passes x) (every passes (a ++ b)) r.0 (every-append a b r.1 q)

pub every_weaker : (p q : ℕ → Bool) → ((x : ℕ) → p x ≡ true → q x ≡ true) → (a : List ℕ) → every p a ≡ true → every q a ≡ true
every_weaker p q weaker [] h = refl
every_weaker p q weaker (x ∷ a) h = let r = and_parts (p x) (every p a) h in and_from (q x) (every q a) (weaker x r.0) (every_weaker p q weaker a r.1)

-- ---- numbers

record Digits (text : List ℕ) : Type 0 where
  all : every is_digit text ≡ true
  some : kind text ≡ number

glyph : (n : ℕ) → n < 10 → is_digit (48 + n) ≡ true
glyph n h = and_from _ _ (lt-ltb 47 (48 + n) (omega arith)) (lt-ltb (48 + n) 58 (omega arith))

one_digit : (n : ℕ) → n < 10 → Digits ((48 + n) ∷ [])
one_digit n h = let e = glyph n h in record { all = rw e; some = rw e }

longer : (n : ℕ) (ds : List ℕ) → Digits ds → Digits (ds ++ ((48 + n % 10) ∷ []))
longer n [] d = absurd (let e = d.some in cc)
longer n (x ∷ ds) d = record { all = every-append is_digit (x ∷ ds) _ d.all (one_digit (n % 10) (omega arith)).all; some = d.some }

digits : (n : ℕ) → n < 2 ^ 64 → Digits (decimal n)
digits n h = decimal_by_steps (λ n ds. Digits ds) one_digit (λ n ds more d. longer n ds d) n h

pub decimal_plain : (n : ℕ) → n < 2 ^ 64 → every is_plain (decimal n) ≡ true
decimal_plain n h = every_weaker is_digit is_plain (λ x e. or_left (is_digit x) _ e) (decimal n) (digits n h).all

pub kind-decimal : (n : ℕ) → n < 2 ^ 64 → kind (decimal n) ≡ number
kind-decimal n h = (digits n h).some
