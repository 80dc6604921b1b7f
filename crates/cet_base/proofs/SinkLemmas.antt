-- What an output gained.
use Rattle.std.proofs.Common.{◌≡◌, ◌+◌, ◌-◌, ◌≤◌, ◌++◌, ℕ, List, length, take, drop, Option, Some, None, refl, sym, ap, subst, ◌∙◌, arith}
use Rattle.std.proofs.lemmas.List.{take_all, append_assoc, append-nil, take_rest}
use Rattle.std.proofs.Math.Seq.{take-add}
use Rattle.cet_base.specs.Faults.{Rose}
use Rattle.cet_base.specs.Sink.{Gains, GainsPart}

-- nothing is gained at first
pub Gains-nothing : (old : Option (List ℕ)) (piece : List ℕ) → Gains old old (take 0 piece)
Gains-nothing None piece = refl
Gains-nothing (Some old) piece = ap (λ x. Some x) (sym (append-nil old))

-- one gain after another
pub Gains-then : (a b c : Option (List ℕ)) (first second : List ℕ) → Gains a b first → Gains b c second → Gains a c (first ++ second)
Gains-then None b c first second p q = gone b c second p q
  where
    gone : (b c : Option (List ℕ)) (second : List ℕ) → b ≡ None → Gains b c second → c ≡ None
    gone None c second p q = q
    gone (Some x) c second p q = cc
Gains-then (Some old) b c first second p q = let r : Gains (Some (old ++ first)) c second = subst (λ x. Gains x c second) p q in r ∙ ap (λ x. Some x) (append_assoc old first second)

-- the next bytes of a piece, out of all that are left
pub Gains-more : (a b c : Option (List ℕ)) (piece : List ℕ) (done n : ℕ) → Gains a b (take done piece) → Gains b c (take n (take (length piece - done) (drop done piece))) → Gains a c (take (done + n) piece)
Gains-more a b c piece done n p q =
    let q' : Gains b c (take n (drop done piece)) = subst (λ x. Gains b c (take n x)) (take_rest piece done) q in
    subst (λ x. Gains a c x) (sym (take-add done n piece)) (Gains-then a b c (take done piece) (take n (drop done piece)) p q')

-- a part of what is left is a part of the piece
pub GainsPart-more : (a b c : Option (List ℕ)) (piece : List ℕ) (done : ℕ) → Gains a b (take done piece) → GainsPart b c (take (length piece - done) (drop done piece)) → GainsPart a c piece
GainsPart-more a b c piece done p (n, q) = (done + n, Gains-more a b c piece done n p q)

-- all of it
pub Gains-all : (a b : Option (List ℕ)) (piece : List ℕ) (done : ℕ) → length piece ≤ done → Gains a b (take done piece) → Gains a b piece
Gains-all a b piece done end p = subst (λ x. Gains a b x) (take_all done piece end) p

-- a count that rose after another time
pub Rose-later : (a b c : ℕ) → a ≤ b → Rose b c → Rose a c
Rose-later a b c order rose = grind arith
