-- One input more, and what it does to each bit of a merge.
use Rattle.std.proofs.Common.{◌≡◌, ◌≢◌, ◌↔◌, ℕ, ◌*◌, ◌^◌, ◌<◌, Bool, true, false, eqb, leb, ◌&&◌, List, [], ◌∷◌, ◌++◌, length, Option, Some, None, IsTrue, IsSome, All, unwrap_or, ◌⊎◌, refl, sym, ap, subst, ◌∙◌, inl, inr, arith}
use Rattle.std.specs.Prelude.{if◌then◌else◌, Any, IsBitSet, bit_and, bit_or}
use Rattle.std.specs.Int.{bit_at}
use Rattle.std.proofs.Math.Nat.{one-le-pow}
use Rattle.std.proofs.lemmas.Bool.{cases_lt, lt-leb, eqb-true, eq-eqb, false≢true}
use Rattle.std.proofs.lemmas.List.{get_or_append_left, get_or_push, length-append}
use Rattle.std.proofs.lemmas.List.Elements.{All-nil, All-cons, All-head, All-push, All-pop}
use Rattle.std.proofs.lemmas.List.Quantifiers.{Any-push}
use Rattle.std.proofs.lemmas.Nat.Bits.{and_pow, bit_at_and, bit_at_or, bit_at-lt}
use Rattle.cet_note.specs.Note.{Note, IsNote, is_between, is_and, is_or, is_or_and, word_of, bits_of, Has}
use Rattle.cet_note.specs.Joined.{joined, both, nonzero, Joins}
use Rattle.cet_note.proofs.Types.{between}
use Rattle.cet_note.specs.Merged.{HasBit, IsAndOf, IsOrOf, IsOrAndOf, IsMergedOf}

-- ---- bits

pub IsBitSet-to : (n k : ℕ) → IsBitSet n k → bit_at n k ≡ 1
IsBitSet-to n k h = elim (cases_lt (bit_at n k) 1) [
  | inl none ↦ let zero_is : bit_at n k ≡ 0 = omega arith in absurd (h (and_pow n k ∙ ap (λ (b : ℕ). b * 2 ^ k) zero_is ∙ omega arith))
  | inr one ↦ omega (arith, bit_at-lt n k)
]

pub IsBitSet-from : (n k : ℕ) → bit_at n k ≡ 1 → IsBitSet n k
IsBitSet-from n k one none =
    let is : bit_and n (2 ^ k) ≡ 1 * 2 ^ k = and_pow n k ∙ ap (λ (b : ℕ). b * 2 ^ k) one in
    absurd (omega (arith, one-le-pow k 2 (omega arith), is, none))

pub IsBitSet-and : (a b k : ℕ) → IsBitSet (bit_and a b) k ↔ (IsBitSet a k × IsBitSet b k)
IsBitSet-and a b k = (
  λ h. let e = IsBitSet-to (bit_and a b) k h in
      (IsBitSet-from a k (omega (arith, e, bit_at_and a b k, bit_at-lt a k, bit_at-lt b k)), IsBitSet-from b k (omega (arith, e, bit_at_and a b k, bit_at-lt a k, bit_at-lt b k))),
  λ h. IsBitSet-from (bit_and a b) k (omega (arith, bit_at_and a b k, IsBitSet-to a k h.0, IsBitSet-to b k h.1)),
)

pub IsBitSet-or : (a b k : ℕ) → IsBitSet (bit_or a b) k ↔ (IsBitSet a k ⊎ IsBitSet b k)
IsBitSet-or a b k = (to, from)
  where
    to : IsBitSet (bit_or a b) k → IsBitSet a k ⊎ IsBitSet b k
    to h = elim (cases_lt (bit_at a k) 1) [
      | inl none ↦ inr (IsBitSet-from b k (omega (arith, IsBitSet-to (bit_or a b) k h, bit_at_or a b k, bit_at-lt b k)))
      | inr one ↦ inl (IsBitSet-from a k (omega (arith, bit_at-lt a k)))
    ]

    from : IsBitSet a k ⊎ IsBitSet b k → IsBitSet (bit_or a b) k
    from (inl h) = IsBitSet-from (bit_or a b) k (omega (arith, bit_at_or a b k, IsBitSet-to a k h, bit_at-lt b k))
    from (inr h) = IsBitSet-from (bit_or a b) k (omega (arith, bit_at_or a b k, IsBitSet-to b k h, bit_at-lt a k))

-- ---- a word without a set bit is left out

unwrap-nonzero : (n : ℕ) → unwrap_or (nonzero n) 0 ≡ n
unwrap-nonzero n = go (eqb n 0) (eqb-true n 0)
  where
    go : (b : Bool) → (b ≡ true → n ≡ 0) → unwrap_or (if b then None else Some n) 0 ≡ n
    go true h = sym (h refl)
    go false h = refl

pub nonzero-some : (n : ℕ) → nonzero n ≢ Some 0
nonzero-some n = go (eqb n 0) (eq-eqb n 0)
  where
    go : (b : Bool) → (n ≡ 0 → b ≡ true) → (if b then None else Some n) ≢ Some 0
    go true h e = absurd cc
    go false h e = let zero_is : n ≡ 0 = cc in absurd (false≢true (h zero_is))

HasBit-nonzero : (n k : ℕ) → HasBit (nonzero n) k ↔ IsBitSet n k
HasBit-nonzero n k = (λ h. subst (λ (m : ℕ). IsBitSet m k) (unwrap-nonzero n) h, λ h. subst (λ (m : ℕ). IsBitSet m k) (sym (unwrap-nonzero n)) h)

-- ---- every and some, with one more

All-split : {X : Type 0} (P : X → Type 0) (xs : List X) (y : X) → All P (xs ++ y ∷ []) → All P xs × P y
All-split P xs y h = All-pop P (xs ++ y ∷ []) xs (Some y) refl h

Any-split : {X : Type 0} (P : X → Type 0) (xs : List X) (y : X) → Any P (xs ++ y ∷ []) → Any P xs ⊎ P y
Any-split P xs y h =
    let k = h.0 in
    let x = h.1 in
    elim (cases_lt k (length xs)) [
      | inl lt ↦ inl (k, x, lt, sym (get_or_append_left xs (y ∷ []) x k lt) ∙ h.3, h.4)
      | inr le ↦ let last : length xs ≡ k = omega (arith, h.2, length-append xs (y ∷ [])) in inr (subst P (sym h.3 ∙ get_or_push xs y x k last) h.4)
    ]

Any-more : {X : Type 0} (P : X → Type 0) (xs : List X) (y : X) → Any P xs → Any P (xs ++ y ∷ [])
Any-more P xs y h = (h.0, h.1, omega (arith, h.2, length-append xs (y ∷ [])), get_or_append_left xs (y ∷ []) h.1 h.0 h.2 ∙ h.3, h.4)

-- ---- the three rules, with one more input

IsAndOf-push : (notes : List Note) (n : Note) (kind : ℕ) (w : Option ℕ) → IsAndOf notes kind w → IsAndOf (notes ++ n ∷ []) kind (nonzero (bit_and (unwrap_or w 0) (bits_of n kind)))
IsAndOf-push notes n kind w h = record {
  bits = λ k. let P = λ (note : Note). IsBitSet (bits_of note kind) k in (
    λ b. let s = (IsBitSet-and (unwrap_or w 0) (bits_of n kind) k).0 ((HasBit-nonzero (bit_and (unwrap_or w 0) (bits_of n kind)) k).0 b) in All-push P notes n ((h.bits k).0 s.0) s.1,
    λ e. let s = All-split P notes n e in (HasBit-nonzero (bit_and (unwrap_or w 0) (bits_of n kind)) k).1 ((IsBitSet-and (unwrap_or w 0) (bits_of n kind) k).1 ((h.bits k).1 s.0, s.1)),
  );
  no_zero = nonzero-some (bit_and (unwrap_or w 0) (bits_of n kind));
}

IsAndOf-one : (n : Note) (kind : ℕ) → IsAndOf (n ∷ []) kind (nonzero (bit_and (bits_of n kind) (bits_of n kind)))
IsAndOf-one n kind = record {
  bits = λ k. let P = λ (note : Note). IsBitSet (bits_of note kind) k in (
    λ b. let s = (IsBitSet-and (bits_of n kind) (bits_of n kind) k).0 ((HasBit-nonzero (bit_and (bits_of n kind) (bits_of n kind)) k).0 b) in All-cons P n [] s.0 (All-nil P),
    λ e. let s = All-head P n [] e in (HasBit-nonzero (bit_and (bits_of n kind) (bits_of n kind)) k).1 ((IsBitSet-and (bits_of n kind) (bits_of n kind) k).1 (s, s)),
  );
  no_zero = nonzero-some (bit_and (bits_of n kind) (bits_of n kind));
}

Any-one : {X : Type 0} (P : X → Type 0) (y : X) → P y → Any P (y ∷ [])
Any-one P y h = Any-push P [] y h

from_either : {A B C : Type 0} → (A → C) → (B → C) → A ⊎ B → C
from_either f g (inl a) = f a
from_either f g (inr b) = g b

one_of : {X : Type 0} (P : X → Type 0) (y : X) → Any P (y ∷ []) → P y
one_of P y h = from_either (λ (none : Any P []). absurd (omega (arith, none.2))) (λ p. p) (Any-split P [] y h)

IsOrOf-push : (notes : List Note) (n : Note) (kind : ℕ) (w : Option ℕ) → IsOrOf notes kind w → IsOrOf (notes ++ n ∷ []) kind (nonzero (bit_or (unwrap_or w 0) (bits_of n kind)))
IsOrOf-push notes n kind w h = record {
  bits = λ k. let P = λ (note : Note). IsBitSet (bits_of note kind) k in (
    λ b. from_either (λ s. Any-more P notes n ((h.bits k).0 s)) (λ s. Any-push P notes n s) ((IsBitSet-or (unwrap_or w 0) (bits_of n kind) k).0 ((HasBit-nonzero (bit_or (unwrap_or w 0) (bits_of n kind)) k).0 b)),
    λ e. (HasBit-nonzero (bit_or (unwrap_or w 0) (bits_of n kind)) k).1 ((IsBitSet-or (unwrap_or w 0) (bits_of n kind) k).1 (from_either (λ s. inl ((h.bits k).1 s)) (λ s. inr s) (Any-split P notes n e))),
  );
  no_zero = nonzero-some (bit_or (unwrap_or w 0) (bits_of n kind));
}

IsOrOf-one : (n : Note) (kind : ℕ) → IsOrOf (n ∷ []) kind (nonzero (bit_or (bits_of n kind) (bits_of n kind)))
IsOrOf-one n kind = record {
  bits = λ k. let P = λ (note : Note). IsBitSet (bits_of note kind) k in (
    λ b. Any-one P n (from_either (λ s. s) (λ s. s) ((IsBitSet-or (bits_of n kind) (bits_of n kind) k).0 ((HasBit-nonzero (bit_or (bits_of n kind) (bits_of n kind)) k).0 b))),
    λ e. (HasBit-nonzero (bit_or (bits_of n kind) (bits_of n kind)) k).1 ((IsBitSet-or (bits_of n kind) (bits_of n kind) k).1 (inl (one_of P n e))),
  );
  no_zero = nonzero-some (bit_or (bits_of n kind) (bits_of n kind));
}

-- ---- OR_AND

pub both-there : (a b : Option ℕ) → IsSome (both a b) ↔ (IsSome a × IsSome b)
both-there None None = (λ h. absurd (false≢true h), λ h. h.0)
both-there None (Some b) = (λ h. absurd (false≢true h), λ h. h.0)
both-there (Some a) None = (λ h. absurd (false≢true h), λ h. h.1)
both-there (Some a) (Some b) = (λ h. (refl, refl), λ h. refl)

HasBit-both : (a b : Option ℕ) (k : ℕ) → IsSome (both a b) → HasBit (both a b) k ↔ (HasBit a k ⊎ HasBit b k)
HasBit-both None None k h = absurd (false≢true h)
HasBit-both None (Some b) k h = absurd (false≢true h)
HasBit-both (Some a) None k h = absurd (false≢true h)
HasBit-both (Some a) (Some b) k h = IsBitSet-or a b k

IsOrAndOf-push : (notes : List Note) (n : Note) (kind : ℕ) (w : Option ℕ) → IsOrAndOf notes kind w → IsOrAndOf (notes ++ n ∷ []) kind (both w (word_of n kind))
IsOrAndOf-push notes n kind w h =
    let There = λ (note : Note). Has note kind in
    let t = both-there w (word_of n kind) in
    record {
      there = (λ s. All-push There notes n (h.there.0 (t.0 s).0) (t.0 s).1, λ e. let s = All-split There notes n e in t.1 (h.there.1 s.0, s.1));
      bits = λ some k. let P = λ (note : Note). IsBitSet (bits_of note kind) k in let b = HasBit-both w (word_of n kind) k some in (
        λ s. from_either (λ x. Any-more P notes n ((h.bits (t.0 some).0 k).0 x)) (λ x. Any-push P notes n x) (b.0 s),
        λ e. b.1 (from_either (λ x. inl ((h.bits (t.0 some).0 k).1 x)) (λ x. inr x) (Any-split P notes n e)),
      );
    }

IsOrAndOf-one : (n : Note) (kind : ℕ) → IsOrAndOf (n ∷ []) kind (both (word_of n kind) (word_of n kind))
IsOrAndOf-one n kind =
    let There = λ (note : Note). Has note kind in
    let w = word_of n kind in
    let t = both-there w w in
    record {
      there = (λ s. All-cons There n [] (t.0 s).0 (All-nil There), λ e. let s = All-head There n [] e in t.1 (s, s));
      bits = λ some k. let P = λ (note : Note). IsBitSet (bits_of note kind) k in let b = HasBit-both w w k some in (
        λ s. Any-one P n (from_either (λ x. x) (λ x. x) (b.0 s)),
        λ e. b.1 (inl (one_of P n e)),
      );
    }

-- ---- the ranges are apart

above_range : (low high kind : ℕ) → high < kind → is_between low high kind ≡ false
above_range low high kind lt = rw (lt-leb kind high lt) (go (leb low kind))
  where
    go : (b : Bool) → b && false ≡ false
    go true = refl
    go false = refl

joined-and : (kind : ℕ) (a b : Option ℕ) → IsTrue (is_and kind) → joined kind a b ≡ nonzero (bit_and (unwrap_or a 0) (unwrap_or b 0))
joined-and kind a b h = go (is_and kind) h
  where
    go : (t : Bool) → t ≡ true → (if t then nonzero (bit_and (unwrap_or a 0) (unwrap_or b 0)) else if is_or kind then nonzero (bit_or (unwrap_or a 0) (unwrap_or b 0)) else both a b) ≡ nonzero (bit_and (unwrap_or a 0) (unwrap_or b 0))
    go true e = refl
    go false e = absurd (false≢true e)

choose : (s t : Bool) (x y z : Option ℕ) → s ≡ false → t ≡ true → (if s then x else if t then y else z) ≡ y
choose false true x y z e f = refl
choose true t x y z e f = absurd (false≢true (sym e))
choose false false x y z e f = absurd (false≢true f)

choose_last : (s t : Bool) (x y z : Option ℕ) → s ≡ false → t ≡ false → (if s then x else if t then y else z) ≡ z
choose_last false false x y z e f = refl
choose_last true t x y z e f = absurd (false≢true (sym e))
choose_last false true x y z e f = absurd (false≢true (sym f))

joined-or : (kind : ℕ) (a b : Option ℕ) → IsTrue (is_or kind) → joined kind a b ≡ nonzero (bit_or (unwrap_or a 0) (unwrap_or b 0))
joined-or kind a b h =
    let r = between 0xc0008000 0xc000ffff kind h in
    choose (is_and kind) (is_or kind) (nonzero (bit_and (unwrap_or a 0) (unwrap_or b 0))) (nonzero (bit_or (unwrap_or a 0) (unwrap_or b 0))) (both a b) (above_range 0xc0000002 0xc0007fff kind (omega arith)) h

joined-or_and : (kind : ℕ) (a b : Option ℕ) → IsTrue (is_or_and kind) → joined kind a b ≡ both a b
joined-or_and kind a b h =
    let r = between 0xc0010000 0xc0017fff kind h in
    choose_last (is_and kind) (is_or kind) (nonzero (bit_and (unwrap_or a 0) (unwrap_or b 0))) (nonzero (bit_or (unwrap_or a 0) (unwrap_or b 0))) (both a b) (above_range 0xc0000002 0xc0007fff kind (omega arith)) (above_range 0xc0008000 0xc000ffff kind (omega arith))

-- ---- the merge, with one more input

pub IsMergedOf-one : (n new : Note) → Joins n n new → IsNote new → IsMergedOf (n ∷ []) new
IsMergedOf-one n new j is = record {
  note = is;
  and = λ kind h. subst (IsAndOf (n ∷ []) kind) (sym (j kind ∙ joined-and kind (word_of n kind) (word_of n kind) h)) (IsAndOf-one n kind);
  or = λ kind h. subst (IsOrOf (n ∷ []) kind) (sym (j kind ∙ joined-or kind (word_of n kind) (word_of n kind) h)) (IsOrOf-one n kind);
  or_and = λ kind h. subst (IsOrAndOf (n ∷ []) kind) (sym (j kind ∙ joined-or_and kind (word_of n kind) (word_of n kind) h)) (IsOrAndOf-one n kind);
}

pub IsMergedOf-push : (notes : List Note) (n merged new : Note) → IsMergedOf notes merged → Joins merged n new → IsNote new → IsMergedOf (notes ++ n ∷ []) new
IsMergedOf-push notes n merged new h j is = record {
  note = is;
  and = λ kind t. subst (IsAndOf (notes ++ n ∷ []) kind) (sym (j kind ∙ joined-and kind (word_of merged kind) (word_of n kind) t)) (IsAndOf-push notes n kind (word_of merged kind) (h.and kind t));
  or = λ kind t. subst (IsOrOf (notes ++ n ∷ []) kind) (sym (j kind ∙ joined-or kind (word_of merged kind) (word_of n kind) t)) (IsOrOf-push notes n kind (word_of merged kind) (h.or kind t));
  or_and = λ kind t. subst (IsOrAndOf (notes ++ n ∷ []) kind) (sym (j kind ∙ joined-or_and kind (word_of merged kind) (word_of n kind) t)) (IsOrAndOf-push notes n kind (word_of merged kind) (h.or_and kind t));
}
