-- Joining the words of two notes, type by type.
use Rattle.std.proofs.Common.{◌≡◌, ◌≢◌, ℕ, ◌<◌, ◌^◌, Bool, true, false, cond, [], ◌∷◌, Option, Some, None, IsTrue, All, refl, sym, ap, subst, ◌∙◌, inl, inr, arith}
use Rattle.std.specs.Prelude.{if◌then◌else◌, is_some}
use Rattle.std.proofs.lemmas.Bool.{cases_eq}
use Rattle.std.proofs.lemmas.Bool.Decides.{nat_tests}
use Rattle.std.proofs.lemmas.List.Elements.{All-nil, All-head, All-tail}
use Rattle.cet_note.specs.Note.{Property, Note, IsNote, Sets, types, is_and, is_or, is_word_type, word_of}
use Rattle.cet_note.specs.Joined.{joined, both, nonzero, or_else, JoinsAt, Joins}
use Rattle.cet_note.proofs.Types.{rises_none}

-- the word of a type after f has been joined in at each type that is left
abbrev pub after : (ℕ → Option ℕ) → Note → Note → ℕ → Option ℕ
after f left new kind = if is_some (word_of left kind) then or_else (f kind) (word_of new kind) else word_of new kind

same_both : {A : Type 0} (b : Bool) (x : A) → cond b x x ≡ x
same_both true x = refl
same_both false x = refl

pub word_here : (p : Property) (rest : Note) → word_of (p ∷ rest) p.0 ≡ Some p.1
word_here p rest = grind (arith, nat_tests)

pub word_later : (p : Property) (rest : Note) (kind : ℕ) → kind ≢ p.0 → word_of (p ∷ rest) kind ≡ word_of rest kind
word_later p rest kind differs = grind (arith, nat_tests)

-- a turn of the loop that sets a word
pub after_set : (f : ℕ → Option ℕ) (p : Property) (rest new next : Note) (bits : ℕ) → f p.0 ≡ Some bits → Sets new next p.0 bits → (kind : ℕ) → after f rest next kind ≡ after f (p ∷ rest) new kind
after_set f p rest new next bits is sets kind =
    elim (cases_eq kind p.0) [
      | inl same ↦ subst (λ (k : ℕ). after f rest next k ≡ after f (p ∷ rest) new k) (sym same) (rw (word_here p rest, is, sets.this_type) (same_both (is_some (word_of rest p.0)) (Some bits)))
      | inr differs ↦ rw (word_later p rest kind differs, sets.other_types kind differs) refl
    ]

-- a turn of the loop that sets none
pub after_none : (f : ℕ → Option ℕ) (p : Property) (rest new : Note) → f p.0 ≡ None → (kind : ℕ) → after f rest new kind ≡ after f (p ∷ rest) new kind
after_none f p rest new is kind =
    elim (cases_eq kind p.0) [
      | inl same ↦ subst (λ (k : ℕ). after f rest new k ≡ after f (p ∷ rest) new k) (sym same) (rw (word_here p rest, is) (same_both (is_some (word_of rest p.0)) (word_of new p.0)))
      | inr differs ↦ rw (word_later p rest kind differs) refl
    ]

-- what the loop over the types of `note` keeps: what is left leads to the same words as all did at its start
pub record IsJoining (left note a b old new : Note) : Type 0 where
  pub known : All (λ kind. IsTrue (is_word_type kind)) (types left)
  pub leads : (kind : ℕ) → after (λ k. joined k (word_of a k) (word_of b k)) left new kind ≡ after (λ k. joined k (word_of a k) (word_of b k)) note old kind
  pub stays : IsNote old → IsNote new

pub IsJoining-starts : (left note a b old : Note) → left ≡ note → IsNote note → IsJoining left note a b old old
IsJoining-starts left note a b old is n = record {
  known = rw is n.types_known;
  leads = λ kind. rw is refl;
  stays = λ h. h;
}

pub IsJoining-sets : (left rest note a b old new next : Note) (p : Property) (bits : ℕ) → left ≡ p ∷ rest → joined p.0 (word_of a p.0) (word_of b p.0) ≡ Some bits → Sets new next p.0 bits → IsNote next → IsJoining left note a b old new → IsJoining rest note a b old next
IsJoining-sets left rest note a b old new next p bits is found sets n h =
    let f = λ (k : ℕ). joined k (word_of a k) (word_of b k) in
    let known = subst (λ (l : Note). All (λ kind. IsTrue (is_word_type kind)) (types l)) is h.known in
    record {
      known = All-tail (λ kind. IsTrue (is_word_type kind)) p.0 (types rest) known;
      leads = λ kind. after_set f p rest new next bits found sets kind ∙ sym (ap (λ (l : Note). after f l new kind) is) ∙ h.leads kind;
      stays = λ o. n;
    }

pub IsJoining-passes : (left rest note a b old new : Note) (p : Property) → left ≡ p ∷ rest → joined p.0 (word_of a p.0) (word_of b p.0) ≡ None → IsJoining left note a b old new → IsJoining rest note a b old new
IsJoining-passes left rest note a b old new p is none h =
    let f = λ (k : ℕ). joined k (word_of a k) (word_of b k) in
    let known = subst (λ (l : Note). All (λ kind. IsTrue (is_word_type kind)) (types l)) is h.known in
    record {
      known = All-tail (λ kind. IsTrue (is_word_type kind)) p.0 (types rest) known;
      leads = λ kind. after_none f p rest new none kind ∙ sym (ap (λ (l : Note). after f l new kind) is) ∙ h.leads kind;
      stays = h.stays;
    }

pub IsJoining-known : (left rest note a b old new : Note) (p : Property) → left ≡ p ∷ rest → IsJoining left note a b old new → IsTrue (is_word_type p.0)
IsJoining-known left rest note a b old new p is h =
    All-head (λ kind. IsTrue (is_word_type kind)) p.0 (types rest) (subst (λ (l : Note). All (λ kind. IsTrue (is_word_type kind)) (types l)) is h.known)

pub JoinsAt-ends : (left note a b old new : Note) → left ≡ [] → IsJoining left note a b old new → JoinsAt note a b old new
JoinsAt-ends left note a b old new is h kind =
    let f = λ (k : ℕ). joined k (word_of a k) (word_of b k) in
    sym (ap (λ (l : Note). after f l new kind) is) ∙ h.leads kind

-- no word comes of no word
joined_none : (kind : ℕ) → joined kind None None ≡ None
joined_none kind = go (is_and kind) (is_or kind)
  where
    go : (b c : Bool) → (if b then nonzero 0 else if c then nonzero 0 else both None None) ≡ None
    go true c = refl
    go false true = refl
    go false false = refl

both_ways : (x y found : Option ℕ) → (x ≡ None → y ≡ None → found ≡ None)
    → (if is_some y then or_else found (if is_some x then or_else found None else None) else (if is_some x then or_else found None else None)) ≡ found
both_ways None None found h = sym (h refl refl)
both_ways (Some x) None None h = refl
both_ways (Some x) None (Some v) h = refl
both_ways None (Some y) None h = refl
both_ways None (Some y) (Some v) h = refl
both_ways (Some x) (Some y) None h = refl
both_ways (Some x) (Some y) (Some v) h = refl

-- the types of the one and then of the other are all
pub Joins-from_both : (a b one two : Note) → JoinsAt a a b [] one → JoinsAt b a b one two → Joins a b two
Joins-from_both a b one two h k kind =
    let f = joined kind (word_of a kind) (word_of b kind) in
    k kind ∙ ap (λ (w : Option ℕ). if is_some (word_of b kind) then or_else f w else w) (h kind) ∙ both_ways (word_of a kind) (word_of b kind) f (λ x y. rw (x, y) (joined_none kind))

pub IsNote-nil : IsNote []
IsNote-nil = record { ascending = rises_none; types_known = All-nil (λ kind. IsTrue (is_word_type kind)); words_fit = All-nil (λ bits. bits < 2 ^ 32) }
