-- Two notes that merge the same notes are the same: by bits, then by types.
use Rattle.std.proofs.Common.{◌≡◌, ◌≢◌, ℕ, ◌<◌, Bool, false, ◌||◌, List, [], ◌∷◌, Option, Some, None, IsTrue, All, unwrap_or, refl, sym, ap, ◌∙◌, inl, inr, arith}
use Rattle.std.specs.Prelude.{IsBitSet}
use Rattle.std.specs.Int.{bit_at}
use Rattle.std.specs.List.Sorted.{IsStrictlyIncreasing}
use Rattle.std.proofs.lemmas.Bool.{cases_lt, cases_eq, cases_order, cases_Bool, false≢true}
use Rattle.std.proofs.lemmas.List.Elements.{All-nil, All-cons, All-head, All-tail, All-weaker}
use Rattle.std.proofs.lemmas.Nat.Bits.{bit_at-lt, same_from_bits}
use Rattle.cet_note.specs.Note.{Property, Note, types, is_and, is_or, is_or_and, is_word_type, word_of}
use Rattle.cet_note.specs.Merged.{IsAndOf, IsOrOf, IsOrAndOf, IsMergedOf, IsMerged}
use Rattle.cet_note.proofs.Types.{rises_tail}
use Rattle.cet_note.proofs.JoinLemmas.{word_here, word_later}
use Rattle.cet_note.proofs.MergeLemmas.{IsBitSet-to, IsBitSet-from}

same_bits : (a b : ℕ) → ((k : ℕ) → IsBitSet a k → IsBitSet b k) → ((k : ℕ) → IsBitSet b k → IsBitSet a k) → a ≡ b
same_bits a b to from = same_from_bits a b (λ i.
    elim (cases_lt (bit_at a i) 1) [
      | inl none ↦ elim (cases_lt (bit_at b i) 1) [
        | inl none' ↦ omega arith
        | inr one ↦ let e = IsBitSet-to a i (from i (IsBitSet-from b i (omega (arith, bit_at-lt b i)))) in absurd (omega arith)
      ]
      | inr one ↦ let e = IsBitSet-to b i (to i (IsBitSet-from a i (omega (arith, bit_at-lt a i)))) in omega (arith, bit_at-lt a i)
    ])

same_words : (v w : Option ℕ) → unwrap_or v 0 ≡ unwrap_or w 0 → v ≢ Some 0 → w ≢ Some 0 → v ≡ w
same_words None None e h k = refl
same_words None (Some b) e h k = absurd (k (ap (λ (n : ℕ). Some n) (sym e)))
same_words (Some a) None e h k = absurd (h (ap (λ (n : ℕ). Some n) e))
same_words (Some a) (Some b) e h k = ap (λ (n : ℕ). Some n) e

and_same : (notes : List Note) (kind : ℕ) (v w : Option ℕ) → IsAndOf notes kind v → IsAndOf notes kind w → v ≡ w
and_same notes kind v w p q = same_words v w (same_bits (unwrap_or v 0) (unwrap_or w 0) (λ k h. (q.bits k).1 ((p.bits k).0 h)) (λ k h. (p.bits k).1 ((q.bits k).0 h))) p.no_zero q.no_zero

or_same : (notes : List Note) (kind : ℕ) (v w : Option ℕ) → IsOrOf notes kind v → IsOrOf notes kind w → v ≡ w
or_same notes kind v w p q = same_words v w (same_bits (unwrap_or v 0) (unwrap_or w 0) (λ k h. (q.bits k).1 ((p.bits k).0 h)) (λ k h. (p.bits k).1 ((q.bits k).0 h))) p.no_zero q.no_zero

or_and_same : (notes : List Note) (kind : ℕ) (v w : Option ℕ) → IsOrAndOf notes kind v → IsOrAndOf notes kind w → v ≡ w
or_and_same notes kind None None p q = refl
or_and_same notes kind None (Some b) p q = absurd (false≢true (p.there.1 (q.there.0 refl)))
or_and_same notes kind (Some a) None p q = absurd (false≢true (q.there.1 (p.there.0 refl)))
or_and_same notes kind (Some a) (Some b) p q =
    ap (λ (n : ℕ). Some n) (same_bits a b (λ k h. (q.bits refl k).1 ((p.bits refl k).0 h)) (λ k h. (p.bits refl k).1 ((q.bits refl k).0 h)))

-- a type outside the three ranges has no word
word_unknown : (note : Note) (kind : ℕ) → All (λ k. IsTrue (is_word_type k)) (types note) → is_word_type kind ≡ false → word_of note kind ≡ None
word_unknown [] kind known e = refl
word_unknown (p ∷ note) kind known e =
    let first = All-head (λ k. IsTrue (is_word_type k)) p.0 (types note) known in
    let rest = word_unknown note kind (All-tail (λ k. IsTrue (is_word_type k)) p.0 (types note) known) e in
    let differs : kind ≢ p.0 = λ same. false≢true (sym e ∙ ap is_word_type same ∙ first) in
    word_later p note kind differs ∙ rest

none_of : (a b c : Bool) → a ≡ false → b ≡ false → c ≡ false → a || b || c ≡ false
none_of a b c e f g = rw (e, f, g) refl

same_word : (notes : List Note) (m n : Note) → IsMergedOf notes m → IsMergedOf notes n → (kind : ℕ) → word_of m kind ≡ word_of n kind
same_word notes m n p q kind =
    elim (cases_Bool (is_and kind)) [
      | inl a ↦ and_same notes kind (word_of m kind) (word_of n kind) (p.and kind a) (q.and kind a)
      | inr a ↦ elim (cases_Bool (is_or kind)) [
        | inl b ↦ or_same notes kind (word_of m kind) (word_of n kind) (p.or kind b) (q.or kind b)
        | inr b ↦ elim (cases_Bool (is_or_and kind)) [
          | inl c ↦ or_and_same notes kind (word_of m kind) (word_of n kind) (p.or_and kind c) (q.or_and kind c)
          | inr c ↦ let e = none_of (is_and kind) (is_or kind) (is_or_and kind) a b c in word_unknown m kind p.note.types_known e ∙ sym (word_unknown n kind q.note.types_known e)
        ]
      ]
    ]

-- ---- by types

all_above : (x : ℕ) (xs : List ℕ) → IsStrictlyIncreasing (x ∷ xs) → All (λ t. x < t) xs
all_above x [] h = All-nil (λ t. x < t)
all_above x (y ∷ xs) h =
    let lt : x < y = h 0 (omega arith) in
    All-cons (λ t. x < t) y xs lt (All-weaker (λ t. y < t) (λ t. x < t) (λ t k. omega arith) xs (all_above y xs (rises_tail x (y ∷ xs) h)))

absent_below : (kind : ℕ) (note : Note) → All (λ t. kind < t) (types note) → word_of note kind ≡ None
absent_below kind [] h = refl
absent_below kind (p ∷ note) h =
    let first = All-head (λ t. kind < t) p.0 (types note) h in
    word_later p note kind (λ same. omega arith) ∙ absent_below kind note (All-tail (λ t. kind < t) p.0 (types note) h)

-- a note without the first type of another
not_below : (p q : Property) (m n : Note) → IsStrictlyIncreasing (types (q ∷ n)) → p.0 < q.0 → word_of (p ∷ m) p.0 ≡ word_of (q ∷ n) p.0 → ⊥
not_below p q m n rises lt e =
    let above = All-cons (λ t. p.0 < t) q.0 (types n) lt (All-weaker (λ t. q.0 < t) (λ t. p.0 < t) (λ t k. omega arith) (types n) (all_above q.0 (types n) rises)) in
    let none = absent_below p.0 (q ∷ n) above in
    let found = word_here p m in
    some_none p.1 (sym found ∙ e ∙ none)
  where
    some_none : (b : ℕ) → Some b ≡ None → ⊥
    some_none b e = absurd cc

some_is : (a b : ℕ) → Some a ≡ Some b → a ≡ b
some_is a b e = cc

none_some : (b : ℕ) → None ≡ Some b → ⊥
none_some b e = absurd cc

same_notes : (m n : Note) → IsStrictlyIncreasing (types m) → IsStrictlyIncreasing (types n) → ((kind : ℕ) → word_of m kind ≡ word_of n kind) → m ≡ n
same_notes [] [] p q h = refl
same_notes [] (y ∷ n) p q h = absurd (none_some y.1 (h y.0 ∙ word_here y n))
same_notes (x ∷ m) [] p q h = absurd (none_some x.1 (sym (h x.0) ∙ word_here x m))
same_notes (x ∷ m) (y ∷ n) p q h =
    elim (cases_order x.0 y.0) [
      | inl same ↦
          let word : x.1 ≡ y.1 = some_is x.1 y.1 (sym (word_here x m) ∙ h x.0 ∙ ap (word_of (y ∷ n)) same ∙ word_here y n) in
          let rest = same_notes m n (rises_tail x.0 (types m) p) (rises_tail y.0 (types n) q) (λ kind.
          elim (cases_eq kind x.0) [
            | inl here ↦
                let left : word_of m kind ≡ None = absent_below kind m (rw here (all_above x.0 (types m) p)) in
                let right : word_of n kind ≡ None = absent_below kind n (rw (here, same) (all_above y.0 (types n) q)) in
                left ∙ sym right
            | inr differs ↦ sym (word_later x m kind differs) ∙ h kind ∙ word_later y n kind (λ e. differs (e ∙ sym same))
          ]) in
          ap (λ (k : ℕ). (k, x.1) ∷ m) same ∙ ap (λ (b : ℕ). (y.0, b) ∷ m) word ∙ ap (λ (r : Note). y ∷ r) rest
      | inr apart ↦ elim apart [
        | inl lt ↦ absurd (not_below x y m n q lt (h x.0))
        | inr gt ↦ absurd (not_below y x n m p gt (sym (h y.0)))
      ]
    ]

pub one_merge : (notes : List Note) (m n : Note) → IsMerged notes m → IsMerged notes n → m ≡ n
one_merge [] m n p q = p ∙ sym q
one_merge (first ∷ others) m n p q =
    same_notes m n p.note.ascending q.note.ascending (same_word (first ∷ others) m n p q)
