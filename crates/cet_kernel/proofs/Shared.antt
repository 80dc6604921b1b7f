-- The first pair of segments that shares a page, found one after another.
use Rattle.std.proofs.Common.{◌≡◌, ℕ, zero, suc, ◌+◌, ◌≤◌, not, inl, inr, Bool, true, false, List, [], ◌∷◌, length, take, drop, slice_get, Option, Some, None, refl, sym, ap, ◌∙◌, arith}
use Rattle.std.specs.List.{find}
use Rattle.std.proofs.lemmas.Bool.{cases_Bool, cond-true, cond-false}
use Rattle.std.proofs.lemmas.List.{take_all}
use Rattle.cet_rules.specs.declared.segment.Segment.{Segment}
use Rattle.cet_rules.specs.declared.image.Image.{Image}
use Rattle.cet_rules.specs.Regular.{IsSegment}
use Rattle.cet_process.specs.declared.load_error.LoadError.{LoadError}
use Rattle.cet_process.specs.declared.load_error.LoadError.TheVariants.{Place}
use Rattle.cet_process.specs.Start.{share_a_page, is_in_place, misplaced_or, shared_or, first_shared, load_error}

-- the one at place i is the first to pass
pub find_here : (p : Segment → Bool) (xs : List Segment) (i : ℕ) (x : Segment) → find p (take i xs) ≡ None → slice_get xs i ≡ Some x → p x ≡ true → find p xs ≡ Some x
find_here p [] i x none there passes = absurd (cc)
find_here p (y ∷ xs) zero x none there passes =
    let same : y ≡ x = cc in
    cond-true (p y) (Some y) (find p xs) (ap p same ∙ passes) ∙ ap Some same
find_here p (y ∷ xs) (suc i) x none there passes = elim (cases_Bool (p y)) [
  | inl is_y ↦ let clash : Some y ≡ None = sym (cond-true (p y) (Some y) (find p (take i xs)) is_y) ∙ none in absurd (cc)
  | inr not_y ↦ cond-false (p y) (Some y) (find p xs) not_y ∙ find_here p xs i x (sym (cond-false (p y) (Some y) (find p (take i xs)) not_y) ∙ none) there passes
]

pub find_none_next : (p : Segment → Bool) (xs : List Segment) (i : ℕ) (x : Segment) → find p (take i xs) ≡ None → slice_get xs i ≡ Some x → p x ≡ false → find p (take (suc i) xs) ≡ None
find_none_next p [] i x none there fails = absurd (cc)
find_none_next p (y ∷ xs) zero x none there fails =
    let same : y ≡ x = cc in
    cond-false (p y) (Some y) None (ap p same ∙ fails)
find_none_next p (y ∷ xs) (suc i) x none there fails = elim (cases_Bool (p y)) [
  | inl is_y ↦ let clash : Some y ≡ None = sym (cond-true (p y) (Some y) (find p (take i xs)) is_y) ∙ none in absurd (cc)
  | inr not_y ↦ cond-false (p y) (Some y) (find p (take (suc i) xs)) not_y ∙ find_none_next p xs i x (sym (cond-false (p y) (Some y) (find p (take i xs)) not_y) ∙ none) there fails
]

-- a segment that shares no page with a later one is passed over
later_alone : (s : Segment) (o : Option Segment) (later : Option LoadError) → shared_or s o None ≡ None → shared_or s o later ≡ later
later_alone s None later none = refl
later_alone s (Some t) later none = absurd (cc)

some_stays : (s : Segment) (o : Option Segment) (later : Option LoadError) (e : LoadError) → shared_or s o None ≡ Some e → shared_or s o later ≡ Some e
some_stays s None later e there = absurd (cc)
some_stays s (Some t) later e there = there

dropped : (xs : List Segment) (i : ℕ) (x : Segment) → slice_get xs i ≡ Some x → drop i xs ≡ x ∷ drop (suc i) xs
dropped [] i x there = absurd (cc)
dropped (y ∷ xs) zero x there = let same : y ≡ x = cc in ap (λ (z : Segment). z ∷ xs) same
dropped (y ∷ xs) (suc i) x there = dropped xs i x there

pub shared_next : (xs : List Segment) (i : ℕ) (s : Segment) → slice_get xs i ≡ Some s → shared_or s (find (share_a_page s) (drop (suc i) xs)) None ≡ None
    → first_shared (drop i xs) ≡ first_shared (drop (suc i) xs)
shared_next xs i s there none =
    ap first_shared (dropped xs i s there) ∙ later_alone s (find (share_a_page s) (drop (suc i) xs)) (first_shared (drop (suc i) xs)) none

pub shared_here : (xs : List Segment) (i : ℕ) (s : Segment) (e : LoadError) → slice_get xs i ≡ Some s → shared_or s (find (share_a_page s) (drop (suc i) xs)) None ≡ Some e
    → first_shared (drop i xs) ≡ Some e
shared_here xs i s e there found =
    ap first_shared (dropped xs i s there) ∙ some_stays s (find (share_a_page s) (drop (suc i) xs)) (first_shared (drop (suc i) xs)) e found

-- ---- parts of a list of segments

slice_get-take : (xs : List Segment) (n k : ℕ) (t : Segment) → slice_get (take n xs) k ≡ Some t → slice_get xs k ≡ Some t
slice_get-take [] zero k t e = e
slice_get-take [] (suc n) k t e = e
slice_get-take (x ∷ xs) zero k t e = absurd (cc)
slice_get-take (x ∷ xs) (suc n) zero t e = e
slice_get-take (x ∷ xs) (suc n) (suc k) t e = slice_get-take xs n k t e

slice_get-drop : (xs : List Segment) (m k : ℕ) (t : Segment) → slice_get (drop m xs) k ≡ Some t → (j : ℕ) × (slice_get xs j ≡ Some t)
slice_get-drop xs zero k t e = (k, e)
slice_get-drop [] (suc m) k t e = absurd (cc)
slice_get-drop (x ∷ xs) (suc m) k t e = let (j, there) = slice_get-drop xs m k t e in (suc j, there)

pub each_later : (xs : List Segment) (m n : ℕ) → ((k : ℕ) (s : Segment) → slice_get xs k ≡ Some s → IsSegment s) → (k : ℕ) (t : Segment)
    → slice_get (take n (drop m xs)) k ≡ Some t → IsSegment t
each_later xs m n each k t e = let (j, there) = slice_get-drop xs m k t (slice_get-take (drop m xs) n k t e) in each j t there

-- the same with the numbers that a loop has
pub find_none_more : (p : Segment → Bool) (xs : List Segment) (i : ℕ) (x : Segment) → find p (take i xs) ≡ None → slice_get xs i ≡ Some x → p x ≡ false → find p (take (i + 1) xs) ≡ None
find_none_more p xs i x none there fails =
    let one : suc i ≡ i + 1 = omega arith in
    ap (λ (n : ℕ). find p (take n xs)) (sym one) ∙ find_none_next p xs i x none there fails

-- ---- segments out of place

pub misplaced_here : (image : Image) (xs : List Segment) (i : ℕ) (s : Segment) → xs ≡ image.segments → find (λ s. not (is_in_place s)) (take i xs) ≡ None → slice_get xs i ≡ Some s
    → is_in_place s ≡ false → Some (Place s.start) ≡ load_error image
misplaced_here image xs i s of_image none there out =
    let found = find_here (λ s. not (is_in_place s)) xs i s none there (ap not out) in
    ap (λ (o : Option Segment). misplaced_or o (first_shared image.segments))
    (sym (ap (find (λ s. not (is_in_place s))) (sym of_image) ∙ found))

pub none_misplaced : (image : Image) (xs : List Segment) (i : ℕ) (r : Option LoadError) → xs ≡ image.segments → find (λ s. not (is_in_place s)) (take i xs) ≡ None → length xs ≤ i
    → r ≡ first_shared xs → r ≡ load_error image
none_misplaced image xs i r of_image none all is =
    let no_one : find (λ s. not (is_in_place s)) image.segments ≡ None =
    ap (find (λ s. not (is_in_place s))) (sym of_image ∙ sym (take_all i xs all)) ∙ none in
    is ∙ ap first_shared of_image ∙ sym (ap (λ (o : Option Segment). misplaced_or o (first_shared image.segments)) no_one)

pub each_of_image : (image : Image) (xs : List Segment) → xs ≡ image.segments → (k : ℕ) (s : Segment) → slice_get xs k ≡ Some s → IsSegment s
each_of_image image xs of_image k s there = image.segments_regular.each k s (ap (λ (l : List Segment). slice_get l k) (sym of_image) ∙ there)
