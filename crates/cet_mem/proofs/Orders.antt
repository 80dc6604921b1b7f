-- Regions in order of address, by their places.
use Rattle.std.proofs.Common.{◌≡◌, ℕ, zero, suc, ◌+◌, ◌-◌, ◌<◌, ◌≤◌, inl, inr, true, false, nat_le, cond, List, [], ◌∷◌, map, length, get_or, refl, sym, ap, subst, ◌∙◌, arith}
use Rattle.std.specs.List.{count_by}
use Rattle.std.specs.List.Sorted.{IsNonDecreasingBy, IsPartitionPoint}
use Rattle.std.proofs.lemmas.Bool.{cases_eq, leb-true, leb-false, le-leb, lt-leb}
use Rattle.std.proofs.lemmas.List.Sums.{sum_by-cons}
use Rattle.std.proofs.lemmas.Option.{get_or_from_slice_get, slice_get_read}
use Rattle.cet_machine.specs.declared.memory.Region.{Region}
use Rattle.cet_machine.specs.declared.memory.Kind.{Kind}
use Rattle.cet_machine.specs.Memory.{MeetsNone, AreDisjoint}
use Rattle.cet_machine.specs.MemoryLaws.{shape, SameShape}
use Rattle.cet_mem.specs.Order.{StartFrom, AreInOrder}

start_from_at : (a : ℕ) (M : List Region) (j : ℕ) (d : Region) → StartFrom a M → j < length M → a ≤ (get_or M j d).start
start_from_at a [] j d from within = absurd (omega arith)
start_from_at a (q ∷ M) zero d from within = from.0
start_from_at a (q ∷ M) (suc j) d from within = start_from_at a M j d from.1 (omega arith)

-- each region ends before the later ones start
pub ends_before : (M : List Region) (i j : ℕ) (d : Region) → AreInOrder M → i < j → j < length M
    → (get_or M i d).start + length (get_or M i d).bytes ≤ (get_or M j d).start
ends_before [] i j d order below within = absurd (omega arith)
ends_before (r ∷ M) i zero d order below within = absurd (omega arith)
ends_before (r ∷ M) zero (suc j) d order below within = start_from_at (r.start + length r.bytes) M j d order.1 (omega arith)
ends_before (r ∷ M) (suc i) (suc j) d order below within = ends_before M i j d order.2 (omega arith) (omega arith)

-- no region is empty
pub some_bytes : (M : List Region) (i : ℕ) (d : Region) → AreInOrder M → i < length M → 0 < length (get_or M i d).bytes
some_bytes [] i d order within = absurd (omega arith)
some_bytes (r ∷ M) zero d order within = order.0
some_bytes (r ∷ M) (suc i) d order within = some_bytes M i d order.2 (omega arith)

pub starts_rise : (M : List Region) → AreInOrder M → IsNonDecreasingBy (λ r. r.start) M
starts_rise M order i j d le within = elim (cases_eq i j) [
  | inl same ↦ subst (λ (k : ℕ). (get_or M i d).start ≤ (get_or M k d).start) same (omega arith)
  | inr differ ↦ let e = ends_before M i j d order (omega arith) within in omega (arith, e)
]

-- the first i regions start at a or below it, and no other one does
abbrev pub SplitAt : ℕ → List Region → ℕ → Type 0
SplitAt a M i = IsPartitionPoint (λ r. r.start ≤ a) (λ r. a < r.start) M i

pub split_from : (a : ℕ) (M : List Region) (i : ℕ) → IsPartitionPoint (λ r. nat_le r.start a ≡ true) (λ r. nat_le r.start a ≡ false) M i → SplitAt a M i
split_from a M i h =
    (λ k d low high. leb-true (get_or M k d).start a (h.0 k d low high), λ k d low high. leb-false (get_or M k d).start a (h.1 k d low high))

pub split_rest : (a : ℕ) (q : Region) (M : List Region) (i : ℕ) → SplitAt a (q ∷ M) (suc i) → SplitAt a M i
split_rest a q M i h = (λ k d low high. h.0 (suc k) d (omega arith) (omega arith), λ k d low high. h.1 (suc k) d (omega arith) (omega arith))

pub split_rest_none : (a : ℕ) (q : Region) (M : List Region) → SplitAt a (q ∷ M) 0 → SplitAt a M 0
split_rest_none a q M h = (λ k d low high. absurd (omega arith), λ k d low high. h.1 (suc k) d (omega arith) (omega arith))

-- so many regions start at a or below it
pub count_is : (a : ℕ) (M : List Region) (i : ℕ) → i ≤ length M → SplitAt a M i → count_by (λ r. nat_le r.start a) M ≡ i
count_is a [] zero within h = omega arith
count_is a [] (suc i) within h = absurd (omega arith)
count_is a (q ∷ M) zero within h =
    let higher : nat_le q.start a ≡ false = lt-leb q.start a (h.1 0 q (omega arith) (omega arith)) in
    let rest = count_is a M 0 (omega arith) (split_rest_none a q M h) in
    sum_by-cons (λ (r : Region). cond (nat_le r.start a) 1 0) q M ∙ rw higher (omega (arith, rest))
count_is a (q ∷ M) (suc i) within h =
    let lower : nat_le q.start a ≡ true = le-leb q.start a (h.0 0 q (omega arith) (omega arith)) in
    let rest = count_is a M i (omega arith) (split_rest a q M i h) in
    sum_by-cons (λ (r : Region). cond (nat_le r.start a) 1 0) q M ∙ rw lower (omega (arith, rest))

-- ---- disjoint

start_from_apart : (r : Region) (M : List Region) → StartFrom (r.start + length r.bytes) M → MeetsNone r M
start_from_apart r [] from = tt
start_from_apart r (q ∷ M) from = (
  (λ (a, in_r, in_q).
      let end : r.start + length r.bytes ≤ q.start = from.0 in
      let below : a < r.start + length r.bytes = in_r.1 in
      let above : q.start ≤ a = in_q.0 in
      omega arith),
  start_from_apart r M from.1,
)

pub in_order_disjoint : (M : List Region) → AreInOrder M → AreDisjoint M
in_order_disjoint [] order = tt
in_order_disjoint (r ∷ M) order = (start_from_apart r M order.1, in_order_disjoint M order.2)

-- ---- by the shapes alone

abbrev ShapesStartFrom : ℕ → List (ℕ × ℕ × Kind) → Type 0
ShapesStartFrom a [] = Unit {0}
ShapesStartFrom a (s ∷ S) = (a ≤ s.0) × ShapesStartFrom a S

abbrev ShapesAreInOrder : List (ℕ × ℕ × Kind) → Type 0
ShapesAreInOrder [] = Unit {0}
ShapesAreInOrder (s ∷ S) = (0 < s.1) × ShapesStartFrom (s.0 + s.1) S × ShapesAreInOrder S

shapes_start_from : (a : ℕ) (M : List Region) → StartFrom a M → ShapesStartFrom a (map shape M)
shapes_start_from a [] from = tt
shapes_start_from a (q ∷ M) from = (from.0, shapes_start_from a M from.1)

regions_start_from : (a : ℕ) (M : List Region) → ShapesStartFrom a (map shape M) → StartFrom a M
regions_start_from a [] from = tt
regions_start_from a (q ∷ M) from = (from.0, regions_start_from a M from.1)

shapes_in_order : (M : List Region) → AreInOrder M → ShapesAreInOrder (map shape M)
shapes_in_order [] order = tt
shapes_in_order (r ∷ M) order = (order.0, shapes_start_from (r.start + length r.bytes) M order.1, shapes_in_order M order.2)

regions_in_order : (M : List Region) → ShapesAreInOrder (map shape M) → AreInOrder M
regions_in_order [] order = tt
regions_in_order (r ∷ M) order = (order.0, regions_start_from (r.start + length r.bytes) M order.1, regions_in_order M order.2)

pub same_shape_in_order : (M N : List Region) → SameShape M N → AreInOrder M → AreInOrder N
same_shape_in_order M N e order = regions_in_order N (subst ShapesAreInOrder (sym e) (shapes_in_order M order))

-- ---- an item that was read at its place

pub item : (M : List Region) (k : ℕ) (r d : Region) → k < length M → r ≡ get_or M k r → get_or M k d ≡ r
item M k r d within is = get_or_from_slice_get M k r d (slice_get_read M (length M) k r refl within is)

-- the same for the item before place i
pub item_before : (M : List Region) (i k : ℕ) (r d : Region) → i ≤ length M → suc k ≡ i → r ≡ get_or M (i - 1) r → get_or M k d ≡ r
item_before M i k r d bound last is =
    let at : i - 1 ≡ k = omega arith in
    item M k r d (omega arith) (is ∙ ap (λ (j : ℕ). get_or M j r) at)
