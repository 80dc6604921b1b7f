-- Which region holds an interval, where regions are in order.
use Rattle.std.proofs.Common.{◌≡◌, ℕ, zero, suc, ◌-◌, ◌<◌, ◌≤◌, inl, inr, Bool, true, false, List, [], ◌∷◌, length, get_or, set, Some, None, slice_get, refl, ap, ◌∙◌, arith}
use Rattle.std.specs.List.{find}
use Rattle.std.proofs.lemmas.Bool.{cases_eq, cases_lt, cond-true, cond-false, false_from_ne_true}
use Rattle.std.proofs.lemmas.Option.{slice_get_read}
use Rattle.cet_machine.specs.declared.memory.Region.{Region}
use Rattle.cet_machine.specs.Memory.{holds, AreDisjoint, written, with_bytes}
use Rattle.cet_machine.proofs.MemoryRegions.{holds_parts}
use Rattle.cet_machine.proofs.MemoryReads.{apart_from_item, holds_one, one_holder}
use Rattle.cet_mem.specs.Order.{AreInOrder}
use Rattle.cet_mem.specs.Holder.{IsHolder}
use Rattle.cet_mem.proofs.Orders.{ends_before, SplitAt, in_order_disjoint}

pub holder_at : (M : List Region) (a n i : ℕ) (r : Region) → AreInOrder M → 0 < n → i < length M → r ≡ get_or M i r → holds a n r ≡ true → IsHolder M a n i
holder_at M a n i r order some within is inside =
    let there : slice_get M i ≡ Some r = slice_get_read M (length M) i r refl within is in
    record {
      region = r;
      within = within;
      there = there;
      holds_it = inside;
      found = one_holder M i a n r (in_order_disjoint M order) some there inside;
    }

find_none : (p : Region → Bool) (M : List Region) → ((k : ℕ) (d : Region) → k < length M → p (get_or M k d) ≡ false) → find p M ≡ None
find_none p [] none = refl
find_none p (q ∷ M) none = cond-false (p q) (Some q) (find p M) (none 0 q (omega arith)) ∙ find_none p M (λ k d within. none (suc k) d (omega arith))

-- where the last region that starts no higher does not hold the interval, none does
pub none_holds : (M : List Region) (a n i : ℕ) → AreInOrder M → 0 < n → i ≤ length M → SplitAt a M i
    → ((k : ℕ) (d : Region) → suc k ≡ i → holds a n (get_or M k d) ≡ false) → find (holds a n) M ≡ None
none_holds M a n i order some bound split last = find_none (holds a n) M (λ k d within. elim (cases_lt k i) [
  | inl below ↦ elim (cases_eq (suc k) i) [
    | inl is_last ↦ last k d is_last
    | inr before ↦ false_from_ne_true (holds a n (get_or M k d)) (λ inside.
        let parts = holds_parts a n (get_or M k d) inside in
        let ends = ends_before M k (i - 1) d order (omega arith) (omega arith) in
        let starts : (get_or M (i - 1) d).start ≤ a = split.0 (i - 1) d (omega arith) (omega arith) in
        omega (arith, parts.1, ends, starts))
  ]
  | inr above ↦ false_from_ne_true (holds a n (get_or M k d)) (λ inside.
      let parts = holds_parts a n (get_or M k d) inside in
      let starts : a < (get_or M k d).start = split.1 k d above within in
      omega (arith, parts.0, starts))
])

-- what is written to the holder
pub with_bytes_at : (M : List Region) (a : ℕ) (new : List ℕ) (i : ℕ) (r : Region) → AreDisjoint M → 0 < length new → slice_get M i ≡ Some r → holds a (length new) r ≡ true
    → with_bytes M a new ≡ set M i (written a new r)
with_bytes_at [] a new i r apart some there inside = absurd (cc)
with_bytes_at (q ∷ M) a new zero r apart some there inside =
    let is : q ≡ r = cc in
    cond-true (holds a (length new) q) (written a new q ∷ M) (q ∷ with_bytes M a new) (ap (holds a (length new)) is ∙ inside)
    ∙ ap (λ (x : Region). written a new x ∷ M) is
with_bytes_at (q ∷ M) a new (suc i) r apart some there inside =
    cond-false (holds a (length new) q) (written a new q ∷ M) (q ∷ with_bytes M a new) (holds_one q r a (length new) (apart_from_item q M i r apart.0 there) some inside)
    ∙ ap (λ (N : List Region). q ∷ N) (with_bytes_at M a new i r apart.1 some there inside)
