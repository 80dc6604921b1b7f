-- Free ranges and new regions, where regions are in order.
use Rattle.std.proofs.Common.{◌≡◌, ℕ, zero, suc, ◌+◌, ◌-◌, ◌^◌, ◌<◌, ◌≤◌, inl, inr, Bool, true, false, not, nat_le, min, max, ◌&&◌, List, [], ◌∷◌, length, replicate, get_or, Some, None, sym, ap, subst, ◌∙◌, arith}
use Rattle.std.specs.List.{insert}
use Rattle.std.proofs.lemmas.Bool.{cases_eq, cases_lt, cond-true, cond-false, lt-ltb, le-ltb, and_left, and_right, le-leb, lt-leb}
use Rattle.std.proofs.lemmas.List.{length-replicate}
use Rattle.std.proofs.lemmas.List.Folds.{list_any_none, list_any_at}
use Rattle.cet_base.specs.Span.{Meets}
use Rattle.cet_machine.specs.declared.memory.Region.{Region}
use Rattle.cet_machine.specs.declared.memory.Kind.{Kind}
use Rattle.cet_machine.specs.Memory.{span, MeetsNone, meets_range, is_free, is_range_of_pages, zeros, with_region, place, gap, legal}
use Rattle.cet_machine.proofs.MemoryPlace.{placed_parts, some_pages}
use Rattle.cet_mem.specs.Order.{StartFrom, AreInOrder}
use Rattle.cet_mem.proofs.Orders.{ends_before, some_bytes, SplitAt, count_is, split_rest, split_rest_none}

-- ---- a range is free

no_address : (low high : ℕ) (r : Region) → (r.start + length r.bytes ≤ low) → meets_range low high r ≡ false
no_address low high r below = le-ltb (max low r.start) (min high (r.start + length r.bytes)) (omega arith)

no_address_above : (low high : ℕ) (r : Region) → high ≤ r.start → meets_range low high r ≡ false
no_address_above low high r above = le-ltb (max low r.start) (min high (r.start + length r.bytes)) (omega arith)

pub free_from : (M : List Region) (low high i : ℕ) → AreInOrder M → i ≤ length M → SplitAt low M i
    → ((k : ℕ) (d : Region) → suc k ≡ i → (get_or M k d).start + length (get_or M k d).bytes ≤ low)
    → ((d : Region) → i < length M → high ≤ (get_or M i d).start) → is_free M low high ≡ true
free_from M low high i order bound split before after =
    ap not (list_any_none (meets_range low high) M (λ k d within. elim (cases_lt k i) [
      | inl below ↦ elim (cases_eq (suc k) i) [
        | inl is_last ↦ no_address low high (get_or M k d) (before k d is_last)
        | inr earlier ↦
            let ends = ends_before M k (i - 1) d order (omega arith) (omega arith) in
            let starts : (get_or M (i - 1) d).start ≤ low = split.0 (i - 1) d (omega arith) (omega arith) in
            no_address low high (get_or M k d) (omega (arith, ends, starts))
      ]
      | inr above ↦ elim (cases_eq i k) [
        | inl is_first ↦ no_address_above low high (get_or M k d) (subst (λ (j : ℕ). high ≤ (get_or M j d).start) is_first (after d (omega arith)))
        | inr later ↦
            let ends = ends_before M i k d order (omega arith) within in
            no_address_above low high (get_or M k d) (omega (arith, ends, after d (omega arith)))
      ]
    ]))

pub taken_before : (M : List Region) (low high k : ℕ) (d : Region) → low < high → k < length M → (get_or M k d).start ≤ low
    → low < (get_or M k d).start + length (get_or M k d).bytes → is_free M low high ≡ false
taken_before M low high k d some within starts ends =
    ap not (list_any_at (meets_range low high) M k d within
    (lt-ltb (max low (get_or M k d).start) (min high ((get_or M k d).start + length (get_or M k d).bytes)) (omega arith)))

pub taken_after : (M : List Region) (low high k : ℕ) (d : Region) → AreInOrder M → k < length M → low < (get_or M k d).start
    → (get_or M k d).start < high → is_free M low high ≡ false
taken_after M low high k d order within starts ends =
    let full = some_bytes M k d order within in
    ap not (list_any_at (meets_range low high) M k d within
    (lt-ltb (max low (get_or M k d).start) (min high ((get_or M k d).start + length (get_or M k d).bytes)) (omega (arith, full))))

-- ---- a new region

start_from_insert : (a : ℕ) (M : List Region) (i : ℕ) (x : Region) → StartFrom a M → a ≤ x.start → StartFrom a (insert M i x)
start_from_insert a M zero x from at_x = (at_x, from)
start_from_insert a [] (suc i) x from at_x = (at_x, tt)
start_from_insert a (q ∷ M) (suc i) x from at_x = (from.0, start_from_insert a M i x from.1 at_x)

-- two regions that do not meet, of which the second is not empty
before_apart : (x q : Region) → (¬ Meets (span x) (span q)) → x.start ≤ q.start → 0 < length q.bytes → x.start + length x.bytes ≤ q.start
before_apart x q apart order full = elim (cases_lt q.start (x.start + length x.bytes)) [
  | inl over ↦ absurd (apart (q.start, (order, over), (omega arith, omega arith)))
  | inr past ↦ past
]

apart_other_way : (x q : Region) → (¬ Meets (span x) (span q)) → ¬ Meets (span q) (span x)
apart_other_way x q apart = λ (a, in_q, in_x). apart (a, in_x, in_q)

start_past : (x : Region) (M : List Region) → AreInOrder M → SplitAt x.start M 0 → MeetsNone x M → StartFrom (x.start + length x.bytes) M
start_past x [] order split apart = tt
start_past x (q ∷ M) order split apart =
    let higher : x.start < q.start = split.1 0 q (omega arith) (omega arith) in
    (before_apart x q apart.0 (omega arith) order.0, start_past x M order.2 (split_rest_none x.start q M split) apart.1)

in_order_insert : (M : List Region) (i : ℕ) (x : Region) → AreInOrder M → 0 < length x.bytes → i ≤ length M → SplitAt x.start M i → MeetsNone x M → AreInOrder (insert M i x)
in_order_insert M zero x order full within split apart = (full, start_past x M order split apart, order)
in_order_insert [] (suc i) x order full within split apart = absurd (omega arith)
in_order_insert (q ∷ M) (suc i) x order full within split apart =
    let lower : q.start ≤ x.start = split.0 0 q (omega arith) (omega arith) in (
      order.0,
      start_from_insert (q.start + length q.bytes) M i x order.1 (before_apart q x (apart_other_way x q apart.0) lower full),
      in_order_insert M i x order.2 full (omega arith) (split_rest x.start q M i split) apart.1,
    )

-- a region of zeros that goes after the first i regions, where the range is free
pub place_is : (M : List Region) (at len : ℕ) (kind : Kind) (i : ℕ) → is_range_of_pages at len ≡ true → is_free M at (at + len) ≡ true → i ≤ length M → SplitAt at M i
    → place M at len kind ≡ Some (insert M i (zeros at len kind))
unfolding place
place_is M at len kind i pages free within split =
    cond-true (is_range_of_pages at len && is_free M at (at + len)) (Some (with_region M (zeros at len kind))) None (ap (λ (b : Bool). b && is_free M at (at + len)) pages ∙ free)
    ∙ ap (λ (k : ℕ). Some (insert M k (zeros at len kind))) (count_is at M i within split)

pub place_no_pages : (M : List Region) (at len : ℕ) (kind : Kind) → is_range_of_pages at len ≡ false → place M at len kind ≡ None
unfolding place
place_no_pages M at len kind no_pages =
    cond-false (is_range_of_pages at len && is_free M at (at + len)) (Some (with_region M (zeros at len kind))) None (and_left (is_range_of_pages at len) (is_free M at (at + len)) no_pages)

pub place_not_free : (M : List Region) (at len : ℕ) (kind : Kind) → is_free M at (at + len) ≡ false → place M at len kind ≡ None
unfolding place
place_not_free M at len kind not_free =
    cond-false (is_range_of_pages at len && is_free M at (at + len)) (Some (with_region M (zeros at len kind))) None (and_right (is_range_of_pages at len) (is_free M at (at + len)) not_free)

pub placed_in_order : (M : List Region) (at len : ℕ) (kind : Kind) (i : ℕ) → AreInOrder M → 0 < len → i ≤ length M → SplitAt at M i
    → place M at len kind ≡ Some (insert M i (zeros at len kind)) → AreInOrder (insert M i (zeros at len kind))
placed_in_order M at len kind i order some within split e =
    let p = placed_parts M (insert M i (zeros at len kind)) at len kind e in
    let size : length (zeros at len kind).bytes ≡ len = length-replicate len 0 in
    in_order_insert M i (zeros at len kind) order (subst (λ (n : ℕ). 0 < n) (sym size) some) within split p.apart

pub place_some : (M : List Region) (at len : ℕ) (kind : Kind) → is_range_of_pages at len ≡ true → is_free M at (at + len) ≡ true
    → place M at len kind ≡ Some (with_region M (zeros at len kind))
unfolding place
place_some M at len kind pages free =
    cond-true (is_range_of_pages at len && is_free M at (at + len)) (Some (with_region M (zeros at len kind))) None (ap (λ (b : Bool). b && is_free M at (at + len)) pages ∙ free)

-- the region that was put in
pub put_in : (L B : List Region) (i : ℕ) (x : Region) (at len : ℕ) (kind : Kind) (bytes : List ℕ) → L ≡ insert B i x
    → x ≡ record { start = at; kind = kind; bytes = bytes } → bytes ≡ replicate len 0 → L ≡ insert B i (zeros at len kind)
put_in L B i x at len kind bytes is new no_bytes =
    is ∙ ap (insert B i) (new ∙ ap (λ (b : List ℕ). record { start = at; kind = kind; bytes = b }) no_bytes)

-- the memory with a region that went after as many as start no higher
pub record IsPlaced (B N : List Region) (at len : ℕ) (kind : Kind) : Type 0 where
  pub in_order : AreInOrder N
  pub placed : place B at len kind ≡ Some N

pub is_placed : (L K B N : List Region) (at len : ℕ) (kind : Kind) (i : ℕ) → L ≡ B → K ≡ B → AreInOrder B → is_range_of_pages at len ≡ true
    → is_free L at (at + len) ≡ true → i ≤ length K → SplitAt at K i → N ≡ insert B i (zeros at len kind) → IsPlaced B N at len kind
is_placed L K B N at len kind i of_l of_k order pages free within split is =
    let free_b : is_free B at (at + len) ≡ true = subst (λ (M : List Region). is_free M at (at + len) ≡ true) of_l free in
    let within_b : i ≤ length B = subst (λ (M : List Region). i ≤ length M) of_k within in
    let split_b : SplitAt at B i = subst (λ (M : List Region). SplitAt at M i) of_k split in
    let done = place_is B at len kind i pages free_b within_b split_b in
    record {
      in_order = subst AreInOrder (sym is) (placed_in_order B at len kind i order (some_pages at len pages) within_b split_b done);
      placed = done ∙ ap Some (sym is);
    }

-- ---- what a system call may map

pub legal_no_pages : (M : List Region) (at len : ℕ) → is_range_of_pages at len ≡ false → legal M at len ≡ false
unfolding legal
legal_no_pages M at len no_pages =
    and_left (is_range_of_pages at len && nat_le (2 ^ 32) at) (is_free M (at - gap) (at + len + gap)) (and_left (is_range_of_pages at len) (nat_le (2 ^ 32) at) no_pages)

pub legal_low : (M : List Region) (at len : ℕ) → at < 2 ^ 32 → legal M at len ≡ false
unfolding legal
legal_low M at len low =
    and_left (is_range_of_pages at len && nat_le (2 ^ 32) at) (is_free M (at - gap) (at + len + gap))
    (and_right (is_range_of_pages at len) (nat_le (2 ^ 32) at) (lt-leb (2 ^ 32) at low))

pub legal_is : (L M : List Region) (at len : ℕ) → L ≡ M → is_range_of_pages at len ≡ true → 2 ^ 32 ≤ at → is_free L (at - gap) (at + len + gap) ≡ legal M at len
unfolding legal
legal_is L M at len of_l pages high =
    ap (λ (N : List Region). is_free N (at - gap) (at + len + gap)) of_l
    ∙ sym (ap (λ (b : Bool). b && nat_le (2 ^ 32) at && is_free M (at - gap) (at + len + gap)) pages
    ∙ ap (λ (b : Bool). b && is_free M (at - gap) (at + len + gap)) (le-leb (2 ^ 32) at high))
