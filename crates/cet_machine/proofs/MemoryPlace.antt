-- What a new region changes.
use Rattle.std.proofs.Common.{◌≡◌, ℕ, zero, suc, ◌+◌, ◌-◌, ◌%◌, ◌^◌, ◌==◌, ◌<◌, ◌≤◌, inl, inr, Bool, true, false, not, cond, ◌&&◌, nat_lt, nat_le, min, max, slice_get, List, [], ◌∷◌, length, take, replicate, Option, Some, None, refl, sym, ap, subst, ◌∙◌, arith}
use Rattle.std.specs.List.{find, insert, list_any, count_by}
use Rattle.std.proofs.lemmas.Bool.{cases_Bool, cond-true, cond-false, and_parts, and_from, or_parts, or_from, not-true, ltb-true, ltb-false, leb-true, le-ltb, cases_lt, false_from_ne_true}
use Rattle.std.proofs.lemmas.List.{length-replicate, drop-replicate, take-replicate}
use Rattle.cet_base.specs.Span.{Meets}
use Rattle.cet_base.specs.Field.{little_endian}
use Rattle.cet_machine.specs.declared.memory.Region.{Region}
use Rattle.cet_machine.specs.declared.memory.Kind.{Kind}
use Rattle.cet_machine.specs.Memory.{span, holds, MeetsNone, AreDisjoint, is_any, bytes_from, is_range_of_pages, is_free, meets_range, zeros, with_region, place, gap, legal}
use Rattle.cet_machine.specs.MemoryLaws.{HaveBytes, IsByteList, PlaceKeepsDisjoint, PlaceKeepsOthers, PlaceKeepsHeld, PlacedIsZero, PlaceKeepsBytes, PlacedWhereFree, FreeWherePlaced, LegalIsPlaced, LegalIsApart}
use Rattle.cet_machine.proofs.MemoryBytes.{little_endian-zeros, IsByteList-zeros}
use Rattle.cet_machine.proofs.MemoryRegions.{holds_parts, holds_from, found_holds}
use Rattle.cet_machine.proofs.MemoryReads.{apart_from_found, holds_one, held_is, loaded_at}

-- ---- one item more in a list

pub find_insert_other : (p : Region → Bool) (M : List Region) (i : ℕ) (x : Region) → p x ≡ false → find p (insert M i x) ≡ find p M
find_insert_other p M zero x not_x = cond-false (p x) (Some x) (find p M) not_x
find_insert_other p [] (suc i) x not_x = cond-false (p x) (Some x) None not_x
find_insert_other p (q ∷ M) (suc i) x not_x = ap (λ (o : Option Region). cond (p q) (Some q) o) (find_insert_other p M i x not_x)

pub find_insert_new : (p : Region → Bool) (M : List Region) (i : ℕ) (x : Region) → p x ≡ true → find p M ≡ None → find p (insert M i x) ≡ Some x
find_insert_new p M zero x is_x e = cond-true (p x) (Some x) (find p M) is_x
find_insert_new p [] (suc i) x is_x e = cond-true (p x) (Some x) None is_x
find_insert_new p (q ∷ M) (suc i) x is_x e = elim (cases_Bool (p q)) [
  | inl is_q ↦ let clash : Some q ≡ None = sym (cond-true (p q) (Some q) (find p M) is_q) ∙ e in absurd (cc)
  | inr not_q ↦
      cond-false (p q) (Some q) (find p (insert M i x)) not_q
      ∙ find_insert_new p M i x is_x (sym (cond-false (p q) (Some q) (find p M) not_q) ∙ e)
]

pub meets_none_insert : (q : Region) (M : List Region) (i : ℕ) (x : Region) → MeetsNone q M → (¬ Meets (span q) (span x)) → MeetsNone q (insert M i x)
meets_none_insert q M zero x apart from_x = (from_x, apart)
meets_none_insert q [] (suc i) x apart from_x = (from_x, tt)
meets_none_insert q (r ∷ M) (suc i) x apart from_x = (apart.0, meets_none_insert q M i x apart.1 from_x)

pub meets_other_way : (q x : Region) → (¬ Meets (span x) (span q)) → ¬ Meets (span q) (span x)
meets_other_way q x apart = λ (a, in_q, in_x). apart (a, in_x, in_q)

pub disjoint_insert : (M : List Region) (i : ℕ) (x : Region) → AreDisjoint M → MeetsNone x M → AreDisjoint (insert M i x)
disjoint_insert M zero x apart from_all = (from_all, apart)
disjoint_insert [] (suc i) x apart from_all = (tt, tt)
disjoint_insert (q ∷ M) (suc i) x apart from_all =
    (meets_none_insert q M i x apart.0 (meets_other_way q x from_all.0), disjoint_insert M i x apart.1 from_all.1)

bytes_insert : (M : List Region) (i : ℕ) (x : Region) → HaveBytes M → IsByteList x.bytes → HaveBytes (insert M i x)
bytes_insert M zero x all some = (some, all)
bytes_insert [] (suc i) x all some = (some, tt)
bytes_insert (q ∷ M) (suc i) x all some = (all.0, bytes_insert M i x all.1 some)

-- ---- a free range

zeros_length : (at len : ℕ) (kind : Kind) → length (zeros at len kind).bytes ≡ len
zeros_length at len kind = length-replicate len 0

-- a region that has no address in the range does not meet one that fills it
range_apart : (at len : ℕ) (kind : Kind) (q : Region) → meets_range at (at + len) q ≡ false → ¬ Meets (span (zeros at len kind)) (span q)
range_apart at len kind q e = λ (a, in_new, in_q).
    let above : min (at + len) (q.start + length q.bytes) ≤ max at q.start = ltb-false (max at q.start) (min (at + len) (q.start + length q.bytes)) e in
    let from : at ≤ a = in_new.0 in
    let below : a < at + len = subst (λ (n : ℕ). a < at + n) (zeros_length at len kind) in_new.1 in
    let from_q : q.start ≤ a = in_q.0 in
    let below_q : a < q.start + length q.bytes = in_q.1 in
    omega arith

free_apart : (M : List Region) (at len : ℕ) (kind : Kind) → list_any (meets_range at (at + len)) M ≡ false → MeetsNone (zeros at len kind) M
free_apart [] at len kind e = tt
free_apart (q ∷ M) at len kind e =
    let parts = or_parts (meets_range at (at + len) q) (list_any (meets_range at (at + len)) M) e in
    (range_apart at len kind q parts.0, free_apart M at len kind parts.1)

-- ---- place

pub record Placed (M N : List Region) (at len : ℕ) (kind : Kind) : Type 0 where
  pub pages : is_range_of_pages at len ≡ true
  pub apart : MeetsNone (zeros at len kind) M
  pub now : N ≡ with_region M (zeros at len kind)

pub placed_parts : (M N : List Region) (at len : ℕ) (kind : Kind) → place M at len kind ≡ Some N → Placed M N at len kind
unfolding place
placed_parts M N at len kind e =
    let test : Bool = is_range_of_pages at len && is_free M at (at + len) in
    let after : List Region = with_region M (zeros at len kind) in
    elim (cases_Bool test) [
      | inl legal ↦
          let parts = and_parts (is_range_of_pages at len) (is_free M at (at + len)) legal in
          let same : Some after ≡ Some N = sym (cond-true test (Some after) None legal) ∙ e in
          record {
            pages = parts.0;
            apart = free_apart M at len kind (not-true (list_any (meets_range at (at + len)) M) parts.1);
            now = cc;
          }
      | inr illegal ↦ let none : None ≡ Some N = sym (cond-false test (Some after) None illegal) ∙ e in absurd (cc)
    ]

pub place_keeps_disjoint : PlaceKeepsDisjoint
place_keeps_disjoint M N at len kind e apart =
    let p = placed_parts M N at len kind e in
    subst AreDisjoint (sym p.now) (disjoint_insert M (count_by (λ q. nat_le q.start at) M) (zeros at len kind) apart p.apart)

found_kept : (M N : List Region) (at len : ℕ) (kind : Kind) (b k : ℕ) → N ≡ with_region M (zeros at len kind) → holds b k (zeros at len kind) ≡ false → find (holds b k) N ≡ find (holds b k) M
found_kept M N at len kind b k now outside =
    ap (find (holds b k)) now ∙ find_insert_other (holds b k) M (count_by (λ q. nat_le q.start at) M) (zeros at len kind) outside

pub place_keeps_others : PlaceKeepsOthers
place_keeps_others M N at len kind e b k elsewhere =
    let p = placed_parts M N at len kind e in
    found_kept M N at len kind b k p.now (false_from_ne_true (holds b k (zeros at len kind)) (λ inside.
    let parts = holds_parts b k (zeros at len kind) inside in
    let from : at ≤ b = parts.0 in
    let within : b + k ≤ at + len = subst (λ (n : ℕ). b + k ≤ at + n) (zeros_length at len kind) parts.1 in
    elim elsewhere [ inl below ↦ omega arith | inr above ↦ omega arith ]))

pub place_keeps_held : PlaceKeepsHeld
place_keeps_held M N at len kind e b k r some there =
    let p = placed_parts M N at len kind e in
    found_kept M N at len kind b k p.now (holds_one (zeros at len kind) r b k (apart_from_found (zeros at len kind) M b k r p.apart there) some (found_holds M b k r there))
    ∙ there

-- no region of M holds what a region apart from all holds
pub none_found : (M : List Region) (x : Region) (b k : ℕ) (o : Option Region) → find (holds b k) M ≡ o → MeetsNone x M → 0 < k → holds b k x ≡ true → o ≡ None
none_found M x b k None e apart some inside = refl
none_found M x b k (Some r) e apart some inside =
    let other : holds b k x ≡ false = holds_one x r b k (apart_from_found x M b k r apart e) some (found_holds M b k r e) in
    let clash : true ≡ false = sym inside ∙ other in absurd (cc)

pub placed_is_zero : PlacedIsZero
placed_is_zero M N at len kind e b k some low high =
    let p = placed_parts M N at len kind e in
    let x : Region = zeros at len kind in
    let inside : holds b k x ≡ true = holds_from b k x low (subst (λ (n : ℕ). b + k ≤ at + n) (sym (zeros_length at len kind)) high) in
    let found : find (holds b k) N ≡ Some x =
    ap (find (holds b k)) p.now ∙ find_insert_new (holds b k) M (count_by (λ q. nat_le q.start at) M) x inside (none_found M x b k (find (holds b k) M) refl p.apart some inside) in
    let bytes : take k (bytes_from x b) ≡ replicate k 0 = ap (take k) (drop-replicate (b - at) len 0) ∙ take-replicate k (len - (b - at)) 0 (omega arith) in
    (held_is N b k x found, loaded_at is_any N b k x found refl ∙ ap (λ (l : List ℕ). Some (little_endian l)) bytes ∙ ap Some (little_endian-zeros k))

pub place_keeps_bytes : PlaceKeepsBytes
place_keeps_bytes M N at len kind e all =
    let p = placed_parts M N at len kind e in
    subst HaveBytes (sym p.now) (bytes_insert M (count_by (λ q. nat_le q.start at) M) (zeros at len kind) all (IsByteList-zeros len))

pub free_where_placed : FreeWherePlaced
free_where_placed M N at len kind e = let p = placed_parts M N at len kind e in (p.pages, p.apart, p.now)

-- ---- where a region may be placed

-- two regions that do not meet leave the range of one of them free of the other
apart_range : (at len : ℕ) (kind : Kind) (q : Region) → (¬ Meets (span (zeros at len kind)) (span q)) → meets_range at (at + len) q ≡ false
apart_range at len kind q apart = false_from_ne_true (meets_range at (at + len) q) (λ e.
    let below : max at q.start < min (at + len) (q.start + length q.bytes) = ltb-true (max at q.start) (min (at + len) (q.start + length q.bytes)) e in
    let in_new : max at q.start < at + len = omega arith in
    apart (max at q.start, (omega arith, subst (λ (n : ℕ). max at q.start < at + n) (sym (zeros_length at len kind)) in_new), (omega arith, omega arith)))

apart_free : (M : List Region) (at len : ℕ) (kind : Kind) → MeetsNone (zeros at len kind) M → list_any (meets_range at (at + len)) M ≡ false
apart_free [] at len kind apart = refl
apart_free (q ∷ M) at len kind apart =
    or_from (meets_range at (at + len) q) (list_any (meets_range at (at + len)) M) (apart_range at len kind q apart.0) (apart_free M at len kind apart.1)

placed_where : (M : List Region) (at len : ℕ) (kind : Kind) → is_range_of_pages at len ≡ true → list_any (meets_range at (at + len)) M ≡ false
    → place M at len kind ≡ Some (with_region M (zeros at len kind))
unfolding place
placed_where M at len kind pages none =
    let free : is_free M at (at + len) ≡ true = ap not none in
    cond-true (is_range_of_pages at len && is_free M at (at + len)) (Some (with_region M (zeros at len kind))) None
    (and_from (is_range_of_pages at len) (is_free M at (at + len)) pages free)

pub placed_where_free : PlacedWhereFree
placed_where_free M at len kind pages apart = placed_where M at len kind pages (apart_free M at len kind apart)

-- ---- what a system call may map

record Legal (M : List Region) (at len : ℕ) : Type 0 where
  pages : is_range_of_pages at len ≡ true
  high : 2 ^ 32 ≤ at
  free : list_any (meets_range (at - gap) (at + len + gap)) M ≡ false

legal_parts : (M : List Region) (at len : ℕ) → legal M at len ≡ true → Legal M at len
unfolding legal
legal_parts M at len e =
    let outer = and_parts (is_range_of_pages at len && nat_le (2 ^ 32) at) (is_free M (at - gap) (at + len + gap)) e in
    let inner = and_parts (is_range_of_pages at len) (nat_le (2 ^ 32) at) outer.0 in
    record { pages = inner.0; high = leb-true (2 ^ 32) at inner.1; free = not-true (list_any (meets_range (at - gap) (at + len + gap)) M) outer.1 }

-- a narrower range is met by no more regions
narrower : (low high below above : ℕ) (q : Region) → low ≤ below → above ≤ high → meets_range low high q ≡ false → meets_range below above q ≡ false
narrower low high below above q left right e =
    let wide : min high (q.start + length q.bytes) ≤ max low q.start = ltb-false (max low q.start) (min high (q.start + length q.bytes)) e in
    le-ltb (max below q.start) (min above (q.start + length q.bytes)) (omega arith)

narrower_free : (M : List Region) (low high below above : ℕ) → low ≤ below → above ≤ high → list_any (meets_range low high) M ≡ false → list_any (meets_range below above) M ≡ false
narrower_free [] low high below above left right e = refl
narrower_free (q ∷ M) low high below above left right e =
    let parts = or_parts (meets_range low high q) (list_any (meets_range low high) M) e in
    or_from (meets_range below above q) (list_any (meets_range below above) M) (narrower low high below above q left right parts.0)
    (narrower_free M low high below above left right parts.1)

pub legal_is_placed : LegalIsPlaced
legal_is_placed M at len kind e =
    let l = legal_parts M at len e in
    (with_region M (zeros at len kind), placed_where M at len kind l.pages (narrower_free M (at - gap) (at + len + gap) at (at + len) (omega arith) (omega arith) l.free))

free_item : (M : List Region) (p : Region → Bool) (i : ℕ) (r : Region) → list_any p M ≡ false → slice_get M i ≡ Some r → p r ≡ false
free_item [] p i r none there = absurd (cc)
free_item (q ∷ M) p zero r none there =
    let is : q ≡ r = cc in
    ap p (sym is) ∙ (or_parts (p q) (list_any p M) none).0
free_item (q ∷ M) p (suc i) r none there = free_item M p i r (or_parts (p q) (list_any p M) none).1 there

-- pages are some bytes
pub some_pages : (at len : ℕ) → is_range_of_pages at len ≡ true → 0 < len
some_pages at len pages =
    let ends = and_parts ((at % 4096 == 0) && (len % 4096 == 0) && nat_lt 0 len) (nat_le (at + len) (2 ^ 47)) pages in
    let full = and_parts ((at % 4096 == 0) && (len % 4096 == 0)) (nat_lt 0 len) ends.0 in
    ltb-true 0 len full.1

pub legal_is_apart : LegalIsApart
legal_is_apart M at len i r e there full =
    let l = legal_parts M at len e in
    let far : min (at + len + gap) (r.start + length r.bytes) ≤ max (at - gap) r.start =
    ltb-false (max (at - gap) r.start) (min (at + len + gap) (r.start + length r.bytes)) (free_item M (meets_range (at - gap) (at + len + gap)) i r l.free there) in
    let some = some_pages at len l.pages in
    let high : 4294967296 ≤ at = l.high in
    elim (cases_lt at (r.start + length r.bytes + gap)) [
      | inl near ↦ inr (omega arith)
      | inr below ↦ inl below
    ]
