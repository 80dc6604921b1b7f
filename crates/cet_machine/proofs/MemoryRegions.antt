-- Which region holds an interval, before and after bytes are written.
use Rattle.std.proofs.Common.{◌≡◌, ℕ, ◌+◌, ◌-◌, ◌≤◌, ◌⊎◌, inl, inr, Bool, true, false, cond, ◌&&◌, nat_le, List, [], ◌∷◌, map, length, Option, Some, None, refl, sym, ap, subst, ◌∙◌, arith}
use Rattle.std.specs.List.{find}
use Rattle.std.specs.Option.{option_map, option_and_then}
use Rattle.std.proofs.lemmas.Bool.{cases_Bool, and_parts, and_from, leb-true, le-leb, cond-true, cond-false, cond_both}
use Rattle.cet_base.specs.declared.spans.Span.{Span}
use Rattle.cet_base.specs.Span.{Meets}
use Rattle.cet_machine.specs.declared.memory.Region.{Region}
use Rattle.cet_machine.specs.declared.memory.Kind.{Kind}
use Rattle.cet_machine.specs.Memory.{holds, held, MeetsNone, AreDisjoint, written, with_bytes, stored}
use Rattle.cet_machine.specs.MemoryLaws.{shape, SameShape}
use Rattle.cet_machine.proofs.MemoryBytes.{length-overwritten}

-- ---- intervals in a region

pub holds_parts : (a n : ℕ) (r : Region) → holds a n r ≡ true → (r.start ≤ a) × (a + n ≤ r.start + length r.bytes)
holds_parts a n r e =
    let parts = and_parts (nat_le r.start a) (nat_le (a + n) (r.start + length r.bytes)) e in
    (leb-true r.start a parts.0, leb-true (a + n) (r.start + length r.bytes) parts.1)

pub holds_from : (a n : ℕ) (r : Region) → r.start ≤ a → a + n ≤ r.start + length r.bytes → holds a n r ≡ true
holds_from a n r low high = and_from (nat_le r.start a) (nat_le (a + n) (r.start + length r.bytes)) (le-leb r.start a low) (le-leb (a + n) (r.start + length r.bytes) high)

-- ---- shapes

-- a region of this shape holds the interval
abbrev shape_holds : ℕ → ℕ → ℕ × ℕ × Kind → Bool
shape_holds a n s = nat_le s.0 a && nat_le (a + n) (s.0 + s.1)

pub holds_shape : (a n : ℕ) (r q : Region) → shape q ≡ shape r → holds a n q ≡ holds a n r
holds_shape a n r q e = ap (shape_holds a n) e

-- what holds an interval, by the shapes alone
held_by_shapes : (M : List Region) (a n : ℕ) → option_map (λ r. r.kind) (find (holds a n) M) ≡ option_map (λ s. s.2) (find (shape_holds a n) (map shape M))
held_by_shapes [] a n = refl
held_by_shapes (r ∷ M) a n = elim (cases_Bool (holds a n r)) [
  | inl inside ↦ ap (option_map (λ (q : Region). q.kind)) (cond-true (holds a n r) (Some r) (find (holds a n) M) inside)
      ∙ sym (ap (option_map (λ (s : ℕ × ℕ × Kind). s.2)) (cond-true (holds a n r) (Some (shape r)) (find (shape_holds a n) (map shape M)) inside))
  | inr outside ↦ ap (option_map (λ (q : Region). q.kind)) (cond-false (holds a n r) (Some r) (find (holds a n) M) outside)
      ∙ held_by_shapes M a n
      ∙ sym (ap (option_map (λ (s : ℕ × ℕ × Kind). s.2)) (cond-false (holds a n r) (Some (shape r)) (find (shape_holds a n) (map shape M)) outside))
]

pub same_shape_held : (M N : List Region) (a n : ℕ) → SameShape M N → held N a n ≡ held M a n
unfolding held
same_shape_held M N a n e = held_by_shapes N a n ∙ ap (λ (S : List (ℕ × ℕ × Kind)). option_map (λ s. s.2) (find (shape_holds a n) S)) e ∙ sym (held_by_shapes M a n)

-- disjoint regions, by the shapes alone
abbrev shape_span : ℕ × ℕ × Kind → Span
shape_span s = record { start = s.0; len = s.1 }

abbrev ShapeMeetsNone : ℕ × ℕ × Kind → List (ℕ × ℕ × Kind) → Type 0
ShapeMeetsNone s [] = Unit {0}
ShapeMeetsNone s (t ∷ S) = (¬ Meets (shape_span s) (shape_span t)) × ShapeMeetsNone s S

abbrev ShapesAreDisjoint : List (ℕ × ℕ × Kind) → Type 0
ShapesAreDisjoint [] = Unit {0}
ShapesAreDisjoint (s ∷ S) = ShapeMeetsNone s S × ShapesAreDisjoint S

meets_none_shapes : (r : Region) (M : List Region) → MeetsNone r M → ShapeMeetsNone (shape r) (map shape M)
meets_none_shapes r [] apart = tt
meets_none_shapes r (q ∷ M) apart = (apart.0, meets_none_shapes r M apart.1)

meets_none_regions : (r : Region) (M : List Region) → ShapeMeetsNone (shape r) (map shape M) → MeetsNone r M
meets_none_regions r [] apart = tt
meets_none_regions r (q ∷ M) apart = (apart.0, meets_none_regions r M apart.1)

disjoint_shapes : (M : List Region) → AreDisjoint M → ShapesAreDisjoint (map shape M)
disjoint_shapes [] apart = tt
disjoint_shapes (r ∷ M) apart = (meets_none_shapes r M apart.0, disjoint_shapes M apart.1)

disjoint_regions : (M : List Region) → ShapesAreDisjoint (map shape M) → AreDisjoint M
disjoint_regions [] apart = tt
disjoint_regions (r ∷ M) apart = (meets_none_regions r M apart.0, disjoint_regions M apart.1)

pub same_shape_disjoint : (M N : List Region) → SameShape M N → AreDisjoint M → AreDisjoint N
same_shape_disjoint M N e apart = disjoint_regions N (subst ShapesAreDisjoint (sym e) (disjoint_shapes M apart))

-- ---- what is written

pub written_shape : (a : ℕ) (new : List ℕ) (r : Region) → holds a (length new) r ≡ true → shape (written a new r) ≡ shape r
written_shape a new r e =
    let within = holds_parts a (length new) r e in
    ap (λ (n : ℕ). (r.start, n, r.kind)) (length-overwritten r.bytes (a - r.start) new (omega (arith, within.0, within.1)))

pub with_bytes_shape : (M : List Region) (a : ℕ) (new : List ℕ) → SameShape M (with_bytes M a new)
with_bytes_shape [] a new = refl
with_bytes_shape (r ∷ M) a new =
    cond_both (holds a (length new) r) (written a new r ∷ M) (r ∷ with_bytes M a new) (λ N. map shape N ≡ map shape (r ∷ M))
    (λ inside. ap (λ (s : ℕ × ℕ × Kind). s ∷ map shape M) (written_shape a new r inside))
    (λ outside. ap (λ (S : List (ℕ × ℕ × Kind)). shape r ∷ S) (with_bytes_shape M a new))

-- the region that is read is the one that was written
pub record Changed (M : List Region) (a : ℕ) (new : List ℕ) (b k : ℕ) : Type 0 where
  pub region : Region
  pub before : find (holds b k) M ≡ Some region
  pub after : find (holds b k) (with_bytes M a new) ≡ Some (written a new region)
  pub holder : find (holds a (length new)) M ≡ Some region
  pub writes : holds a (length new) region ≡ true
  pub reads : holds b k region ≡ true

-- what holds the k bytes from b is as before, or it is the region that was written
pub found_after : (M : List Region) (a : ℕ) (new : List ℕ) (b k : ℕ) → (find (holds b k) (with_bytes M a new) ≡ find (holds b k) M) ⊎ Changed M a new b k
found_after [] a new b k = inl refl
found_after (r ∷ M) a new b k = elim (cases_Bool (holds a (length new) r)) [
  | inl writes ↦
      let now : with_bytes (r ∷ M) a new ≡ written a new r ∷ M = cond-true (holds a (length new) r) (written a new r ∷ M) (r ∷ with_bytes M a new) writes in
      let same : holds b k (written a new r) ≡ holds b k r = holds_shape b k r (written a new r) (written_shape a new r writes) in
      elim (cases_Bool (holds b k r)) [
        | inl reads ↦ inr (record {
          region = r;
          before = cond-true (holds b k r) (Some r) (find (holds b k) M) reads;
          after = ap (find (holds b k)) now ∙ cond-true (holds b k (written a new r)) (Some (written a new r)) (find (holds b k) M) (same ∙ reads);
          holder = cond-true (holds a (length new) r) (Some r) (find (holds a (length new)) M) writes;
          writes = writes;
          reads = reads;
        })
        | inr outside ↦ inl (ap (find (holds b k)) now ∙ cond-false (holds b k (written a new r)) (Some (written a new r)) (find (holds b k) M) (same ∙ outside)
            ∙ sym (cond-false (holds b k r) (Some r) (find (holds b k) M) outside))
      ]
  | inr elsewhere ↦
      let now : with_bytes (r ∷ M) a new ≡ r ∷ with_bytes M a new = cond-false (holds a (length new) r) (written a new r ∷ M) (r ∷ with_bytes M a new) elsewhere in
      elim (cases_Bool (holds b k r)) [
        | inl reads ↦ inl (ap (find (holds b k)) now ∙ cond-true (holds b k r) (Some r) (find (holds b k) (with_bytes M a new)) reads ∙ sym (cond-true (holds b k r) (Some r) (find (holds b k) M) reads))
        | inr outside ↦
            let left = cond-false (holds b k r) (Some r) (find (holds b k) (with_bytes M a new)) outside in
            let right = cond-false (holds b k r) (Some r) (find (holds b k) M) outside in
            elim (found_after M a new b k) [
              | inl same ↦ inl (ap (find (holds b k)) now ∙ left ∙ same ∙ sym right)
              | inr c ↦ inr (record {
                region = c.region;
                before = right ∙ c.before;
                after = ap (find (holds b k)) now ∙ left ∙ c.after;
                holder = cond-false (holds a (length new) r) (Some r) (find (holds a (length new)) M) elsewhere ∙ c.holder;
                writes = c.writes;
                reads = c.reads;
              })
            ]
      ]
]

-- what is found holds the interval
pub found_holds : (M : List Region) (a n : ℕ) (r : Region) → find (holds a n) M ≡ Some r → holds a n r ≡ true
found_holds [] a n r e = absurd (cc)
found_holds (q ∷ M) a n r e = elim (cases_Bool (holds a n q)) [
  | inl inside ↦
      let same : Some q ≡ Some r = sym (cond-true (holds a n q) (Some q) (find (holds a n) M) inside) ∙ e in
      let is : q ≡ r = cc in
      subst (λ (x : Region). holds a n x ≡ true) is inside
  | inr outside ↦ found_holds M a n r (sym (cond-false (holds a n q) (Some q) (find (holds a n) M) outside) ∙ e)
]

-- ---- a store and its refusal

pub record Stored (allowed : Kind → Bool) (M N : List Region) (a : ℕ) (new : List ℕ) : Type 0 where
  pub region : Region
  pub holder : find (holds a (length new)) M ≡ Some region
  pub may : allowed region.kind ≡ true
  pub now : N ≡ with_bytes M a new

stored_from : (allowed : Kind → Bool) (M N : List Region) (a : ℕ) (new : List ℕ) (o : Option Region) → find (holds a (length new)) M ≡ o
    → option_and_then (λ r. cond (allowed r.kind) (Some (with_bytes M a new)) None) o ≡ Some N → Stored allowed M N a new
stored_from allowed M N a new None found e = absurd (cc)
stored_from allowed M N a new (Some r) found e = elim (cases_Bool (allowed r.kind)) [
  | inl may ↦
      let same : Some (with_bytes M a new) ≡ Some N = sym (cond-true (allowed r.kind) (Some (with_bytes M a new)) None may) ∙ e in
      record { region = r; holder = found; may = may; now = cc }
  | inr outside ↦
      let none : None ≡ Some N = sym (cond-false (allowed r.kind) (Some (with_bytes M a new)) None outside) ∙ e in
      absurd (cc)
]

pub stored_parts : (allowed : Kind → Bool) (M N : List Region) (a : ℕ) (new : List ℕ) → stored allowed M a new ≡ Some N → Stored allowed M N a new
unfolding stored
stored_parts allowed M N a new e = stored_from allowed M N a new (find (holds a (length new)) M) refl e

pub stored_is : (allowed : Kind → Bool) (M : List Region) (a : ℕ) (new : List ℕ) (r : Region) → find (holds a (length new)) M ≡ Some r → allowed r.kind ≡ true
    → stored allowed M a new ≡ Some (with_bytes M a new)
unfolding stored
stored_is allowed M a new r found may =
    ap (option_and_then (λ (q : Region). cond (allowed q.kind) (Some (with_bytes M a new)) None)) found ∙ cond-true (allowed r.kind) (Some (with_bytes M a new)) None may

pub stored_none : (allowed : Kind → Bool) (M : List Region) (a : ℕ) (new : List ℕ) (r : Region) → find (holds a (length new)) M ≡ Some r → allowed r.kind ≡ false
    → stored allowed M a new ≡ None
unfolding stored
stored_none allowed M a new r found outside =
    ap (option_and_then (λ (q : Region). cond (allowed q.kind) (Some (with_bytes M a new)) None)) found ∙ cond-false (allowed r.kind) (Some (with_bytes M a new)) None outside
